-- The first elements of a list that pass a test leave it.
use Rattle.std.proofs.Math.Path.{◌≡◌, refl, ap}
use Rattle.std.proofs.Common.{sym, ◌∙◌, true≢false, eq-eqb, ne_eqb}
use Rattle.std.specs.Prelude.{Bool, eqb}
use Rattle.std.proofs.Math.Bool.{true, false}
use mathlib.Core.List.{List, [], ◌∷◌, ◌++◌}
use Prim.Native.Nat.{ℕ, zero, suc}
use native.Mathlib.Omega.{arith}
use Rattle.lists.specs.Search.{keep, without, without_first, keep-yes, keep-no, without-yes, without-no}

module _ {A : Type 0} (p : A → Bool) where
  pub without-first-none : (k : ℕ) → without_first p k [] ≡ []
  unfolding without_first without
  without-first-none zero = refl
  without-first-none (suc k) = without-first-none k

  pub without-first-yes : (k : ℕ) (x : A) (xs : List A) → p x ≡ true → without_first p (suc k) (x ∷ xs) ≡ without_first p k xs
  unfolding without_first
  without-first-yes k x xs e = ap (without_first p k) (without-yes p x xs e)

  pub without-first-no : (k : ℕ) (x : A) (xs : List A) → p x ≡ false → without_first p k (x ∷ xs) ≡ x ∷ without_first p k xs
  unfolding without_first
  without-first-no zero x xs e = refl
  without-first-no (suc k) x xs e = ap (without_first p k) (without-no p x xs e) ∙ without-first-no k x (without p xs) e

  some-kept : (x : A) (xs : List A) → p x ≡ true → keep p (x ∷ xs) ≡ [] → ⊥
  some-kept x xs q e = let z : x ∷ keep p xs ≡ [] = sym (keep-yes p x xs q) ∙ e in let y : ◌≡◌ {A = ℕ} 0 1 = cc in omega arith

  -- where none passes, nothing leaves
  pub without-nobody : (xs : List A) → keep p xs ≡ [] → without p xs ≡ xs
  without-nobody [] e = unfold without in refl
  without-nobody (x ∷ xs) e = go (p x) refl (without-nobody xs)
    where
      go : (t : Bool) → p x ≡ t → (keep p xs ≡ [] → without p xs ≡ xs) → without p (x ∷ xs) ≡ x ∷ xs
      go true q ih = absurd (some-kept x xs q e)
      go false q ih = without-no p x xs q ∙ ap (λ r. x ∷ r) (ih (sym (keep-no p x xs q) ∙ e))

  -- of two lists one behind the other, if none of the first passes
  pub without-first-behind : (k : ℕ) (xs ys : List A) → keep p xs ≡ [] → without_first p k (xs ++ ys) ≡ xs ++ without_first p k ys
  without-first-behind k [] ys e = refl
  without-first-behind k (x ∷ xs) ys e = go (p x) refl (without-first-behind k xs ys)
    where
      go : (t : Bool) → p x ≡ t → (keep p xs ≡ [] → without_first p k (xs ++ ys) ≡ xs ++ without_first p k ys) → without_first p k (x ∷ (xs ++ ys)) ≡ x ∷ (xs ++ without_first p k ys)
      go true q ih = absurd (some-kept x xs q e)
      go false q ih = without-first-no k x (xs ++ ys) q ∙ ap (λ r. x ∷ r) (ih (sym (keep-no p x xs q) ∙ e))

  pub keep-behind : (xs ys : List A) → keep p xs ≡ [] → keep p (xs ++ ys) ≡ keep p ys
  keep-behind [] ys e = refl
  keep-behind (x ∷ xs) ys e = go (p x) refl (keep-behind xs ys)
    where
      go : (t : Bool) → p x ≡ t → (keep p xs ≡ [] → keep p (xs ++ ys) ≡ keep p ys) → keep p (x ∷ (xs ++ ys)) ≡ keep p ys
      go true q ih = absurd (some-kept x xs q e)
      go false q ih = keep-no p x (xs ++ ys) q ∙ ih (sym (keep-no p x xs q) ∙ e)

-- the first number that passes leaves by its value as by the test
pub record First (p : ℕ → Bool) (xs : List ℕ) (b : ℕ) (bs : List ℕ) : Type 0 where
  pub passes : p b ≡ true
  pub gone : without (eqb b) xs ≡ without p xs
  pub rest : keep p (without p xs) ≡ bs

pub first-kept : (p : ℕ → Bool) (xs : List ℕ) (b : ℕ) (bs : List ℕ) → keep p xs ≡ b ∷ bs → First p xs b bs
first-kept p [] b bs e = absurd (never (unfold keep in e))
  where
    never : [] ≡ b ∷ bs → ⊥
    never z = let y : ◌≡◌ {A = ℕ} 0 1 = cc in omega arith
first-kept p (x ∷ xs) b bs e = go (p x) refl (first-kept p xs b bs)
  where
    go : (t : Bool) → p x ≡ t → (keep p xs ≡ b ∷ bs → First p xs b bs) → First p (x ∷ xs) b bs
    go true q ih =
        let z : x ∷ keep p xs ≡ b ∷ bs = sym (keep-yes p x xs q) ∙ e in
        let same : x ≡ b = cc in
        let more : keep p xs ≡ bs = cc in
        record {
          passes = rw (← same) q;
          gone = without-yes (eqb b) x xs (eq-eqb b x (sym same)) ∙ sym (without-yes p x xs q);
          rest = ap (keep p) (without-yes p x xs q) ∙ more;
        }
    go false q ih =
        let f = ih (sym (keep-no p x xs q) ∙ e) in
        let other : b ≡ x → ⊥ = λ d. true≢false (sym f.passes ∙ ap p d ∙ q) in
        record {
          passes = f.passes;
          gone = without-no (eqb b) x xs (ne_eqb b x other) ∙ ap (λ r. x ∷ r) f.gone ∙ sym (without-no p x xs q);
          rest = ap (keep p) (without-no p x xs q) ∙ keep-no p x (without p xs) q ∙ f.rest;
        }
