-- What the searches of levels find.
use Rattle.std.specs.Prelude.{◌≡◌, Bool, List, [], ◌∷◌, Option, Some, None, is_some}
use Rattle.std.proofs.Math.Path.{refl, ap, sym}
use Rattle.std.proofs.Common.{◌∙◌, arith}
use Rattle.std.proofs.Math.Bool.{true, false}
use Prim.Native.Nat.{ℕ, zero, suc, ◌-◌, ◌≤◌, ◌<◌}
use Rattle.lists.specs.All.{All, cons, keep-passes}
use Rattle.lists.specs.Search.{keep, count, keep-yes, keep-no}

-- l is the first of the levels from `from` on that pass a test
pub record NextAt (p : ℕ → Bool) (levels from l : ℕ) : Type 0 where
  pub start : from ≤ l
  pub end : l < levels
  pub passes : keep p (count from (levels - from)) ≡ l ∷ keep p (count (suc l) (levels - suc l))

-- what a search for it finds
abbrev pub NextLevel : (ℕ → Bool) → ℕ → ℕ → Option ℕ → Type 0
NextLevel p levels from (Some l) = NextAt p levels from l
NextLevel p levels from None = keep p (count from (levels - from)) ≡ []

-- such a level passes
pub next-passes : {p : ℕ → Bool} {levels from l : ℕ} → NextAt p levels from l → p l ≡ true
next-passes {p} {levels} {from} n = go (rw n.passes at (keep-passes p (count from (levels - from))))
  where
    go : {x : ℕ} {xs : List ℕ} → All (λ y. p y ≡ true) (x ∷ xs) → p x ≡ true
    go (cons h t) = h

-- whether a search found one
module _ (p : ℕ → Bool) (levels from : ℕ) where
  pub next-some : (r : Option ℕ) → NextLevel p levels from r → is_some r ≡ true → (l : ℕ) × NextAt p levels from l
  next-some (Some l) n e = (l, n)
  next-some None n e = cc

  pub next-none : (r : Option ℕ) → NextLevel p levels from r → is_some r ≡ false → keep p (count from (levels - from)) ≡ []
  next-none (Some l) n e = cc
  next-none None n e = n

-- tests that agree from there on find the same
module _ (p q : ℕ → Bool) (from : ℕ) (h : (k : ℕ) → from ≤ k → p k ≡ q k) where
  kept_same : (a k : ℕ) → from ≤ a → keep p (count a k) ≡ keep q (count a k)
  unfolding count keep
  kept_same a zero l = refl
  kept_same a (suc k) l = go (p a) refl (kept_same (suc a) k (omega arith))
    where
      go : (t : Bool) → p a ≡ t → keep p (count (suc a) k) ≡ keep q (count (suc a) k) → keep p (a ∷ count (suc a) k) ≡ keep q (a ∷ count (suc a) k)
      go true e ih = keep-yes p a (count (suc a) k) e ∙ ap (λ xs. a ∷ xs) ih ∙ sym (keep-yes q a (count (suc a) k) (sym (h a l) ∙ e))
      go false e ih = keep-no p a (count (suc a) k) e ∙ ih ∙ sym (keep-no q a (count (suc a) k) (sym (h a l) ∙ e))

  pub next-same : (levels : ℕ) (r : Option ℕ) → NextLevel p levels from r → NextLevel q levels from r
  next-same levels (Some l) n = record {
    start = n.start;
    end = n.end;
    passes = sym (kept_same from (levels - from) (omega arith)) ∙ n.passes ∙ ap (λ xs. l ∷ xs) (kept_same (suc l) (levels - suc l) (omega (arith, n.start)));
  }
  next-same levels None n = sym (kept_same from (levels - from) (omega arith)) ∙ n
