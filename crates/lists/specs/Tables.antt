-- Tables as functions of an index.
use Rattle.std.specs.Prelude.{◌≡◌, Bool, ◌&&◌, List, ℕ, ◌+◌, ◌-◌, ◌≤◌, ◌<◌, get_or, leb, ltb}
use Rattle.std.proofs.Math.Path.{refl, fun_ext}
use Rattle.std.proofs.Common.{sym, ◌∙◌, arith}
use Rattle.std.proofs.Math.Bool.{true, false}
use Rattle.std.proofs.Math.Decide.{ℕ_discrete}
use Rattle.std.proofs.Math.ListN.{length}
use Rattle.std.proofs.Math.Dec.{eqb}
use borrow.Author.Tests.{eq-eqb, ne_eqb, le-leb, lt-leb, lt-ltb, le-ltb, leb-true, ltb-true}
use Rattle.lists.specs.Tests.{and_l, and_r}

-- a table with one entry changed
module _ {A : Type 0} where
  unfoldable pub put : ℕ → A → (ℕ → A) → ℕ → A
  put i x f j = elim (eqb j i) [ true ↦ x | false ↦ f j ]

-- a table with the entries from a on replaced by a list
unfoldable pub put_all : ℕ → List ℕ → (ℕ → ℕ) → ℕ → ℕ
put_all a xs f j = elim (leb a j && ltb j (a + length xs)) [ true ↦ get_or xs (j - a) 0 | false ↦ f j ]

module _ {A : Type 0} (i : ℕ) (x : A) (f : ℕ → A) where
  pub put_same : put i x f i ≡ x
  unfolding put
  put_same = rw (eq-eqb i i refl, put)

  pub put_other : (j : ℕ) → (j ≡ i → ⊥) → put i x f j ≡ f j
  unfolding put
  put_other j h = rw (ne_eqb j i h, put)

module _ (a : ℕ) (xs : List ℕ) (f : ℕ → ℕ) (j : ℕ) where
  pub put_all-in : a ≤ j → j < a + length xs → put_all a xs f j ≡ get_or xs (j - a) 0
  unfolding put_all
  put_all-in h k = rw (le-leb a j h, lt-ltb j (a + length xs) k, put_all)

  pub put_all-before : j < a → put_all a xs f j ≡ f j
  unfolding put_all
  put_all-before h = rw (lt-leb a j h, put_all)

  pub put_all-behind : a + length xs ≤ j → put_all a xs f j ≡ f j
  unfolding put_all
  put_all-behind h = rw (le-leb a j (omega arith), le-ltb j (a + length xs) h, put_all)

module _ {A : Type 0} where
  pub put-put : (i : ℕ) (x y : A) (f : ℕ → A) → put i x (put i y f) ≡ put i x f
  put-put i x y f = fun_ext (λ j. go j (ℕ_discrete j i))
    where
      go : (j : ℕ) → Dec (j ≡ i) → put i x (put i y f) j ≡ put i x f j
      go j (yes e) = rw e (put_same i x (put i y f) ∙ sym (put_same i x f))
      go j (no e) = put_other i x (put i y f) j e ∙ put_other i y f j e ∙ sym (put_other i x f j e)

  pub put-own : (i : ℕ) (f : ℕ → A) → put i (f i) f ≡ f
  put-own i f = fun_ext (λ j. go j (ℕ_discrete j i))
    where
      go : (j : ℕ) → Dec (j ≡ i) → put i (f i) f j ≡ f j
      go j (yes e) = rw e (put_same i (f i) f)
      go j (no e) = put_other i (f i) f j e

-- the new table has a property at j if the new entries have it, and the old table at j
module _ {A : Type 0} (P : A → Type 0) where
  pub put_has : (i : ℕ) (x : A) (f : ℕ → A) (j : ℕ) → P x → P (f j) → P (put i x f j)
  unfolding put
  put_has i x f j h k = go (eqb j i) refl
    where
      go : (t : Bool) → eqb j i ≡ t → P (put i x f j)
      go true e = rw (e, put) h
      go false e = rw (e, put) k

pub put_all-has : (P : ℕ → Type 0) (a : ℕ) (xs : List ℕ) (f : ℕ → ℕ) (j : ℕ) → (a ≤ j → j < a + length xs → P (get_or xs (j - a) 0)) → P (f j) → P (put_all a xs f j)
unfolding put_all
put_all-has P a xs f j h k = go (leb a j && ltb j (a + length xs)) refl
  where
    go : (t : Bool) → (leb a j && ltb j (a + length xs)) ≡ t → P (put_all a xs f j)
    go true e = rw (e, put_all) (h (leb-true a j (and_l (leb a j) (ltb j (a + length xs)) e)) (ltb-true j (a + length xs) (and_r (leb a j) (ltb j (a + length xs)) e)))
    go false e = rw (e, put_all) k
