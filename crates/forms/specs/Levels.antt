-- The levels of a form, gone through in turn: their orders, their marks, and how many of their slots hold a block.
use Rattle.std.specs.Prelude.{◌≡◌, Bool, true, false, ◌&&◌, List, [], ◌∷◌, eqb, leb, ltb, set, replicate}
use Rattle.std.proofs.Math.Path.{refl, ap}
use Rattle.std.proofs.Common.{◌∙◌, le-leb, lt-ltb, le-ltb}
use Prim.Native.Nat.{ℕ, zero, suc, ◌+◌, ◌-◌, ◌^◌, ◌≤◌, ◌<◌}
use native.Mathlib.Omega.{arith}
use Rattle.std.proofs.Math.ListN.{get_or}
use Rattle.std.proofs.lemmas.Bool.{lt-leb}
use Rattle.lists.specs.Tests.{every, and-false}
use Rattle.rules.specs.Form.Reading.{Level}
use Rattle.rules.specs.Shape.{Shape, slots, cell}
use Rattle.forms.specs.At.{bytes_at, numbers_at}
use Rattle.forms.specs.Bytes.{number-one}
use Rattle.forms.specs.Once.{fresh_in}

-- no slot was read in which a block stands, and a mark is 0 or 1; `seen` has 1 for each cell in which one stands
unfoldable pub marks_fit : List ℕ → ℕ → List ℕ → Bool
marks_fit seen c [] = true
marks_fit seen c (m ∷ ms) = leb (m + get_or seen c 0) 1 && marks_fit seen (suc c) ms

-- of n cells from c on, those in which a block stands
unfoldable pub held_in : List ℕ → ℕ → ℕ → ℕ
held_in seen c zero = 0
held_in seen c (suc n) = get_or seen c 0 + held_in seen (suc c) n

unfoldable pub is_order : ℕ → List ℕ → Bool
is_order n xs = fresh_in (λ x. ltb x n) (replicate 256 0) xs

unfoldable pub level_fits : Shape → List ℕ → Level → Bool
level_fits h seen l = every
    (is_order (slots l.level) l.order
    ∷ marks_fit seen (cell h l.partition l.level 0) l.marks
    ∷ leb (held_in seen (cell h l.partition l.level 0) (slots l.level)) (2 ^ l.level) ∷ [])

-- ---- As loops go

module _ (p : List ℕ) where
  pub bytes_left : (n a i : ℕ) → i < n → bytes_at p (n - i) (a + i) ≡ get_or p (a + i) 0 ∷ bytes_at p (n - (i + 1)) (a + (i + 1))
  unfolding bytes_at
  bytes_left n a i l =
      let e : n - i ≡ suc (n - (i + 1)) = omega arith in
      let d : suc (a + i) ≡ a + (i + 1) = omega arith in
      ap (λ k. bytes_at p k (a + i)) e ∙ ap (λ k. get_or p (a + i) 0 ∷ bytes_at p (n - (i + 1)) k) d

  pub bytes-none : (n a i : ℕ) → n ≤ i → bytes_at p (n - i) a ≡ []
  unfolding bytes_at
  bytes-none n a i l = let e : n - i ≡ 0 = omega arith in ap (λ k. bytes_at p k a) e

  pub bytes-all : (n a : ℕ) → bytes_at p (n - 0) (a + 0) ≡ bytes_at p n a
  bytes-all n a =
      let e : n - 0 ≡ n = omega arith in
      let d : a + 0 ≡ a = omega arith in
      ap (λ k. bytes_at p k (a + 0)) e ∙ ap (bytes_at p n) d

  -- numbers of one byte are bytes
  pub ones-are : (n a : ℕ) → numbers_at p 1 n a ≡ bytes_at p n a
  unfolding numbers_at bytes_at
  ones-are zero a = refl
  ones-are (suc n) a =
      let e : a + 1 ≡ suc a = omega arith in
      ap (λ x. x ∷ numbers_at p 1 n (a + 1)) (number-one p a) ∙ ap (λ k. get_or p a 0 ∷ numbers_at p 1 n k) e ∙ ap (λ xs. get_or p a 0 ∷ xs) (ones-are n (suc a))

module _ (n : ℕ) (seen : List ℕ) (x : ℕ) (xs : List ℕ) where
  pub fresh-over : n ≤ x → fresh_in (λ x. ltb x n) seen (x ∷ xs) ≡ false
  unfolding fresh_in
  fresh-over l = rw (le-ltb x n l)

  pub fresh-met : eqb (get_or seen x 0) 0 ≡ false → fresh_in (λ x. ltb x n) seen (x ∷ xs) ≡ false
  unfolding fresh_in
  fresh-met e = rw e (and-false (ltb x n) refl)

  pub fresh-more : x < n → eqb (get_or seen x 0) 0 ≡ true → fresh_in (λ x. ltb x n) seen (x ∷ xs) ≡ fresh_in (λ x. ltb x n) (set seen x 1) xs
  unfolding fresh_in
  fresh-more l e = rw (lt-ltb x n l, e)

pub fresh-none : (ok : ℕ → Bool) (seen : List ℕ) → fresh_in ok seen [] ≡ true
unfolding fresh_in
fresh-none ok seen = refl

module _ (seen : List ℕ) (c i m : ℕ) (ms : List ℕ) where
  pub marks-more : m + get_or seen (c + i) 0 ≤ 1 → marks_fit seen (c + i) (m ∷ ms) ≡ marks_fit seen (c + (i + 1)) ms
  unfolding marks_fit
  marks-more l = let e : suc (c + i) ≡ c + (i + 1) = omega arith in rw (le-leb (m + get_or seen (c + i) 0) 1 l) (ap (λ k. marks_fit seen k ms) e)

  pub marks-not : 1 < m + get_or seen (c + i) 0 → marks_fit seen (c + i) (m ∷ ms) ≡ false
  unfolding marks_fit
  marks-not l = rw (lt-leb (m + get_or seen (c + i) 0) 1 l)

pub marks-none : (seen : List ℕ) (c : ℕ) → marks_fit seen c [] ≡ true
unfolding marks_fit
marks-none seen c = refl

pub held-left : (seen : List ℕ) (c n i : ℕ) → i < n → held_in seen (c + i) (n - i) ≡ get_or seen (c + i) 0 + held_in seen (c + (i + 1)) (n - (i + 1))
unfolding held_in
held-left seen c n i l =
    let e : n - i ≡ suc (n - (i + 1)) = omega arith in
    let d : suc (c + i) ≡ c + (i + 1) = omega arith in
    ap (held_in seen (c + i)) e ∙ ap (λ k. get_or seen (c + i) 0 + held_in seen k (n - (i + 1))) d

pub held_none : (seen : List ℕ) (c n i : ℕ) → n ≤ i → held_in seen c (n - i) ≡ 0
unfolding held_in
held_none seen c n i l = let e : n - i ≡ 0 = omega arith in ap (held_in seen c) e

pub held_all : (seen : List ℕ) (c n : ℕ) → held_in seen (c + 0) (n - 0) ≡ held_in seen c n
held_all seen c n =
    let e : n - 0 ≡ n = omega arith in
    let d : c + 0 ≡ c = omega arith in
    ap (held_in seen (c + 0)) e ∙ ap (λ k. held_in seen k n) d
