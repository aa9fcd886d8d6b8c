-- Lists that are searched: find, keep, any, all, without, and the numbers from a upward.
use Rattle.std.specs.Prelude.{◌≡◌, Bool, true, false, ◌&&◌, ◌||◌, List, [], ◌∷◌, ℕ, zero, suc, eqb}
use Rattle.std.proofs.Math.Option.{Option, none, some}

module _ {A : Type 0} where
  -- the first element that passes
  unfoldable pub find : (A → Bool) → List A → Option A
  find p [] = none
  find p (x ∷ xs) = elim (p x) [ true ↦ some x | false ↦ find p xs ]

  -- the elements that pass, in their order
  unfoldable pub keep : (A → Bool) → List A → List A
  keep p [] = []
  keep p (x ∷ xs) = elim (p x) [ true ↦ x ∷ keep p xs | false ↦ keep p xs ]

  unfoldable pub any : (A → Bool) → List A → Bool
  any p [] = false
  any p (x ∷ xs) = p x || any p xs

  unfoldable pub all : (A → Bool) → List A → Bool
  all p [] = true
  all p (x ∷ xs) = p x && all p xs

  -- without the first element that passes
  unfoldable pub without : (A → Bool) → List A → List A
  without p [] = []
  without p (x ∷ xs) = elim (p x) [ true ↦ xs | false ↦ x ∷ without p xs ]

  -- without the first k that pass
  unfoldable pub without_first : (A → Bool) → ℕ → List A → List A
  without_first p zero xs = xs
  without_first p (suc k) xs = without_first p k (without p xs)

  -- of the first n elements, how many are left without that one
  unfoldable pub first_left : (A → Bool) → ℕ → List A → ℕ
  first_left p zero xs = zero
  first_left p (suc n) [] = suc n
  first_left p (suc n) (x ∷ xs) = elim (p x) [ true ↦ n | false ↦ suc (first_left p n xs) ]

  unfoldable pub is_none : Option A → Bool
  is_none none = true
  is_none (some x) = false

  unfoldable pub or_else : Option A → Option A → Option A
  or_else none y = y
  or_else (some x) y = some x

-- the n numbers from a upward
unfoldable pub count : ℕ → ℕ → List ℕ
count a zero = []
count a (suc n) = a ∷ count (suc a) n

unfoldable pub below : ℕ → List ℕ
below n = count 0 n

unfoldable pub member : ℕ → List ℕ → Bool
member x xs = any (eqb x) xs

-- the place of the first element that equals x, counted from k
unfoldable pub index_from : ℕ → ℕ → List ℕ → Option ℕ
index_from k x [] = none
index_from k x (y ∷ ys) = elim (eqb x y) [ true ↦ some k | false ↦ index_from (suc k) x ys ]

unfoldable pub index_of : ℕ → List ℕ → Option ℕ
index_of x ys = index_from 0 x ys

-- How these compute once a test's answer is known
module _ {A : Type 0} (p : A → Bool) (x : A) (xs : List A) where
  pub keep-yes : p x ≡ true → keep p (x ∷ xs) ≡ x ∷ keep p xs
  unfolding keep
  keep-yes e = rw (e, keep)

  pub keep-no : p x ≡ false → keep p (x ∷ xs) ≡ keep p xs
  unfolding keep
  keep-no e = rw (e, keep)

  pub find-yes : p x ≡ true → find p (x ∷ xs) ≡ some x
  unfolding find
  find-yes e = rw (e, find)

  pub find-no : p x ≡ false → find p (x ∷ xs) ≡ find p xs
  unfolding find
  find-no e = rw (e, find)

  pub first_left-yes : (n : ℕ) → p x ≡ true → first_left p (suc n) (x ∷ xs) ≡ n
  unfolding first_left
  first_left-yes n e = rw (e, first_left)

  pub first_left-no : (n : ℕ) → p x ≡ false → first_left p (suc n) (x ∷ xs) ≡ suc (first_left p n xs)
  unfolding first_left
  first_left-no n e = rw (e, first_left)

  pub without-yes : p x ≡ true → without p (x ∷ xs) ≡ xs
  unfolding without
  without-yes e = rw (e, without)

  pub without-no : p x ≡ false → without p (x ∷ xs) ≡ x ∷ without p xs
  unfolding without
  without-no e = rw (e, without)
