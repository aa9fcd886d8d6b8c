-- The first n of a list, and the rest: their members; and those of two lists, one behind the other.
use Rattle.std.specs.Prelude.{◌≡◌, refl, List, [], ◌∷◌, ◌++◌, ◌⊎◌, ℕ, zero, suc, length, take, drop}
use Rattle.std.proofs.Common.{ap, inl, inr, ⊎_elim, arith}
use Rattle.lists.specs.Distinct.{Mem, NoDup}

pub mem-take : (x n : ℕ) (xs : List ℕ) → Mem x (take n xs) → Mem x xs
mem-take x zero xs m = absurd m
mem-take x (suc n) [] m = absurd m
mem-take x (suc n) (y ∷ ys) (inl e) = inl e
mem-take x (suc n) (y ∷ ys) (inr m) = inr (mem-take x n ys m)

pub mem-drop : (x n : ℕ) (xs : List ℕ) → Mem x (drop n xs) → Mem x xs
mem-drop x zero xs m = m
mem-drop x (suc n) [] m = absurd m
mem-drop x (suc n) (y ∷ ys) m = inr (mem-drop x n ys m)

pub take-or-drop : (x n : ℕ) (xs : List ℕ) → Mem x xs → Mem x (take n xs) ⊎ Mem x (drop n xs)
take-or-drop x zero xs m = inr m
take-or-drop x (suc n) [] m = absurd m
take-or-drop x (suc n) (y ∷ ys) (inl e) = inl (inl e)
take-or-drop x (suc n) (y ∷ ys) (inr m) = ⊎_elim (λ k. inl (inr k)) inr (take-or-drop x n ys m)

pub nodup-take : (n : ℕ) (xs : List ℕ) → NoDup xs → NoDup (take n xs)
nodup-take zero xs u = tt
nodup-take (suc n) [] u = tt
nodup-take (suc n) (y ∷ ys) u = ((λ m. u.0 (mem-take y n ys m)), nodup-take n ys u.1)

pub nodup-drop : (n : ℕ) (xs : List ℕ) → NoDup xs → NoDup (drop n xs)
nodup-drop zero xs u = u
nodup-drop (suc n) [] u = tt
nodup-drop (suc n) (y ∷ ys) u = nodup-drop n ys u.1

-- no member is in both
pub not-both : (x n : ℕ) (xs : List ℕ) → NoDup xs → Mem x (take n xs) → Mem x (drop n xs) → ⊥
not-both x zero xs u a b = a
not-both x (suc n) [] u a b = a
not-both x (suc n) (y ∷ ys) u (inl e) b = u.0 (mem-drop y n ys (rw e at b))
not-both x (suc n) (y ∷ ys) u (inr a) b = not-both x n ys u.1 a b

-- of as many as the first has, the first is what is taken and the other what is left
pub take-first : (xs ys : List ℕ) (n : ℕ) → length xs ≡ n → take n (xs ++ ys) ≡ xs
take-first [] ys zero e = refl
take-first [] ys (suc n) e = absurd (omega arith)
take-first (x ∷ xs) ys zero e = absurd (omega arith)
take-first (x ∷ xs) ys (suc n) e = ap (λ zs. x ∷ zs) (take-first xs ys n (omega arith))

pub drop-first : (xs ys : List ℕ) (n : ℕ) → length xs ≡ n → drop n (xs ++ ys) ≡ ys
drop-first [] ys zero e = refl
drop-first [] ys (suc n) e = absurd (omega arith)
drop-first (x ∷ xs) ys zero e = absurd (omega arith)
drop-first (x ∷ xs) ys (suc n) e = drop-first xs ys n (omega arith)
