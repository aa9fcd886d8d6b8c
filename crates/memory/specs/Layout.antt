-- Parts of given sizes, one after the other.
use Rattle.std.specs.Prelude.{List, [], ◌∷◌, ℕ, zero, suc, ◌+◌, ◌≤◌, ◌<◌}
use Rattle.std.proofs.Common.{arith}

-- where part k starts, if part 0 starts at a
abbrev pub starts_at : ℕ → ℕ → List ℕ → ℕ
starts_at a zero xs = a
starts_at a (suc k) [] = a
starts_at a (suc k) (x ∷ xs) = starts_at (a + x) k xs

-- the size of part k, 0 past the last
abbrev pub size_at : ℕ → List ℕ → ℕ
size_at k [] = 0
size_at zero (x ∷ xs) = x
size_at (suc k) (x ∷ xs) = size_at k xs

-- where the last part ends
abbrev pub ends_at : ℕ → List ℕ → ℕ
ends_at a [] = a
ends_at a (x ∷ xs) = ends_at (a + x) xs

starts-ge : (a k : ℕ) (xs : List ℕ) → a ≤ starts_at a k xs
starts-ge a zero xs = omega arith
starts-ge a (suc k) [] = omega arith
starts-ge a (suc k) (x ∷ xs) = omega (arith, starts-ge (a + x) k xs)

-- a part ends where a later one starts, or before
pub ends-before : (a j k : ℕ) (xs : List ℕ) → j < k → starts_at a j xs + size_at j xs ≤ starts_at a k xs
ends-before a j zero xs l = absurd (omega arith)
ends-before a zero (suc k) [] l = omega arith
ends-before a (suc j) (suc k) [] l = omega arith
ends-before a zero (suc k) (x ∷ xs) l = starts-ge (a + x) k xs
ends-before a (suc j) (suc k) (x ∷ xs) l = ends-before (a + x) j k xs (omega arith)

ends-ge : (a : ℕ) (xs : List ℕ) → a ≤ ends_at a xs
ends-ge a [] = omega arith
ends-ge a (x ∷ xs) = omega (arith, ends-ge (a + x) xs)

-- ..and where the last one ends, or before
pub ends-within : (a k : ℕ) (xs : List ℕ) → starts_at a k xs + size_at k xs ≤ ends_at a xs
ends-within a zero [] = omega arith
ends-within a (suc k) [] = omega arith
ends-within a zero (x ∷ xs) = ends-ge (a + x) xs
ends-within a (suc k) (x ∷ xs) = ends-within (a + x) k xs
