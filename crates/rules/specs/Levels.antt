-- Document 01, "State and ranges" and "Turn", and document 02, P7: which levels are filled, and the sources and the written levels of a rebuild
-- for j jobs.
use Rattle.std.specs.Prelude.{Bool, true, false, not, List, [], ◌∷◌, ℕ, zero, suc, ◌+◌, ◌-◌, ◌/◌, ◌%◌, ◌^◌, min, eqb, if◌then◌else◌}
use Rattle.lists.specs.Search.{keep, below}
use Rattle.rules.specs.Shape.{Shape}

-- "Level ℓ is filled exactly when bit ℓ of the counter is 1."
unfoldable pub filled : ℕ → ℕ → Bool
filled c ℓ = eqb (c / 2 ^ ℓ % 2) 1

-- "All levels are filled"
unfoldable pub is_full : Shape → ℕ → Bool
is_full h c = eqb c (2 ^ h.L - 1)

-- "They are j in all, at most 2^L − 1 − counter, or just itself when all levels are filled": n are queued
unfoldable pub joins : Shape → ℕ → ℕ → ℕ
joins h c n = if is_full h c then 1 else min n (2 ^ h.L - 1 - c)

-- "The counter grows by j (a full one falls as before)": "from 2^L − 1 falls to 2^(L−1)"
unfoldable pub grown : Shape → ℕ → ℕ → ℕ
grown h c j = if is_full h c then 2 ^ (h.L - 1) else c + j

-- the levels c and d differ at
unfoldable pub differ : ℕ → ℕ → ℕ → Bool
differ c d ℓ = not (eqb (c / 2 ^ ℓ % 2) (d / 2 ^ ℓ % 2))

-- the highest number below n that passes
unfoldable pub highest : (ℕ → Bool) → ℕ → ℕ
highest p zero = 0
highest p (suc n) = elim (p n) [ true ↦ n | false ↦ highest p n ]

-- "Let t be the highest level at which the counter and counter + j differ." "If all L levels are filled, the target is L−1."
unfoldable pub top_level : Shape → ℕ → ℕ → ℕ
top_level h c j = if is_full h c then h.L - 1 else highest (differ c (c + j)) h.L

-- "Filled levels up to t are the sources."
unfoldable pub source_levels : ℕ → ℕ → List ℕ
source_levels t c = keep (filled c) (below (suc t))

-- the numbers below n, highest first
unfoldable pub down : ℕ → List ℕ
down zero = []
down (suc n) = n ∷ down n

-- "The levels up to t that are filled in counter + j are written, highest first."
unfoldable pub written_levels : Shape → ℕ → ℕ → List ℕ
written_levels h c j = keep (filled (grown h c j)) (down (suc (top_level h c j)))
