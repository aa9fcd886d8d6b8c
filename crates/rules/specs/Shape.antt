-- Document 01, "The product": the shape of a store, and its bounds.
use Rattle.std.specs.Prelude.{Bool, [], ◌∷◌, ℕ, ◌+◌, ◌-◌, ◌*◌, ◌^◌, leb}
use Rattle.lists.specs.Tests.{every, between}
use Rattle.lists.specs.Search.{member}

-- "A shape has N blocks, P partitions, L levels, B bytes a block, E places in the eviction cache, W commands outstanding at most."
pub record Shape : Type 0 where
  pub N : ℕ
  pub P : ℕ
  pub L : ℕ
  pub B : ℕ
  pub E : ℕ
  pub W : ℕ

-- "N blocks (1 to 4,096), P partitions (1, 2, 4, .. 64), L levels (1 to 8), B bytes a block (1 to 512), E places in the eviction cache
-- (1 to N), W commands outstanding at most (1 to 32). N is at most P × 2^(L−1)."
unfoldable pub within : Shape → Bool
within h = every
    (between 1 4096 h.N
    ∷ member h.P (1 ∷ 2 ∷ 4 ∷ 8 ∷ 16 ∷ 32 ∷ 64 ∷ [])
    ∷ between 1 8 h.L
    ∷ between 1 512 h.B
    ∷ between 1 h.N h.E
    ∷ between 1 32 h.W
    ∷ leb h.N (h.P * 2 ^ (h.L - 1)) ∷ [])

-- "Per level ℓ (0 to L−1): 2^(ℓ+1) slots."
abbrev pub slots : ℕ → ℕ
slots ℓ = 2 ^ (ℓ + 1)

-- Where a slot, or an item, of a level of a partition stands in the tables: a partition has slots(L) cells, and its level ℓ those from slots(ℓ) on
unfoldable pub cell : Shape → ℕ → ℕ → ℕ → ℕ
cell h q ℓ i = q * slots h.L + slots ℓ + i

-- How many slots of its partition come before a slot, "levels ascending, and slots ascending within a level"
unfoldable pub offset : ℕ → ℕ → ℕ
offset ℓ i = (slots ℓ - 2) + i
