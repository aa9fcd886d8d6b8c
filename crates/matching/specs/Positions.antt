-- A hidden table of N positions below P. Two trades: one position is shown, and the one that is drawn for it is hidden in its place; and the
-- positions drawn at the start are the table.
use Rattle.std.specs.Prelude.{◌≡◌, List, [], ◌∷◌, ℕ, ◌≤◌, ◌<◌}
use Rattle.lists.specs.Tables.{put}

abbrev pub Positions : Type 0
Positions = ℕ → ℕ

-- one position below P for each number below N, and 0 past them
abbrev pub Placed : ℕ → ℕ → Positions → Type 0
Placed N P pos = ((b : ℕ) → b < N → pos b < P) × ((b : ℕ) → N ≤ b → pos b ≡ 0)

-- no table
abbrev pub Zero : Positions → Type 0
Zero pos = (b : ℕ) → pos b ≡ 0

-- ---- the position of b is shown: the first draw is below P, and any others, below ms, stay
module _ (b : ℕ) where
  abbrev pub show : Positions × List ℕ → List ℕ × Positions
  show (pos, []) = ([], pos)
  show (pos, d ∷ ds) = (pos b ∷ ds, put b d pos)

  abbrev pub cover : List ℕ × Positions → Positions × List ℕ
  cover ([], pos) = (pos, [])
  cover (p ∷ ds, pos) = (put b p pos, pos b ∷ ds)
