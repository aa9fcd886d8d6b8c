-- Sources, written levels and counter of a rebuild are in range.
use Rattle.std.specs.Prelude.{ℕ, ◌≤◌}
use Rattle.rules.specs.Shape.{Shape}
use Rattle.rules.specs.Levels.{joins}

-- j of them, at least one
abbrev pub Joins : Shape → ℕ → ℕ → Type 0
Joins h c j = (1 ≤ j) × (j ≤ joins h c 64)
