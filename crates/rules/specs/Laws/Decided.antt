-- What a turn decides is in range.
use Rattle.std.specs.Prelude.{◌≡◌}
use mathlib.Core.List.{List, ◌∷◌}
use Prim.Native.Nat.{ℕ, ◌-◌, ◌<◌}
use Rattle.lists.specs.All.{All}
use Rattle.rules.specs.Shape.{slots}
use Rattle.rules.specs.State.{State}
use Rattle.rules.specs.Turn.{Step, idle, no_dummy, read_for_request, read_for_job, rebuild, write_next}

-- the front job is for q
abbrev pub Front : State → ℕ → Type 0
Front s q = (qs : List ℕ) × (s.queue ≡ q ∷ qs)

-- What a turn decides is in range
abbrev pub StepIn : State → Step → Type 0
StepIn s idle = Unit {0}
StepIn s no_dummy = Unit {0}
StepIn s (read_for_request q ℓ i) = (q < s.shape.P) × (ℓ < s.shape.L) × (i < slots ℓ)
StepIn s (read_for_job q ℓ i) = (q < s.shape.P) × (ℓ < s.shape.L) × (i < slots ℓ) × Front s q
StepIn s (rebuild q ls) = (q < s.shape.P) × All (λ ℓ. ℓ < s.shape.L) ls × Front s q
StepIn s (write_next q t i) = (q < s.shape.P) × (t < s.shape.L) × (i < slots t) × (s.sent < slots s.shape.L - 2)
