-- Two states that differ only in what no call reads: orders of levels that are not live, and contents of blocks that the client does not have. What
-- a call asks and answers is the same in both.
use Rattle.std.specs.Prelude.{◌≡◌}
use Rattle.std.proofs.Math.Bool.{true}
use mathlib.Core.List.{List}
use Prim.Native.Nat.{ℕ, ◌<◌}
use Rattle.rules.specs.Levels.{filled}
use Rattle.rules.specs.Shape.{cell, slots}
use Rattle.rules.specs.State.{State}
use Rattle.reachable.specs.Live.{counted}
use Rattle.reachable.specs.Values.{Values}

-- ..these contents and orders are the state's where it matters
pub record Same (s : State) (y : ℕ → List ℕ) (o : ℕ → ℕ) : Type 0 where
  pub values : Values s y
  pub orders : (q ℓ k : ℕ) → q < s.shape.P → ℓ < s.shape.L → filled (counted s q) ℓ ≡ true → k < slots ℓ → o (cell s.shape q ℓ k) ≡ s.order (cell s.shape q ℓ k)
