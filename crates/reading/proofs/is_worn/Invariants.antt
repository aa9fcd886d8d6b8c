use mathlib.Core.Path.{◌≡◌}
use mathlib.Core.Bool.{false}
use Prim.Native.Nat.{ℕ, ◌<◌}
use Rattle.rules.specs.Request.{worn}
use Rattle.client.specs.View.{state_of}
use Rattle.reading.proofs.is_worn.Given as goal

abbrev pub invariant-loop-l : goal.invariant-loop-l
invariant-loop-l l = (x : ℕ) → x < l.l → worn (state_of l.c l.m) l.q x ≡ false
