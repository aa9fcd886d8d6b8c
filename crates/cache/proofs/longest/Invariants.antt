use mathlib.Core.Path.{◌≡◌}
use mathlib.Core.Bool.{false}
use Prim.Native.Nat.{ℕ, ◌<◌}
use lib.Dec.{eqb}
use Rattle.client.specs.View.{state_of}
use Rattle.cache.specs.Waiting.{blocks_in}
use Rattle.cache.proofs.longest.Given as goal

abbrev pub invariant-loop-i : goal.invariant-loop-i
invariant-loop-i l = (x : ℕ) → x < l.i → eqb ((state_of l.c l.m).partition (blocks_in l.c.shape l.m x)) l.q ≡ false
