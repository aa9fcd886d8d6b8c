use mathlib.Core.Path.{◌≡◌}
use Prim.Native.Nat.{◌≤◌}
use lib.ListN.{length}
use Rattle.cache.specs.Leaving.{Leaves}
use Rattle.cache.proofs.leave_first.Given as goal

abbrev pub invariant-loop-i : goal.invariant-loop-i
invariant-loop-i l = (l.i ≤ l.i-end) × (length l.m ≡ length l.initial.m) × Leaves l.c.shape l.q l.k l.i-end l.initial.m l.m l.gone l.i
