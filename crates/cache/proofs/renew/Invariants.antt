use mathlib.Core.Path.{◌≡◌}
use Prim.Native.Nat.{◌≤◌}
use lib.ListN.{length}
use Rattle.cache.specs.Waiting.{Renewing}
use Rattle.cache.proofs.renew.Given as goal

abbrev pub invariant-loop-i : goal.invariant-loop-i
invariant-loop-i l = (l.i ≤ l.i-end) × (length l.m ≡ length l.initial.m) × Renewing l.c.shape l.b l.initial.m l.m l.k l.i
