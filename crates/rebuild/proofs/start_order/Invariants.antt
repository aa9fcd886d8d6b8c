use mathlib.Core.Path.{◌≡◌}
use Prim.Native.Nat.{◌+◌, ◌*◌, ◌≤◌}
use lib.ListN.{length}
use Rattle.lists.specs.Search.{below}
use Rattle.rules.specs.Shape.{slots}
use Rattle.client.specs.View.{state_of}
use Rattle.client.specs.Moves.{Stands}
use Rattle.rebuild.specs.Steps.{ordered}
use Rattle.rebuild.proofs.start_order.Given as goal

abbrev pub invariant-loop-j : goal.invariant-loop-j
invariant-loop-j l = (length l.m ≡ length l.initial.m) × (l.base + l.n ≤ l.c.shape.p * slots l.c.shape.l) × Stands l.c l.initial.m l.m (ordered l.base (below l.j) (state_of l.c l.initial.m))
