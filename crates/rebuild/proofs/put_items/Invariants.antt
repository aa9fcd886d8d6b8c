use mathlib.Core.Path.{◌≡◌}
use Prim.Native.Nat.{◌+◌, ◌*◌, ◌≤◌}
use lib.ListN.{length, take}
use Rattle.rules.specs.Shape.{slots}
use Rattle.client.specs.View.{state_of}
use Rattle.client.specs.Moves.{Stands}
use Rattle.rebuild.specs.Target.{order_in, placed}
use Rattle.rebuild.proofs.put_items.Given as goal

abbrev pub invariant-loop-i : goal.invariant-loop-i
invariant-loop-i l = (length l.m ≡ length l.initial.m) × (l.base + l.n ≤ l.c.shape.p * slots l.c.shape.l) × (l.n ≤ 512)
    × Stands l.c l.initial.m l.m (placed l.base l.t (take l.i l.list) (order_in (state_of l.c l.initial.m) l.q l.t) (state_of l.c l.initial.m))
