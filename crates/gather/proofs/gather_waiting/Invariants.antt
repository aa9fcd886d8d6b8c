use mathlib.Core.Path.{◌≡◌}
use Prim.Native.Nat.{◌≤◌}
use lib.ListN.{length}
use Rattle.client.specs.View.{state_of}
use Rattle.gather.specs.Cached.{Takes}
use Rattle.gather.proofs.gather_waiting.Given as goal

abbrev pub invariant-loop-i : goal.invariant-loop-i
invariant-loop-i l = (l.i ≤ l.i-end) × (length l.list ≡ length l.initial.list) × Takes (state_of l.c l.m) l.q l.k l.list l.r l.taken l.i
