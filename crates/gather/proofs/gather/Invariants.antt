use mathlib.Core.Path.{◌≡◌}
use Prim.Native.Nat.{◌≤◌}
use lib.ListN.{length, take}
use Rattle.client.specs.View.{state_of}
use Rattle.gather.specs.Gathered.{gathered_to}
use Rattle.gather.proofs.gather.Given as goal

abbrev pub invariant-loop-l : goal.invariant-loop-l
invariant-loop-l l = (l.k ≤ l.limit) × (length l.list ≡ length l.initial.list) × (take l.k l.list ≡ gathered_to (state_of l.c l.m) l.q l.l 0)
