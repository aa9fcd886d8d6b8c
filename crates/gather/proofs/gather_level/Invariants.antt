use mathlib.Core.Path.{◌≡◌}
use Prim.Native.Nat.{◌≤◌}
use lib.ListN.{length, take}
use Rattle.client.specs.View.{state_of}
use Rattle.gather.specs.Gathered.{gathered_to}
use Rattle.gather.proofs.gather_level.Given as goal

abbrev pub invariant-loop-j : goal.invariant-loop-j
invariant-loop-j l = (l.r ≤ l.limit) × (length l.list ≡ length l.initial.list) × (take l.r l.list ≡ gathered_to (state_of l.c l.m) l.q l.l l.j)
