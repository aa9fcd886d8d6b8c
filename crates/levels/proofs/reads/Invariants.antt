use mathlib.Core.Path.{◌≡◌}
use Prim.Native.Nat.{◌≤◌}
use Rattle.levels.specs.Reads.{reads_to}
use Rattle.levels.proofs.reads.Given as goal

abbrev pub invariant-loop-j : goal.invariant-loop-j
invariant-loop-j l = (l.k ≤ l.j) × (l.k ≡ reads_to l.c l.m l.q l.l l.j)
