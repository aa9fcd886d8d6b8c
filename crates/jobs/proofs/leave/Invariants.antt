use mathlib.Core.Path.{◌≡◌}
use lib.ListN.{length}
use Rattle.jobs.specs.Leaving.{Leaving}
use Rattle.jobs.proofs.leave.Given as goal

abbrev pub invariant-loop-i : goal.invariant-loop-i
invariant-loop-i l = (length l.m ≡ length l.initial.m) × Leaving l.c.shape l.c.jobs l.q l.j l.initial.m l.m l.k l.i
