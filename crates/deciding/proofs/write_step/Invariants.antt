use Prim.Native.Nat.{◌+◌}
use Rattle.deciding.specs.Steps.{Passed}
use Rattle.deciding.proofs.write_step.Given as goal

abbrev pub invariant-loop-l : goal.invariant-loop-l
invariant-loop-l l = Passed l.next (l.fn.run.top + 1) l.fn.c.sent l.l l.i
