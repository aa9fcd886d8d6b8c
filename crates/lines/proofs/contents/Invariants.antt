use Rattle.lines.specs.Stored.{Paired}
use Rattle.lines.proofs.contents.Given as goal

abbrev pub invariant-loop-k : goal.invariant-loop-k
invariant-loop-k l = Paired l.s l.initial.room l.room l.k
