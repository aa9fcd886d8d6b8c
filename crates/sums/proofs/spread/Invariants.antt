use Rattle.sums.specs.Spread.{Spread}
use Rattle.sums.proofs.spread.Given as goal

abbrev pub invariant-loop-k : goal.invariant-loop-k
invariant-loop-k l = Spread l.initial.buffer l.count l.k l.buffer
