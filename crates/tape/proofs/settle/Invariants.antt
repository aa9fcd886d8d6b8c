use Rattle.tape.specs.Tape.{words_of}
use Rattle.tape.specs.Settled.{Passing}
use Rattle.tape.proofs.settle.Given as goal

abbrev pub invariant-loop-i : goal.invariant-loop-i
invariant-loop-i l = Passing l.bound (words_of l.t) l.k l.i
