use Rattle.tape.specs.Tape.{words_of}
use Rattle.tape.specs.Settled.{Levels}
use Rattle.tape.proofs.orders_words.Given as goal

abbrev pub invariant-loop-l : goal.invariant-loop-l
invariant-loop-l l = Levels l.next l.top (words_of l.t) l.l l.k
