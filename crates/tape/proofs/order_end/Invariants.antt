use Prim.Native.Nat.{◌-◌}
use Rattle.tape.specs.Tape.{words_of}
use Rattle.tape.specs.Settled.{Counting}
use Rattle.tape.proofs.order_end.Given as goal

abbrev pub invariant-loop-bound : goal.invariant-loop-bound
invariant-loop-bound l = Counting l.n (words_of l.t) l.from (l.bound - 1) l.k
