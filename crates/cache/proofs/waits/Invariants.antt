use Rattle.cache.specs.Waiting.{blocks_in, Counted}
use Rattle.cache.proofs.waits.Given as goal

abbrev pub invariant-loop-i : goal.invariant-loop-i
invariant-loop-i l = Counted (blocks_in l.c.shape l.m) l.c.waiting l.b l.k l.i
