use native.Mathlib.Omega.{arith}
use Rattle.cache.specs.Waiting.{counted-more, waits-counted}
use Rattle.cache.proofs.waits.Goals as goal

pub loop-i-preserved : goal.loop-i-preserved
loop-i-preserved c = let l = c.loop-i in rw c.from-k.ensures (counted-more _ _ _ l.k l.i _ (omega arith) c.get.ensures l.invariant)

pub returns : goal.returns
returns c =
    let l = c.loop-i in
    let a = c.args in
    waits-counted a.c a.m.now a.b l.k l.i (omega arith) l.invariant
