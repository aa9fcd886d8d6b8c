use Prim.Native.Nat.{◌-◌}
use native.Mathlib.Omega.{arith}
use Rattle.tape.specs.Tape.{words_of, length-words}
use Rattle.tape.specs.Settled.{counting-next, counting-ends, counting-done}
use Rattle.tape.proofs.order_end.Goals as goal

pub returns-in_err-k : goal.returns-in_err-k
returns-in_err-k c =
    let l = c.loop-bound in
    let a = c.args in
    rw c.from_residual.ensures (counting-ends a.n (words_of a.t.now) a.from (l.bound - 1) l.k (omega arith) l.invariant c.in_err-k.ensures)

pub overflow_add-k : goal.overflow_add-k
overflow_add-k c = let x = c.in_ok-k.ensures in omega (arith, x.0, length-words c.args.t.now)

pub loop-bound-preserved : goal.loop-bound-preserved
loop-bound-preserved c =
    let l = c.loop-bound in
    let a = c.args in
    counting-next a.n (words_of a.t.now) a.from (l.bound - 1) l.k (omega arith) l.invariant _ c.in_ok-k.ensures

pub returns : goal.returns
returns c =
    let l = c.loop-bound in
    let a = c.args in
    counting-done a.n (words_of a.t.now) a.from (l.bound - 1) l.k (omega arith) l.invariant
