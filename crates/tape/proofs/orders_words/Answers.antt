use native.Mathlib.Omega.{arith}
use Rattle.tape.specs.Tape.{words_of}
use Rattle.tape.specs.Settled.{levels-start, levels-next, levels-end, levels-done}
use Rattle.tape.proofs.orders_words.Goals as goal

pub loop-l-init : goal.loop-l-init
loop-l-init c = let a = c.args in levels-start a.next a.top (words_of a.t.now)

pub returns-in_err-k : goal.returns-in_err-k
returns-in_err-k c =
    let l = c.loop-l in
    let a = c.args in
    rw c.from_residual.ensures (levels-end a.next a.top (words_of a.t.now) l.l l.k (omega arith) l.invariant c.in_err-k.ensures)

pub loop-l-preserved : goal.loop-l-preserved
loop-l-preserved c =
    let l = c.loop-l in
    let a = c.args in
    levels-next a.next a.top (words_of a.t.now) l.l l.k (omega arith) l.invariant _ c.in_ok-k.ensures

pub returns : goal.returns
returns c =
    let l = c.loop-l in
    let a = c.args in
    levels-done a.next a.top (words_of a.t.now) l.l l.k (omega arith) l.invariant
