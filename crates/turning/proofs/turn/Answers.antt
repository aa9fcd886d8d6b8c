use Rattle.rules.specs.Questions.{turn}
use Rattle.client.specs.View.{state_of}
use Rattle.releasing.specs.Performs.{performed-releasable, settled-meets}
use Rattle.turning.proofs.turn.Goals as goal

pub settle-requires : goal.settle-requires
settle-requires c =
    let a = c.args in
    performed-releasable a.c (state_of a.c a.m.now) turn a.m.now a.tape.now a.buffer.now c.perform-r.result _ _ c.perform-r.ensures

pub returns : goal.returns
returns c =
    let p = c.perform-r in
    let a = c.args in
    settled-meets a.c (state_of a.c a.m.now) turn a.m.now a.tape.now a.buffer.now _ _ _ _ p.ensures (c.settle.ensures a.c)
