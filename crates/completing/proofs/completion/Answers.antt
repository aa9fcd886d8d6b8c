use mathlib.Core.List.{[]}
use Rattle.rules.specs.State.{cmd}
use Rattle.rules.specs.Questions.{completion}
use Rattle.client.specs.View.{state_of}
use Rattle.releasing.specs.Performs.{performed-releasable, settled-meets}
use Rattle.completing.proofs.completion.Goals as goal

pub settle-requires : goal.settle-requires
settle-requires c =
    let a = c.args in
    performed-releasable a.c (state_of a.c a.m.now) (completion (cmd a.kind a.partition a.level a.slot) a.bytes.now) a.m.now [] [] c.perform-r.result _ _ c.perform-r.ensures

pub returns : goal.returns
returns c =
    let p = c.perform-r in
    let a = c.args in
    settled-meets a.c (state_of a.c a.m.now) (completion (cmd a.kind a.partition a.level a.slot) a.bytes.now) a.m.now [] [] _ _ _ _ p.ensures (c.settle.ensures a.c)
