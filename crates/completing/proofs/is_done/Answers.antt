use mathlib.Core.Path.{refl, sym}
use mathlib.Core.Bool.{not}
use lib.Dec.{eqb}
use borrow.Author.Tests.{eqb-true, not-true}
use Rattle.lists.specs.Tests.{and_l, and_r}
use Rattle.memory.specs.Fits.{shape_of}
use Rattle.jobs.specs.Runs.{run-together}
use Rattle.completing.specs.Completing.{not_done, done-is}
use Rattle.completing.proofs.is_done.Goals as goal

pub returns-then-c-one_bit : goal.returns-then-c-one_bit
returns-then-c-one_bit c =
    let a = c.args in
    let o = c.one_bit in
    let one = eqb-true a.c.begun 1 (and_l (eqb a.c.begun 1) (not o.result) c.if-c-one_bit.true) in
    sym (not_done a.c a.m.now a.q o.result c.requires.0.room one o.ensures (not-true _ (and_r (eqb a.c.begun 1) (not o.result) c.if-c-one_bit.true)))

pub grown-next-requires : goal.grown-next-requires
grown-next-requires c =
    (c.requires.0.room.some_levels, c.requires.0.room.levels, run-together c.args.c c.args.m.now c.args.q _ c.running-run.ensures)

pub returns : goal.returns
returns c =
    let g = c.grown-next in
    let r = c.running-run in
    let a = c.args in
    done-is a.c a.m.now a.q g.result c.filled_slots-writes.result r.result c.is_writing.result r.ensures (g.ensures.0 (shape_of a.c.shape) refl) c.filled_slots-writes.ensures c.is_writing.ensures
