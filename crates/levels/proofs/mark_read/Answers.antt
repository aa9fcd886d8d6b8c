use Rattle.levels.specs.Slots.{marked}
use Rattle.levels.proofs.mark_read.Goals as goal

pub returns : goal.returns
returns c =
    marked c.args.c c.args.m.now _ c.args.q c.args.l c.args.i c.cell-x.result c.cell-x.ensures.0 c.set.ensures
