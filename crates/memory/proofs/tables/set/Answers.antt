use Rattle.rules.specs.Memory.{needed}
use Rattle.memory.specs.Stored.{set-table}
use Rattle.memory.specs.Fits.{shape_of}
use Rattle.memory.proofs.tables.set.Goals as goal

pub returns : goal.returns
unfolding needed
returns c =
    rw (c.set_word.ensures, c.start.ensures) (set-table (shape_of c.args.h) c.args.m.now c.requires.0.long c.args.t c.args.i c.args.v c.requires.2 c.requires.1)
