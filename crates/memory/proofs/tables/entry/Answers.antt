use Rattle.memory.specs.Stored.{get-table}
use Rattle.memory.specs.Fits.{shape_of}
use Rattle.memory.proofs.tables.entry.Goals as goal

pub returns : goal.returns
returns c = cc (get-table (shape_of c.args.h) c.args.m.now c.args.t c.args.i c.requires.1)
