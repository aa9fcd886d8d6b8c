use native.Mathlib.Omega.{arith}
use Rattle.memory.specs.Fits.{shape_of}
use Rattle.rebuild.specs.Target.{level_in_lem}
use Rattle.rebuild.specs.Steps.{fills-mark}
use Rattle.rebuild.proofs.mark_written.Goals as goal

pub fill-requires : goal.fill-requires
fill-requires c =
    let b = level_in_lem (shape_of c.args.c.shape) c.args.q c.requires.1 c.args.t c.requires.2 in
    omega arith

pub returns : goal.returns
returns c = rw (← c.level_start-base.ensures, ← c.pow2-n.ensures.0) (fills-mark c.args.c c.args.m.now _ c.level_start-base.result c.pow2-n.result c.fill.ensures)
