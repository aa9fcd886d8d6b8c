use Prim.Native.Nat.{◌-◌}
use native.Mathlib.Omega.{arith}
use Rattle.memory.specs.Fits.{shape_of}
use Rattle.rebuild.specs.Target.{sources-in}
use Rattle.rebuild.specs.Steps.{fills-holds}
use Rattle.rebuild.proofs.clear_levels.Goals as goal

pub fill-requires : goal.fill-requires
fill-requires c =
    let b = sources-in (shape_of c.args.c.shape) c.args.q c.requires.1 c.args.n c.requires.2 in
    omega arith

pub returns : goal.returns
returns c = rw (← c.level_start-base.ensures, ← c.pow2-top.ensures.0) (fills-holds c.args.c c.args.m.now _ c.level_start-base.result (c.pow2-top.result - 2) c.fill.ensures)
