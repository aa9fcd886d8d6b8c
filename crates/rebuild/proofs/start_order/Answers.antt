use mathlib.Core.Path.{refl}
use native.Mathlib.Omega.{arith}
use Rattle.memory.specs.Fits.{shape_of}
use Rattle.rebuild.specs.Target.{level_in_lem, within_level}
use Rattle.rebuild.specs.Steps.{orders-start, orders-more}
use Rattle.rebuild.proofs.start_order.Goals as goal

pub loop-j-init : goal.loop-j-init
loop-j-init c =
    let b = level_in_lem (shape_of c.args.c.shape) c.args.q c.requires.1 c.args.t c.requires.2 in
    (refl, omega arith, orders-start c.args.c c.args.m.now c.level_start-base.result)

pub loop-j-preserved : goal.loop-j-preserved
loop-j-preserved c =
    let w = within_level (shape_of c.args.c.shape) c.args.q c.requires.1 c.args.t c.level_start-base.result c.pow2-n.result c.loop-j.j c.requires.2 c.requires.0.levels c.level_start-base.ensures c.pow2-n.ensures.0 (omega arith) in
    (omega arith, omega arith, orders-more c.args.c c.args.m.now c.loop-j.m c.set.new.m c.level_start-base.result c.loop-j.j c.pow2-n.result w (omega arith) c.loop-j.invariant.2 c.set.ensures)
