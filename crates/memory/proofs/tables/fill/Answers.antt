use mathlib.Core.Path.{refl}
use native.Mathlib.Omega.{arith}
use Rattle.memory.specs.Filling.{filling-none, filling-more}
use Rattle.memory.specs.Fits.{shape_of}
use Rattle.memory.proofs.tables.fill.Goals as goal

pub loop-i-init : goal.loop-i-init
loop-i-init c =
    let a = c.args in
    (refl, filling-none (shape_of a.h) a.t a.base a.v a.m.now)

pub loop-i-preserved : goal.loop-i-preserved
loop-i-preserved c =
    let l = c.loop-i in
    let a = c.args in
    (omega arith, filling-more (shape_of a.h) a.t a.base a.v a.m.now l.m _ l.i c.set.ensures l.invariant.1)
