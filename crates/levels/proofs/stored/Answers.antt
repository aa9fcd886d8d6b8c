use mathlib.Core.Path.{ap}
use mathlib.Core.Bool.{not}
use Prim.Native.Nat.{◌-◌}
use native.Mathlib.Omega.{arith}
use lib.Dec.{eqb}
use Rattle.memory.specs.Fits.{shape_of}
use Rattle.client.specs.View.{state_of}
use Rattle.levels.specs.Stored.{stored-all, stored-done, stored-lt, stored-step, byte_le}
use Rattle.levels.proofs.stored.Goals as goal

pub loop-j-init : goal.loop-j-init
loop-j-init c =
    let p = c.pow2-top in
    let a = c.args in
    (omega arith, omega (arith, stored-all (state_of a.c a.m.now) a.q a.c.shape.l (p.result - 2) (ap (λ n. n - 2) p.ensures.0)))

pub get-requires : goal.get-requires
get-requires c =
    (c.requires.0, stored-lt (shape_of c.args.c.shape) _ _ _ c.cell-base.ensures.0 c.requires.1 (omega arith))

pub loop-j-preserved : goal.loop-j-preserved
loop-j-preserved c =
    let l = c.loop-j in
    let e = stored-step c.args.c c.args.m.now c.args.q (c.pow2-top.result - 2) c.cell-base.result l.j c.get.result c.cell-base.ensures.0 c.loop-j-test.true c.get.ensures in
    let t = byte_le (not (eqb c.get.result 0)) in
    (omega arith, omega arith)

pub returns : goal.returns
returns c =
    let a = c.args in
    (omega (arith, stored-done (state_of a.c a.m.now) a.q (c.pow2-top.result - 2) c.loop-j.j c.loop-j-test.false), omega arith)
