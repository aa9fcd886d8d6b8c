use mathlib.Core.Path.{◌≡◌, sym, ◌∙◌}
use mathlib.Core.Bool.{not}
use native.Mathlib.Omega.{arith}
use lib.Dec.{eqb}
use Rattle.memory.specs.Fits.{shape_of}
use Rattle.levels.specs.Slots.{cell-lt}
use Rattle.levels.specs.Stored.{byte_le}
use Rattle.levels.specs.Reads.{reads_none, reads_all, reads-step}
use Rattle.levels.proofs.reads.Goals as goal

pub loop-j-init : goal.loop-j-init
loop-j-init c = let a = c.args in (omega arith, sym (reads_none a.c a.m.now a.q a.l))

pub get-requires : goal.get-requires
get-requires c =
    (c.requires.0, cell-lt (shape_of c.args.c.shape) c.args.q c.args.l c.cell-base.result c.loop-j.j c.cell-base.ensures.0 c.requires.1 c.requires.2 (omega arith))

pub loop-j-preserved : goal.loop-j-preserved
loop-j-preserved c =
    let l = c.loop-j in
    let a = c.args in
    let e = reads-step a.c a.m.now a.q a.l c.cell-base.result l.j c.get.result c.cell-base.ensures.0 c.get.ensures in
    let t = byte_le (not (eqb c.get.result 1)) in
    (omega arith, omega arith)

pub returns : goal.returns
returns c =
    let l = c.loop-j in
    let a = c.args in
    let full : l.j ≡ c.pow2-n.result = omega arith in
    (omega (arith, reads_all a.c a.m.now a.q a.l l.j (full ∙ c.pow2-n.ensures.0)), omega arith)
