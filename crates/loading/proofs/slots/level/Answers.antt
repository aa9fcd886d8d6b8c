use mathlib.Core.Path.{sym, ◌∙◌}
use native.Mathlib.Omega.{arith}
use Rattle.rules.specs.Form.Sums.{out_of_blocks}
use Rattle.memory.specs.Fits.{shape_of}
use Rattle.memory.specs.Tables.{tables_of}
use Rattle.forms.specs.Passes.{cell_room}
use Rattle.loading.specs.Levels.{few-slots, level-none, level-put}
use Rattle.loading.proofs.slots.level.Goals as goal

pub returns-then-not-filled : goal.returns-then-not-filled
returns-then-not-filled c =
    let a = c.args in
    let r = level-none (shape_of a.h) (out_of_blocks a.form.bytes.now) a.q a.c a.l a.at (tables_of (shape_of a.h) a.m.now) (sym c.filled.ensures ∙ c.if-not-filled.true) in
    (r.0, omega arith, r.1)

pub order-requires : goal.order-requires
order-requires c =
    let a = c.args in
    let n = few-slots a.l (omega (arith, c.requires.0.levels)) in
    omega (arith, n, cell_room (shape_of a.h) a.q a.l c.requires.1 c.requires.2, c.cell-cell.ensures.0, c.pow2-n.ensures.0)

pub marks-requires : goal.marks-requires
marks-requires c =
    let a = c.args in
    let n = few-slots a.l (omega (arith, c.requires.0.levels)) in
    omega (arith, n, cell_room (shape_of a.h) a.q a.l c.requires.1 c.requires.2, c.cell-cell.ensures.0, c.pow2-n.ensures.0)

pub returns : goal.returns
returns c =
    let a = c.args in
    let r = level-put (shape_of a.h) (out_of_blocks a.form.bytes.now) a.q a.c a.l a.at _ _ (tables_of (shape_of a.h) a.m.now) _ _ (sym c.filled.ensures ∙ c.if-not-filled.false)
    c.pow2-n.ensures.0 c.cell-cell.ensures.0 c.order.ensures c.marks.ensures in
    (r.0, omega (arith, few-slots a.l (omega (arith, c.requires.0.levels)), c.pow2-n.ensures.0), r.1)
