use mathlib.Core.Path.{ap, ◌∙◌}
use Prim.Native.Nat.{◌+◌, ◌*◌, ◌-◌, ◌≤◌}
use native.Mathlib.Omega.{arith}
use Rattle.rules.specs.Shape.{slots}
use Rattle.memory.specs.Words.{word_at}
use Rattle.memory.specs.Fits.{shape_of}
use Rattle.levels.specs.Slots.{cell-lt}
use Rattle.levels.specs.Items.{items_from, items-found}
use Rattle.levels.proofs.item.Goals as goal
use Rattle.levels.proofs.item.Goals.{After-cell-base}

-- the level's slots are within the tables
level-end : (c : After-cell-base) → let a = c.args in c.cell-base.result + c.pow2-n.result ≤ a.c.shape.p * slots a.c.shape.l
level-end c =
    let a = c in
    omega (arith, cell-lt (shape_of a.args.c.shape) a.args.q a.args.l c.cell-base.result (c.pow2-n.result - 1) c.cell-base.ensures.0 a.requires.1 a.requires.2 (omega arith))

pub bytes-order-requires : goal.bytes-order-requires
bytes-order-requires c = (c.requires.0, level-end (goal.at.bytes-order-requires c).After-cell-base)

pub bytes-holds-requires : goal.bytes-holds-requires
bytes-holds-requires c = (c.requires.0, level-end (goal.at.bytes-holds-requires c).After-cell-base)

pub bytes-marks-requires : goal.bytes-marks-requires
bytes-marks-requires c = (c.requires.0, level-end (goal.at.bytes-marks-requires c).After-cell-base)

pub returns : goal.returns
returns c =
    c.lowest_item.ensures
    ∙ ap (λ y. items_from c.pow2-n.result y (word_at c.bytes-order.result.now) (word_at c.bytes-holds.result.now) (word_at c.bytes-marks.result.now) 0) c.bound.ensures
    ∙ items-found c.args.c c.args.m.now c.args.q c.args.l c.pow2-n.result c.cell-base.result _ _ _ c.pow2-n.ensures.0 c.cell-base.ensures.0 c.requires.2 c.bytes-order.ensures c.bytes-holds.ensures c.bytes-marks.ensures c.args.source
