use mathlib.Core.Path.{◌≡◌, ap, ◌∙◌}
use Prim.Native.Nat.{◌+◌, ◌<◌}
use native.Mathlib.Omega.{arith}
use lib.Pow.{pow_pos}
use Rattle.rules.specs.Shape.{slots}
use Rattle.memory.specs.Tables.{tables_of, with_holds}
use Rattle.memory.specs.Fits.{shape_of, fit-lt}
use Rattle.lists.specs.Tables.{put}
use Rattle.client.specs.View.{state_of, place_of}
use Rattle.client.specs.Readings.{place-as}
use Rattle.collecting.specs.Collecting.{slot-none, slot-some}
use Rattle.collecting.proofs.empty_slot.Goals as goal
use Rattle.collecting.proofs.empty_slot.Goals.{After-get-x}

-- the block's place, and the number of its slot
placed : (c : After-get-x) → let a = c.args in (state_of a.c a.m.now).place a.c.request.block ≡ place_of a.c.shape.l c.get-x.result
placed c = let a = c.args in place-as a.c a.m.now a.c.request.block c.get-x.result c.get-x.ensures

-- the number of its slot is below those of the partition
below : (c : After-get-x) → let a = c.args in c.get-x.result < slots a.c.shape.l
below c =
    let a = c.args in
    rw c.get-x.ensures (fit-lt (slots a.c.shape.l) _ (pow_pos (a.c.shape.l + 1)))

pub returns-then-x-lt2 : goal.returns-then-x-lt2
returns-then-x-lt2 c =
    let a = c.args in
    slot-none a.c a.m.now a.m.now a.c.request.block a.p c.get-x.result (placed (goal.at.returns-then-x-lt2 c).After-get-x) c.if-x-lt2.true

pub cell_of-cell-requires : goal.cell_of-cell-requires
cell_of-cell-requires c = omega (arith, below (goal.at.cell_of-cell-requires c).After-get-x)

pub returns : goal.returns
returns c =
    let a = c.args in
    let t = tables_of (shape_of a.c.shape) a.m.now in
    slot-some a.c a.m.now _ a.c.request.block a.p c.get-x.result (placed (goal.at.returns c).After-get-x) (omega arith)
    (c.set.ensures ∙ ap (λ y. with_holds (put y 0 t.holds) t) c.cell_of-cell.ensures.0)
