use mathlib.Core.Path.{◌≡◌, refl}
use Prim.Native.Nat.{◌+◌, ◌<◌}
use native.Mathlib.Omega.{arith}
use lib.ListN.{length, get_or, take}
use lib.Pow.{pow_mono}
use lib.Seq.{length-take-le}
use Rattle.memory.specs.Fits.{shape_of, fit-lt}
use Rattle.rebuild.specs.Target.{level_in_lem, within_level}
use Rattle.rebuild.specs.Items.{take_more, entry_has, entry_new}
use Rattle.rebuild.specs.Placing.{items-start, items_more}
use Rattle.rebuild.proofs.put_items.Goals as goal
use Rattle.rebuild.proofs.put_items.Goals.{After-fit-x}

-- block and slot are in range
item : (c : After-fit-x) → (get_or c.args.list.now c.loop-i.i 0 < c.args.c.shape.n) × (c.fit-x.result < c.pow2-n.result)
item c = (
  entry_has c.args.list.now c.args.k c.loop-i.i (omega arith) c.requires.4 (λ b. b < c.args.c.shape.n) c.requires.6,
  rw (rw c.entry.ensures at c.fit-x.ensures) (fit-lt _ _ c.pow2-n.ensures.2),
)

pub loop-i-init : goal.loop-i-init
loop-i-init c =
    let b = level_in_lem (shape_of c.args.c.shape) c.args.q c.requires.1 c.args.t c.requires.2 in
    let p = pow_mono {i = c.args.t + 1} {j = 9} (omega arith) in
    (refl, omega arith, omega arith, items-start c.args.c c.args.m.now c.level_start-base.result c.args.t _ (rw c.level_start-base.ensures c.requires.8))

pub overflow_add-base-in-loop-i : goal.overflow_add-base-in-loop-i
overflow_add-base-in-loop-i c = omega (arith, item (goal.at.overflow_add-base-in-loop-i c).After-fit-x)

pub overflow_add-b : goal.overflow_add-b
overflow_add-b c = omega (arith, item (goal.at.overflow_add-b c).After-fit-x)

pub set-requires : goal.set-requires
set-requires c = omega (arith, item (goal.at.set-requires c).After-fit-x)

pub overflow_add-n : goal.overflow_add-n
overflow_add-n c = omega (arith, item (goal.at.overflow_add-n c).After-fit-x)

pub set-requires-in-loop-i : goal.set-requires-in-loop-i
set-requires-in-loop-i c = omega (arith, item (goal.at.set-requires-in-loop-i c).After-fit-x)

pub loop-i-preserved : goal.loop-i-preserved
loop-i-preserved c =
    let n = c.pow2-n.result in
    let i = c.loop-i.i in
    let list = c.args.list.now in
    let long : length (take i list) ≡ i = length-take-le i list (omega arith) in
    let w = within_level (shape_of c.args.c.shape) c.args.q c.requires.1 c.args.t c.level_start-base.result n i c.requires.2 c.requires.0.levels c.level_start-base.ensures c.pow2-n.ensures.0 (omega arith) in
    let p = items_more c.args.c c.args.m.now c.loop-i.m c.set.new.m c.set-in-loop-i.new.m c.args.q c.args.t in
    let x = p c.level_start-base.result n (get_or list i 0) c.fit-x.result (take i list) c.requires.2 c.level_start-base.ensures c.pow2-n.ensures.0 (omega arith) (rw long w) (rw long (rw c.entry.ensures at c.fit-x.ensures)) c.loop-i.invariant.3 in
    let y = x (item (goal.at.loop-i-preserved c).After-fit-x).0 (entry_new list c.args.k i (omega arith) c.requires.4 c.requires.5) c.requires.7 c.set.ensures c.set-in-loop-i.ensures in
    (omega arith, omega arith, omega arith, rw (take_more list i (omega arith)) y)
