use Prim.Native.Nat.{◌^◌, ◌<◌}
use native.Mathlib.Omega.{arith}
use lib.Pow.{pow_pos, pow_mono}
use Rattle.lists.specs.Search.{below, count}
use Rattle.rules.specs.Form.Numbers.{each, form_of, slot_width}
use Rattle.memory.specs.Tables.{tables_of}
use Rattle.memory.specs.Fits.{shape_of, fit-lt}
use Rattle.client.specs.View.{state_of, view}
use Rattle.client.specs.Readings.{counter-is}
use Rattle.saving.specs.Parts.{width_of, partition_in}
use Rattle.saving.specs.Sizes.{each-grows, partition-size}
use Rattle.saving.proofs.sizes.levels.Goals as goal
use Rattle.saving.proofs.sizes.levels.Goals.{After-get}

-- a counter is below 2^L, and that is at most 256
low : (c : After-get) → (c.get.result < 2 ^ c.args.c.shape.l) × (c.get.result < 256)
low c =
    let f = fit-lt (2 ^ c.args.c.shape.l) ((tables_of (shape_of c.args.c.shape) c.args.m.now).counter c.loop-i.i) (pow_pos c.args.c.shape.l) in
    (omega (arith, c.get.ensures, f), omega (arith, c.get.ensures, f, pow_mono {i = c.args.c.shape.l} {j = 8} c.requires.levels))

pub loop-i-init : goal.loop-i-init
unfolding each below count
loop-i-init c = omega arith

pub overflow_mul-k : goal.overflow_mul-k
overflow_mul-k c = omega (arith, low c)

pub overflow_add-k : goal.overflow_add-k
overflow_add-k c = omega (arith, low c)

pub loop-i-preserved : goal.loop-i-preserved
unfolding slot_width form_of state_of view
loop-i-preserved c =
    let a = c.args in
    let i = c.loop-i.i in
    let s = state_of a.c a.m.now in
    let e = counter-is a.c a.m.now i c.get.result c.get.ensures in
    omega (arith, low c, each-grows (partition_in (width_of a.c.shape) s) i, partition-size 1 s i (rw e (low c).0), e)
