use mathlib.Core.Path.{◌≡◌, ap, ◌∙◌}
use Prim.Native.Nat.{◌+◌, ◌*◌, ◌<◌}
use native.Mathlib.Omega.{arith}
use lib.ListN.{take}
use Rattle.rules.specs.Shape.{slots}
use Rattle.memory.specs.Fits.{shape_of}
use Rattle.client.specs.View.{state_of}
use Rattle.levels.specs.Slots.{cell-lt}
use Rattle.gather.specs.Gathered.{gathered_to}
use Rattle.gather.specs.Slots.{to-ascends, to_slots, to-filled, gathers-here, gathers-more, gather-slot}
use Rattle.gather.proofs.gather_level.Goals as goal
use Rattle.gather.proofs.gather_level.Goals.{After-slice_known-in-loop-j-1, In-loop-j}

inside : (c : In-loop-j) → let a = c.args in c.cell-base.result + c.loop-j.j < a.c.shape.p * slots a.c.shape.l
inside c =
    let a = c in
    cell-lt (shape_of a.args.c.shape) a.args.q a.args.l _ c.loop-j.j c.cell-base.ensures.0 a.requires.1 a.requires.2 (omega arith)

more : (c : After-slice_known-in-loop-j-1) → let a = c.args in let r = c.add-r in take r.result r.new.list ≡ gathered_to (state_of a.c a.m.now) a.q a.l (c.loop-j.j + 1)
more c =
    let a = c.args in
    let l = c.loop-j in
    let h = c.get-x in
    c.add-r.ensures.0 ∙ gather-slot a.c a.m.now a.q a.l _ l.j h.result c.cell-base.ensures.0 h.ensures _ l.invariant.2

pub get-x-requires : goal.get-x-requires
get-x-requires c = (c.requires.0, inside (goal.at.get-x-requires c).In-loop-j)

pub add-r-requires : goal.add-r-requires
add-r-requires c =
    let a = c.args in
    let l = c.loop-j in
    (omega arith, rw l.invariant.2 (to-ascends (state_of a.c a.m.now) a.q a.l l.j))

pub returns-then-limit-r : goal.returns-then-limit-r
returns-then-limit-r c =
    let s = state_of c.args.c c.args.m.now in
    let l = c.loop-j in
    let e = to-filled s c.args.q c.args.l c.requires.5 in
    let n = c.pow2-n.ensures.0 in
    let k = to_slots s c.args.q c.args.l (l.j + 1) (slots c.args.l) (omega (arith, n, c.loop-j-test.true)) in
    gathers-more _ c.args.limit _ _ _ (more (goal.at.returns-then-limit-r c).After-slice_known-in-loop-j-1) (omega arith) c.if-limit-r.true (rw (← e) k)

pub loop-j-preserved : goal.loop-j-preserved
loop-j-preserved c = (omega arith, omega arith, more (goal.at.loop-j-preserved c).After-slice_known-in-loop-j-1)

pub returns : goal.returns
returns c =
    let s = state_of c.args.c c.args.m.now in
    let l = c.loop-j in
    let n : l.j ≡ slots c.args.l = omega arith in
    gathers-here _ c.args.limit l.r _ (l.invariant.2 ∙ ap (gathered_to s c.args.q c.args.l) n ∙ to-filled s c.args.q c.args.l c.requires.5) (omega arith)
