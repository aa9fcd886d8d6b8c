use Prim.Native.Nat.{ℕ, ◌<◌}
use mathlib.Core.Path.{◌≡◌}
use lib.ListN.{length-set, length-replicate}
use native.Mathlib.Omega.{arith}
use Rattle.lists.specs.Search.{below, count}
use Rattle.memory.specs.Tables.{tables_of}
use Rattle.memory.specs.Fits.{shape_of, fit-lt}
use Rattle.client.specs.View.{rows, view, state_of}
use Rattle.client.specs.Changes.{fitted}
use Rattle.cache.specs.Marks.{marks_room, marked-none, marked_more}
use Rattle.cache.proofs.mark_waiting.Goals as goal
use Rattle.cache.proofs.mark_waiting.Goals.{After-get-b}

-- a block of the list is one of the store's
low : (c : After-get-b) → c.get-b.result < marks_room
low c =
    omega (arith, c.get-b.ensures, fit-lt c.args.c.shape.n ((tables_of (shape_of c.args.c.shape) c.args.m.now).waiting c.loop-i.i) (omega arith))

pub loop-i-init : goal.loop-i-init
unfolding rows below count
loop-i-init c = (rw c.requires.1 (length-replicate {A = ℕ} marks_room 0), rw c.requires.1 marked-none)

pub bounds-marks-b : goal.bounds-marks-b
bounds-marks-b c = omega (arith, low (goal.at.bounds-marks-b c).After-get-b)

pub loop-i-preserved : goal.loop-i-preserved
loop-i-preserved c =
    let l = c.loop-i in
    let a = c.args in
    (simp length-set l.invariant.0, rw c.get-b.ensures (marked_more (fitted a.c.shape.n (tables_of (shape_of a.c.shape) a.m.now).waiting) l.i l.marks l.invariant.0 (rw c.get-b.ensures at (low (goal.at.loop-i-preserved c).After-get-b)) l.invariant.1))

pub returns : goal.returns
unfolding state_of view
returns c =
    let all : c.loop-i.i ≡ c.args.c.waiting = omega arith in
    rw all at c.loop-i.invariant.1
