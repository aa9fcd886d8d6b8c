use mathlib.Core.Path.{refl}
use Prim.Native.Nat.{◌+◌, ◌≤◌, ◌<◌}
use native.Mathlib.Omega.{arith}
use lib.ListN.{length}
use Rattle.client.specs.View.{view, state_of}
use Rattle.client.specs.Readings.{waiting-count}
use Rattle.cache.specs.Longest.{LongestAt}
use Rattle.gather.specs.Cached.{Takes, takes-start, takes-ascends, takes-more, takes-no, takes-none, takes-enough, takes_all}
use Rattle.gather.proofs.gather_waiting.Goals as goal
use Rattle.gather.proofs.gather_waiting.Goals.{in-Some-block_for, in_default-block_for}

pub returns-in_default : goal.returns-in_default
unfolding state_of view
returns-in_default c = let a = c.args in (takes-none (state_of a.c a.m.now) a.q a.k a.list.now (rw c.in_default.is at c.requires.2), omega arith)

pub loop-i-init : goal.loop-i-init
loop-i-init c =
    let a = c.args in
    let f : LongestAt (state_of a.c a.m.now) a.q c.in-Some.first = rw c.in-Some.is at c.requires.2 in
    (omega (arith, f.inside, waiting-count a.c a.m.now), refl, takes-start (state_of a.c a.m.now) a.q a.k a.list.now c.in-Some.first f)

pub returns-then-k-taken : goal.returns-then-k-taken
unfolding state_of view
returns-then-k-taken c =
    let l = c.loop-i in
    let a = c.args in
    (takes-enough (state_of a.c a.m.now) a.q a.k _ l.r l.taken l.i c.if-k-taken.true l.invariant.2, omega (arith, l.invariant.2.le, l.invariant.2.most))

pub insert-r-requires : goal.insert-r-requires
insert-r-requires c =
    let l = c.loop-i in
    let a = c.args in
    (omega (arith, l.invariant.2.le), takes-ascends (state_of a.c a.m.now) a.q a.k _ l.r l.taken l.i l.invariant.2)

pub loop-i-preserved : goal.loop-i-preserved
loop-i-preserved c =
    let l = c.loop-i in
    let a = c.args in
    let s = state_of a.c a.m.now in
    let j = c.match-block_for in
    let n : l.i < length s.waiting = omega (arith, waiting-count a.c a.m.now) in
    let t : Takes s a.q a.k j.list j.r j.taken (l.i + 1) = elim j.branch [
      | in-Some-block_for w ↦ rw (w.list-is, w.r-is, w.taken-is) (takes-more s a.q a.k l.list w.insert-r.new.list l.r w.insert-r.result l.taken l.i w.in-Some-block_for.b n (omega arith) w.in-Some-block_for.ensures w.insert-r.ensures.0 w.insert-r.ensures.1 l.invariant.2)
      | in_default-block_for w ↦ rw (w.list-is, w.r-is, w.taken-is) (takes-no s a.q a.k l.list l.r l.taken l.i n w.in_default-block_for.ensures l.invariant.2)
    ] in
    (omega arith, omega arith, t)

pub returns : goal.returns
unfolding state_of view
returns c =
    let l = c.loop-i in
    let a = c.args in
    let k : length (state_of a.c a.m.now).waiting ≤ l.i = omega (arith, waiting-count a.c a.m.now) in
    (takes_all (state_of a.c a.m.now) a.q a.k _ l.r l.taken l.i k l.invariant.2, omega (arith, l.invariant.2.le, l.invariant.2.most))
