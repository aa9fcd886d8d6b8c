use mathlib.Core.Path.{◌≡◌, refl, ap, sym, ◌∙◌}
use native.Mathlib.Omega.{arith}
use Rattle.client.specs.Readings.{waiting-count}
use Rattle.client.specs.Moves.{with_waiting}
use Rattle.client.specs.View.{state_of}
use Rattle.cache.specs.Longest.{LongestAt}
use Rattle.cache.specs.Leaving.{leaving-none, leaving-start, leaving-more, leaving-done}
use Rattle.cache.proofs.leave_first.Goals as goal

pub returns-in_default : goal.returns-in_default
returns-in_default c = let a = c.args in (refl, leaving-none a.c a.q a.k a.m.now (rw c.in_default.is at c.requires.1))

pub loop-i-init : goal.loop-i-init
loop-i-init c =
    let a = c.args in
    let f : LongestAt (state_of a.c a.m.now) a.q c.in-Some.first = rw c.in-Some.is at c.requires.1 in
    (omega (arith, f.inside, waiting-count a.c a.m.now), refl, leaving-start a.c a.q a.k a.m.now c.in-Some.first f)

pub loop-i-preserved : goal.loop-i-preserved
loop-i-preserved c =
    let l = c.loop-i in
    let a = c.args in
    (omega arith, omega arith, leaving-more a.c a.q a.k a.m.now _ _ _ l.i _ (omega arith) (omega arith) l.invariant.2 c.move_up-gone.ensures)

pub returns : goal.returns
returns c =
    let l = c.loop-i in
    let a = c.args in
    let e : l.i ≡ a.c.waiting = omega arith in
    (c.with_waiting.ensures ∙ sym (ap (λ r. with_waiting r.waiting a.c) c.with_waiting.ensures), rw c.with_waiting.ensures (leaving-done a.c a.q a.k a.m.now _ l.gone l.i e l.invariant.2))
