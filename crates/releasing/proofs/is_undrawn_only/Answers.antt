use mathlib.Core.Path.{ap, sym, ◌∙◌}
use native.Mathlib.Omega.{arith}
use lib.Dec.{leb}
use Rattle.rules.specs.Jobs.{begun_with}
use Rattle.rules.proofs.Laws.Levels.{queued-le}
use Rattle.client.specs.View.{state_of, view}
use Rattle.client.specs.Readings.{jobs-count}
use Rattle.releasing.specs.Held.{none-else, drawn, not-front, front-only}
use Rattle.releasing.proofs.is_undrawn_only.Goals as goal

pub returns-then-c-ne0 : goal.returns-then-c-ne0
unfolding state_of view
returns-then-c-ne0 c = let a = c.args in let s = state_of a.c a.m.now in sym (drawn s a.q c.if-c-ne0.true)

pub front-requires : goal.front-requires
front-requires c =
    let a = c.args in
    (c.requires.0, omega (arith, c.requires.2, c.requires.3, queued-le (state_of a.c a.m.now).queue a.q, jobs-count a.c a.m.now), c.requires.1)

pub returns-then-front-q : goal.returns-then-front-q
returns-then-front-q c = let a = c.args in let s = state_of a.c a.m.now in sym (not-front s a.q c.front.result _ c.front.ensures.0 c.if-front-q.true)

pub returns : goal.returns
unfolding state_of view
returns c =
    let a = c.args in
    let s = state_of a.c a.m.now in
    let f = c.front in
    none-else a.n a.c.begun ∙ ap (λ n. leb n (begun_with a.c.begun 1)) c.requires.3 ∙ sym (front-only s a.q f.result _ f.ensures.0 (omega (arith, c.if-front-q.false)) (omega (arith, c.if-c-ne0.false)))
