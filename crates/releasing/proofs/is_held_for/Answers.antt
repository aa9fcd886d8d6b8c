use mathlib.Core.Path.{sym, ◌∙◌}
use native.Mathlib.Omega.{arith}
use Rattle.client.specs.View.{state_of, view}
use Rattle.releasing.specs.Held.{unqueued, behind-jobs, beside-job}
use Rattle.releasing.proofs.is_held_for.Goals as goal

pub returns-then-n-eq0 : goal.returns-then-n-eq0
returns-then-n-eq0 c = let a = c.args in let s = state_of a.c a.m.now in sym (unqueued s a.q (sym c.queued-n.ensures ∙ c.if-n-eq0.true))

pub returns-then-not-is_undrawn_only : goal.returns-then-not-is_undrawn_only
returns-then-not-is_undrawn_only c =
    let a = c.args in
    let s = state_of a.c a.m.now in
    sym (behind-jobs s a.q (omega (arith, c.queued-n.ensures, c.if-n-eq0.false)) (sym c.is_undrawn_only.ensures ∙ c.if-not-is_undrawn_only.true))

pub returns : goal.returns
unfolding state_of view
returns c =
    let a = c.args in
    let s = state_of a.c a.m.now in
    c.is_worn.ensures ∙ sym (beside-job s a.q (omega (arith, c.queued-n.ensures, c.if-n-eq0.false)) (sym c.is_undrawn_only.ensures ∙ c.if-not-is_undrawn_only.false))
