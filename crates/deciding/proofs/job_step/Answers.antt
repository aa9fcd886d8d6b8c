use mathlib.Core.Path.{sym, ◌∙◌}
use Rattle.client.specs.View.{state_of, view}
use Rattle.deciding.specs.Steps.{job-none, job-gathers, job-writes}
use Rattle.deciding.proofs.job_step.Goals as goal

pub returns-then-c-eq0 : goal.returns-then-c-eq0
returns-then-c-eq0 c = let a = c.args in job-none a.c a.m.now c.if-c-eq0.true

pub returns-then-c-eq0-2 : goal.returns-then-c-eq0-2
unfolding state_of view
returns-then-c-eq0-2 c =
    let a = c.args in
    let s = state_of a.c a.m.now in
    c.gather_step.ensures ∙ sym (job-gathers s c.front-q.result s.queue _ c.front-q.ensures.0 c.if-c-eq0-2.true)

pub returns : goal.returns
unfolding state_of view
returns c =
    let a = c.args in
    let s = state_of a.c a.m.now in
    c.write_step.ensures ∙ sym (job-writes s c.front-q.result s.queue _ c.front-q.ensures.0 c.if-c-eq0-2.false)
