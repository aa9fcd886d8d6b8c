use mathlib.Core.Path.{ap, sym, ◌∙◌}
use mathlib.Core.Option.{none}
use Rattle.client.specs.View.{state_of}
use Rattle.deciding.specs.Steps.{due_of, decided}
use Rattle.deciding.proofs.decide.Goals as goal

pub returns-in-Read : goal.returns-in-Read
returns-in-Read c =
    let a = c.args in
    decided (state_of a.c a.m.now) _ (sym (ap due_of c.in-Read.is) ∙ c.request_step.ensures)

pub returns-in-NoDummy : goal.returns-in-NoDummy
returns-in-NoDummy c =
    let a = c.args in
    decided (state_of a.c a.m.now) _ (sym (ap due_of c.in-NoDummy.is) ∙ c.request_step.ensures)

pub returns-in-Nothing : goal.returns-in-Nothing
returns-in-Nothing c =
    let a = c.args in
    c.job_step.ensures ∙ decided (state_of a.c a.m.now) none (sym (ap due_of c.in-Nothing.is) ∙ c.request_step.ensures)
