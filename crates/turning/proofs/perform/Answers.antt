use mathlib.Core.Path.{◌≡◌, refl, ap, sym, ◌∙◌}
use mathlib.Core.Bool.{true}
use native.Mathlib.Omega.{arith}
use lib.ListN.{length}
use Rattle.rules.specs.Turn.{Step, idle, no_dummy}
use Rattle.rules.specs.Questions.{ready}
use Rattle.client.specs.View.{state_of}
use Rattle.ready.specs.Usable.{usable, unready-part}
use Rattle.deciding.specs.Steps.{step_of}
use Rattle.sending.specs.Sent.{Due, due, refuses, idle-number, lacks-number, not-ready, window-full}
use Rattle.turning.proofs.perform.Goals as goal
use Rattle.turning.proofs.perform.Goals.{After-decide-step, Else-not-numbers_fit}

-- the first question is answered yes
begun : (c : Else-not-numbers_fit) → ready (state_of c.args.c c.args.m.now) (length c.args.m.now) ≡ true
begun c = rw (← c.numbers_fit.ensures) (c.if-not-numbers_fit.false)

-- the step that is decided
decided : (c : After-decide-step) (x : Step) → step_of (state_of c.args.c c.args.m.now) c.decide-step.result ≡ x → Due c.args.c c.args.m.now x
decided c x e =
    let begun' : ready (state_of c.args.c c.args.m.now) (length c.args.m.now) ≡ true = rw (← c.numbers_fit.ensures) (c.if-not-numbers_fit.false) in
    let y = begun' in
    let a = c.args in
    due a.c a.m.now x y (usable a.c a.m.now y) (omega (arith, c.if-c.false)) (sym c.decide-step.ensures ∙ e)

pub returns-then-not-shape_fits : goal.returns-then-not-shape_fits
returns-then-not-shape_fits c =
    let a = c.args in
    not-ready a.c a.m.now a.tape.now a.buffer.now (unready-part a.c a.m.now (rw (← c.shape_fits.ensures) (c.if-not-shape_fits.true)))

pub returns-then-not-numbers_fit : goal.returns-then-not-numbers_fit
returns-then-not-numbers_fit c =
    let r = c.numbers_fit in
    let a = c.args in
    not-ready a.c a.m.now a.tape.now a.buffer.now (rw (← r.ensures) (c.if-not-numbers_fit.true))

pub returns-then-c : goal.returns-then-c
returns-then-c c =
    let a = c.args in
    window-full a.c a.m.now a.tape.now a.buffer.now (begun (goal.at.returns-then-c c).Else-not-numbers_fit) (omega (arith, c.if-c.true))

pub decide-step-requires : goal.decide-step-requires
decide-step-requires c = let a = c.args in usable a.c a.m.now (begun (goal.at.decide-step-requires c).Else-not-numbers_fit)

pub read_for_request-requires : goal.read_for_request-requires
read_for_request-requires c = decided (goal.at.read_for_request-requires c).After-decide-step _ (ap (step_of _) c.in-ReadForRequest.is)

pub read_for_job-requires : goal.read_for_job-requires
read_for_job-requires c = decided (goal.at.read_for_job-requires c).After-decide-step _ (ap (step_of _) c.in-ReadForJob.is)

pub rebuild-requires : goal.rebuild-requires
rebuild-requires c = decided (goal.at.rebuild-requires c).After-decide-step _ (ap (step_of _) c.in-Rebuild.is)

pub write_next-requires : goal.write_next-requires
write_next-requires c = decided (goal.at.write_next-requires c).After-decide-step _ (ap (step_of _) c.in-WriteNext.is)

pub returns-in-Idle : goal.returns-in-Idle
returns-in-Idle c =
    let d = decided (goal.at.returns-in-Idle c).After-decide-step idle (ap (step_of _) c.in-Idle.is) in
    let a = c.args in
    refuses a.c a.m.now a.tape.now a.buffer.now idle d 10 (idle-number a.c a.m.now a.tape.now a.buffer.now idle d refl) (λ e. omega arith)

pub returns-in-NoDummy : goal.returns-in-NoDummy
returns-in-NoDummy c =
    let d = decided (goal.at.returns-in-NoDummy c).After-decide-step no_dummy (ap (step_of _) c.in-NoDummy.is) in
    let a = c.args in
    refuses a.c a.m.now a.tape.now a.buffer.now no_dummy d 2 (lacks-number a.c a.m.now a.tape.now a.buffer.now no_dummy d refl) (λ e. omega arith)
