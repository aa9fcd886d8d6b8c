use mathlib.Core.Path.{◌≡◌}
use mathlib.Core.Bool.{true, false, ◌&&◌}
use native.Mathlib.Omega.{arith}
use lib.Dec.{leb}
use borrow.Author.Tests.{eq-eqb, ne_eqb, lt-ltb, le-ltb}
use Rattle.memory.specs.Fits.{shape_of}
use Rattle.client.specs.View.{state_of}
use Rattle.client.specs.Ready.{request_fits, hand_fits, own_waits}
use Rattle.ready.proofs.hand_fits.Goals as goal
use Rattle.ready.proofs.hand_fits.Goals.{Else-not-request_fits-c}

-- the first test of a request in hand passed
fits : (c : Else-not-request_fits-c) → (request_fits (shape_of c.args.c.shape) c.args.c.request && leb c.args.c.jobs 62) ≡ true
fits c = rw (← c.request_fits.ensures) (c.if-not-request_fits-c.false)

pub returns-then-r-eq0 : goal.returns-then-r-eq0
unfolding hand_fits
returns-then-r-eq0 c = rw (eq-eqb _ 0 c.if-r-eq0.true)

pub returns-then-not-request_fits-c : goal.returns-then-not-request_fits-c
unfolding hand_fits
returns-then-not-request_fits-c c =
    let a = c.args.c in
    let no : (request_fits (shape_of a.shape) a.request && leb a.jobs 62) ≡ false = rw (← c.request_fits.ensures) (c.if-not-request_fits-c.true) in
    rw (ne_eqb a.request.kind 0 c.if-r-eq0.false, no)

pub returns-then-c : goal.returns-then-c
unfolding hand_fits
returns-then-c c =
    let a = c.args.c in
    rw (ne_eqb a.request.kind 0 c.if-r-eq0.false, fits (goal.at.returns-then-c c).Else-not-request_fits-c, lt-ltb a.waiting a.shape.e c.if-c.true)

pub returns : goal.returns
unfolding hand_fits own_waits state_of
returns c =
    let a = c.args.c in
    rw (ne_eqb a.request.kind 0 c.if-r-eq0.false, fits (goal.at.returns c).Else-not-request_fits-c, le-ltb a.waiting a.shape.e (omega arith)) c.is_waiting.ensures
