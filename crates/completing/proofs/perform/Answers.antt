use mathlib.Core.Path.{◌≡◌, ap, sym, ◌∙◌}
use mathlib.Core.Bool.{true, ◌&&◌}
use mathlib.Core.List.{List, []}
use Prim.Native.Nat.{ℕ}
use native.Mathlib.Omega.{arith}
use lib.ListN.{length}
use Rattle.lists.specs.Tests.{and-true, and-false}
use Rattle.rules.specs.State.{Command, cmd}
use Rattle.rules.specs.Ranges.{is_kind}
use Rattle.rules.specs.Questions.{ready, completion}
use Rattle.client.specs.Kinds.{kind_number, named_kind}
use Rattle.client.specs.View.{state_of}
use Rattle.client.specs.declared.Request.{Request}
use Rattle.contract.specs.Answers.{Answer}
use Rattle.ready.specs.Usable.{unready-part}
use Rattle.releasing.specs.Performs.{Performs}
use Rattle.commands.specs.Outstanding.{OutstandingAt}
use Rattle.completing.specs.Awaited.{lessened-idle}
use Rattle.completing.specs.Completing.{wanted, no-ready, no-command, no_length, yes, begins, completes}
use Rattle.completing.proofs.perform.Goals as goal
use Rattle.completing.proofs.perform.Goals.{After-complete-d, Else-bytes-expected, Else-not-numbers_fit, In-Ok, In-Some}

-- the command, by its kind
abbrev named : In-Ok → Command
named c = cmd (kind_number c.in-Ok.kind) c.args.partition c.args.level c.args.slot

-- what is done with it is done with the one that the numbers name
told : (c : In-Ok) (r : Answer) (m : List ℕ) → let a = c.args in
    Performs a.c (state_of a.c a.m.now) (completion (named c) a.bytes.now) a.m.now [] [] r m [] → Performs a.c (state_of a.c a.m.now) (completion (cmd a.kind a.partition a.level a.slot) a.bytes.now) a.m.now [] [] r m []
told c r m p = rw (← c.in-Ok.ensures) p

-- the first question is answered yes
begun : (c : Else-not-numbers_fit) → (ready (state_of c.args.c c.args.m.now) (length c.args.m.now) && is_kind (kind_number c.in-Ok.kind)) ≡ true
begun c = and-true (sym c.numbers_fit.ensures ∙ c.if-not-numbers_fit.false) (named_kind c.in-Ok.kind)

-- the command is at the place that was found
there : (c : In-Some) → let a = c.args in OutstandingAt (cmd (kind_number c.in-Ok.kind) a.partition a.level a.slot) (state_of a.c a.m.now).outstanding c.in-Some.j
there c = rw c.in-Some.is at c.find-found.ensures

-- its bytes are as many as are wanted
sized : (c : Else-bytes-expected) → let a = c.args in length a.bytes.now ≡ wanted a.c (cmd (kind_number c.in-Ok.kind) a.partition a.level a.slot)
sized c = let e : length c.args.bytes.now ≡ c.expected.result = omega arith in e ∙ c.expected.ensures

completed-length : (c : After-complete-d) → length c.complete-d.new.m ≡ length c.args.m.now
completed-length c = omega arith

pub returns-in_default : goal.returns-in_default
returns-in_default c =
    let a = c.args in
    no-ready a.c a.m.now (cmd a.kind a.partition a.level a.slot) a.bytes.now (and-false (ready (state_of a.c a.m.now) (length a.m.now)) c.in_default.ensures)

pub returns-then-not-shape_fits : goal.returns-then-not-shape_fits
returns-then-not-shape_fits c =
    let a = c.args in
    no-ready a.c a.m.now (cmd a.kind a.partition a.level a.slot) a.bytes.now (ap (λ t. t && is_kind a.kind) (unready-part a.c a.m.now (rw (← c.shape_fits.ensures) (c.if-not-shape_fits.true))))

pub returns-then-not-numbers_fit : goal.returns-then-not-numbers_fit
returns-then-not-numbers_fit c =
    let a = c.args in
    no-ready a.c a.m.now (cmd a.kind a.partition a.level a.slot) a.bytes.now (ap (λ t. t && is_kind a.kind) (sym c.numbers_fit.ensures ∙ c.if-not-numbers_fit.true))

pub find-found-requires : goal.find-found-requires
find-found-requires c =
    let b = begins c.args.c c.args.m.now (kind_number c.in-Ok.kind) (begun (goal.at.find-found-requires c).Else-not-numbers_fit) in
    (b.0, b.1)

pub returns-in_default-found : goal.returns-in_default-found
returns-in_default-found c =
    let k = (goal.at.returns-in_default-found c).In-Ok in
    told k _ _ (no-command c.args.c c.args.m.now (named k) c.args.bytes.now (begun (goal.at.returns-in_default-found c).Else-not-numbers_fit) (rw c.in_default-found.is at c.find-found.ensures))

pub returns-then-bytes-expected : goal.returns-then-bytes-expected
returns-then-bytes-expected c =
    let k = (goal.at.returns-then-bytes-expected c).In-Ok in
    told k _ _ (no_length c.args.c c.args.m.now (named k) c.args.bytes.now (begun (goal.at.returns-then-bytes-expected c).Else-not-numbers_fit) (there (goal.at.returns-then-bytes-expected c).In-Some).there (λ e. c.if-bytes-expected.true (e ∙ sym c.expected.ensures)))

pub complete-d-requires : goal.complete-d-requires
complete-d-requires c =
    completes c.args.c c.args.m.now (named (goal.at.complete-d-requires c).In-Ok) c.args.bytes.now _ (begun (goal.at.complete-d-requires c).Else-not-numbers_fit) (there (goal.at.complete-d-requires c).In-Some) (sized (goal.at.complete-d-requires c).Else-bytes-expected)

pub returns : goal.returns
returns c =
    let k = (goal.at.returns c).In-Ok in
    let kept = c.complete-d.ensures.0 in
    rw c.new.ensures
    (told k _ _ (yes c.args.c c.args.m.now (named k) c.args.bytes.now (begun (goal.at.returns c).Else-not-numbers_fit) (there (goal.at.returns c).In-Some).there _ _ (sized (goal.at.returns c).Else-bytes-expected) (λ z. kept ∙ lessened-idle _ c.args.c.request (ap (λ (x : Request). x.kind) (sym kept) ∙ z)) (completed-length (goal.at.returns c).After-complete-d) c.complete-d.ensures.1))
