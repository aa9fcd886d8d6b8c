use mathlib.Core.Path.{◌≡◌, refl, ap, sym, ◌∙◌}
use mathlib.Core.List.{List, []}
use Prim.Native.Nat.{ℕ}
use native.Mathlib.Omega.{arith}
use Rattle.std.proofs.lemmas.Result.{err_from_is_err_and}
use lib.ListN.{length}
use Rattle.rules.specs.Questions.{request, number, bounds}
use Rattle.rules.specs.Run.{refuse, act, perform, sent_command, handed, handed_found}
use Rattle.rules.specs.State.{found_number}
use Rattle.client.specs.Kinds.{kind_number}
use Rattle.client.specs.View.{state_of, view}
use Rattle.contract.specs.Answers.{Answer}
use Rattle.contract.specs.declared.Refusal.TheVariants.{Unready}
use Rattle.contract.specs.Meets.{Meets, call_of, meets-yes}
use Rattle.contract.proofs.Refused.{meets-refusal}
use Rattle.requesting.specs.Requesting.{request-other, drawn-taken, request_number, request-number, Asked, request-passed, in-hand}
use Rattle.requesting.proofs.request.Goals as goal
use Rattle.requesting.proofs.request.Goals.{After-words, In-Ok, In_ok-ask}

-- what is done with the kind is done with the number that names it
told : (c : In-Ok) (r : Answer) (m : List ℕ) → let a = c.args in
    Meets a.c (state_of a.c a.m.now) (request (kind_number c.in-Ok.kind) a.block a.contents.now) a.m.now a.tape.now [] r m [] → Meets a.c (state_of a.c a.m.now) (request a.kind a.block a.contents.now) a.m.now a.tape.now [] r m []
told c r m p = rw (← c.in-Ok.ensures) p

-- the number is the rules'
asked : (c : After-words) → let a = c.args in
    request_number a.c a.m.now (kind_number c.in-Ok.kind) a.block (length a.contents.now) c.words.result ≡ number (state_of a.c a.m.now) (call_of (request (kind_number c.in-Ok.kind) a.block a.contents.now) a.m.now a.tape.now [])
asked c =
    let a = c.args in
    ap (request_number a.c a.m.now (kind_number c.in-Ok.kind) a.block (length a.contents.now)) c.words.ensures ∙ sym (request-number a.c a.m.now (kind_number c.in-Ok.kind) a.block a.contents.now a.tape.now)

yes : (c : In_ok-ask) → let a = c.args in Asked a.c a.m.now (kind_number c.in-Ok.kind) a.block a.contents.now a.tape.now
yes c =
    let a = c.args in
    request-passed a.c a.m.now (kind_number c.in-Ok.kind) a.block a.contents.now a.tape.now (request-number a.c a.m.now (kind_number c.in-Ok.kind) a.block a.contents.now a.tape.now ∙ sym (ap (request_number a.c a.m.now (kind_number c.in-Ok.kind) a.block (length a.contents.now)) c.words.ensures) ∙ sym c.in_ok-ask.ensures)

pub returns-in_default : goal.returns-in_default
unfolding refuse
returns-in_default c =
    let a = c.args in
    meets-refusal a.c (state_of a.c a.m.now) (request a.kind a.block a.contents.now) a.m.now a.tape.now [] Unready (request-other a.c a.m.now a.kind a.block a.contents.now a.tape.now c.in_default.ensures) refl

pub returns-in_err-ask : goal.returns-in_err-ask
unfolding refuse
returns-in_err-ask c =
    let a = c.args in
    let p = err_from_is_err_and c.from_residual.result c.from_residual.ensures.1 in
    rw (p.1, p.2)
    (told (goal.at.returns-in_err-ask c).In-Ok _ _ (meets-refusal a.c (state_of a.c a.m.now) (request (kind_number c.in-Ok.kind) a.block a.contents.now) a.m.now a.tape.now [] c.in_err-ask.field-0.0 (c.in_err-ask.ensures ∙ asked (goal.at.returns-in_err-ask c).After-words) refl))

pub take-d-requires : goal.take-d-requires
take-d-requires c = let y = yes (goal.at.take-d-requires c).In_ok-ask in (y.usable.room, y.usable.jobs, omega (arith, y.usable.counts.waiting, y.usable.places), omega (arith, y.usable.counts.out, y.usable.window), y.block, y.shape, y.size, y.words, y.usable.counts.begun)

pub returns : goal.returns
unfolding bounds act perform sent_command handed handed_found found_number state_of view
returns c =
    let a = c.args in
    let y = yes (goal.at.returns c).In_ok-ask in
    rw c.new.ensures (told (goal.at.returns c).In-Ok _ _ (meets-yes a.c (state_of a.c a.m.now) (request (kind_number c.in-Ok.kind) a.block a.contents.now) a.m.now a.tape.now [] _ _ [] (record {
      yes = sym (asked (goal.at.returns c).After-words) ∙ sym c.in_ok-ask.ensures;
      number = refl;
      taken = sym (drawn-taken a.c a.tape.now y.shape y.words);
      command = refl;
      found = refl;
      state = c.take-d.ensures.state;
      idle = λ z. absurd (in-hand a.c _ a.m.now _ (kind_number c.in-Ok.kind) a.block a.contents.now a.tape.now c.take-d.ensures.state z);
      buffer = refl;
      tail = c.take-d.ensures.tail;
    })))
