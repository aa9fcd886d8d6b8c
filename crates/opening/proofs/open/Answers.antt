use mathlib.Core.Path.{◌≡◌, refl, ap, sym, ◌∙◌}
use mathlib.Core.Bool.{true}
use mathlib.Core.List.{[]}
use Prim.Native.Nat.{◌≤◌}
use native.Mathlib.Omega.{arith}
use Rattle.std.proofs.lemmas.Result.{err_from_is_err_and}
use lib.ListN.{length}
use Rattle.rules.specs.Shape.{within}
use Rattle.rules.specs.State.{closed, found_number}
use Rattle.rules.specs.Memory.{needed}
use Rattle.rules.specs.Open.{fresh}
use Rattle.rules.specs.Questions.{opening, number, bounds}
use Rattle.rules.specs.Run.{refuse, act, perform, sent_command, handed, handed_found}
use Rattle.memory.specs.Fits.{shape_of}
use Rattle.client.specs.View.{state_of, view}
use Rattle.tape.specs.Tape.{words_of}
use Rattle.contract.specs.Answers.{cleared_client}
use Rattle.contract.specs.Meets.{call_of, meets-yes, closed_is}
use Rattle.contract.proofs.Refused.{meets-refusal}
use Rattle.opening.specs.Opening.{drawn-taken, open_number, open-number, open-passed, Filled, fresh-is, filled-tail, filled-from, cleared-tail}
use Rattle.opening.proofs.open.Goals as goal
use Rattle.opening.proofs.open.Goals.{After-words, In_ok-ask}

-- the number is the rules'
asked : (c : After-words) → let a = c.args in open_number (shape_of a.h) (length a.m.now) c.words.result ≡ number closed (call_of (opening (shape_of a.h)) a.m.now a.tape.now [])
asked c = let a = c.args in ap (open_number (shape_of a.h) (length a.m.now)) c.words.ensures ∙ sym (open-number (shape_of a.h) a.m.now a.tape.now)

-- where it is 0 the shape is within bounds, and enough is lent
yes : (c : In_ok-ask) → let a = c.args in (within (shape_of a.h) ≡ true) × (needed (shape_of a.h) ≤ length a.m.now) × (a.h.n ≤ length (words_of a.tape.now))
yes c =
    let a = c.args in
    open-passed (shape_of a.h) (length a.m.now) (length (words_of a.tape.now)) (sym (ap (open_number (shape_of a.h) (length a.m.now)) c.words.ensures) ∙ sym c.in_ok-ask.ensures)

pub returns-in_err-ask : goal.returns-in_err-ask
unfolding refuse
returns-in_err-ask c =
    let a = c.args in
    let p = err_from_is_err_and c.from_residual.result c.from_residual.ensures.1 in
    rw (p.1, p.2)
    (meets-refusal cleared_client closed (opening (shape_of a.h)) a.m.now a.tape.now [] c.in_err-ask.field-0.0 (c.in_err-ask.ensures ∙ asked (goal.at.returns-in_err-ask c).After-words) (closed_is a.m.now))

pub clear-requires : goal.clear-requires
clear-requires c = let y = yes (goal.at.clear-requires c).In_ok-ask in (y.0, y.1)

pub draw_partitions-requires : goal.draw_partitions-requires
draw_partitions-requires c =
    let a = c.args in
    let y = yes (goal.at.draw_partitions-requires c).In_ok-ask in
    (y.0, omega (arith, y.1), y.2, filled-from a.h a.tape.now a.m.now c.clear.new.m c.clear.ensures)

pub returns : goal.returns
unfolding bounds act perform fresh sent_command handed handed_found found_number state_of view
returns c =
    let a = c.args in
    let y = yes (goal.at.returns c).In_ok-ask in
    let m₁ = c.clear.new.m in
    let m₂ = c.draw_partitions.new.m in
    let f : Filled a.h a.h.n m₁ a.tape.now m₂ = c.draw_partitions.ensures in
    let s = fresh-is a.h a.tape.now y.0 y.2 m₁ m₂ f in
    let tail = filled-tail a.h a.tape.now y.0 y.2 m₁ m₂ f ∙ cleared-tail a.h a.tape.now a.m.now m₁ c.clear.ensures in
    rw (c.new.ensures, c.resting.ensures) (meets-yes cleared_client closed (opening (shape_of a.h)) a.m.now a.tape.now [] _ m₂ [] (record {
      yes = sym (asked (goal.at.returns c).After-words) ∙ sym c.in_ok-ask.ensures;
      number = refl;
      taken = sym (drawn-taken a.h a.tape.now y.0 y.2);
      command = refl;
      found = refl;
      state = s;
      idle = λ z. refl;
      buffer = refl;
      tail = tail;
    }))
