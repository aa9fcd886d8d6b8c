use mathlib.Core.Path.{◌≡◌, refl, sym, ◌∙◌}
use mathlib.Core.List.{[]}
use native.Mathlib.Omega.{arith}
use Rattle.std.proofs.lemmas.Result.{err_from_is_err_and}
use lib.ListN.{length}
use Rattle.rules.specs.Questions.{collect, bounds}
use Rattle.rules.specs.Draws.{draws}
use Rattle.rules.specs.Run.{refuse, act, perform, sent_command, handed, handed_found, taken_of}
use Rattle.client.specs.View.{state_of, view}
use Rattle.contract.specs.Meets.{meets-yes}
use Rattle.contract.proofs.Refused.{meets-refusal}
use Rattle.collecting.specs.Collecting.{Passed, collect-passed, collected-is, found-is, answer-is}
use Rattle.collecting.proofs.collect.Goals as goal
use Rattle.collecting.proofs.collect.Goals.{In_ok-ask}

-- all answers are yes
yes : (c : In_ok-ask) → let a = c.args in Passed a.c a.m.now (length a.buffer.now)
yes c = let a = c.args in collect-passed a.c a.m.now (length a.buffer.now) (sym c.in_ok-ask.ensures)

pub returns-in_err-ask : goal.returns-in_err-ask
unfolding refuse
returns-in_err-ask c =
    let a = c.args in
    let p = err_from_is_err_and c.from_residual.result c.from_residual.ensures.1 in
    rw (p.1, p.2) (meets-refusal a.c (state_of a.c a.m.now) collect a.m.now [] a.buffer.now c.in_err-ask.field-0.0 c.in_err-ask.ensures refl)

pub hand_out-requires : goal.hand_out-requires
hand_out-requires c = let y = yes (goal.at.hand_out-requires c).In_ok-ask in (y.hand, y.size)

pub finish-d-requires : goal.finish-d-requires
finish-d-requires c = let y = yes (goal.at.finish-d-requires c).In_ok-ask in (y.hand, omega (arith, y.size), c.hand_out.ensures)

pub overflow_sub-c : goal.overflow_sub-c
overflow_sub-c c = omega (arith, (yes (goal.at.overflow_sub-c c).In_ok-ask).free)

pub returns : goal.returns
unfolding bounds draws taken_of act perform sent_command handed handed_found state_of view
returns c =
    let a = c.args in
    let y = yes (goal.at.returns c).In_ok-ask in
    let full : length a.buffer.now ≡ length c.hand_out.new.buffer = omega (arith, y.size) in
    rw c.collected.ensures (meets-yes a.c (state_of a.c a.m.now) collect a.m.now [] a.buffer.now _ _ _ (record {
      yes = sym c.in_ok-ask.ensures;
      number = refl;
      taken = refl;
      command = refl;
      found = found-is a.c a.m.now y.some y.free;
      idle = λ z. c.finish-d.ensures.0;
      state = c.finish-d.ensures.1.state ∙ sym (collected-is a.c a.m.now y.some);
      buffer = answer-is a.c a.m.now a.buffer.now c.hand_out.new.buffer y.some c.hand_out.ensures full;
      tail = c.finish-d.ensures.1.tail;
    }))
