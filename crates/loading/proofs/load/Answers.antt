use mathlib.Core.Path.{refl, sym, ◌∙◌}
use mathlib.Core.List.{[]}
use Rattle.std.proofs.lemmas.Result.{err_from_is_err_and}
use lib.ListN.{length}
use Rattle.rules.specs.Draws.{draws}
use Rattle.rules.specs.Questions.{load, bounds}
use Rattle.rules.specs.Run.{refuse, sent_command, handed, handed_found, taken_of}
use Rattle.rules.specs.State.{closed, found_number}
use Rattle.client.specs.View.{state_of, view}
use Rattle.contract.specs.Answers.{cleared_client}
use Rattle.contract.specs.Meets.{meets-yes, closed_is}
use Rattle.contract.proofs.Refused.{meets-refusal}
use Rattle.loading.specs.Loading.{load-number, load-passed, summed-whole, load-acts}
use Rattle.loading.proofs.load.Goals as goal

pub returns-in_err-ask : goal.returns-in_err-ask
unfolding refuse
returns-in_err-ask c =
    let a = c.args in
    let p = err_from_is_err_and c.from_residual.result c.from_residual.ensures.1 in
    rw (p.1, p.2) (meets-refusal cleared_client closed (load a.form.now) a.m.now [] [] c.in_err-ask.field-0.0 (c.in_err-ask.ensures ∙ sym (load-number a.form.now a.m.now)) (closed_is a.m.now))

pub restore-requires : goal.restore-requires
restore-requires c =
    let a = c.args in
    let y = load-passed a.form.now (length a.m.now) (sym c.in_ok-ask.ensures) in
    (summed-whole a.form.now y.0, y.1, y.2)

pub returns : goal.returns
unfolding bounds draws taken_of sent_command handed handed_found found_number state_of view
returns c =
    let a = c.args in
    let r = c.restore in
    rw c.new.ensures (meets-yes cleared_client closed (load a.form.now) a.m.now [] [] _ _ [] (record {
      yes = load-number a.form.now a.m.now ∙ sym c.in_ok-ask.ensures;
      number = refl;
      taken = refl;
      command = refl;
      found = refl;
      idle = λ z. r.ensures.1;
      state = r.ensures.0.state ∙ sym (load-acts a.form.now _);
      buffer = refl;
      tail = r.ensures.0.tail;
    }))
