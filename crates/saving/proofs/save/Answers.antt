use mathlib.Core.Path.{◌≡◌, refl, ap, sym, ◌∙◌}
use mathlib.Core.List.{[]}
use Prim.Native.Nat.{◌*◌, ◌≤◌}
use native.Mathlib.Omega.{arith}
use Rattle.std.proofs.lemmas.Result.{err_from_is_err_and}
use Rattle.contract.specs.Answers.{refusal-some}
use Rattle.contract.specs.declared.Refusal.TheVariants.{Unready}
use lib.ListN.{length}
use borrow.Author.Tests.{lt-leb, le-leb}
use Rattle.rules.specs.Draws.{draws}
use Rattle.rules.specs.Form.Payload.{saved_form}
use Rattle.rules.specs.Form.Sums.{block_count}
use Rattle.rules.specs.Questions.{save, bounds}
use Rattle.rules.specs.Run.{refuse, sent_command, handed, handed_found, taken_of, numbers_of}
use Rattle.rules.specs.State.{found_number}
use Rattle.client.specs.View.{state_of}
use Rattle.ready.specs.Usable.{Usable, usable}
use Rattle.contract.specs.Meets.{meets-yes}
use Rattle.contract.proofs.Refused.{meets-refusal}
use Rattle.saving.specs.Saving.{first-decides, length-decides, first-yes, rest-kept, form-length, one}
use Rattle.saving.proofs.save.Goals as goal
use Rattle.saving.proofs.save.Goals.{After-bytes_of-length, In_ok-ask}

-- where the first questions pass, the state is one that the code can go by
use-of : (c : In_ok-ask) → let a = c.args in Usable a.c a.m.now
use-of c = let a = c.args in usable a.c a.m.now (first-yes (state_of a.c a.m.now) a.m.now a.buffer.now (sym c.in_ok-ask.ensures)).0

-- the form's length
form-is : (c : After-bytes_of-length) → c.bytes_of-length.result ≡ length (saved_form (let a = c.args in state_of a.c a.m.now))
form-is c = let a = c.args in c.bytes_of-length.ensures ∙ ap (λ n. block_count n * 512) c.payload.ensures.0 ∙ sym (form-length (state_of a.c a.m.now))

-- its blocks are few: no payload has more than 3,000,000 bytes
form-short : (c : After-bytes_of-length) → c.bytes_of-length.result ≤ 4294967295
unfolding block_count
form-short c = omega (arith, c.bytes_of-length.ensures, c.payload.ensures.1)

pub returns-in_err-ask : goal.returns-in_err-ask
unfolding refuse
returns-in_err-ask c =
    let a = c.args in
    let s = state_of a.c a.m.now in
    let e = c.in_err-ask.field-0.0 in
    let k = c.in_err-ask.ensures in
    let p = err_from_is_err_and c.from_residual.result c.from_residual.ensures.1 in
    rw (p.1, p.2) (meets-refusal a.c s save a.m.now [] a.buffer.now e (k ∙ first-decides s a.m.now a.buffer.now (λ z. refusal-some e (k ∙ z))) refl, tt)

pub mark_waiting-requires : goal.mark_waiting-requires
mark_waiting-requires c =
    let u = use-of (goal.at.mark_waiting-requires c).In_ok-ask in
    ((u.room, omega (arith, u.counts.waiting, u.places)), refl)

pub payload-requires : goal.payload-requires
payload-requires c =
    let u = use-of (goal.at.payload-requires c).In_ok-ask in
    (u.room, omega (arith, u.counts.waiting, u.places), u.jobs, c.mark_waiting.ensures)

pub returns-then-buffer-length : goal.returns-then-buffer-length
unfolding refuse
returns-then-buffer-length c =
    let a = c.args in
    let s = state_of a.c a.m.now in
    let e = form-is (goal.at.returns-then-buffer-length c).After-bytes_of-length in
    let short = lt-leb (length (saved_form s)) (length a.buffer.now) (omega (arith, e, c.if-buffer-length.true)) in
    (meets-refusal a.c s save a.m.now [] a.buffer.now Unready (sym (length-decides s a.m.now a.buffer.now (sym c.in_ok-ask.ensures) ∙ ap one short)) refl, tt)

pub write-requires : goal.write-requires
write-requires c =
    let u = use-of (goal.at.write-requires c).In_ok-ask in
    (u.room, omega (arith, u.counts.waiting, u.places), u.jobs, c.mark_waiting.ensures, omega (arith, c.payload.ensures), omega (arith, form-is (goal.at.write-requires c).After-bytes_of-length, c.if-buffer-length.false))

pub returns : goal.returns
unfolding bounds draws taken_of numbers_of sent_command handed handed_found found_number
returns c =
    let a = c.args in
    let s = state_of a.c a.m.now in
    let e = form-is (goal.at.returns c).After-bytes_of-length in
    let first = sym c.in_ok-ask.ensures in
    let fits = le-leb (length (saved_form s)) (length a.buffer.now) (omega (arith, e, c.if-buffer-length.false)) in (
      meets-yes a.c s save a.m.now [] a.buffer.now _ _ _ (record {
        yes = length-decides s a.m.now a.buffer.now first ∙ ap one fits;
        number = refl;
        taken = e;
        command = refl;
        found = refl;
        idle = λ k. refl;
        state = rest-kept s [] (first-yes s a.m.now a.buffer.now first).1;
        buffer = c.write.ensures;
        tail = refl;
      }),
      form-short (goal.at.returns c).After-bytes_of-length,
    )
