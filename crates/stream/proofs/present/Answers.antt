use Rattle.std.proofs.Common.{◌≡◌, refl, ◌∙◌, ℕ, Result, Ok, Err, ◌≤◌, length, subst, arith, rules, OnOk, OnErr}
use Rattle.std.proofs.lemmas.Result.{IfOk-weaker}
use Rattle.std.specs.Result.{result_unwrap_or}
use Rattle.client.specs.declared.Client.{Client}
use Rattle.contract.specs.declared.Refusal.{Refusal}
use Rattle.contract.specs.Answers.{answered_length}
use Rattle.std.specs.Io.KnownBytes.{Appends}
use Rattle.output.specs.Sent.{Part}
use Rattle.report.specs.Page.{page_room}
use Rattle.report.specs.Laws.{shows-shown, shows-small}
use Rattle.session.specs.Session.{memory_room}
use Rattle.stream.proofs.Turns.{followed-page}
use Rattle.stream.proofs.present.Goals as goal

-- a page that is refused has no length
length-told : (c : Client) (r : Result ℕ Refusal) → result_unwrap_or r 0 ≡ (answered_length c r).taken
length-told c (Ok n) = refl
length-told c (Err e) = refl

pub show-requires : goal.show-requires
show-requires g c =
    let long : length c.args.memory.now ≡ memory_room = search rules in
    let room : page_room ≤ length c.args.out.now = omega arith in
    let size = c.unwrap_or-n.ensures ∙ length-told c.args.s.session.client c.write.result in
    let written = rw (long, ← size) at (shows-shown _ _ _ _ _ _ room c.write.ensures) in
    (omega (arith, size, (shows-small _ _ _ _ _ _ c.write.ensures).1), followed-page _ _ _ _ _ c.requires refl _ written.1)

pub returns-clause-count : goal.returns-clause-count
returns-clause-count g c =
    let long : length c.args.memory.now ≡ memory_room = search rules in
    let room : page_room ≤ length c.args.out.now = omega arith in
    let size = c.unwrap_or-n.ensures ∙ length-told c.args.s.session.client c.write.result in
    let written = rw (long, ← size) at (shows-shown _ _ _ _ _ _ room c.write.ensures) in
    IfOk-weaker c.show.result _ _ (λ n e. e ∙ written.0) c.show.ensures.count

pub returns-clause-all : goal.returns-clause-all
returns-clause-all g c =
    let long : length c.args.memory.now ≡ memory_room = search rules in
    let room : page_room ≤ length c.args.out.now = omega arith in
    let size = c.unwrap_or-n.ensures ∙ length-told c.args.s.session.client c.write.result in
    let written = rw (long, ← size) at (shows-shown _ _ _ _ _ _ room c.write.ensures) in
    subst (λ t. OnOk c.show.result (Appends (g.W.Write.contents c.args.writer.now) (g.W.Write.contents c.show.new.writer) t)) written.1 c.show.ensures.all

pub returns-clause-part : goal.returns-clause-part
returns-clause-part g c =
    let long : length c.args.memory.now ≡ memory_room = search rules in
    let room : page_room ≤ length c.args.out.now = omega arith in
    let size = c.unwrap_or-n.ensures ∙ length-told c.args.s.session.client c.write.result in
    let written = rw (long, ← size) at (shows-shown _ _ _ _ _ _ room c.write.ensures) in
    subst (λ t. OnErr c.show.result (Part t (g.W.Write.contents c.args.writer.now) (g.W.Write.contents c.show.new.writer))) written.1 c.show.ensures.part
