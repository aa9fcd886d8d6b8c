use mathlib.Core.Path.{◌≡◌}
use mathlib.Core.Bool.{true}
use lib.ListN.{length}
use Rattle.rules.specs.State.{cmd}
use Rattle.rules.specs.Questions.{ready}
use Rattle.memory.specs.Words.{word_at}
use Rattle.client.specs.View.{state_of}
use Rattle.codec.specs.Codec.{Small, client_of, with_completion}
use Rattle.contract.specs.Answers.{answered}
use Rattle.exports.proofs.Exported.{of-accepted}
use Rattle.exports.proofs.Stored.{completion-small, completion-ready, exported-completion}
use Rattle.exports.proofs.rinwolfedd_completion.Goals as goal

pub hand_back_completion-requires : goal.hand_back_completion-requires
hand_back_completion-requires c =
    let p = c.perform-r in
    let d = c.decode-c in
    let a = c.args in
    let s = c.in-Some in
    let x = cmd a.kind a.partition a.level a.slot in
    let r = answered d.result p.result in
    of-accepted (λ r. Small r × (ready (state_of (client_of (with_completion a.kind r.client (word_at s.state.now))) p.new.m) (length p.new.m) ≡ true)) d.result p.result (λ z. (
      completion-small s.state.now a.memory.now x a.bytes.now d.result r _ d.ensures p.ensures,
      completion-ready s.state.now a.memory.now x a.bytes.now d.result r _ d.ensures p.ensures z,
    ))

pub returns : goal.returns
returns c =
    let h = c.hand_back_completion in
    let r = c.perform-r in
    let d = c.decode-c in
    let a = c.args in
    let s = c.in-Some in
    let w = s.ensures.cases in
    rw (← w.same) (exported-completion s.state.now a.memory.now (cmd a.kind a.partition a.level a.slot) a.bytes.now d.result (answered d.result r.result) _ d.ensures r.ensures h.result _ (rw w.same w.long) (h.ensures d.result))
