use mathlib.Core.Path.{◌≡◌, refl}
use mathlib.Core.Bool.{true}
use lib.ListN.{length}
use Rattle.rules.specs.Questions.{ready}
use Rattle.memory.specs.Words.{word_at}
use Rattle.client.specs.View.{state_of}
use Rattle.codec.specs.Codec.{Small, client_of, with_turn}
use Rattle.contract.specs.Answers.{answered}
use Rattle.exports.proofs.Exported.{of-accepted}
use Rattle.exports.proofs.Stored.{turn_small, turn-ready, exported-turn}
use Rattle.exports.proofs.rinwolfedd_turn.Goals as goal

pub hand_back_turn-requires : goal.hand_back_turn-requires
hand_back_turn-requires c =
    let p = c.perform-r in
    let l = c.looked_at in
    let d = c.decode-c in
    let a = c.args in
    let s = c.in-Some in
    let k = rw (l.ensures.1 a.tape.now refl) at p.ensures in
    let r = answered d.result p.result in
    of-accepted (λ r. Small r × (ready (state_of (client_of (with_turn r.kind r.client (word_at s.state.now))) p.new.m) (length p.new.m) ≡ true)) d.result p.result (λ z. (
      turn_small s.state.now a.memory.now a.tape.now a.buffer.now d.result r _ _ d.ensures k,
      turn-ready s.state.now a.memory.now a.tape.now a.buffer.now d.result r _ _ d.ensures k z,
    ))

pub returns : goal.returns
returns c =
    let h = c.hand_back_turn in
    let r = c.perform-r in
    let l = c.looked_at in
    let d = c.decode-c in
    let a = c.args in
    let s = c.in-Some in
    let w = s.ensures.cases in
    let k = rw (l.ensures.1 a.tape.now refl) at r.ensures in
    rw (← w.same) (exported-turn s.state.now a.memory.now a.tape.now a.buffer.now d.result (answered d.result r.result) _ _ d.ensures k h.result _ (rw w.same w.long) (h.ensures d.result))
