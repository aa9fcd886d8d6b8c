use mathlib.Core.Path.{refl}
use mathlib.Core.List.{[]}
use Rattle.rules.specs.Questions.{request}
use Rattle.rules.specs.Laws.Answers.{opens}
use Rattle.exports.proofs.Exported.{exported, meets-small, of-accepted}
use Rattle.codec.specs.Codec.{Small}
use Rattle.contract.specs.Answers.{answered}
use Rattle.exports.proofs.rinwolfedd_request.Goals as goal

pub hand_back-requires : goal.hand_back-requires
hand_back-requires c =
    let l = c.looked_at in
    let a = c.args in
    of-accepted Small _ _ (λ _. meets-small _ _ _ _ a.tape.now _ _ _ _ (rw (l.ensures.1 a.tape.now refl) at c.request-r.ensures) tt)

pub returns : goal.returns
returns c =
    let h = c.hand_back in
    let r = c.request-r in
    let l = c.looked_at in
    let d = c.decode-c in
    let a = c.args in
    let s = c.in-Some in
    let w = s.ensures.cases in
    let k = rw (l.ensures.1 a.tape.now refl) at r.ensures in
    rw (← w.same) (exported (request a.kind a.block a.contents.now) (unfold opens in refl) s.state.now a.memory.now a.tape.now [] (answered d.result r.result) h.result _ _ _ (rw w.same w.long) (rw (← d.ensures) k) tt (h.ensures d.result))
