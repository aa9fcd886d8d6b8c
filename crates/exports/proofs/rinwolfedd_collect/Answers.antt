use mathlib.Core.Path.{refl}
use mathlib.Core.List.{[]}
use Rattle.rules.specs.Questions.{collect}
use Rattle.rules.specs.Laws.Answers.{opens}
use Rattle.exports.proofs.Exported.{exported, meets-small, of-accepted}
use Rattle.codec.specs.Codec.{Small}
use Rattle.contract.specs.Answers.{answered}
use Rattle.exports.proofs.rinwolfedd_collect.Goals as goal

pub hand_back-requires : goal.hand_back-requires
hand_back-requires c = of-accepted Small _ _ (λ _. meets-small _ _ _ _ [] _ _ _ _ c.collect-r.ensures tt)

pub returns : goal.returns
returns c =
    let h = c.hand_back in
    let r = c.collect-r in
    let d = c.decode-c in
    let a = c.args in
    let s = c.in-Some in
    let w = s.ensures.cases in
    rw (← w.same) (exported (collect) (unfold opens in refl) s.state.now a.memory.now [] a.buffer.now (answered d.result r.result) h.result _ _ _ (rw w.same w.long) (rw (← d.ensures) r.ensures) tt (h.ensures d.result))
