use mathlib.Core.Path.{refl}
use mathlib.Core.List.{[]}
use Rattle.rules.specs.Questions.{load}
use Rattle.exports.proofs.Exported.{exported-start, meets-small, of-accepted}
use Rattle.codec.specs.Codec.{Small}
use Rattle.contract.specs.Answers.{answered, cleared_client}
use Rattle.exports.proofs.rinwolfedd_load.Goals as goal

pub hand_back_opened-requires : goal.hand_back_opened-requires
hand_back_opened-requires c = of-accepted Small cleared_client _ (λ _. meets-small _ _ _ _ [] _ _ _ _ c.load-loaded.ensures tt)

pub returns : goal.returns
returns c =
    let h = c.hand_back_opened in
    let r = c.load-loaded in
    let a = c.args in
    let s = c.in-Some in
    let w = s.ensures.cases in
    rw (← w.same) (exported-start (load a.form.now) (λ x. refl) s.state.now a.memory.now [] (answered cleared_client r.result) h.result _ _ (rw w.same w.long) r.ensures tt h.ensures)
