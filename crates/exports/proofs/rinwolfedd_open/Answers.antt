use mathlib.Core.Path.{refl}
use Rattle.rules.specs.Questions.{opening}
use Rattle.exports.specs.Exported.{numbers}
use Rattle.exports.proofs.Exported.{exported-start, meets-small, of-accepted}
use Rattle.codec.specs.Codec.{Small}
use Rattle.contract.specs.Answers.{answered, cleared_client}
use Rattle.exports.proofs.rinwolfedd_open.Goals as goal

pub hand_back_opened-requires : goal.hand_back_opened-requires
hand_back_opened-requires c =
    let l = c.looked_at in
    let a = c.args in
    of-accepted Small cleared_client _ (λ _. meets-small _ _ _ _ a.tape.now _ _ _ _ (rw (l.ensures.1 a.tape.now refl) at c.open-r.ensures) tt)

pub returns : goal.returns
returns c =
    let l = c.looked_at in
    let a = c.args in
    let s = c.in-Some in
    let w = s.ensures.cases in
    rw (← w.same) (exported-start (opening (numbers a.n a.p a.l a.b a.e a.w)) (λ x. refl) s.state.now a.memory.now a.tape.now (answered cleared_client c.open-r.result) c.hand_back_opened.result _ _ (rw w.same w.long) (rw (l.ensures.1 a.tape.now refl) at c.open-r.ensures) tt c.hand_back_opened.ensures)
