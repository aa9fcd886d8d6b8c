use mathlib.Core.Path.{refl, ◌∙◌}
use mathlib.Core.List.{[]}
use Rattle.rules.specs.Questions.{save}
use Rattle.rules.specs.Laws.Answers.{opens}
use Rattle.contract.specs.Answers.{answered_length}
use Rattle.exports.proofs.Exported.{exported-read, meets-small, saved-client, saved-short}
use Rattle.exports.proofs.rinwolfedd_save.Goals as goal

pub tell-requires : goal.tell-requires
tell-requires c = let r = c.save in meets-small _ _ save _ [] _ _ _ _ r.ensures.0 (saved-short c.decode-c.result r.result r.ensures.1)

pub returns : goal.returns
returns c =
    let r = c.save in
    let d = c.decode-c in
    let a = c.args in
    let s = c.in-Some in
    let w = s.ensures.cases in
    rw (← w.same) (exported-read save (unfold opens in refl) s.state.now a.memory.now [] a.buffer.now (answered_length d.result r.result) c.tell.result _ _ (rw w.same w.long)
    (rw (← d.ensures) r.ensures.0) (saved-short d.result r.result r.ensures.1) (saved-client d.result r.result ∙ d.ensures) c.tell.ensures)
