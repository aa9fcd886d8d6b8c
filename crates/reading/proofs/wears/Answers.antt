use mathlib.Core.Path.{ap, sym, ◌∙◌}
use lib.Dec.{leb}
use Rattle.rules.specs.Levels.{filled}
use Rattle.client.specs.Readings.{counter-is}
use Rattle.client.specs.View.{state_of, view}
use Rattle.reading.specs.Conditions.{worn-empty, worn-other}
use Rattle.reading.proofs.wears.Goals as goal

pub returns-then-not-filled : goal.returns-then-not-filled
returns-then-not-filled c =
    let empty = ap (λ k. filled k c.args.l) (counter-is c.args.c c.args.m.now c.args.q c.args.counter c.requires.1) ∙ sym c.filled.ensures ∙ c.if-not-filled.true in
    sym (worn-empty (state_of c.args.c c.args.m.now) c.args.q c.args.l empty)

pub returns : goal.returns
unfolding state_of view
returns c =
    let full = ap (λ k. filled k c.args.l) (counter-is c.args.c c.args.m.now c.args.q c.args.counter c.requires.1) ∙ sym c.filled.ensures ∙ c.if-not-filled.false in
    ap (λ x. leb x c.reads.result) c.pow2.ensures.0 ∙ ap (leb _) c.reads.ensures.0
    ∙ sym (worn-other (state_of c.args.c c.args.m.now) c.args.q c.args.l full c.requires.2)
