use mathlib.Core.Path.{sym, ◌∙◌, subst}
use Rattle.tape.specs.Tape.{words_of}
use Rattle.tape.specs.Settled.{OrderTo, level-empty, level-filled}
use Rattle.tape.proofs.level_end.Goals as goal

pub returns-then-not-filled : goal.returns-then-not-filled
returns-then-not-filled c =
    level-empty c.args.next c.args.l (words_of c.args.t.now) c.args.from (sym c.filled.ensures ∙ c.if-not-filled.true) c.requires.0

pub returns : goal.returns
returns c =
    let a = c.args in
    let x = subst (λ n. OrderTo n (words_of a.t.now) a.from c.order_end.result) c.pow2.ensures.0 c.order_end.ensures in
    level-filled a.next a.l (words_of a.t.now) a.from c.order_end.result (sym c.filled.ensures ∙ c.if-not-filled.false) x
