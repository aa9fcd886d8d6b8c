use mathlib.Core.Path.{sym, ◌∙◌}
use native.Mathlib.Omega.{arith}
use Rattle.levels.specs.Walks.{kept-hit, kept-miss, kept-done}
use Rattle.levels.proofs.next_filled.Goals as goal

pub returns-then-filled : goal.returns-then-filled
returns-then-filled c =
    let l = c.loop-l in
    record { start = omega arith; end = omega arith; passes = l.invariant ∙ kept-hit _ _ l.l (omega arith) (sym c.filled.ensures ∙ c.if-filled.true) }

pub loop-l-preserved : goal.loop-l-preserved
loop-l-preserved c =
    let l = c.loop-l in
    l.invariant ∙ kept-miss _ _ l.l (omega arith) (sym c.filled.ensures ∙ c.if-filled.false)

pub returns : goal.returns
returns c =
    let l = c.loop-l in
    l.invariant ∙ kept-done _ _ l.l (omega arith)
