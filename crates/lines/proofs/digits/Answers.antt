use Rattle.std.proofs.Common.{sym, ap, ◌∙◌, ◌+◌, ◌*◌, drop, arith}
use Rattle.lines.specs.Lines.{at_most, digits}
use Rattle.lines.specs.Numbers.{most-in, most-none, digit-small, digits_more, digits-not, digits-end, digits-large}
use Rattle.lines.proofs.digits.Goals as goal

pub returns-in_err-digit : goal.returns-in_err-digit
returns-in_err-digit c =
    let l = c.loop-x in
    c.from_residual.ensures ∙ sym (ap (at_most 65535) (l.invariant.1 ∙ digits-not l.v _ l.x-index (omega arith) (sym c.digit.ensures ∙ c.in_err-digit.was)) ∙ most-none 65535)

pub overflow_add-v : goal.overflow_add-v
overflow_add-v c = omega (arith, digit-small _ _ (sym c.digit.ensures ∙ c.in_ok-digit.was))

pub returns-then-v-gt65535 : goal.returns-then-v-gt65535
returns-then-v-gt65535 c =
    let l = c.loop-x in
    sym (ap (at_most 65535) (l.invariant.1 ∙ digits_more l.v _ l.x-index _ (omega arith) (sym c.digit.ensures ∙ c.in_ok-digit.was)) ∙ digits-large 65535 _ _ (omega arith))

pub loop-x-preserved : goal.loop-x-preserved
loop-x-preserved c =
    let l = c.loop-x in
    (omega arith, l.invariant.1 ∙ digits_more l.v _ l.x-index _ (omega arith) (sym c.digit.ensures ∙ c.in_ok-digit.was) ∙ ap (λ d. digits (l.v * 10 + d) (drop (l.x-index + 1) c.args.s.now)) (sym c.from.ensures))

pub returns : goal.returns
returns c =
    let l = c.loop-x in
    sym (ap (at_most 65535) (l.invariant.1 ∙ digits-end l.v _ l.x-index (omega arith)) ∙ most-in 65535 l.v (omega arith))
