use Rattle.std.proofs.Common.{sym, ◌∙◌}
use Rattle.lines.specs.Numbers.{number_in, number-not}
use Rattle.lines.proofs.number.Goals as goal

pub returns-then-begins : goal.returns-then-begins
returns-then-begins c = c.digits.ensures ∙ sym (number_in _ (sym c.begins.ensures ∙ c.if-begins.true))

pub returns-else-begins : goal.returns-else-begins
returns-else-begins c = sym (number-not _ (sym c.begins.ensures ∙ c.if-begins.false))
