use mathlib.Core.Path.{sym, ◌∙◌}
use native.Mathlib.Omega.{arith}
use Rattle.lines.specs.Told.{line-by, line-none}
use Rattle.lines.specs.Lines.{by_letter}
use Rattle.lines.proofs.read_line.Goals as goal

pub returns-in-79 : goal.returns-in-79
unfolding by_letter
returns-in-79 c = (c.open_line.ensures.0 _ ∙ sym (line-by _ _ c.letter.ensures 79 c.in-79.is (λ e. omega arith)), c.open_line.ensures.1)

pub returns-in-82 : goal.returns-in-82
unfolding by_letter
returns-in-82 c = (c.block_line.ensures.0 _ ∙ sym (line-by _ _ c.letter.ensures 82 c.in-82.is (λ e. omega arith)), c.block_line.ensures.1)

pub returns-in-87 : goal.returns-in-87
unfolding by_letter
returns-in-87 c = (c.write_line.ensures.0 ∙ sym (line-by _ _ c.letter.ensures 87 c.in-87.is (λ e. omega arith)), c.write_line.ensures.1)

pub returns-in-116 : goal.returns-in-116
unfolding by_letter
returns-in-116 c = (c.bare_line.ensures.0 _ ∙ sym (line-by _ _ c.letter.ensures 116 c.in-116.is (λ e. omega arith)), c.bare_line.ensures.1)

pub returns-in-67 : goal.returns-in-67
unfolding by_letter
returns-in-67 c = (c.bare_line-in-67.ensures.0 _ ∙ sym (line-by _ _ c.letter.ensures 67 c.in-67.is (λ e. omega arith)), c.bare_line-in-67.ensures.1)

pub returns-in_default : goal.returns-in_default
returns-in_default c = (sym (line-none _ _ c.letter.ensures (λ e. omega arith) (λ e. omega arith) (λ e. omega arith) (λ e. omega arith) (λ e. omega arith)), tt)
