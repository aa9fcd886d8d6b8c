use Rattle.std.proofs.Common.{sym, arith}
use Rattle.lines.specs.Numbers.{digit-in, digit_low, digit-high}
use Rattle.lines.proofs.digit.Goals as goal

pub returns-in-48-to-57 : goal.returns-in-48-to-57
returns-in-48-to-57 c = sym (digit-in c.args.x (omega arith) (omega arith))

pub returns-in_default : goal.returns-in_default
returns-in_default c = sym (digit_low _ (omega arith))

pub returns-in_default-2 : goal.returns-in_default-2
returns-in_default-2 c = sym (digit-high _ (omega arith))
