use native.Mathlib.Omega.{arith}
use Rattle.printing.specs.Laws.{digit_low, digit-high}
use Rattle.printing.proofs.digit.Goals as goal

pub returns-in-0-to-9 : goal.returns-in-0-to-9
returns-in-0-to-9 c = omega (arith, digit_low c.args.d (omega arith))

pub returns-in_default : goal.returns-in_default
returns-in_default c = omega (arith, digit-high c.args.d (omega arith))
