use native.Mathlib.Omega.{arith}
use Rattle.lines.specs.Fields.{led-none, led-long, led-alone}
use Rattle.lines.proofs.letter.Goals as goal

pub returns-in-len1 : goal.returns-in-len1
returns-in-len1 c = led-alone c.args.line.now (omega arith) (λ k. absurd (omega arith))

pub returns-in-32 : goal.returns-in-32
returns-in-32 c = led-alone c.args.line.now (omega arith) (λ k. omega arith)

pub returns-in_default : goal.returns-in_default
returns-in_default c = led-none _ (omega arith)

pub returns-in_default-2 : goal.returns-in_default-2
returns-in_default-2 c = led-long c.args.line.now (omega arith) (λ e. omega arith)
