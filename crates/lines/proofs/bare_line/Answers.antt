use mathlib.Core.Path.{sym}
use native.Mathlib.Omega.{arith}
use Rattle.lines.specs.Fields.{bare-more, bare-none}
use Rattle.lines.proofs.bare_line.Goals as goal

pub returns-then-line-gt1 : goal.returns-then-line-gt1
returns-then-line-gt1 c = (λ b. sym (bare-more _ c.args.line.now (omega arith)), tt)

pub returns : goal.returns
returns c = (λ b. sym (bare-none _ c.args.line.now (omega arith)), c.requires)
