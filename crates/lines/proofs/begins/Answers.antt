use mathlib.Core.Path.{sym}
use native.Mathlib.Omega.{arith}
use Rattle.lines.specs.Numbers.{begins-short, begins-long}
use Rattle.lines.proofs.begins.Goals as goal

pub returns-then-s-lt2 : goal.returns-then-s-lt2
returns-then-s-lt2 c = sym (begins-short _ (omega arith))

pub returns : goal.returns
returns c = sym (begins-long _ (omega arith))
