use mathlib.Core.Path.{ap, sym, ◌∙◌}
use native.Mathlib.Omega.{arith}
use lib.ListN.{take}
use Rattle.exports.proofs.Exported.{looked-whole}
use Rattle.exports.proofs.looked_at.Goals as goal

pub returns-then-len-lt8589934590 : goal.returns-then-len-lt8589934590
returns-then-len-lt8589934590 c = (omega arith, (λ t e. ap (λ n. take n t) (sym e) ∙ looked-whole t (omega arith)))
