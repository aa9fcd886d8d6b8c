use Prim.Native.Nat.{◌-◌}
use mathlib.Core.Path.{ap}
use mathlib.Core.List.{◌++◌}
use lib.ListN.{replicate, length-replicate}
use native.Mathlib.Omega.{arith}
use Rattle.printing.specs.Text.{blank, decimal}
use Rattle.printing.specs.Columns.{column}
use Rattle.lists.specs.Written.{followed, same_text}
use Rattle.printing.proofs.columns.column.Goals as goal

pub returns : goal.returns
unfolding column
returns c =
    let a = c.args in
    let blank-count = length-replicate (a.columns - c.width.result) blank in
    let text = followed c.blanks-k.ensures c.digits.ensures in
    (omega (arith, c.digits.ensures.place, c.blanks-k.ensures.place), same_text (ap (λ w. replicate (a.columns - w) blank ++ decimal a.n) c.width.ensures) text)
