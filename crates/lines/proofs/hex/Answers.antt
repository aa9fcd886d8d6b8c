use Rattle.std.proofs.Common.{◌≡◌, sym, ap, ◌∙◌, ◌+◌, ◌-◌, arith, Some}
use Rattle.lines.specs.Numbers.{hex-in, hex-low, hex-high}
use Rattle.lines.proofs.hex.Goals.{in_default-via-then-x-lt97, in_default-via-else-x-lt97+else-x-lt103}
use Rattle.lines.proofs.hex.Goals as goal

pub returns-in-97-to-102 : goal.returns-in-97-to-102
returns-in-97-to-102 c =
    let ten : c.args.x - 97 + 10 ≡ c.args.x - 87 = omega arith in
    ap Some ten ∙ sym (hex-in c.args.x (omega arith) (omega arith))

pub returns-in_default : goal.returns-in_default
returns-in_default c =
    c.digit.ensures
    ∙ sym (elim c.in_default.branch [ in_default-via-then-x-lt97 w ↦ hex-low c.args.x (omega arith) | in_default-via-else-x-lt97+else-x-lt103 w ↦ hex-high c.args.x (omega arith) ])
