use native.Mathlib.Omega.{arith}
use Rattle.rules.specs.Form.Sums.{out_of_blocks}
use Rattle.forms.specs.Bytes.{number-two}
use Rattle.forms.proofs.bytes.Form.number.Goals as goal

pub returns : goal.returns
returns c =
    let a = c.args in
    omega (arith, number-two (out_of_blocks a.self.bytes.now) a.k, c.byte-2.ensures, c.byte.ensures)
