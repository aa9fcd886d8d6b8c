use native.Mathlib.Omega.{arith}
use Rattle.rules.specs.Form.Sums.{out_of_blocks}
use Rattle.forms.specs.Blocks.{block-four, block-three}
use Rattle.forms.proofs.blocks.size.Goals as goal

pub returns-then-byte-lt-WAITING : goal.returns-then-byte-lt-WAITING
returns-then-byte-lt-WAITING c =
    let a = c.args in
    let e = c.byte.ensures in
    omega (arith, block-four (out_of_blocks a.form.bytes.now) a.at (omega arith))

pub returns-else-byte-lt-WAITING : goal.returns-else-byte-lt-WAITING
returns-else-byte-lt-WAITING c =
    let a = c.args in
    let e = c.byte.ensures in
    omega (arith, block-three (out_of_blocks a.form.bytes.now) a.at (omega arith) (omega arith))
