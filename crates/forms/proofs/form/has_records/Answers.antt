use mathlib.Core.Path.{sym}
use native.Mathlib.Omega.{arith}
use Rattle.rules.specs.Form.Sums.{out_of_blocks}
use Rattle.forms.specs.Answers.{records-long, records-short, records-are}
use Rattle.forms.specs.Bytes.{payload-length}
use Rattle.forms.proofs.form.has_records.Goals as goal

pub returns-then-len-end : goal.returns-then-len-end
returns-then-len-end c =
    let a = c.args in
    let p = out_of_blocks a.form.bytes.now in
    sym (records-long p a.h.n a.h.b a.from a.n a.at (omega (arith, payload-length a.form.bytes.now)))

pub returns-then-len-end-ge508 : goal.returns-then-len-end-ge508
returns-then-len-end-ge508 c =
    let a = c.args in
    let p = out_of_blocks a.form.bytes.now in
    sym (records-short p a.h.n a.h.b a.from a.n a.at (omega (arith, payload-length a.form.bytes.now)) (omega (arith, payload-length a.form.bytes.now)))

pub returns : goal.returns
returns c =
    let a = c.args in
    let p = out_of_blocks a.form.bytes.now in
    rw (c.are_zeros.ensures, c.are_aged.ensures, c.are_named.ensures) (sym (records-are p a.h.n a.h.b a.from a.n a.at (omega (arith, payload-length a.form.bytes.now)) (omega (arith, payload-length a.form.bytes.now))))
