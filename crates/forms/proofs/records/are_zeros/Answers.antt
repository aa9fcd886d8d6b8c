use mathlib.Core.Path.{refl, sym, ◌∙◌}
use native.Mathlib.Omega.{arith}
use Rattle.rules.specs.Form.Sums.{out_of_blocks}
use Rattle.forms.specs.Bytes.{payload-length}
use Rattle.forms.specs.Records.{zeros-more, zeros-not, zeros-end}
use Rattle.forms.proofs.records.are_zeros.Goals as goal

pub returns-then-byte-ne0 : goal.returns-then-byte-ne0
returns-then-byte-ne0 c =
    let l = c.loop-k in
    let f = c.args.form.bytes.now in
    sym (sym l.invariant.1 ∙ zeros-not (out_of_blocks f) l.k (omega (arith, payload-length f)) (λ e. omega (arith, c.byte.ensures.0)))

pub loop-k-preserved : goal.loop-k-preserved
loop-k-preserved c =
    let l = c.loop-k in
    let f = c.args.form.bytes.now in
    (refl, zeros-more (out_of_blocks f) l.k (omega (arith, payload-length f)) (omega (arith, c.byte.ensures.0)) ∙ l.invariant.1)

pub returns : goal.returns
returns c =
    let l = c.loop-k in
    let f = c.args.form.bytes.now in
    sym (sym l.invariant.1 ∙ zeros-end (out_of_blocks f) l.k (omega (arith, payload-length f)))
