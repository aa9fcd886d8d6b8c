use mathlib.Core.Path.{◌≡◌, ap, ◌∙◌}
use native.Mathlib.Omega.{arith}
use Rattle.rules.specs.Form.Sums.{out_of_blocks}
use Rattle.lists.specs.Lengths.{bit}
use Rattle.rules.specs.Form.Reading.{is_waiting}
use Rattle.forms.specs.At.{block_at, wait_count}
use Rattle.forms.specs.Walks.{bit_from, bit_low, wait-left, wait-none, blocks-all}
use Rattle.forms.proofs.blocks.waiting.Goals as goal

pub loop-b-init : goal.loop-b-init
loop-b-init c = let a = c.args in (omega arith, omega arith, omega (arith, ap wait_count (blocks-all (out_of_blocks a.form.bytes.now) a.n a.from)))

pub loop-b-preserved : goal.loop-b-preserved
loop-b-preserved c =
    let l = c.loop-b in
    let a = c.args in
    let p = out_of_blocks a.form.bytes.now in
    let t = is_waiting (block_at p 1 l.at) in
    let w : c.from-count.result ≡ bit t = c.from-count.ensures ∙ bit_from c.waits.result ∙ ap bit c.waits.ensures in
    let e = wait-left p a.n l._b l.at (omega arith) in
    let z = c.size-at.ensures.0 in
    (omega arith, omega (arith, w, bit_low t), rw z (omega (arith, w, e, l.invariant.2)))

pub returns : goal.returns
returns c =
    let l = c.loop-b in
    let a = c.args in
    (omega (arith, l.invariant.2, wait-none (out_of_blocks a.form.bytes.now) a.n l._b l.at (omega arith)), omega arith)
