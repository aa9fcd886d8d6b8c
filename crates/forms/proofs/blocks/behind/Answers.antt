use mathlib.Core.Path.{ap}
use Prim.Native.Nat.{◌+◌}
use native.Mathlib.Omega.{arith}
use Rattle.rules.specs.Form.Sums.{out_of_blocks}
use Rattle.forms.specs.Walks.{size-left, size_none, size-all}
use Rattle.forms.proofs.blocks.behind.Goals as goal

pub loop-b-init : goal.loop-b-init
loop-b-init c = let a = c.args in (omega arith, ap (λ k. a.from + k) (size-all (out_of_blocks a.form.bytes.now) a.n a.from))

pub loop-b-preserved : goal.loop-b-preserved
loop-b-preserved c =
    let l = c.loop-b in
    let a = c.args in
    let p = out_of_blocks a.form.bytes.now in
    let e = size-left p a.n l._b l.at (omega arith) in
    let z = c.size-at.ensures.0 in
    (omega arith, rw z (omega (arith, e, l.invariant.1)))

pub returns : goal.returns
returns c =
    let l = c.loop-b in
    let a = c.args in
    (omega (arith, l.invariant.1, size_none (out_of_blocks a.form.bytes.now) a.n l._b l.at (omega arith)), omega arith)
