use mathlib.Core.Path.{◌≡◌, refl, ap, ◌∙◌}
use Prim.Native.Nat.{◌+◌, ◌-◌}
use native.Mathlib.Omega.{arith}
use lib.ListN.{length, take, drop, length-take, length-drop}
use Rattle.rules.specs.Form.Sums.{out_of_blocks}
use Rattle.forms.specs.At.{bytes_at}
use Rattle.loading.specs.Records.{more-there}
use Rattle.loading.proofs.records.contents.Goals as goal

pub loop-i-init : goal.loop-i-init
loop-i-init c = (omega arith, refl, refl, unfold bytes_at in refl)

pub loop-i-preserved : goal.loop-i-preserved
loop-i-preserved c =
    let l = c.loop-i in
    let a = c.args in
    let e = l.i + c.inside.result in
    let n : length (take (e - l.i) (drop l.i l.dst)) ≡ e - l.i = omega (arith, length-take (e - l.i) (drop l.i l.dst), length-drop l.i l.dst) in
    let v = c.piece.ensures ∙ ap (λ j. bytes_at (out_of_blocks a.form.bytes.now) j (a.k + l.i)) n in
    (omega arith, refl, omega arith, more-there (out_of_blocks a.form.bytes.now) a.k l.i e l.dst _ (omega arith) (omega arith) l.invariant.3 v)
