use lib.ListN.{length, take, drop}
use Prim.Native.Nat.{◌+◌, ◌-◌, ◌*◌, ◌/◌}
use mathlib.Core.Path.{◌≡◌, ap, ◌∙◌}
use native.Mathlib.Omega.{arith}
use Rattle.forms.specs.Bytes.{payload-length}
use Rattle.loading.specs.Records.{piece_is}
use Rattle.loading.proofs.records.piece.Goals as goal

pub slice_bounds-copy_from_slice-end : goal.slice_bounds-copy_from_slice-end
slice_bounds-copy_from_slice-end c = omega (arith, payload-length c.args.form.bytes.now)

pub returns : goal.returns
returns c =
    let a = c.args in
    let s = a.k + a.k / 508 * 4 in
    let n = length a.dst.now in
    let e : s + n - s ≡ n = omega arith in
    c.copy_from_slice.ensures.after ∙ ap (λ j. take j (drop s a.form.bytes.now)) e ∙ piece_is a.form.bytes.now n a.k a.form.whole c.requires.0 c.requires.1
