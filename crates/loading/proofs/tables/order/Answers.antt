use contract.BorrowLft.{⊑_meet, ⊑_static}
use mathlib.Core.Path.{◌≡◌, ap, sym, ◌∙◌}
use mathlib.Core.List.{◌∷◌}
use Prim.Native.Nat.{◌+◌, ◌-◌, ◌<◌}
use native.Mathlib.Omega.{arith}
use lib.ListN.{get_or}
use mir.Val.{Fits}
use mir.Syntax.{w64}
use Rattle.std.proofs.Common.{of_calls}
use Rattle.rules.specs.Form.Sums.{out_of_blocks}
use Rattle.forms.specs.At.{bytes_at}
use Rattle.forms.specs.Levels.{bytes_left, bytes-none}
use Rattle.loading.proofs.tables.order.Goals as goal

pub lay-requires : goal.lay-requires
lay-requires c = λ ks w.
    let p = out_of_blocks c.args.form.bytes.now in
    let n = c.args.n in
    let a = c.args.a in (
      search (⊑_meet, ⊑_static, w.0, w.1.0) depth 12,
      (
        c.requires.0,
        omega arith,
        record {
          may = λ i l.
              let low : a + i < 4294967296 = omega arith in
              let fits : Fits w64 (a + i) = omega arith in
              search (of_calls, low, fits);
          next = λ i x l e.
              let v : (x ≡ get_or p (a + i) 0) × (x < 256) = search (of_calls, e) in
              (bytes_left p n a i l ∙ ap (λ y. y ∷ bytes_at p (n - (i + 1)) (a + (i + 1))) (sym v.0), omega (arith, v.1));
          end = bytes-none p n (a + n) n (omega arith);
        },
      ),
    )
