use contract.BorrowLft.{⊑_meet, ⊑_static}
use mathlib.Core.Path.{◌≡◌, ap, sym, ◌∙◌}
use mathlib.Core.List.{◌∷◌}
use Prim.Native.Nat.{◌+◌, ◌-◌, ◌*◌, ◌<◌}
use native.Mathlib.Omega.{arith}
use mir.Val.{Fits}
use mir.Syntax.{w64}
use Rattle.std.proofs.Common.{of_calls}
use Rattle.rules.specs.Form.Sums.{out_of_blocks}
use Rattle.forms.specs.At.{numbers_at, number_at}
use Rattle.forms.specs.Lists.{numbers-left, numbers-none}
use Rattle.loading.proofs.tables.numbers.Goals as goal

pub lay-requires : goal.lay-requires
lay-requires c = λ ks w.
    let p = out_of_blocks c.args.form.bytes.now in
    let n = c.args.n in
    let a = c.args.a in (
      search (⊑_meet, ⊑_static, w.0, w.1.0) depth 12,
      (
        c.requires.0,
        omega arith,
        record {
          may = λ i l.
              let low : a + i * 2 < 4294967295 = omega arith in
              let twice : Fits w64 (i * 2) = omega arith in
              let fits : Fits w64 (a + i * 2) = omega arith in
              search (of_calls, low, twice, fits);
          next = λ i x l e.
              let v : (x ≡ number_at p 2 (a + i * 2)) × (x < 65536) = search (of_calls, e) in
              (numbers-left p 2 n a i l ∙ ap (λ y. y ∷ numbers_at p 2 (n - (i + 1)) (a + (i + 1) * 2)) (sym v.0), v.1);
          end = numbers-none p 2 n (a + n * 2) n (omega arith);
        },
      ),
    )
