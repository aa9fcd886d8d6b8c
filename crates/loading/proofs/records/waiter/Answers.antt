use mathlib.Core.Path.{◌≡◌, ap, ◌∙◌}
use mathlib.Core.List.{List}
use Prim.Native.Nat.{ℕ, ◌+◌, ◌-◌}
use native.Mathlib.Omega.{arith}
use lib.ListN.{length, take, drop, replicate, length-take, length-drop, length-replicate}
use lib.Seq.{take_at}
use Rattle.rules.specs.Form.Sums.{out_of_blocks}
use Rattle.memory.specs.Fits.{shape_of}
use Rattle.memory.specs.Tables.{tables_of}
use Rattle.forms.specs.At.{bytes_at, waiter_at}
use Rattle.loading.specs.Records.{record-put}
use Rattle.loading.proofs.records.waiter.Goals as goal

pub set-requires : goal.set-requires
unfolding waiter_at
set-requires c =
    omega (arith, c.requires.3, c.number-b.ensures, c.number-age.ensures)

pub store-requires : goal.store-requires
unfolding waiter_at
store-requires c = omega (arith, c.requires.3, c.number-b.ensures)

pub returns : goal.returns
returns c =
    let a = c.args in
    let r = c.contents in
    let n = a.h.b - 0 in
    let e : length r.new.dst ≡ n = omega arith in
    let z : List ℕ = replicate 512 0 in
    let l : length (take n (drop 0 z)) ≡ a.h.b = omega (arith, length-take n (drop 0 z), length-drop 0 z, length-replicate {A = ℕ} 512 0) in
    record-put (out_of_blocks a.form.bytes.now) a.h.b a.at c.number-b.result c.number-age.result _ (tables_of (shape_of a.h) a.m.now) _ _
    c.number-b.ensures.0 c.number-age.ensures.0 (take_at r.new.dst (drop n (replicate 512 0)) n e ∙ r.ensures ∙ ap (λ j. bytes_at (out_of_blocks a.form.bytes.now) j (a.at + 4)) l) c.set.ensures c.store.ensures
