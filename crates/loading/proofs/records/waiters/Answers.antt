use mathlib.Core.Path.{refl, ap, sym, ◌∙◌, subst}
use Prim.Native.Nat.{◌+◌}
use native.Mathlib.Omega.{arith}
use Rattle.lists.specs.All.{All}
use Rattle.rules.specs.Form.Sums.{out_of_blocks}
use Rattle.rules.proofs.Laws.Layout.{stride-le}
use Rattle.memory.specs.Fits.{shape_of}
use Rattle.memory.specs.Tables.{tables_of}
use Rattle.forms.specs.At.{waiter_at}
use Rattle.forms.specs.Bounds.{times-le}
use Rattle.forms.specs.Lists.{all-next}
use Rattle.loading.specs.Records.{InStore, records_left, records-left, records-none, records-all, put_records, records-put, no-records}
use Rattle.loading.proofs.records.waiters.Goals as goal

pub loop-i-init : goal.loop-i-init
loop-i-init c =
    let a = c.args in
    let p = out_of_blocks a.form.bytes.now in (
      refl,
      omega arith,
      subst (All (InStore a.h.n)) (sym (records-all p a.h.b a.n a.from)) c.requires.4,
      ap (λ rs. put_records rs (tables_of (shape_of a.h) a.m.now)) (records-all p a.h.b a.n a.from),
    )

pub waiter-requires : goal.waiter-requires
waiter-requires c =
    let l = c.loop-i in
    let a = c.args in
    let f = c.requires.0 in
    let step = stride-le a.n l._i (4 + a.h.b) (omega arith) in
    (rw l.invariant.0 f, omega (arith, step, times-le a.n (4 + a.h.b) c.requires.2 (omega (arith, f.bytes))), omega (arith, step, c.requires.3), (all-next _ _ (records-left (out_of_blocks a.form.bytes.now) a.h.b a.n l._i l.at (omega arith)) l.invariant.2).0)

pub loop-i-preserved : goal.loop-i-preserved
loop-i-preserved c =
    let l = c.loop-i in
    let a = c.args in
    let p = out_of_blocks a.form.bytes.now in
    let t = tables_of (shape_of a.h) l.m in
    let left = records-left p a.h.b a.n l._i l.at (omega arith) in
    let rest = records_left p a.h.b a.n (l._i + 1) (l.at + (4 + a.h.b)) in (
      omega arith,
      omega arith,
      (all-next _ rest left l.invariant.2).1,
      ap (put_records rest) c.waiter.ensures ∙ records-put (waiter_at p a.h.b l.at) rest t ∙ sym (ap (λ rs. put_records rs t) left) ∙ l.invariant.3,
    )

pub returns : goal.returns
returns c =
    let l = c.loop-i in
    let a = c.args in
    let t = tables_of (shape_of a.h) l.m in
    sym (ap (λ rs. put_records rs t) (records-none (out_of_blocks a.form.bytes.now) a.h.b a.n l._i l.at (omega arith)) ∙ no-records t) ∙ l.invariant.3
