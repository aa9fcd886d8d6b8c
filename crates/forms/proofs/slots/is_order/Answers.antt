use lib.ListN.{set}
use mathlib.Core.Path.{refl, ap, sym, ◌∙◌}
use Prim.Native.Nat.{◌+◌, ◌-◌, ◌≤◌, ◌<◌}
use native.Mathlib.Omega.{arith}
use lib.Dec.{ltb}
use lib.ListN.{replicate}
use Rattle.rules.specs.Form.Sums.{out_of_blocks}
use Rattle.forms.specs.At.{bytes_at}
use Rattle.forms.specs.Once.{fresh_in}
use Rattle.forms.specs.Levels.{is_order, bytes_left, bytes-none, bytes-all, fresh-over, fresh-met, fresh-more, fresh-none}
use Rattle.forms.proofs.slots.is_order.Goals as goal

pub loop-i-init : goal.loop-i-init
unfolding is_order
loop-i-init c =
    let a = c.args in
    (refl, ap (fresh_in (λ x. ltb x a.n) (replicate 256 0)) (bytes-all (out_of_blocks a.form.bytes.now) a.n a.a))

pub returns-then-n-x : goal.returns-then-n-x
returns-then-n-x c =
    let l = c.loop-i in
    let a = c.args in
    let p = out_of_blocks a.form.bytes.now in
    let big : a.n ≤ c.byte-x.result = omega arith in
    sym (sym l.invariant.1 ∙ ap (fresh_in (λ x. ltb x a.n) l.seen) (bytes_left p a.n a.a l.i (omega arith)) ∙ fresh-over a.n l.seen _ _ (rw c.byte-x.ensures.0 at big))

pub returns-then-not-is_new : goal.returns-then-not-is_new
returns-then-not-is_new c =
    let l = c.loop-i in
    let a = c.args in
    let p = out_of_blocks a.form.bytes.now in
    let e = sym c.is_new.ensures.0 ∙ c.if-not-is_new.true in
    sym (sym l.invariant.1 ∙ ap (fresh_in (λ x. ltb x a.n) l.seen) (bytes_left p a.n a.a l.i (omega arith)) ∙ fresh-met a.n l.seen _ _ (rw c.byte-x.ensures.0 at e))

pub loop-i-preserved : goal.loop-i-preserved
loop-i-preserved c =
    let l = c.loop-i in
    let a = c.args in
    let p = out_of_blocks a.form.bytes.now in
    let e = sym c.is_new.ensures.0 ∙ c.if-not-is_new.false in
    let small : c.byte-x.result < a.n = omega arith in
    let b = c.byte-x.ensures.0 in
    let xs = bytes_at p (a.n - (l.i + 1)) (a.a + (l.i + 1)) in (
      omega arith,
      ap (λ s. fresh_in (λ x. ltb x a.n) s xs) c.is_new.ensures.1 ∙ ap (λ x. fresh_in (λ x. ltb x a.n) (set l.seen x 1) xs) b
          ∙ sym (fresh-more a.n l.seen _ xs (rw b at small) (rw b at e)) ∙ ap (fresh_in (λ x. ltb x a.n) l.seen) (sym (bytes_left p a.n a.a l.i (omega arith))) ∙ l.invariant.1,
    )

pub returns : goal.returns
returns c =
    let l = c.loop-i in
    let a = c.args in
    let p = out_of_blocks a.form.bytes.now in
    sym (sym l.invariant.1 ∙ ap (fresh_in (λ x. ltb x a.n) l.seen) (bytes-none p a.n (a.a + l.i) l.i (omega arith)) ∙ fresh-none (λ x. ltb x a.n) l.seen)
