use mathlib.Core.Path.{ap, sym, ◌∙◌}
use Prim.Native.Nat.{◌+◌, ◌-◌, ◌≤◌, ◌<◌}
use native.Mathlib.Omega.{arith}
use lib.Dec.{ltb}
use lib.ListN.{set}
use Rattle.rules.specs.Form.Sums.{out_of_blocks}
use Rattle.forms.specs.Once.{fresh_in}
use Rattle.forms.specs.Levels.{fresh-over, fresh-met, fresh-more, fresh-none}
use Rattle.forms.specs.Records.{numbers_by, by_left, by-none}
use Rattle.forms.proofs.records.are_once.Goals as goal

pub returns-then-bound-x : goal.returns-then-bound-x
returns-then-bound-x c =
    let l = c.loop-i in
    let a = c.args in
    let p = out_of_blocks a.form.bytes.now in
    let big : a.bound ≤ c.number-x.result = omega arith in
    sym (sym l.invariant.2 ∙ ap (fresh_in (λ x. ltb x a.bound) l.seen) (by_left p a.step a.n l.at l._i (omega arith)) ∙ fresh-over a.bound l.seen _ _ (rw c.number-x.ensures.0 at big))

pub returns-then-not-is_new : goal.returns-then-not-is_new
returns-then-not-is_new c =
    let l = c.loop-i in
    let a = c.args in
    let p = out_of_blocks a.form.bytes.now in
    let e = sym c.is_new.ensures.0 ∙ c.if-not-is_new.true in
    sym (sym l.invariant.2 ∙ ap (fresh_in (λ x. ltb x a.bound) l.seen) (by_left p a.step a.n l.at l._i (omega arith)) ∙ fresh-met a.bound l.seen _ _ (rw c.number-x.ensures.0 at e))

pub loop-i-preserved : goal.loop-i-preserved
loop-i-preserved c =
    let l = c.loop-i in
    let a = c.args in
    let p = out_of_blocks a.form.bytes.now in
    let e = sym c.is_new.ensures.0 ∙ c.if-not-is_new.false in
    let small : c.number-x.result < a.bound = omega arith in
    let b = c.number-x.ensures.0 in
    let xs = numbers_by p a.step (a.n - (l._i + 1)) (l.at + a.step) in (
      omega arith,
      omega arith,
      ap (λ s. fresh_in (λ x. ltb x a.bound) s xs) c.is_new.ensures.1 ∙ ap (λ x. fresh_in (λ x. ltb x a.bound) (set l.seen x 1) xs) b
          ∙ sym (fresh-more a.bound l.seen _ xs (rw b at small) (rw b at e)) ∙ ap (fresh_in (λ x. ltb x a.bound) l.seen) (sym (by_left p a.step a.n l.at l._i (omega arith))) ∙ l.invariant.2,
    )

pub returns : goal.returns
returns c =
    let l = c.loop-i in
    let a = c.args in
    let p = out_of_blocks a.form.bytes.now in
    sym (sym l.invariant.2 ∙ ap (fresh_in (λ x. ltb x a.bound) l.seen) (by-none p a.step a.n l.at l._i (omega arith)) ∙ fresh-none (λ x. ltb x a.bound) l.seen)
