use mathlib.Core.Path.{ap, sym, ◌∙◌}
use Prim.Native.Nat.{◌+◌, ◌*◌, ◌≤◌, ◌<◌}
use native.Mathlib.Omega.{arith}
use lib.Dec.{ltb}
use Rattle.lists.specs.Search.{all}
use Rattle.rules.specs.Form.Sums.{out_of_blocks}
use Rattle.forms.specs.Lists.{numbers-left, numbers-none}
use Rattle.forms.specs.Bounds.{all_more, all-not, all_none}
use Rattle.forms.proofs.header.are_below.Goals as goal

pub returns-then-bound-number : goal.returns-then-bound-number
returns-then-bound-number c =
    let l = c.loop-i in
    let a = c.args in
    let p = out_of_blocks a.form.bytes.now in
    let big : a.bound ≤ c.number.result = omega arith in
    sym (sym l.invariant ∙ ap (all (λ x. ltb x a.bound)) (numbers-left p 2 a.n a.a l.i (omega arith)) ∙ all-not a.bound _ _ (rw c.number.ensures.0 at big))

pub loop-i-preserved : goal.loop-i-preserved
loop-i-preserved c =
    let l = c.loop-i in
    let a = c.args in
    let p = out_of_blocks a.form.bytes.now in
    let small : c.number.result < a.bound = omega arith in
    sym (all_more a.bound _ _ (rw c.number.ensures.0 at small)) ∙ ap (all (λ x. ltb x a.bound)) (sym (numbers-left p 2 a.n a.a l.i (omega arith))) ∙ l.invariant

pub returns : goal.returns
returns c =
    let l = c.loop-i in
    let a = c.args in
    let p = out_of_blocks a.form.bytes.now in
    sym (sym l.invariant ∙ ap (all (λ x. ltb x a.bound)) (numbers-none p 2 a.n (a.a + l.i * 2) l.i (omega arith)) ∙ all_none (λ x. ltb x a.bound))
