use mathlib.Core.Path.{◌≡◌, ap, sym, ◌∙◌}
use mathlib.Core.Bool.{true, false, ◌&&◌}
use Prim.Native.Nat.{◌*◌, ◌^◌, ◌-◌}
use native.Mathlib.Nat.{mul-le-mul}
use native.Mathlib.Omega.{arith}
use lib.Dec.{leb}
use Rattle.contract.specs.Shapes.{small, within-small, Small, small-facts}
use Rattle.memory.specs.declared.Shape.{Shape}
use Rattle.contract.proofs.is_within.Goals as goal
use Rattle.contract.proofs.is_within.Goals.{Else-not-small}

abbrev asked : Else-not-small → Shape
asked c = c.args.h

-- the tests of the code are `small`
tested : (c : Else-not-small) → small (asked c) ≡ true
tested c = rw (← c.is_power.ensures) (c.if-not-small.false)

pub returns-then-not-small : goal.returns-then-not-small
returns-then-not-small c =
    let h = c.args.h in
    let e : small h ≡ false = rw (← c.is_power.ensures) (c.if-not-small.true) in
    sym (within-small h ∙ ap (λ t. t && leb h.n (h.p * 2 ^ (h.l - 1))) e)

pub overflow_mul-result : goal.overflow_mul-result
overflow_mul-result c =
    let d = c.before.before.before in
    let f : Small (asked d) = small-facts (asked d) (tested d) in
    omega (arith, mul-le-mul {n₁ = (asked d).p} {m₁ = c.pow2.result} {n₂ = 64} {m₂ = 65536} f.partitions c.pow2.ensures.1)

pub returns : goal.returns
returns c =
    let h = asked (goal.at.returns c).Else-not-small in
    let e = within-small h ∙ ap (λ t. t && leb h.n (h.p * 2 ^ (h.l - 1))) (tested (goal.at.returns c).Else-not-small) in
    rw c.pow2.ensures.0 (sym e)
