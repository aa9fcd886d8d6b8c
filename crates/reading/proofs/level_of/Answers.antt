use Prim.Native.Nat.{suc, ◌+◌}
use native.Mathlib.Omega.{arith}
use lib.Pow.{pow_mono}
use Rattle.reading.specs.Slots.{in-none, in-level}
use Rattle.reading.proofs.level_of.Goals as goal

pub returns-then-x-lt2 : goal.returns-then-x-lt2
returns-then-x-lt2 c = λ n h. in-none n c.args.x c.if-x-lt2.true

pub returns : goal.returns
returns c = λ n h.
    let ℓ = c.level_of.result in
    in-level n c.args.x ℓ (omega (arith, c.if-x-lt2.false)) h (omega (arith, c.level_of.ensures.0, c.if-x-lt2.false))
    (omega (arith, c.level_of.ensures.1, c.if-x-lt2.false, pow_mono {i = ℓ + 2} {j = suc ℓ + 1} (omega arith)))
