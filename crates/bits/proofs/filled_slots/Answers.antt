use mathlib.Core.Path.{◌≡◌, ap, sym, ◌∙◌}
use Prim.Native.Nat.{suc, ◌+◌, ◌-◌, ◌*◌, ◌%◌, ◌^◌}
use native.Mathlib.Omega.{arith}
use lib.Bits.{bit_and, and_mask}
use Rattle.rules.proofs.Laws.Bits.{slots-down}
use Rattle.bits.proofs.filled_slots.Goals as goal
use Rattle.bits.proofs.filled_slots.Goals.{After-pow2}

-- the mask leaves the lowest bits
masked : (c : After-pow2) → let a = c.args in bit_and a.c (c.pow2.result - 1) ≡ a.c % 2 ^ suc a.t
masked c =
    let a = c.args in
    let e : c.pow2.result - 1 ≡ 2 ^ suc a.t - 1 = let z : a.t + 1 ≡ suc a.t = omega arith in ap (λ n. n - 1) (c.pow2.ensures.0 ∙ ap (λ n. 2 ^ n) z) in
    rw e (and_mask a.c (suc a.t))

pub returns : goal.returns
returns c = ap (λ n. 2 * n) (masked c) ∙ sym (slots-down c.args.c (suc c.args.t))
