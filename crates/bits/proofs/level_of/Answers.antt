use mathlib.Core.Path.{◌≡◌}
use Prim.Native.Nat.{ℕ, zero, suc, ◌+◌, ◌-◌, ◌*◌, ◌≤◌, ◌<◌, ◌^◌}
use native.Mathlib.Omega.{arith}
use Rattle.std.proofs.Common.{pow-suc}
use Rattle.bits.proofs.level_of.Goals as goal

some : (r x : ℕ) → x + 2 < 2 * 2 ^ r → 1 ≤ r
some zero x h = absurd (omega arith)
some (suc r) x h = omega arith

pub returns : goal.returns
returns c =
    let r = c.ilog2.result in
    let s = some r c.args.x c.ilog2.ensures.next_power_gt in
    let low : r - 1 + 1 ≡ r = omega arith in
    let high : r - 1 + 2 ≡ suc r = omega arith in
    rw (low, high) (c.ilog2.ensures.power_le, omega (arith, pow-suc 2 r))
