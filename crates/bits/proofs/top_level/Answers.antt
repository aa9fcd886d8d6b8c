use mathlib.Core.Path.{◌≡◌, ◌∙◌}
use Prim.Native.Nat.{suc, ◌+◌, ◌-◌, ◌^◌, ◌<◌, min}
use native.Mathlib.Omega.{arith}
use lib.Bits.{bit_xor}
use Rattle.std.proofs.Common.{pow-suc}
use Rattle.rules.specs.Laws.Single.Rules.{trailing_ones}
use Rattle.bits.specs.Ones.{ones-below}
use Rattle.bits.specs.Runs.{top_in, top-many, top_one}
use Rattle.bits.proofs.top_level.Goals as goal
use Rattle.bits.proofs.top_level.Goals.{Then-j-ne1}

-- of more jobs than one
more : (c : Then-j-ne1) → let a = c.args in a.c + a.j < 2 ^ a.levels
more c = c.requires.2.2 (omega (arith, c.requires.2.0, c.if-j-ne1.true))

pub returns-then-j-ne1 : goal.returns-then-j-ne1
returns-then-j-ne1 c =
    let a = c.args in
    let l = more c.before in
    let t = c.ilog2.result in
    let to : bit_xor a.c (a.c + a.j) < 2 ^ suc t = omega (arith, pow-suc 2 t) in
    (top-many a.levels a.c a.j c.requires.2.0 l t c.ilog2.ensures.power_le to, top_in a.levels a.c a.j c.requires.2.0 l t c.ilog2.ensures.power_le to)

pub returns : goal.returns
returns c =
    let a = c.args in
    let one : a.j ≡ 1 = omega (arith, c.if-j-ne1.false) in
    let k : c.min.result ≡ min (trailing_ones 64 a.c) (a.levels - 1) = omega arith in
    (λ h e. rw one (top_one a.levels a.c _ c.requires.0 c.requires.2.1 (k ∙ ones-below a.levels 64 a.c (omega arith)) h e), omega arith)
