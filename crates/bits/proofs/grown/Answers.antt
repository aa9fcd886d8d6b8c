use mathlib.Core.Path.{◌≡◌, ◌∙◌}
use Prim.Native.Nat.{◌+◌, ◌-◌, ◌<◌, ◌^◌}
use native.Mathlib.Omega.{arith}
use lib.Pow.{pow-lt}
use Rattle.bits.specs.Runs.{together-lt, grown-full, grown-more}
use Rattle.bits.proofs.grown.Goals as goal
use Rattle.bits.proofs.grown.Goals.{Else-c-pow2}

-- not all levels are filled
other : (c : Else-c-pow2) → let a = c.args in a.c ≡ 2 ^ a.levels - 1 → ⊥
other c e = c.if-c-pow2.false (omega arith)

fewer : (c : Else-c-pow2) → let a = c.args in a.c + a.j < 2 ^ a.levels
fewer c = let a = c in together-lt a.args.levels a.args.c a.args.j a.requires.2 (other c)

pub returns-then-c-pow2 : goal.returns-then-c-pow2
returns-then-c-pow2 c =
    (λ h e. c.pow2-then-c-pow2.ensures.0 ∙ grown-full c.args.levels c.args.c c.requires.2.1 h e c.args.j (omega arith), omega (arith, pow-lt {i = c.args.levels - 1} {j = c.args.levels} (omega arith)))

pub returns : goal.returns
returns c =
    (λ h e. grown-more c.args.levels c.args.c c.requires.2.1 h e c.args.j (other c), fewer c)
