use mathlib.Core.Path.{◌≡◌, ◌∙◌}
use Prim.Native.Nat.{◌-◌, ◌^◌, min}
use native.Mathlib.Omega.{arith}
use Rattle.bits.specs.Runs.{joins-full, joins-some}
use Rattle.bits.proofs.joins.Goals as goal
use Rattle.bits.proofs.joins.Goals.{Else-room-eq0}

-- some room is left
min-is : (c : Else-room-eq0) → let a = c.args in 2 ^ a.levels - 1 - a.c ≡ 0 → ⊥
min-is c e = c.if-room-eq0.false (omega arith)

pub returns-then-room-eq0 : goal.returns-then-room-eq0
returns-then-room-eq0 c = λ h e. joins-full c.args.levels c.args.c c.requires.1 h e c.args.n (omega arith)

pub returns : goal.returns
returns c = λ h e.
    let k : c.min.result ≡ min c.args.n (2 ^ c.args.levels - 1 - c.args.c) = omega arith in
    k ∙ joins-some c.args.levels c.args.c c.requires.1 h e c.args.n (min-is (goal.at.returns c).Else-room-eq0)
