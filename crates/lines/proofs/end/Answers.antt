use native.Mathlib.Omega.{arith}
use Rattle.lines.specs.Fields.{cut}
use Rattle.lines.proofs.end.Goals as goal

pub returns-then-line-i-eq32 : goal.returns-then-line-i-eq32
returns-then-line-i-eq32 c =
    let l = c.loop-i in
    cut _ _ l.i (omega arith) (omega arith) l.invariant (λ k. c.if-line-i-eq32.true)

pub returns : goal.returns
returns c =
    let l = c.loop-i in
    cut _ _ _ (omega arith) (omega arith) (λ k f t. l.invariant k f (omega arith)) (λ k. absurd (omega arith))
