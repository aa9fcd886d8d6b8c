use Prim.Native.Nat.{◌+◌}
use native.Mathlib.Omega.{arith}
use Rattle.forms.specs.Levels.{held-left, held_none}
use Rattle.forms.proofs.slots.held.Goals as goal

pub loop-i-preserved : goal.loop-i-preserved
loop-i-preserved c =
    let l = c.loop-i in
    let a = c.args in
    (omega arith, omega (arith, held-left a.seen.now a.c a.n l.i (omega arith), l.invariant.1))

pub returns : goal.returns
returns c =
    let l = c.loop-i in
    let a = c.args in
    omega (arith, l.invariant.1, held_none a.seen.now (a.c + l.i) a.n l.i (omega arith))
