use mathlib.Core.Path.{◌≡◌, ap, ◌∙◌}
use Prim.Native.Nat.{◌+◌}
use native.Mathlib.Omega.{arith}
use Rattle.loading.specs.Laid.{laid-step, laid_end}
use Rattle.loading.proofs.tables.lay.Goals as goal

pub number-requires : goal.number-requires
number-requires g c = c.requires.1.2.may c.loop-i.i c.loop-i-test.true

pub set-requires : goal.set-requires
set-requires g c =
    let l = c.loop-i in
    (rw l.invariant.0 c.requires.1.0, omega (arith, c.requires.1.1), (c.requires.1.2.next l.i _ c.loop-i-test.true c.number.ensures).1)

pub loop-i-preserved : goal.loop-i-preserved
loop-i-preserved g c =
    let l = c.loop-i in
    let a = c.args in
    let y = c.requires.1.2.next l.i _ c.loop-i-test.true c.number.ensures in
    let e : a.from + (l.i + 1) ≡ a.from + l.i + 1 = omega arith in
    (omega arith, laid-step a.t (a.from + l.i) (a.from + (l.i + 1)) _ (g.left (l.i + 1)) (g.left l.i) _ _ _ e y.0 c.set.ensures l.invariant.1)

pub returns : goal.returns
returns g c =
    let l = c.loop-i in
    let a = c.args in
    let z : l.i ≡ a.n = omega arith in
    laid_end a.t (a.from + l.i) (g.left l.i) _ _ (ap g.left z ∙ c.requires.1.2.end) l.invariant.1
