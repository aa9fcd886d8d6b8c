use mathlib.Core.Path.{◌≡◌, refl, ap, ◌∙◌}
use native.Mathlib.Omega.{arith}
use Rattle.client.specs.Moves.{with_jobs}
use Rattle.jobs.specs.Leaving.{leaving-none, leaving-more, stay-count, left-stands}
use Rattle.jobs.proofs.leave.Goals as goal

pub loop-i-init : goal.loop-i-init
loop-i-init c = (refl, leaving-none _ _ _ _ _)

pub loop-i-preserved : goal.loop-i-preserved
loop-i-preserved c =
    let l = c.loop-i in
    (omega arith, leaving-more _ _ _ _ _ _ _ _ l.i _ (omega arith) (omega arith) c.stay-k.ensures l.invariant.1)

pub returns : goal.returns
returns c =
    let l = c.loop-i in
    let a = c.args in
    let e : l.i ≡ a.c.jobs = omega arith in (
      c.with_jobs.ensures ∙ ap (λ k. with_jobs k a.c) (stay-count a.c a.q a.j a.m.now l.m l.k l.i e l.invariant.1),
      rw c.with_jobs.ensures (left-stands a.c a.q a.j a.m.now l.m l.k l.i e l.invariant.1),
    )
