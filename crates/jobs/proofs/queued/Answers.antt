use mathlib.Core.Path.{◌≡◌, ap, sym, ◌∙◌}
use Prim.Native.Nat.{◌+◌}
use native.Mathlib.Omega.{arith}
use mir.Val.{bool_byte}
use lib.Dec.{eqb}
use Rattle.rules.specs.Jobs.{queued}
use Rattle.client.specs.View.{rows}
use Rattle.jobs.specs.Queue.{jobs_in, queue-is, count_none, count-more, count-le}
use Rattle.jobs.proofs.queued.Goals as goal
use Rattle.jobs.proofs.queued.Goals.{After-from-k}

-- one more of the jobs is counted
counted : (c : After-from-k) → let l = c.loop-i in let a = c.args in l.k + bool_byte (eqb c.get.result a.q) ≡ queued (rows (jobs_in a.c.shape a.m.now) (l.i + 1)) a.q
counted c =
    let l = c.loop-i in
    let a = c.args in
    count-more (jobs_in a.c.shape a.m.now) a.q l.i l.k c.get.result c.get.ensures l.invariant

pub loop-i-init : goal.loop-i-init
loop-i-init c = count_none _ _

pub overflow_add-k : goal.overflow_add-k
overflow_add-k c =
    let l = c.loop-i in
    let a = c.args in
    omega (arith, counted c, c.from-k.ensures, count-le (jobs_in a.c.shape a.m.now) a.q (l.i + 1))

pub loop-i-preserved : goal.loop-i-preserved
loop-i-preserved c = ap (λ x. c.loop-i.k + x) c.from-k.ensures ∙ counted c

pub returns : goal.returns
returns c =
    let a = c.args in
    let e : c.loop-i.i ≡ a.c.jobs = omega arith in
    c.loop-i.invariant ∙ ap (λ n. queued (rows (jobs_in a.c.shape a.m.now) n) a.q) e ∙ ap (λ qs. queued qs a.q) (sym (queue-is a.c a.m.now))
