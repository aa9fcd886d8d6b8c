use mathlib.Core.Path.{◌≡◌}
use Rattle.rules.specs.Jobs.{queued}
use Rattle.client.specs.View.{rows}
use Rattle.jobs.specs.Queue.{jobs_in}
use Rattle.jobs.proofs.queued.Given as goal

abbrev pub invariant-loop-i : goal.invariant-loop-i
invariant-loop-i l = l.k ≡ queued (rows (jobs_in l.c.shape l.m) l.i) l.q
