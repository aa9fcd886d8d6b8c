use native.Mathlib.Omega.{arith}
use Rattle.memory.specs.Fits.{fit-lt}
use Rattle.client.specs.Rows.{rows-front}
use Rattle.jobs.specs.Queue.{jobs_in, queue-is}
use Rattle.jobs.proofs.front.Goals as goal

pub returns : goal.returns
returns c =
    let k = c.args.c in
    (rw (queue-is, c.get.ensures) (rows-front (jobs_in k.shape c.args.m.now) k.jobs (omega arith)), rw c.get.ensures (fit-lt k.shape.p _ (omega arith)))
