use mathlib.Core.Path.{refl}
use Rattle.memory.specs.Fits.{shape_of}
use Rattle.jobs.specs.Runs.{run-together}
use Rattle.completing.specs.Completing.{counted, ended}
use Rattle.completing.proofs.end_job.Goals as goal

pub grown-n-requires : goal.grown-n-requires
grown-n-requires c =
    (c.requires.room.some_levels, c.requires.room.levels, run-together c.args.c c.args.m.now c.args.q _ c.running-run.ensures)

pub returns : goal.returns
returns c =
    let p = c.leave in
    let g = c.grown-n in
    let r = c.running-run in
    let a = c.args in
    let k = counted a.c a.m.now _ a.q g.result r.result r.ensures (g.ensures.0 (shape_of a.c.shape) refl) g.ensures.1 c.set.ensures in
    rw (c.with_sent.ensures, c.with_cursor.ensures, c.with_begun.ensures) (rw p.ensures.0, ended a.c p.result a.m.now _ _ a.q r.result.joined _ r.ensures.joined k p.ensures.0 p.ensures.1, rw p.ensures.0)
