use mathlib.Core.Path.{◌≡◌, refl}
use native.Mathlib.Omega.{arith}
use Rattle.rules.specs.Levels.{grown}
use Rattle.memory.specs.Fits.{shape_of}
use Rattle.jobs.specs.Runs.{run-together}
use Rattle.deciding.specs.Steps.{passed-more, write-next, write-ends}
use Rattle.deciding.proofs.write_step.Goals as goal
use Rattle.deciding.proofs.write_step.Goals.{After-grown-next}

-- the counter after the run
after : (c : After-grown-next) → c.grown-next.result ≡ grown (shape_of c.args.c.shape) c.args.run.counter c.args.run.joined
after c = c.grown-next.ensures.0 (shape_of c.args.c.shape) refl

pub grown-next-requires : goal.grown-next-requires
grown-next-requires c =
    (c.requires.0.some_levels, c.requires.0.levels, run-together c.args.c c.args.m.now c.args.q c.args.run c.requires.1)

pub returns-then-i-n : goal.returns-then-i-n
returns-then-i-n c =
    let l = c.loop-l in
    let a = c.args in
    write-next a.c a.m.now a.q a.run c.grown-next.result c.requires.1 (after (goal.at.returns-then-i-n c).After-grown-next) l.l l.i c.slots_at-n.result c.loop-l-test.true c.slots_at-n.ensures c.if-i-n.true l.invariant

pub loop-l-preserved : goal.loop-l-preserved
loop-l-preserved c =
    let l = c.loop-l in
    passed-more _ _ _ l.l l.i c.slots_at-n.result c.loop-l-test.true c.slots_at-n.ensures (omega (arith, c.if-i-n.false)) l.invariant

pub returns : goal.returns
returns c =
    let l = c.loop-l in
    let a = c.args in
    write-ends a.c a.m.now a.q a.run c.grown-next.result c.requires.1 (after (goal.at.returns c).After-grown-next) l.l l.i (omega arith) l.invariant
