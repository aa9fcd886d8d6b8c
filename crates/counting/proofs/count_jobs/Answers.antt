use Prim.Native.Nat.{◌<◌}
use mathlib.Core.Path.{◌≡◌, ap, sym, ◌∙◌}
use lib.ListN.{length}
use native.Mathlib.Omega.{arith}
use Rattle.lists.specs.Search.{below, count}
use Rattle.rules.specs.Figures.{nowhere_blocks, stored_blocks, waiting_blocks}
use Rattle.memory.specs.Tables.{tables_of}
use Rattle.memory.specs.Fits.{shape_of, fit-lt}
use Rattle.client.specs.View.{rows, view, state_of}
use Rattle.client.specs.Changes.{fitted}
use Rattle.client.specs.Rows.{length-rows, rows_snoc}
use Rattle.counting.specs.Counts.{most_partitions}
use Rattle.counting.specs.Laws.{added-length, row-added, row-le, counted-beside}
use Rattle.counting.proofs.count_jobs.Goals as goal
use Rattle.counting.proofs.count_jobs.Goals.{After-get}

-- a job's partition
short : (c : After-get) → c.get.result < most_partitions
short c =
    omega (arith, c.get.ensures, fit-lt c.args.c.shape.p ((tables_of (shape_of c.args.c.shape) c.args.m.now).queue c.loop-j.j) c.requires.0.0.some_partitions, c.requires.0.0.partitions)

pub loop-j-init : goal.loop-j-init
unfolding rows below count
loop-j-init c = (c.requires.3, c.requires.1, c.requires.2)

pub add-requires : goal.add-requires
add-requires c =
    let l = c.loop-j in
    let a = c.args in
    let g = fitted a.c.shape.p (tables_of (shape_of a.c.shape) a.m.now).queue in
    let k = row-le (λ j. j) (rows g l.j) 3 c.get.result l.table l.invariant.2 (short c) in
    (short c, omega (arith, length-rows g l.j), omega (arith, length-rows g l.j))

pub loop-j-preserved : goal.loop-j-preserved
loop-j-preserved c =
    let l = c.loop-j in
    let a = c.args in
    let g = fitted a.c.shape.p (tables_of (shape_of a.c.shape) a.m.now).queue in (
      ap length c.add.ensures ∙ added-length 3 c.get.result l.table ∙ l.invariant.0,
      rw c.add.ensures (counted-beside (state_of a.c a.m.now) a.c.shape.n c.get.result l.table (short (goal.at.loop-j-preserved c).After-get) l.invariant.0 l.invariant.1),
      rw (c.add.ensures, rows_snoc g l.j) (row-added (λ j. j) (rows g l.j) 3 c.get.result l.table (short (goal.at.loop-j-preserved c).After-get) (omega arith) l.invariant.0 (g l.j) (sym c.get.ensures) l.invariant.2),
    )

pub returns : goal.returns
unfolding state_of view nowhere_blocks stored_blocks waiting_blocks
returns c =
    let l = c.loop-j in
    let all : l.j ≡ c.args.c.jobs = omega arith in
    record { nowhere = l.invariant.1.nowhere; stored = l.invariant.1.stored; waiting = l.invariant.1.waiting; queued = rw all at l.invariant.2 }
