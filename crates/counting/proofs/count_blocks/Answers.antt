use Prim.Native.Nat.{ℕ, ◌<◌}
use mathlib.Core.Path.{ap, ◌∙◌}
use mathlib.Core.List.{[]}
use lib.ListN.{length, length-replicate}
use native.Mathlib.Omega.{arith}
use Rattle.lists.specs.Search.{member}
use Rattle.rules.specs.Blocks.{is_nowhere}
use Rattle.memory.specs.Tables.{tables_of}
use Rattle.memory.specs.Fits.{shape_of, fit-lt}
use Rattle.client.specs.View.{state_of}
use Rattle.client.specs.Readings.{partition-is}
use Rattle.counting.specs.Counts.{table_room, most_partitions, row_of}
use Rattle.counting.specs.Laws.{added-length, row_other, row-none, counted_none, counted-more, counted-le}
use Rattle.counting.proofs.count_blocks.Goals as goal
use Rattle.counting.proofs.count_blocks.Goals.{After-get}

-- a block's partition
short : (c : After-get) → c.get.result < most_partitions
short c =
    omega (arith, c.get.ensures, fit-lt c.args.c.shape.p ((tables_of (shape_of c.args.c.shape) c.args.m.now).partition c.loop-b.b) c.requires.0.some_partitions, c.requires.0.partitions)

pub loop-b-init : goal.loop-b-init
loop-b-init c = (rw c.requires.2 (length-replicate {A = ℕ} table_room 0), rw c.requires.2 (counted_none _), rw c.requires.2 (row-none (λ j. j) 3 (omega arith)))

pub add-requires : goal.add-requires
add-requires c =
    let l = c.loop-b in
    let k = counted-le (state_of c.args.c c.args.m.now) l.b c.get.result l.table (is_nowhere ((state_of c.args.c c.args.m.now).place l.b)) (member l.b (state_of c.args.c c.args.m.now).waiting) (short c) l.invariant.1 in
    rw c.block_row-row.ensures (short c, omega (arith, c.requires.0.blocks), omega (arith, c.requires.0.blocks))

pub loop-b-preserved : goal.loop-b-preserved
loop-b-preserved c =
    let l = c.loop-b in
    let s = state_of c.args.c c.args.m.now in
    let k = counted-le s l.b c.get.result l.table (is_nowhere (s.place l.b)) (member l.b s.waiting) (short (goal.at.loop-b-preserved c).After-get) l.invariant.1 in
    let row = c.block_row-row.ensures in (
      ap length c.add.ensures ∙ added-length _ c.get.result l.table ∙ l.invariant.0,
      rw (c.add.ensures, row) (counted-more s l.b c.get.result l.table (short (goal.at.loop-b-preserved c).After-get) l.invariant.0 (partition-is c.args.c c.args.m.now l.b c.get.result c.get.ensures) l.invariant.1),
      rw (c.add.ensures, row) (row_other (λ j. j) [] (row_of (is_nowhere (s.place l.b)) (member l.b s.waiting)) c.get.result l.table (short (goal.at.loop-b-preserved c).After-get) (omega arith) l.invariant.0 3 (λ z. omega arith) l.invariant.2),
    )
