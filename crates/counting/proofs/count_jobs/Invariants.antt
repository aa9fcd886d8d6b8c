use mathlib.Core.Path.{◌≡◌}
use lib.ListN.{length}
use Rattle.memory.specs.Tables.{tables_of}
use Rattle.memory.specs.Fits.{shape_of}
use Rattle.client.specs.View.{rows, state_of}
use Rattle.client.specs.Changes.{fitted}
use Rattle.counting.specs.Counts.{table_room, RowCounts, CountedTo}
use Rattle.counting.proofs.count_jobs.Given as goal

abbrev pub invariant-loop-j : goal.invariant-loop-j
invariant-loop-j l = (length l.table ≡ table_room) × CountedTo (state_of l.c l.m) l.c.shape.n l.table × RowCounts (λ k. k) (rows (fitted l.c.shape.p (tables_of (shape_of l.c.shape) l.m).queue) l.j) 3 l.table
