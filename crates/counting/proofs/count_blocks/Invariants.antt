use mathlib.Core.Path.{◌≡◌}
use mathlib.Core.List.{[]}
use lib.ListN.{length}
use Rattle.client.specs.View.{state_of}
use Rattle.counting.specs.Counts.{table_room, RowCounts, CountedTo}
use Rattle.counting.proofs.count_blocks.Given as goal

abbrev pub invariant-loop-b : goal.invariant-loop-b
invariant-loop-b l = (length l.table ≡ table_room) × CountedTo (state_of l.c l.m) l.b l.table × RowCounts (λ j. j) [] 3 l.table
