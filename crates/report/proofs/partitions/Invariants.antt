use Prim.Native.Nat.{◌*◌}
use mathlib.Core.Path.{◌≡◌}
use lib.ListN.{length}
use Rattle.client.specs.View.{state_of}
use Rattle.printing.specs.Columns.{line_length}
use Rattle.lists.specs.Written.{Written}
use Rattle.report.specs.Page.{partition_lines}
use Rattle.report.proofs.partitions.Given as goal

abbrev pub invariant-loop-q : goal.invariant-loop-q
invariant-loop-q l = (length l.out ≡ length l.initial.out) × (l.at ≡ line_length * l.q) × Written l.initial.out 0 (partition_lines (state_of l.c l.m) l.q) l.out l.at
