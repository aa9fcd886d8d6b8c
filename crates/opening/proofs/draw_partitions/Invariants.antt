use mathlib.Core.Path.{◌≡◌}
use lib.ListN.{length}
use Rattle.opening.specs.Opening.{Filled}
use Rattle.opening.proofs.draw_partitions.Given as goal

abbrev pub invariant-loop-b : goal.invariant-loop-b
invariant-loop-b l = (length l.m ≡ length l.initial.m) × Filled l.h l.b l.initial.m l.tape l.m
