use mathlib.Core.Path.{◌≡◌}
use lib.ListN.{length}
use Rattle.memory.specs.Filling.{Filling}
use Rattle.memory.specs.Fits.{shape_of}
use Rattle.memory.proofs.tables.fill.Given as goal

abbrev pub invariant-loop-i : goal.invariant-loop-i
invariant-loop-i l = (length l.m ≡ length l.initial.m) × Filling (shape_of l.h) l.t l.base l.v l.initial.m l.m l.i
