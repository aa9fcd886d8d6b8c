use mathlib.Core.Path.{◌≡◌}
use Prim.Native.Nat.{◌≤◌}
use lib.ListN.{length}
use Rattle.memory.specs.Closing.{Closing}
use Rattle.memory.specs.Fits.{shape_of}
use Rattle.memory.proofs.tables.close_up.Given as goal

abbrev pub invariant-loop-i : goal.invariant-loop-i
invariant-loop-i l = (l.from ≤ l.i) × (length l.m ≡ length l.initial.m) × Closing (shape_of l.h) l.t l.bound l.from l.initial.m l.m l.i
