use mathlib.Core.Path.{◌≡◌}
use Prim.Native.Nat.{◌+◌}
use lib.ListN.{length}
use Rattle.memory.specs.Fits.{shape_of}
use Rattle.memory.specs.Tables.{tables_of}
use Rattle.loading.specs.Laid.{laid}
use Rattle.loading.proofs.tables.lay.Given as goal

abbrev pub invariant-loop-i : goal.invariant-loop-i
invariant-loop-i g l = (length l.m ≡ length l.initial.m) × (laid l.t (l.from + l.i) (g.left l.i) (tables_of (shape_of l.h) l.m) ≡ laid l.t l.from (g.left 0) (tables_of (shape_of l.h) l.initial.m))
