use mathlib.Core.Path.{◌≡◌}
use lib.ListN.{length}
use Rattle.memory.specs.Tables.{tables_of}
use Rattle.memory.specs.Fits.{shape_of}
use Rattle.client.specs.View.{rows}
use Rattle.client.specs.Changes.{fitted}
use Rattle.cache.specs.Marks.{marks_room, Marked}
use Rattle.cache.proofs.mark_waiting.Given as goal

abbrev pub invariant-loop-i : goal.invariant-loop-i
invariant-loop-i l = (length l.marks ≡ marks_room) × Marked (rows (fitted l.c.shape.n (tables_of (shape_of l.c.shape) l.m).waiting) l.i) l.marks
