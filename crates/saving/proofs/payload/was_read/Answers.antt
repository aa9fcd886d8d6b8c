use native.Mathlib.Omega.{arith}
use Rattle.memory.specs.Tables.{tables_of}
use Rattle.memory.specs.Fits.{shape_of, fit-lt}
use Rattle.saving.proofs.payload.was_read.Goals as goal

pub overflow_sub-result : goal.overflow_sub-result
overflow_sub-result c = omega (arith, c.get.ensures, fit-lt 2 ((tables_of (shape_of c.args.h) c.args.m.now).mark c.args.x) (omega arith))
