use mathlib.Core.Path.{sym}
use native.Mathlib.Omega.{arith}
use Rattle.forms.specs.Blocks.{slot-over, slot-under}
use Rattle.forms.proofs.blocks.is_slot.Goals as goal

pub returns-then-h-l : goal.returns-then-h-l
returns-then-h-l c = let a = c.args in sym (slot-over a.h.l a.c a.l a.i (omega arith))

pub returns : goal.returns
returns c = let a = c.args in rw (c.filled.ensures, c.pow2.ensures.0) (sym (slot-under a.h.l a.c a.l a.i (omega arith)))
