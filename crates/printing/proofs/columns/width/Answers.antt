use native.Mathlib.Omega.{arith}
use mathlib.Core.Path.{sym}
use Rattle.printing.specs.Widths.{width-1, width-2, width-3, width-4, width-5}
use Rattle.printing.proofs.columns.width.Goals as goal

pub returns-in-0-to-9 : goal.returns-in-0-to-9
returns-in-0-to-9 c = sym (width-1 _ (omega arith))

pub returns-in-10-to-99 : goal.returns-in-10-to-99
returns-in-10-to-99 c = sym (width-2 _ (omega arith) (omega arith))

pub returns-in-100-to-999 : goal.returns-in-100-to-999
returns-in-100-to-999 c = sym (width-3 _ (omega arith) (omega arith))

pub returns-in-1000-to-9999 : goal.returns-in-1000-to-9999
returns-in-1000-to-9999 c = sym (width-4 _ (omega arith) (omega arith))

pub returns-in_default : goal.returns-in_default
returns-in_default c = sym (width-5 _ (omega arith) (omega arith))
