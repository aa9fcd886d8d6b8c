use borrow.Author.Rules.{rules}
use native.Mathlib.Omega.{arith}
use Rattle.printing.specs.Columns.{columns, partition_line}
use Rattle.printing.specs.Widths.{two_digits}
use Rattle.lists.specs.Written.{followed}
use Rattle.printing.proofs.columns.partition_line.Goals as goal

pub column-first-requires : goal.column-first-requires
column-first-requires c = let w = two_digits c.args.q (omega arith) in search rules

pub returns : goal.returns
unfolding partition_line columns
returns c =
    followed c.column-first.ensures.1 (followed c.figure-second.ensures.1 (followed c.figure-third.ensures.1 (followed c.figure-fourth.ensures.1 (followed c.figure-last.ensures.1 c.put.ensures))))
