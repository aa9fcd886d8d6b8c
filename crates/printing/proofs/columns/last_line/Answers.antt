use Rattle.lists.specs.Written.{followed}
use Rattle.printing.specs.Columns.{columns, last_line}
use Rattle.printing.proofs.columns.last_line.Goals as goal

pub returns : goal.returns
unfolding last_line columns
returns c =
    followed c.heading-first.ensures.1 (followed c.figure-second.ensures.1 (followed c.figure-third.ensures.1 (followed c.figure-rest.ensures.1 c.ending.ensures)))
