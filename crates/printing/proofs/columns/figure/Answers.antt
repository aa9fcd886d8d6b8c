use borrow.Author.Rules.{rules}
use Rattle.printing.specs.Laws.{decimal-le}
use Rattle.printing.proofs.columns.figure.Goals as goal

pub column-requires : goal.column-requires
column-requires c = let w = decimal-le c.args.n in search rules
