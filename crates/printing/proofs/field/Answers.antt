use borrow.Author.Rules.{rules}
use Rattle.printing.specs.Laws.{decimal-le}
use Rattle.lists.specs.Written.{followed}
use Rattle.printing.proofs.field.Goals as goal

pub digits-requires : goal.digits-requires
digits-requires c = let w = decimal-le c.args.n in search rules

pub returns : goal.returns
returns c = followed c.put-k.ensures c.digits.ensures
