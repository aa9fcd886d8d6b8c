use borrow.Author.Rules.{rules}
use native.Mathlib.Omega.{arith}
use Rattle.printing.specs.Text.{number_text, further}
use Rattle.printing.specs.Laws.{decimal-le}
use Rattle.lists.specs.Written.{followed}
use Rattle.printing.proofs.number.Goals as goal

pub digits-k-requires : goal.digits-k-requires
digits-k-requires c = let w = decimal-le c.args.n in search rules

pub put-requires : goal.put-requires
put-requires c = omega (arith, decimal-le c.args.n, c.digits-k.ensures.place, c.digits-k.ensures.size)

pub returns : goal.returns
unfolding number_text further
returns c = followed c.digits-k.ensures c.put.ensures
