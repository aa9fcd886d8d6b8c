use Rattle.std.proofs.Common.{arith}
use Rattle.sums.specs.Words.{word-is}
use Rattle.sums.proofs.word.Goals as goal

pub returns : goal.returns
returns c =
    let a = c.args in
    omega (arith, word-is a.body.now a.at c.requires)
