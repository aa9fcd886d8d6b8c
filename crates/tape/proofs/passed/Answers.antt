use mathlib.Core.Path.{sym}
use native.Mathlib.Omega.{arith}
use borrow.Author.Rules.{rules}
use borrow.Author.Tests.{lt-leb}
use Rattle.rules.specs.Draws.{limit}
use Rattle.rules.proofs.Laws.Draws.{limit-above}
use Rattle.tape.proofs.passed.Goals as goal

pub returns-then-w-bound-le65536 : goal.returns-then-w-bound-le65536
returns-then-w-bound-le65536 c = let a = c.args in sym (lt-leb (limit a.bound) a.w (omega (arith, limit-above a.bound c.requires.1)))

pub returns : goal.returns
unfolding limit
returns c = search rules
