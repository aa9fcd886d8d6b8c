use borrow.Author.Tests.{eq-eqb, ne_eqb}
use Rattle.printing.specs.Text.{letter_of}
use Rattle.printing.proofs.letter.Goals as goal

pub returns-then-kind-eq-READ : goal.returns-then-kind-eq-READ
unfolding letter_of
returns-then-kind-eq-READ c = rw (eq-eqb c.args.kind 1 c.if-kind-eq-READ.true)

pub returns-else-kind-eq-READ : goal.returns-else-kind-eq-READ
unfolding letter_of
returns-else-kind-eq-READ c = rw (ne_eqb c.args.kind 1 c.if-kind-eq-READ.false)
