use mathlib.Core.Path.{sym, ◌∙◌}
use native.Mathlib.Omega.{arith}
use borrow.Author.Count.{below_more}
use borrow.Author.Tests.{eq-eqb, ne_eqb}
use Rattle.client.specs.Rows.{hit-in, miss-in}
use Rattle.commands.specs.Outstanding.{of_partition}
use Rattle.commands.specs.Commands.{outstanding-is, partition-is}
use Rattle.commands.proofs.is_busy.Goals as goal

pub returns-then-fit-q : goal.returns-then-fit-q
returns-then-fit-q c =
    let l = c.loop-i in
    rw outstanding-is (sym (hit-in (of_partition _) _ c.args.c.out c.args.n c.requires.2 l.i (omega arith) (eq-eqb _ _ (partition-is _ _ _ _ _ c.entry.ensures c.fit.ensures ∙ c.if-fit-q.true))))

pub loop-i-preserved : goal.loop-i-preserved
loop-i-preserved c =
    let l = c.loop-i in
    below_more _ _ l.invariant (rw (partition-is _ _ l.i _ _ c.entry.ensures c.fit.ensures) (ne_eqb _ _ c.if-fit-q.false))

pub returns : goal.returns
returns c = rw outstanding-is (sym (miss-in (of_partition _) _ c.args.c.out c.args.n c.requires.2 (λ x h. c.loop-i.invariant x (omega arith))))
