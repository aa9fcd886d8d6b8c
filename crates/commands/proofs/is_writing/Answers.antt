use mathlib.Core.Path.{sym}
use native.Mathlib.Omega.{arith}
use borrow.Author.Count.{below_more}
use borrow.Author.Tests.{lt-ltb, le-ltb}
use Rattle.rules.specs.State.{write}
use Rattle.client.specs.Rows.{any-hit, any-miss}
use Rattle.commands.specs.Outstanding.{of_kind}
use Rattle.commands.specs.Commands.{outstanding-is, kind-is}
use Rattle.commands.proofs.is_writing.Goals as goal

pub returns-then-entry-ge-WRITE_FROM : goal.returns-then-entry-ge-WRITE_FROM
returns-then-entry-ge-WRITE_FROM c =
    let l = c.loop-i in
    rw outstanding-is (sym (any-hit (of_kind write) _ _ l.i (omega arith) (rw (kind-is _ _ _ _ c.entry.ensures, le-ltb _ _ c.if-entry-ge-WRITE_FROM.true))))

pub loop-i-preserved : goal.loop-i-preserved
loop-i-preserved c =
    let l = c.loop-i in
    below_more _ _ l.invariant (rw (kind-is _ _ _ _ c.entry.ensures, lt-ltb _ _ c.if-entry-ge-WRITE_FROM.false))

pub returns : goal.returns
returns c = rw outstanding-is (sym (any-miss (of_kind write) _ _ (λ x h. c.loop-i.invariant x (omega arith))))
