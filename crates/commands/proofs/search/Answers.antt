use native.Mathlib.Omega.{arith}
use Rattle.rules.specs.Completion.{is_command}
use Rattle.client.specs.Rows.{any-miss}
use Rattle.commands.specs.Outstanding.{outstanding-at}
use Rattle.commands.specs.Commands.{outstanding-is}
use Rattle.commands.proofs.search.Goals as goal

pub returns-then-is_at : goal.returns-then-is_at
returns-then-is_at c =
    let l = c.loop-j in
    outstanding-at _ _ _ _ l.j (outstanding-is _ _) (omega arith) (rw c.is_at.ensures at c.if-is_at.true) l.invariant

pub returns : goal.returns
returns c = rw outstanding-is (any-miss (is_command _) _ _ (λ x h. c.loop-j.invariant x (omega arith)))
