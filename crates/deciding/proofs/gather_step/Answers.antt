use mathlib.Core.Path.{◌≡◌, ap, sym, ◌∙◌}
use mathlib.Core.Option.{none}
use Rattle.client.specs.View.{state_of, found_of}
use Rattle.lists.specs.Search.{any}
use Rattle.rules.specs.Rebuild.{unread}
use Rattle.commands.specs.Outstanding.{of_partition}
use Rattle.commands.specs.Commands.{all-taken}
use Rattle.deciding.specs.Steps.{gather-read, gather-waits, gather-stays, gather-rebuilds}
use Rattle.deciding.proofs.gather_step.Goals as goal
use Rattle.deciding.proofs.gather_step.Goals.{After-is_busy, In_default}

-- whether a command of its partition is outstanding
busy : (c : After-is_busy) → let a = c.args in any (of_partition a.q) (state_of a.c a.m.now).outstanding ≡ c.is_busy.result
busy c = let a = c.args in ap (any (of_partition a.q)) (sym (all-taken a.c a.m.now)) ∙ sym c.is_busy.ensures

-- no slot of its sources is left to read
done : (c : In_default) → let a = c.args in none ≡ unread (state_of a.c a.m.now) a.q
done c = sym (ap found_of c.in_default.is) ∙ c.unread.ensures

pub returns-in-Some : goal.returns-in-Some
returns-in-Some c =
    let a = c.args in
    gather-read (state_of a.c a.m.now) a.q (c.in-Some.l, c.in-Some.i) (sym (ap found_of c.in-Some.is) ∙ c.unread.ensures)

pub returns-then-is_busy : goal.returns-then-is_busy
returns-then-is_busy c =
    let a = c.args in
    gather-waits (state_of a.c a.m.now) a.q (done (goal.at.returns-then-is_busy c).In_default) (busy (goal.at.returns-then-is_busy c).After-is_busy ∙ c.if-is_busy.true)

pub returns-then-is_released_for : goal.returns-then-is_released_for
returns-then-is_released_for c =
    let a = c.args in
    gather-stays (state_of a.c a.m.now) a.q (done (goal.at.returns-then-is_released_for c).In_default) (busy (goal.at.returns-then-is_released_for c).After-is_busy ∙ c.if-is_busy.false) (sym c.is_released_for.ensures ∙ c.if-is_released_for.true)

pub returns : goal.returns
returns c =
    let a = c.args in
    gather-rebuilds (state_of a.c a.m.now) a.q (done (goal.at.returns c).In_default) (busy (goal.at.returns c).After-is_busy ∙ c.if-is_busy.false) (sym c.is_released_for.ensures ∙ c.if-is_released_for.false)
