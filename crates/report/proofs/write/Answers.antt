use mathlib.Core.Path.{◌≡◌, sym, ◌∙◌}
use mathlib.Core.Bool.{true}
use native.Mathlib.Omega.{arith}
use lib.ListN.{length}
use Rattle.rules.specs.Questions.{ready}
use Rattle.client.specs.View.{state_of}
use Rattle.ready.specs.Usable.{usable}
use Rattle.report.specs.Laws.{client-page-length, shows-unready, shows-short, shows-page}
use Rattle.report.proofs.write.Goals as goal
use Rattle.report.proofs.write.Goals.{Else-not-is_ready}

-- the state may be used
begun : (c : Else-not-is_ready) → let a = c.args in ready (state_of a.c a.m.now) (length a.m.now) ≡ true
begun c = sym c.is_ready.ensures ∙ c.if-not-is_ready.false

pub returns-then-not-is_ready : goal.returns-then-not-is_ready
returns-then-not-is_ready c = shows-unready _ _ _ (sym c.is_ready.ensures ∙ c.if-not-is_ready.true)

pub overflow_add-c : goal.overflow_add-c
overflow_add-c c =
    let a = c.args in
    omega (arith, (usable a.c a.m.now (begun (goal.at.overflow_add-c c).Else-not-is_ready)).room.partitions)

pub overflow_mul-c : goal.overflow_mul-c
overflow_mul-c c =
    let a = c.args in
    omega (arith, (usable a.c a.m.now (begun (goal.at.overflow_mul-c c).Else-not-is_ready)).room.partitions)

pub returns-then-out-c : goal.returns-then-out-c
returns-then-out-c c =
    let a = c.args in
    let n = client-page-length a.c a.m.now (usable a.c a.m.now (begun (goal.at.returns-then-out-c c).Else-not-is_ready)).range in
    shows-short (state_of a.c a.m.now) _ _ (begun (goal.at.returns-then-out-c c).Else-not-is_ready) (omega arith)

pub put-requires : goal.put-requires
put-requires c =
    let a = c.args in
    let u = usable a.c a.m.now (begun (goal.at.put-requires c).Else-not-is_ready) in
    (u, omega arith)

pub returns : goal.returns
returns c =
    let a = c.args in
    let n = client-page-length a.c a.m.now (usable a.c a.m.now (begun (goal.at.returns c).Else-not-is_ready)).range in
    shows-page (state_of a.c a.m.now) _ a.out.now (begun (goal.at.returns c).Else-not-is_ready) (omega (arith, c.if-out-c)) _ _ c.put.ensures
