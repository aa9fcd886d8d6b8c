use mathlib.Core.Path.{sym, ◌∙◌}
use native.Mathlib.Omega.{arith}
use Rattle.std.proofs.lemmas.Grind.{common_steps}
use Rattle.rules.specs.Questions.{questions, first_no, number}
use Rattle.ready.specs.Usable.{usable}
use Rattle.collecting.specs.Collecting.{asked-none, asked-some, asked-finished, hand, size_is}
use Rattle.collecting.proofs.ask.Goals as goal

pub returns-then-c-eq0 : goal.returns-then-c-eq0
unfolding number questions first_no
returns-then-c-eq0 c = let a = c.args in grind (arith, common_steps, asked-none a.c a.m.now c.if-c-eq0.true)

pub is_finished-requires : goal.is_finished-requires
is_finished-requires c =
    let a = c.args in
    let u = usable a.c a.m.now (sym c.is_ready.ensures ∙ c.if-not-is_ready.false) in
    (hand a.c a.m.now u c.if-c-eq0.false, u.counts.begun)

pub returns-then-not-is_finished : goal.returns-then-not-is_finished
unfolding number questions first_no
returns-then-not-is_finished c = let a = c.args in grind (arith, common_steps, asked-some a.c a.m.now c.if-c-eq0.false, asked-finished a.c a.m.now c.if-c-eq0.false)

pub returns-then-len-c : goal.returns-then-len-c
unfolding number questions first_no
returns-then-len-c c = let a = c.args in grind (arith, common_steps, asked-some a.c a.m.now c.if-c-eq0.false, asked-finished a.c a.m.now c.if-c-eq0.false, size_is a.c a.m.now)

pub returns : goal.returns
unfolding number questions first_no
returns c = let a = c.args in grind (arith, common_steps, asked-some a.c a.m.now c.if-c-eq0.false, asked-finished a.c a.m.now c.if-c-eq0.false, size_is a.c a.m.now)
