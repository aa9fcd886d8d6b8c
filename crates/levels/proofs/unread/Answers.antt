use mathlib.Core.Path.{refl, ap, sym, ◌∙◌}
use native.Mathlib.Omega.{arith}
use Rattle.rules.specs.Levels.{filled}
use Rattle.memory.specs.Fits.{shape_of}
use Rattle.client.specs.View.{found_of}
use Rattle.levels.specs.Slots.{cell-lt}
use Rattle.levels.specs.Unread.{levels-all, levels-passed, levels-done, level-enter, level-done, slot-hit, slot-miss, slot-source}
use Rattle.levels.proofs.unread.Goals as goal

pub levels-init : goal.levels-init
levels-init c =
    (refl, sym (levels-passed _ _ _ _ c.level_of-from.result c.level_of-from.ensures.0) ∙ levels-all _ _ _ _ c.args.top c.requires.3 refl)

pub loop-i-init : goal.loop-i-init
loop-i-init c =
    let l = c.levels in
    let p = c.pow2-n in
    (l.invariant.0, omega arith, sym (level-enter _ _ _ _ c.args.counter _ p.result c.first_slot-first.result c.requires.2 c.levels-test.true p.ensures.0 c.first_slot-first.ensures) ∙ l.invariant.1)

pub get-requires : goal.get-requires
get-requires c =
    (c.requires.0, cell-lt (shape_of c.args.c.shape) _ _ _ _ c.cell-base.ensures.0 c.requires.1 (omega arith) (omega arith))

pub loop-i-preserved : goal.loop-i-preserved
loop-i-preserved c =
    let l = c.loop-i in
    let f = c.first_slot-first in
    let s = slot-source _ _ _ _ _ l.i f.ensures l.invariant.1 c.loop-i-test.true in
    (l.invariant.0, omega arith, sym (slot-miss _ _ _ _ _ _ _ l.i _ (ap (λ x. filled x c.levels.l) (sym c.requires.2) ∙ s.0) c.pow2-n.ensures.0 c.cell-base.ensures.0 c.loop-i-test.true s.1 c.get.ensures c.if-get-eq1.false) ∙ l.invariant.2)

pub levels-preserved : goal.levels-preserved
levels-preserved c =
    let l = c.loop-i in
    (l.invariant.0, sym (level-done _ _ _ _ _ l.i c.loop-i-test.false) ∙ l.invariant.2)

pub returns-after-levels : goal.returns-after-levels
returns-after-levels c =
    let l = c.levels in
    ap found_of l.invariant.0 ∙ sym (levels-done _ _ _ l.l c.levels-test.false) ∙ l.invariant.1

pub returns-then-get-eq1 : goal.returns-then-get-eq1
returns-then-get-eq1 c =
    let l = c.loop-i in
    let f = c.first_slot-first in
    let s = slot-source _ _ _ _ _ l.i f.ensures l.invariant.1 c.loop-i-test.true in
    sym (slot-hit _ _ _ _ _ _ _ l.i _ (ap (λ x. filled x c.levels.l) (sym c.requires.2) ∙ s.0) c.pow2-n.ensures.0 c.cell-base.ensures.0 c.loop-i-test.true s.1 c.get.ensures c.if-get-eq1.true) ∙ l.invariant.2
