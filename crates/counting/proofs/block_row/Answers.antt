use mathlib.Core.Path.{sym, ◌∙◌}
use native.Mathlib.Omega.{arith}
use Rattle.lists.specs.Search.{member}
use Rattle.rules.specs.Blocks.{is_nowhere}
use Rattle.client.specs.View.{state_of}
use Rattle.client.specs.Readings.{place-as}
use Rattle.client.specs.Changes.{stored-not, nowhere-is}
use Rattle.counting.specs.Counts.{row_of}
use Rattle.cache.specs.Marks.{bit-yes, bit-no}
use Rattle.counting.proofs.block_row.Goals as goal

pub returns-then-get-ge2 : goal.returns-then-get-ge2
unfolding row_of
returns-then-get-ge2 c =
    let a = c.args in
    rw (place-as a.c a.m.now a.b c.get.result c.get.ensures, stored-not a.c.shape.l c.get.result c.if-get-ge2.true)

pub returns-then-marks-b-eq1 : goal.returns-then-marks-b-eq1
unfolding row_of is_nowhere
returns-then-marks-b-eq1 c =
    let a = c.args in
    let waits = bit-yes (member a.b (state_of a.c a.m.now).waiting) (sym (c.requires.2 a.b (omega arith)) ∙ c.if-marks-b-eq1.true) in
    rw (place-as a.c a.m.now a.b c.get.result c.get.ensures, nowhere-is a.c.shape.l c.get.result (omega arith), waits)

pub returns : goal.returns
unfolding row_of is_nowhere
returns c =
    let a = c.args in
    let waits = bit-no (member a.b (state_of a.c a.m.now).waiting) (λ e. c.if-marks-b-eq1.false (c.requires.2 a.b (omega arith) ∙ e)) in
    rw (place-as a.c a.m.now a.b c.get.result c.get.ensures, nowhere-is a.c.shape.l c.get.result (omega arith), waits)
