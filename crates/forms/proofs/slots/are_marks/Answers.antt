use mathlib.Core.Path.{ap, sym, ◌∙◌}
use Prim.Native.Nat.{◌+◌, ◌≤◌, ◌<◌}
use native.Mathlib.Omega.{arith}
use lib.ListN.{get_or}
use Rattle.rules.specs.Form.Sums.{out_of_blocks}
use Rattle.forms.specs.Levels.{marks_fit, bytes_left, bytes-none, marks-more, marks-not, marks-none}
use Rattle.forms.proofs.slots.are_marks.Goals as goal

pub returns-then-byte-from-gt1 : goal.returns-then-byte-from-gt1
returns-then-byte-from-gt1 c =
    let l = c.loop-i in
    let a = c.args in
    let p = out_of_blocks a.form.bytes.now in
    let s = a.seen.now in
    let big : 1 < get_or p (a.a + l.i) 0 + get_or s (a.c + l.i) 0 = omega (arith, c.byte.ensures.0, c.from.ensures) in
    sym (sym l.invariant ∙ ap (marks_fit s (a.c + l.i)) (bytes_left p a.n a.a l.i (omega arith)) ∙ marks-not s a.c l.i _ _ big)

pub loop-i-preserved : goal.loop-i-preserved
loop-i-preserved c =
    let l = c.loop-i in
    let a = c.args in
    let p = out_of_blocks a.form.bytes.now in
    let s = a.seen.now in
    let small : get_or p (a.a + l.i) 0 + get_or s (a.c + l.i) 0 ≤ 1 = omega (arith, c.byte.ensures.0, c.from.ensures) in
    sym (marks-more s a.c l.i _ _ small) ∙ ap (marks_fit s (a.c + l.i)) (sym (bytes_left p a.n a.a l.i (omega arith))) ∙ l.invariant

pub returns : goal.returns
returns c =
    let l = c.loop-i in
    let a = c.args in
    let p = out_of_blocks a.form.bytes.now in
    sym (sym l.invariant ∙ ap (marks_fit a.seen.now (a.c + l.i)) (bytes-none p a.n (a.a + l.i) l.i (omega arith)) ∙ marks-none a.seen.now (a.c + l.i))
