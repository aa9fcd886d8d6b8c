use mathlib.Core.Path.{◌≡◌}
use Prim.Native.Nat.{◌+◌, ◌-◌}
use Rattle.rules.specs.Form.Sums.{out_of_blocks}
use Rattle.forms.specs.At.{bytes_at}
use Rattle.forms.specs.Levels.{marks_fit}
use Rattle.forms.proofs.slots.are_marks.Given as goal

abbrev pub invariant-loop-i : goal.invariant-loop-i
invariant-loop-i l = (marks_fit l.seen (l.c + l.i) (bytes_at (out_of_blocks l.form.bytes.now) (l.n - l.i) (l.a + l.i)) ≡ marks_fit l.seen l.c (bytes_at (out_of_blocks l.form.bytes.now) l.n l.a))
