use mathlib.Core.Path.{◌≡◌}
use Prim.Native.Nat.{◌+◌, ◌-◌, ◌*◌}
use lib.Dec.{ltb}
use Rattle.lists.specs.Search.{all}
use Rattle.rules.specs.Form.Sums.{out_of_blocks}
use Rattle.forms.specs.At.{numbers_at}
use Rattle.forms.proofs.header.are_below.Given as goal

abbrev pub invariant-loop-i : goal.invariant-loop-i
invariant-loop-i l = (all (λ x. ltb x l.bound) (numbers_at (out_of_blocks l.form.bytes.now) 2 (l.n - l.i) (l.a + l.i * 2)) ≡ all (λ x. ltb x l.bound) (numbers_at (out_of_blocks l.form.bytes.now) 2 l.n l.a))
