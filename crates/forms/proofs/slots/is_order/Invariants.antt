use mathlib.Core.Path.{◌≡◌}
use Prim.Native.Nat.{◌+◌, ◌-◌}
use lib.Dec.{ltb}
use lib.ListN.{length}
use Rattle.rules.specs.Form.Sums.{out_of_blocks}
use Rattle.forms.specs.At.{bytes_at}
use Rattle.forms.specs.Once.{fresh_in}
use Rattle.forms.specs.Levels.{is_order}
use Rattle.forms.proofs.slots.is_order.Given as goal

abbrev pub invariant-loop-i : goal.invariant-loop-i
invariant-loop-i l = (length l.seen ≡ 256) × (fresh_in (λ x. ltb x l.n) l.seen (bytes_at (out_of_blocks l.form.bytes.now) (l.n - l.i) (l.a + l.i)) ≡ is_order l.n (bytes_at (out_of_blocks l.form.bytes.now) l.n l.a))
