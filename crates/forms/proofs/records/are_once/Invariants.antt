use mathlib.Core.Path.{◌≡◌}
use Prim.Native.Nat.{◌+◌, ◌-◌, ◌*◌, ◌≤◌}
use lib.Dec.{ltb}
use lib.ListN.{length}
use Rattle.rules.specs.Form.Sums.{out_of_blocks}
use Rattle.forms.specs.Once.{fresh_in}
use Rattle.forms.specs.Records.{numbers_by}
use Rattle.forms.proofs.records.are_once.Given as goal

abbrev pub invariant-loop-i : goal.invariant-loop-i
invariant-loop-i l = (l.at ≤ l.from + l._i * 516) × (length l.seen ≡ length l.initial.seen) × (fresh_in (λ x. ltb x l.bound) l.seen (numbers_by (out_of_blocks l.form.bytes.now) l.step (l.n - l._i) l.at) ≡ fresh_in (λ x. ltb x l.bound) l.initial.seen (numbers_by (out_of_blocks l.form.bytes.now) l.step l.n l.from))
