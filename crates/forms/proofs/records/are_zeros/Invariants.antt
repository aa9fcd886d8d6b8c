use mathlib.Core.Path.{◌≡◌}
use Prim.Native.Nat.{◌*◌, ◌/◌}
use lib.Dec.{eqb}
use lib.ListN.{length, drop}
use Rattle.lists.specs.Search.{all}
use Rattle.rules.specs.Form.Sums.{out_of_blocks}
use Rattle.forms.proofs.records.are_zeros.Given as goal

abbrev pub invariant-loop-k : goal.invariant-loop-k
invariant-loop-k l = (l.end ≡ length l.form.bytes.now / 512 * 508) × (all (eqb 0) (drop l.k (out_of_blocks l.form.bytes.now)) ≡ all (eqb 0) (drop l.from (out_of_blocks l.form.bytes.now)))
