use mathlib.Core.Path.{◌≡◌}
use Prim.Native.Nat.{◌-◌, ◌≤◌}
use lib.ListN.{length, take}
use Rattle.rules.specs.Form.Sums.{out_of_blocks}
use Rattle.forms.specs.At.{bytes_at}
use Rattle.loading.proofs.records.contents.Given as goal

abbrev pub invariant-loop-i : goal.invariant-loop-i
invariant-loop-i l = (l.i ≤ l.n) × (l.n ≡ length l.initial.dst) × (length l.dst ≡ l.n) × (take l.i l.dst ≡ bytes_at (out_of_blocks l.form.bytes.now) l.i l.k)

abbrev pub decreases-loop-i : goal.decreases-loop-i
decreases-loop-i l = l.n - l.i
