use Rattle.std.proofs.Common.{◌≡◌, ◌-◌, ◌*◌, ◌/◌, length, drop}
use Rattle.rules.specs.Form.Sums.{sums_right, summed}
use Rattle.sums.proofs.is_summed.Given as goal

abbrev pub invariant-loop-k : goal.invariant-loop-k
invariant-loop-k l = sums_right (length l.form / 512 - l.k) l.k (drop (l.k * 512) l.form) ≡ summed l.form
