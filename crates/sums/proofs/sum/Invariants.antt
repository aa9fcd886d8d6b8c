use Rattle.std.proofs.Common.{◌≡◌, ◌-◌, ◌*◌, drop}
use Rattle.rules.specs.Form.Sums.{words_of, sum_from, block_sum}
use Rattle.sums.proofs.sum.Given as goal

abbrev pub invariant-loop-i : goal.invariant-loop-i
invariant-loop-i l = sum_from l.a (words_of (127 - l.i) (drop (l.i * 4) l.body)) ≡ block_sum l.k l.body
