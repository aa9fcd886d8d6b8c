use Rattle.std.proofs.Common.{◌≡◌, ◌+◌, ◌-◌, ◌*◌, eqb, take, drop, ap, ◌∙◌, arith}
use Rattle.rules.specs.Form.Numbers.{value}
use Rattle.rules.specs.Form.Sums.{block_sum}
use Rattle.sums.specs.Sums.{sum-mod}
use Rattle.sums.proofs.is_block.Goals as goal

pub returns : goal.returns
returns c =
    let a = c.args in
    let n : a.k * 512 + 508 - a.k * 512 ≡ 508 = omega arith in
    rw c.word.ensures (ap (eqb (value (take 4 (drop (a.k * 512 + 508) a.form.now)))) (c.sum-s.ensures
    ∙ sum-mod a.k (take (a.k * 512 + 508 - a.k * 512) (drop (a.k * 512) a.form.now)) ∙ ap (λ m. block_sum a.k (take m (drop (a.k * 512) a.form.now))) n))
