use Rattle.std.proofs.Common.{sym, refl, ◌∙◌, arith}
use Rattle.rules.specs.Form.Sums.{block_sum}
use Rattle.sums.specs.Words.{sum_more, sum-all}
use Rattle.sums.proofs.sum.Goals as goal

pub loop-i-init : goal.loop-i-init
unfolding block_sum
loop-i-init c = refl

pub loop-i-preserved : goal.loop-i-preserved
loop-i-preserved c =
    let l = c.loop-i in
    let b = c.args.body.now in
    rw c.word-a.ensures (sum_more 127 l.i l.a b c.loop-i-test.true ∙ l.invariant)

pub returns : goal.returns
returns c =
    let l = c.loop-i in
    sym (sum-all 127 l.i l.a c.args.body.now (omega arith)) ∙ l.invariant
