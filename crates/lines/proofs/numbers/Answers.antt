use Rattle.std.proofs.Common.{refl, sym, ap, ◌∙◌, arith}
use Rattle.lines.specs.Lines.{up_to}
use Rattle.lines.specs.Numbers.{up_in, up_none}
use Rattle.lines.specs.Stored.{length-first, words_more, passed_none, passed_more, passed-all, passed-not, passed-over}
use Rattle.lines.proofs.numbers.Goals as goal

pub loop-at-init : goal.loop-at-init
loop-at-init c = (omega arith, refl, passed_none c.args.line.now)

pub returns-in_err-x-clause-numbers : goal.returns-in_err-x-clause-numbers
returns-in_err-x-clause-numbers c =
    let l = c.loop-at in
    rw c.from_residual.ensures (sym (ap (up_to _) (passed-not _ l.at _ l.invariant.2 (c.in_err-x.ensures.none (omega arith))) ∙ up_none _))

pub returns-then-k-most-clause-numbers : goal.returns-then-k-most-clause-numbers
returns-then-k-most-clause-numbers c =
    let l = c.loop-at in
    sym (passed-over _ l.at _ l.invariant.2 _ _ _ c.in_ok-x.ensures.found (omega (arith, length-first l.k l.room)))

pub loop-at-preserved : goal.loop-at-preserved
loop-at-preserved c =
    let l = c.loop-at in
    let n = c.in_ok-x.ensures.found in
    (omega arith, l.invariant.1, rw (c.set_word.ensures, words_more l.room l.k _ (omega arith) n.small) (passed_more _ l.at _ l.invariant.2 _ _ n))

pub returns-clause-numbers : goal.returns-clause-numbers
returns-clause-numbers c =
    let l = c.loop-at in
    sym (ap (up_to _) (passed-all _ l.at _ l.invariant.2 (omega arith)) ∙ up_in _ _ (omega (arith, length-first l.k l.room)))
