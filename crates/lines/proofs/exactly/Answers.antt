use Rattle.std.proofs.Common.{sym, ap, ◌∙◌, arith, add-one, length-take-le, take_all, take-suc-set, length-set, Some}
use Rattle.std.proofs.lemmas.List.{length-replicate}
use Rattle.lines.specs.Said.{exactly as exactly_of}
use Rattle.lines.specs.Numbers.{exactly_in}
use Rattle.lines.specs.Stored.{passed_none, passed_more, passed-all, passed-short, passed-long}
use Rattle.lines.proofs.exactly.Goals as goal

pub loop-k-init : goal.loop-k-init
loop-k-init g c = (length-replicate g.row.N 0, passed_none c.args.line.now)

pub returns-in_err-x : goal.returns-in_err-x
returns-in_err-x g c =
    let l = c.loop-k in
    c.from_residual.ensures ∙ sym (passed-short _ l.at _ l.invariant.1 _ (omega (arith, length-take-le l.k l.found)) c.in_err-x.ensures.none)

pub loop-k-preserved : goal.loop-k-preserved
loop-k-preserved g c =
    let l = c.loop-k in
    (length-set l.found l.k _ ∙ l.invariant.0, rw (add-one l.k, take-suc-set l.found l.k _ (omega arith)) (passed_more _ l.at _ l.invariant.1 _ _ c.in_ok-x.ensures.found))

pub returns-then-at-line : goal.returns-then-at-line
returns-then-at-line g c =
    let l = c.loop-k in
    sym (passed-long _ l.at _ l.invariant.1 _ (omega (arith, length-take-le l.k l.found)) (omega arith))

pub returns : goal.returns
returns g c =
    let l = c.loop-k in
    sym (ap (exactly_of _) (passed-all _ l.at _ l.invariant.1 (omega arith) ∙ ap Some (take_all l.k l.found (omega arith))) ∙ exactly_in _ _ (omega arith))
