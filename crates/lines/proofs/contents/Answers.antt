use Rattle.std.proofs.Common.{◌≡◌, ◌/◌, length, sym, ◌∙◌, arith}
use Rattle.lines.specs.Stored.{paired_none, paired-all, paired-more, paired-not, contents-not}
use Rattle.lines.proofs.contents.Goals.{then-n-eq0-via-then-n-eq0, then-n-eq0-via-else-n-eq0+then-s-n, then-n-eq0-via-else-n-eq0+else-s-n+then-n-gt-CONTENTS}
use Rattle.lines.proofs.contents.Goals as goal

pub returns-then-n-eq0-clause-contents : goal.returns-then-n-eq0-clause-contents
returns-then-n-eq0-clause-contents c =
    sym (contents-not c.args.s.now (λ m e z u. elim c.then-n-eq0.branch [
      | then-n-eq0-via-then-n-eq0 w ↦ omega arith
      | then-n-eq0-via-else-n-eq0+then-s-n w ↦ w.if-s-n.true (omega arith)
      | then-n-eq0-via-else-n-eq0+else-s-n+then-n-gt-CONTENTS w ↦ omega arith
    ]))

pub loop-k-init : goal.loop-k-init
loop-k-init c = paired_none _ _

pub returns-in_err-room-clause-contents : goal.returns-in_err-room-clause-contents
returns-in_err-room-clause-contents c =
    let l = c.loop-k in
    rw c.from_residual.ensures (sym (paired-not _ _ _ l.k l.invariant (omega arith) (sym c.in_err-room.was ∙ c.pair.ensures)))

pub loop-k-preserved : goal.loop-k-preserved
loop-k-preserved c =
    let l = c.loop-k in
    paired-more _ _ _ l.k l.invariant (omega arith) _ (sym c.in_ok-room.was ∙ c.pair.ensures) (omega arith)

pub returns-clause-contents : goal.returns-clause-contents
returns-clause-contents c =
    let l = c.loop-k in
    let e : length c.args.s.now / 2 ≡ l.k = omega arith in
    rw e (sym (paired-all _ _ _ l.k l.invariant (omega arith) (omega arith) (omega arith) (omega arith)))
