use Rattle.std.proofs.Common.{arith, take_all, subst}
use Rattle.std.specs.Io.KnownBytes.{Appends}
use Rattle.output.proofs.Known.{appends-none, appends_kept, appends-nothing, appends-step, step-within, err_part}
use Rattle.output.proofs.write_whole.Goals as goal

pub loop-done-init : goal.loop-done-init
loop-done-init g c = (omega arith, appends-none _)

pub returns-in_err-n-clause-part : goal.returns-in_err-n-clause-part
returns-in_err-n-clause-part g c = err_part _ _ _ _ c.loop-done.done (appends_kept _ _ _ _ c.loop-done.invariant.1 c.in_err-n.ensures.bytes)

pub returns-then-n-eq0-clause-part : goal.returns-then-n-eq0-clause-part
returns-then-n-eq0-clause-part g c = (c.loop-done.done, appends-nothing _ _ _ _ _ _ c.if-n-eq0.true c.loop-done.invariant.1 c.in_ok-n.ensures.bytes)

pub loop-done-smaller : goal.loop-done-smaller
loop-done-smaller g c = omega arith

pub loop-done-preserved : goal.loop-done-preserved
loop-done-preserved g c =
    (step-within _ _ _ c.loop-done.invariant.0 c.in_ok-n.ensures.bound, appends-step _ _ _ _ _ _ c.loop-done.invariant.0 c.loop-done.invariant.1 c.in_ok-n.ensures.bytes)

pub returns-clause-all : goal.returns-clause-all
returns-clause-all g c = subst (Appends _ _) (take_all c.loop-done.done c.args.text.now (omega arith)) c.loop-done.invariant.1
