use native.Mathlib.Omega.{arith}
use Rattle.claims.proofs.Accepted.{zeros-words, accepted}
use Rattle.callers.proofs.accepted_run.Goals as goal

pub returns : goal.returns
returns c =
    accepted _ _ _ _ zeros-words (omega arith) (omega arith) (omega arith) _ _ _ _ _ c.«open».ensures (omega arith) c.save.ensures (omega arith)
    _ _ _ (omega arith) (omega arith) (omega arith) _ _ _ _ _ _ _ _ _ _ _ _ _ _ _ _ _ c.load.ensures (omega arith) c.request.ensures (omega arith) c.collect.ensures (omega arith) (omega (arith, c.collect.auto)) c.turn.ensures (omega arith) c.completion.ensures
