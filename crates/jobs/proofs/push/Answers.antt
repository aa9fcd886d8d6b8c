use mathlib.Core.Path.{ap, sym, ◌∙◌}
use mathlib.Core.List.{[], ◌∷◌, ◌++◌}
use Prim.Native.Nat.{◌+◌}
use native.Mathlib.Omega.{arith}
use Rattle.client.specs.Changes.{fit-push}
use Rattle.jobs.specs.Queue.{queue-is, queue-stands}
use Rattle.jobs.proofs.push.Goals as goal

pub returns : goal.returns
returns c =
    let k = c.args.c in
    (c.with_jobs.ensures, rw c.with_jobs.ensures (queue-stands k _ _ _ (k.jobs + 1) _ c.set.ensures (fit-push k.shape.p (omega arith) _ k.jobs c.args.q (omega arith) ∙ ap (λ r. r ++ (c.args.q ∷ [])) (sym (queue-is k c.args.m.now)))))
