use mathlib.Core.Path.{sym, ◌∙◌}
use native.Mathlib.Omega.{arith}
use Rattle.rules.proofs.Laws.Levels.{begun-some, begun-none}
use Rattle.jobs.proofs.begun_with.Goals as goal

pub returns-then-c-ne0 : goal.returns-then-c-ne0
returns-then-c-ne0 c = sym (begun-some _ _ (omega (arith, c.if-c-ne0.true)))

pub returns : goal.returns
returns c = c.queued.ensures ∙ sym (begun-none _ _ (omega (arith, c.if-c-ne0.false)))
