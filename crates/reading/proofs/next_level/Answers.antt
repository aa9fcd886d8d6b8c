use mathlib.Core.Path.{◌≡◌, ap, sym, ◌∙◌}
use native.Mathlib.Omega.{arith}
use Rattle.rules.specs.Levels.{filled}
use Rattle.rules.specs.Reader.{costing, costs}
use Rattle.client.specs.Readings.{counter-is}
use Rattle.client.specs.View.{state_of}
use Rattle.levels.specs.Next.{next-same}
use Rattle.levels.specs.Walks.{kept-hit, kept-miss, kept-done}
use Rattle.reading.specs.Conditions.{costs-above}
use Rattle.reading.specs.Sources.{above}
use Rattle.reading.proofs.next_level.Goals as goal
use Rattle.reading.proofs.next_level.Goals.{After-costs}

-- what the loop's level costs, by its condition
cost : (c : After-costs) → let a = c.args in c.costs.result ≡ costs (state_of a.c a.m.now) a.q c.loop-l.l
unfolding costs
cost c = c.costs.ensures ∙ ap costing c.condition_of.ensures

-- no source is left
pub returns-then-sources-from : goal.returns-then-sources-from
returns-then-sources-from c =
    let s = state_of c.args.c c.args.m.now in
    let k = c.get-counter in
    next-same (filled k.result) (costs s c.args.q) _
    (λ ℓ h. ap (λ n. filled n ℓ) (sym (counter-is c.args.c c.args.m.now c.args.q k.result k.ensures)) ∙ sym (costs-above s c.args.q ℓ (above _ _ _ _ ℓ c.requires.3 (omega (arith, h, c.if-sources-from.true)))))
    _ _ c.next_filled.ensures

pub returns-then-costs : goal.returns-then-costs
returns-then-costs c =
    let l = c.loop-l in
    record { start = omega arith; end = omega arith; passes = l.invariant ∙ kept-hit _ _ l.l (omega arith) (sym (cost (goal.at.returns-then-costs c).After-costs) ∙ c.if-costs.true) }

pub loop-l-preserved : goal.loop-l-preserved
loop-l-preserved c =
    let l = c.loop-l in
    l.invariant ∙ kept-miss _ _ l.l (omega arith) (sym (cost (goal.at.loop-l-preserved c).After-costs) ∙ c.if-costs.false)

pub returns : goal.returns
returns c =
    let l = c.loop-l in
    l.invariant ∙ kept-done _ _ l.l (omega arith)
