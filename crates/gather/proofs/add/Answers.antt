use mathlib.Core.Path.{refl, ◌∙◌}
use native.Mathlib.Omega.{arith}
use Rattle.gather.specs.Gathered.{added, added-block}
use Rattle.gather.proofs.add.Goals as goal

pub returns-then-entry-eq0 : goal.returns-then-entry-eq0
unfolding added
returns-then-entry-eq0 c = (rw c.if-entry-eq0.true refl, omega arith)

pub returns : goal.returns
returns c =
    let i = c.insert.ensures in
    (i.0 ∙ added-block c.args.entry _ c.if-entry-eq0.false, i.1)
