use mathlib.Core.Path.{ap, sym, ◌∙◌}
use lib.Dec.{eqb}
use Rattle.client.specs.Readings.{partition-is}
use Rattle.deciding.specs.Steps.{looks-none, looks-held, looks-at}
use Rattle.deciding.proofs.is_released_for.Goals as goal

pub returns-then-x-eq0 : goal.returns-then-x-eq0
returns-then-x-eq0 c = let a = c.args in sym (looks-none a.c a.m.now a.q c.if-x-eq0.true)

pub returns-then-x-eq0-2 : goal.returns-then-x-eq0-2
returns-then-x-eq0-2 c =
    let a = c.args in
    sym (looks-held a.c a.m.now a.q c.if-x-eq0.false c.if-x-eq0-2.true)

pub returns : goal.returns
returns c =
    let a = c.args in
    ap (λ p. eqb p a.q) (sym (partition-is a.c a.m.now a.c.request.block c.get.result c.get.ensures))
    ∙ sym (looks-at a.c a.m.now a.q c.if-x-eq0.false c.if-x-eq0-2.false)
