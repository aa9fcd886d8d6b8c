use mathlib.Core.Path.{ap}
use mathlib.Core.Bool.{not}
use native.Mathlib.Omega.{arith}
use Rattle.rules.specs.Blocks.{is_nowhere}
use Rattle.client.specs.Readings.{place-as}
use Rattle.client.specs.Changes.{stored-not, nowhere-is}
use Rattle.collecting.proofs.is_blank.Goals as goal

pub returns-then-get-ge2 : goal.returns-then-get-ge2
returns-then-get-ge2 c =
    let a = c.args in
    rw (place-as a.c a.m.now a.c.request.block c.get.result c.get.ensures, stored-not a.c.shape.l c.get.result c.if-get-ge2.true)

pub returns : goal.returns
unfolding is_nowhere
returns c =
    let a = c.args in
    rw (place-as a.c a.m.now a.c.request.block c.get.result c.get.ensures, nowhere-is a.c.shape.l c.get.result (omega arith)) (ap not c.is_waiting.ensures)
