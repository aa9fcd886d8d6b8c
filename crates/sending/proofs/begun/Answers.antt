use mathlib.Core.Path.{◌≡◌}
use mathlib.Core.Bool.{true}
use native.Mathlib.Omega.{arith}
use Rattle.rules.specs.Request.{is_source}
use Rattle.client.specs.View.{state_of}
use Rattle.reading.specs.Sources.{beneath}
use Rattle.sending.specs.Plans.{front-runs, source-front}
use Rattle.sending.proofs.begun.Goals as goal

pub running-run-requires : goal.running-run-requires
running-run-requires c =
    let r = c.args in
    let n = c.sources in
    let source : is_source (state_of r.c r.m.now) r.q r.l ≡ true = beneath r.c r.m.now r.q n.result r.l n.ensures c.requires.2 (omega (arith, c.if-sources-l.false)) in
    front-runs r.c r.m.now r.q c.requires.0 c.requires.1 (source-front (state_of r.c r.m.now) r.q r.l source)
