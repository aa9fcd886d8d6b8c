use mathlib.Core.Path.{ap, sym, ◌∙◌}
use native.Mathlib.Omega.{arith}
use Rattle.rules.specs.Levels.{filled}
use Rattle.client.specs.View.{state_of}
use Rattle.gather.specs.Slots.{to-empty, gathers-here}
use Rattle.gather.proofs.gather_source.Goals as goal

pub returns-then-not-filled : goal.returns-then-not-filled
returns-then-not-filled c =
    let e = ap (λ x. filled x c.args.l) (sym c.requires.5) ∙ sym c.filled.ensures ∙ c.if-not-filled.true in
    gathers-here _ c.args.limit c.args.k _ (c.requires.6 ∙ to-empty (state_of c.args.c c.args.m.now) c.args.q c.args.l e) (omega arith)
