use mathlib.Core.Path.{ap, sym, ◌∙◌}
use lib.ListN.{replicate}
use Rattle.client.specs.View.{state_of, view}
use Rattle.client.specs.Readings.{bytes-as}
use Rattle.collecting.specs.Collecting.{contents-zeros, contents-bytes}
use Rattle.collecting.proofs.hand_out.Goals as goal

pub returns-then-is_blank : goal.returns-then-is_blank
unfolding state_of view
returns-then-is_blank c =
    let a = c.args in
    c.zeros.ensures ∙ ap (λ n. replicate n 0) c.requires.1
    ∙ sym (contents-zeros (state_of a.c a.m.now) a.c.request.block (sym c.is_blank.ensures ∙ c.if-is_blank.true))

pub returns : goal.returns
returns c =
    let a = c.args in
    c.load.ensures
    ∙ sym (contents-bytes (state_of a.c a.m.now) a.c.request.block (sym c.is_blank.ensures ∙ c.if-is_blank.false) ∙ bytes-as a.c a.m.now a.c.request.block c.requires.0.asked.block)
