use mathlib.Core.Path.{sym, ◌∙◌}
use Rattle.client.specs.View.{state_of}
use Rattle.reading.specs.Slots.{real-fake, real-own}
use Rattle.reading.proofs.read_real.Goals as goal

pub returns-then-is_cached_in : goal.returns-then-is_cached_in
returns-then-is_cached_in c =
    let a = c.args in
    c.read_fake.ensures ∙ real-fake (state_of a.c a.m.now) a.q a.l a.i (sym c.is_cached_in.ensures ∙ c.if-is_cached_in.true)

pub returns : goal.returns
returns c =
    let a = c.args in
    real-own (state_of a.c a.m.now) a.q a.l a.i (sym c.is_cached_in.ensures ∙ c.if-is_cached_in.false)
