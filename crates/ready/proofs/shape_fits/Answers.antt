use mathlib.Core.Path.{sym, ◌∙◌}
use Rattle.ready.specs.Usable.{shape_fits}
use Rattle.ready.proofs.shape_fits.Goals as goal

pub returns-then-not-is_within : goal.returns-then-not-is_within
unfolding shape_fits
returns-then-not-is_within c = rw (sym c.is_within.ensures ∙ c.if-not-is_within.true)

pub returns : goal.returns
unfolding shape_fits
returns c = rw (sym c.is_within.ensures ∙ c.if-not-is_within.false, c.needed.ensures)
