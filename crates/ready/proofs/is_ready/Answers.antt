use mathlib.Core.Path.{sym, ◌∙◌}
use Rattle.ready.specs.Usable.{unready-part}
use Rattle.ready.proofs.is_ready.Goals as goal

pub returns-then-not-shape_fits : goal.returns-then-not-shape_fits
returns-then-not-shape_fits c =
    let a = c.args in
    sym (unready-part a.c a.m.now (sym c.shape_fits.ensures ∙ c.if-not-shape_fits.true))
