use mathlib.Core.Path.{ap, ◌∙◌}
use lib.Dec.{eqb}
use Rattle.memory.specs.Fits.{shape_of, fit}
use Rattle.memory.specs.Tables.{tables_of}
use Rattle.client.specs.View.{state_of, view}
use Rattle.rules.specs.Blocks.{is_unread}
use Rattle.levels.proofs.is_unread.Goals as goal

pub returns : goal.returns
unfolding is_unread state_of view
returns c =
    let a = c.args in
    ap (λ y. eqb y 1) (c.get.ensures ∙ ap (λ x. fit 2 ((tables_of (shape_of a.c.shape) a.m.now).mark x)) c.cell-x.ensures.0)
