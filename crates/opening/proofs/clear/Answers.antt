use mathlib.Core.Path.{ap, ◌∙◌}
use lib.ListN.{replicate}
use Rattle.memory.specs.Tables.{tables_of}
use Rattle.memory.specs.Parts.{replaced, empty, cleared-tables}
use Rattle.memory.specs.Fits.{shape_of}
use Rattle.opening.proofs.clear.Goals as goal

pub returns : goal.returns
unfolding empty
returns c =
    ap (tables_of (shape_of c.args.h)) (c.clear.ensures ∙ ap (λ n. replaced 0 c.args.m.now (replicate n 0)) c.needed-n.ensures)
    ∙ cleared-tables (shape_of c.args.h) c.args.m.now c.requires.1
