use Rattle.memory.specs.Fits.{shape_of}
use Rattle.session.specs.Slots.{Spot, spot}
use Rattle.session.proofs.first.Goals as goal
use Rattle.session.proofs.first.Goals.{Start}

-- where the slot is
at : (c : Start) → Spot (shape_of c.args.h) c.args.q c.args.l c.args.i
at c = spot (shape_of c.args.h) c.args.q c.args.l c.args.i c.requires

pub returns : goal.returns
returns c = let p = at (goal.at.returns c).Start in rw (c.pow2.ensures.0, c.pow2-2.ensures.0) (p.start, p.bytes)
