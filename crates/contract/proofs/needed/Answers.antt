use native.Mathlib.Omega.{arith}
use Rattle.rules.specs.Memory.{needed}
use Rattle.memory.specs.Fits.{Fits, fits, shape_of}
use Rattle.contract.proofs.needed.Goals as goal
use Rattle.contract.proofs.needed.Goals.{Start}

-- each number's bounds
room : (a : Start) → Fits (shape_of a.args.h) (needed (shape_of a.args.h))
room a = fits (shape_of a.args.h) (needed (shape_of a.args.h)) a.requires (omega arith)

pub overflow_add-h : goal.overflow_add-h
overflow_add-h c = let f = room (goal.at.overflow_add-h c).Start in omega arith

pub start-requires : goal.start-requires
start-requires c = let f = room (goal.at.start-requires c).Start in omega arith

pub returns : goal.returns
unfolding needed
returns c = c.start.ensures
