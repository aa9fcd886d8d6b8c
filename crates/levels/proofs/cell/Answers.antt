use Prim.Native.Nat.{◌+◌, ◌<◌}
use native.Mathlib.Omega.{arith}
use Rattle.rules.specs.Shape.{slots, cell}
use Rattle.rules.proofs.Laws.Layout.{offset-lt}
use Rattle.levels.proofs.cell.Goals as goal
use Rattle.levels.proofs.cell.Goals.{Start}

-- the slot's number is below the partition's
number_lt : (a : Start) → slots a.args.l + a.args.i < slots a.args.h.l
number_lt a = offset-lt a.args.h.l a.args.l a.args.i a.requires.4 a.requires.5

pub cell_of-requires : goal.cell_of-requires
cell_of-requires c = omega (arith, number_lt (goal.at.cell_of-requires c).Start)

pub returns : goal.returns
unfolding cell
returns c = omega arith
