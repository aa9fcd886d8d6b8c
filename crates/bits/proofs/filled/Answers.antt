use mathlib.Core.Path.{refl}
use Prim.Native.Nat.{◌/◌, ◌^◌}
use lib.Bits.{and_mask}
use Rattle.rules.specs.Levels.{filled}
use Rattle.bits.proofs.filled.Goals as goal

pub returns : goal.returns
unfolding filled
returns c = rw (and_mask (c.args.c / 2 ^ c.args.l) 1) refl
