use Rattle.bits.specs.Ones.{zeros-of-complement}
use Rattle.bits.proofs.lowest_empty.Goals as goal

pub returns : goal.returns
returns c = zeros-of-complement 64 c.args.c c.ranges.c.fits
