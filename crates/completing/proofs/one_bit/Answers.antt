use Rattle.completing.specs.Completing.{one_bit_lem}
use Rattle.completing.proofs.one_bit.Goals as goal

pub returns : goal.returns
returns c = one_bit_lem c.args.n
