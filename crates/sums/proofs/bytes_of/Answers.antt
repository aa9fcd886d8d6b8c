use Rattle.std.proofs.Common.{refl}
use Rattle.rules.specs.Form.Sums.{block_count}
use Rattle.sums.proofs.bytes_of.Goals as goal

pub returns : goal.returns
unfolding block_count
returns c = refl
