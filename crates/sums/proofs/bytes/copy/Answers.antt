use Rattle.std.proofs.Common.{◌+◌, length, arith}
use Rattle.sums.specs.Puts.{lent_written}
use Rattle.sums.proofs.bytes.copy.Goals as goal

pub returns : goal.returns
returns c =
    let a = c.args in
    rw c.copy_from_slice.ensures.after (lent_written a.buffer.now a.src.now a.at (a.at + length a.src.now) (omega arith) (omega arith) (omega arith))
