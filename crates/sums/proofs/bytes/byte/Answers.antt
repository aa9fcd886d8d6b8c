use Rattle.std.proofs.Common.{◌+◌, ◌%◌, add-one, arith, length-set, take-suc-set, drop-set-lt}
use Rattle.rules.specs.Form.Numbers.{little}
use Rattle.sums.proofs.bytes.byte.Goals as goal

pub returns : goal.returns
unfolding little
returns c =
    let t = c.args.buffer.now in
    let k = c.args.at in
    let x = c.args.x % 256 in
    record {
      place = omega arith;
      bytes = rw add-one (take-suc-set t k x c.requires);
      behind = drop-set-lt (k + 1) t k x (omega arith);
      size = length-set t k x;
    }
