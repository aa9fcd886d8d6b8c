use Prim.Native.Nat.{◌*◌, ◌%◌}
use native.Mathlib.Omega.{arith}
use Rattle.codec.specs.Codec.{word-put}
use Rattle.codec.proofs.set_number.Goals as goal

pub returns : goal.returns
returns c = rw c.set_word.ensures (word-put c.args.s.now (c.args.k * 2) (c.args.v % 65536) (omega arith) (omega arith))
