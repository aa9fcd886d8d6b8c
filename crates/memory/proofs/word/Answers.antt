use Prim.Native.Nat.{◌+◌, ◌*◌}
use native.Mathlib.Omega.{arith}
use Rattle.memory.specs.Words.{word_at}
use Rattle.memory.proofs.word.Goals as goal

pub returns : goal.returns
unfolding word_at
returns c =
    let low = c.type_inv.m (c.args.k * 2) in
    let high = c.type_inv.m (c.args.k * 2 + 1) in
    (omega (arith, low, high), omega (arith, low, high))
