use Prim.Native.Nat.{◌<◌}
use native.Mathlib.Omega.{arith}
use Rattle.memory.specs.Fits.{fit-lt}
use Rattle.gather.specs.Cached.{block-none, block-some}
use Rattle.gather.proofs.block_for.Goals as goal
use Rattle.gather.proofs.block_for.Goals.{After-get-b}

below : (c : After-get-b) → c.get-b.result < c.args.c.shape.n
below c = rw c.get-b.ensures (fit-lt c.args.c.shape.n _ (omega arith))

pub get-requires : goal.get-requires
get-requires c = omega (arith, below (goal.at.get-requires c).After-get-b)

pub returns-then-get-q : goal.returns-then-get-q
returns-then-get-q c =
    let a = c.args in
    block-none a.c a.m.now a.q a.i c.get-b.result c.get.result (omega arith) (omega arith) c.get-b.ensures c.get.ensures c.if-get-q.true

pub returns : goal.returns
returns c =
    let a = c.args in
    block-some a.c a.m.now a.q a.i c.get-b.result c.get.result (omega arith) (omega arith) c.get-b.ensures c.get.ensures (omega arith)
