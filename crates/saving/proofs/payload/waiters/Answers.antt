use contract.BorrowLft.{⊑_meet, ⊑_static}
use Prim.Native.Nat.{◌<◌}
use native.Mathlib.Omega.{arith}
use Rattle.std.proofs.Common.{of_calls}
use Rattle.saving.proofs.payload.waiters.Goals as goal

pub put_each-requires : goal.put_each-requires
put_each-requires c = λ ks w. (
  search (⊑_meet, ⊑_static, w.0, w.1.0) depth 12,
  (
    record {
      may = λ i b k l r. let few : i < c.args.c.shape.n = omega arith in search (of_calls, c.requires.0, few, r);
      does = λ i b k l r q d e. search (of_calls, e);
    },
    c.requires.2,
  ),
)
