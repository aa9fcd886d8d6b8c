use contract.BorrowLft.{⊑_meet, ⊑_static}
use Prim.Native.Nat.{◌<◌}
use native.Mathlib.Omega.{arith}
use Rattle.std.proofs.Common.{of_calls}
use Rattle.rules.specs.Form.Numbers.{little}
use Rattle.saving.proofs.payload.jobs.Goals as goal

pub put_each-requires : goal.put_each-requires
unfolding little
put_each-requires c = λ ks w. (
  search (⊑_meet, ⊑_static, w.0, w.1.0) depth 12,
  (
    record {
      may = λ i b k l r. let few : i < 64 = omega arith in search (of_calls, c.requires.0, few, r);
      does = λ i b k l r q d e. search (of_calls, e);
    },
    c.requires.2,
  ),
)
