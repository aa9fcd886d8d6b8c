use contract.BorrowLft.{⊑_meet, ⊑_static}
use Prim.Native.Nat.{◌<◌}
use native.Mathlib.Omega.{arith}
use Rattle.std.proofs.Common.{of_calls}
use Rattle.rules.specs.Form.Numbers.{little}
use Rattle.client.specs.View.{state_of, view}
use Rattle.saving.proofs.payload.counters.Goals as goal

pub put_each-requires : goal.put_each-requires
unfolding little state_of view
put_each-requires c = λ ks w. (
  search (⊑_meet, ⊑_static, w.0, w.1.0) depth 12,
  (
    record {
      may = λ i b k l r. let few : i < 64 = omega (arith, c.requires.0.partitions) in search (of_calls, c.requires.0, few, r);
      does = λ i b k l r q d e. search (of_calls, e);
    },
    c.requires.1,
  ),
)

pub returns : goal.returns
unfolding state_of view
returns c = c.put_each.ensures
