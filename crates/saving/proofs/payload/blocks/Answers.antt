use contract.BorrowLft.{⊑_meet, ⊑_static}
use Rattle.std.proofs.Common.{of_calls}
use Rattle.saving.proofs.payload.blocks.Goals as goal

pub put_each-requires : goal.put_each-requires
put_each-requires c = λ ks w. (
  search (⊑_meet, ⊑_static, w.0, w.1.0, w.1.1.0) depth 12,
  (
    record {
      may = λ i b k l r. search (of_calls, c.requires.0, c.requires.1, l, r);
      does = λ i b k l r q d e. search (of_calls, e);
    },
    c.requires.2,
  ),
)
