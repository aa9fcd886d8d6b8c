use contract.BorrowLft.{⊑_meet, ⊑_static}
use mathlib.Core.Path.{sym}
use Rattle.std.proofs.Common.{of_calls}
use Rattle.client.specs.View.{state_of, view}
use Rattle.client.specs.Readings.{counter-is}
use Rattle.saving.specs.Parts.{partition_in}
use Rattle.saving.proofs.payload.partition.Goals as goal

pub put_each-requires : goal.put_each-requires
unfolding partition_in state_of view
put_each-requires c = λ ks w. (
  search (⊑_meet, ⊑_static, w.0, w.1.0, w.1.1.0, w.1.1.1.0) depth 12,
  (
    record {
      may = λ i b k l r. let e = sym (counter-is c.args.c c.args.m.now c.args.q c.get-counter.result c.get-counter.ensures) in search (of_calls, c.requires.0, c.requires.1, l, e, r);
      does = λ i b k l r q d e. search (of_calls, e);
    },
    c.requires.2,
  ),
)

pub returns : goal.returns
unfolding partition_in state_of view
returns c = c.put_each.ensures
