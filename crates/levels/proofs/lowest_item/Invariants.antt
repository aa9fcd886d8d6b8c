use mathlib.Core.Path.{◌≡◌}
use Rattle.memory.specs.Words.{word_at}
use Rattle.levels.specs.Items.{items_from}
use Rattle.levels.proofs.lowest_item.Given as goal

abbrev pub invariant-loop-k : goal.invariant-loop-k
invariant-loop-k l = items_from l.n l.bound (word_at l.order) (word_at l.holds) (word_at l.marks) l.k ≡ items_from l.n l.bound (word_at l.order) (word_at l.holds) (word_at l.marks) 0
