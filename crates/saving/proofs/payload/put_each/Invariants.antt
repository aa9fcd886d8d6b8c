use Rattle.lists.specs.Search.{below}
use Rattle.rules.specs.Form.Numbers.{each}
use Rattle.lists.specs.Written.{Written}
use Rattle.saving.proofs.payload.put_each.Given as goal

abbrev pub invariant-loop-i : goal.invariant-loop-i
invariant-loop-i g l = Written l.initial.buffer l.at (each g.part (below l.i)) l.buffer l.k
