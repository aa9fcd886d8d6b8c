use mathlib.Core.Path.{◌≡◌}
use Prim.Native.Nat.{◌-◌}
use Rattle.lists.specs.Search.{keep, count}
use Rattle.rules.specs.Levels.{filled}
use Rattle.levels.proofs.next_filled.Given as goal

abbrev pub invariant-loop-l : goal.invariant-loop-l
invariant-loop-l l = keep (filled l.counter) (count l.from (l.levels - l.from)) ≡ keep (filled l.counter) (count l.l (l.levels - l.l))
