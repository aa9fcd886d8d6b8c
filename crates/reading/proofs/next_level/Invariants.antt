use mathlib.Core.Path.{◌≡◌}
use Prim.Native.Nat.{◌-◌}
use Rattle.lists.specs.Search.{keep, count}
use Rattle.rules.specs.Reader.{costs}
use Rattle.client.specs.View.{state_of}
use Rattle.reading.proofs.next_level.Given as goal

abbrev pub invariant-loop-l : goal.invariant-loop-l
invariant-loop-l l = keep (costs (state_of l.c l.m) l.q) (count l.from (l.levels - l.from)) ≡ keep (costs (state_of l.c l.m) l.q) (count l.l (l.levels - l.l))
