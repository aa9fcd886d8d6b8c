use mathlib.Core.Path.{◌≡◌}
use Prim.Native.Nat.{◌+◌, ◌≤◌}
use Rattle.rules.specs.Blocks.{blocks_in}
use Rattle.client.specs.View.{state_of}
use Rattle.levels.specs.Stored.{stored_from}
use Rattle.levels.proofs.stored.Given as goal

abbrev pub invariant-loop-j : goal.invariant-loop-j
invariant-loop-j l = (l.k ≤ l.j) × (l.k + stored_from (state_of l.c l.m) l.q l.top l.j ≡ blocks_in (state_of l.c l.m) l.q l.c.shape.l)
