use mathlib.Core.Path.{◌≡◌}
use Prim.Native.Nat.{◌*◌, ◌≤◌}
use lib.ListN.{length}
use Rattle.lists.specs.Search.{below}
use Rattle.rules.specs.Form.Numbers.{each}
use Rattle.client.specs.View.{state_of}
use Rattle.saving.specs.Parts.{width_of, partition_in}
use Rattle.saving.proofs.sizes.levels.Given as goal

abbrev pub invariant-loop-i : goal.invariant-loop-i
invariant-loop-i l = (l.k ≡ length (each (partition_in (width_of l.c.shape) (state_of l.c l.m)) (below l.i))) × (l.k ≤ 1024 * l.i)
