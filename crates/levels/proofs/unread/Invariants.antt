use mathlib.Core.Path.{◌≡◌}
use Prim.Native.Nat.{◌≤◌}
use Rattle.rules.specs.Rebuild.{unread}
use Rattle.client.specs.View.{state_of}
use Rattle.std.specs.declared.option.Option.TheVariants.{None}
use Rattle.levels.specs.Unread.{from_level, from_slot}
use Rattle.levels.proofs.unread.Given as goal

abbrev pub invariant-loop-i : goal.invariant-loop-i
invariant-loop-i l = (l.found ≡ None) × (l.first ≤ l.i) × (from_slot (state_of l.c l.m) l.q l.end l.l l.n l.i ≡ unread (state_of l.c l.m) l.q)

abbrev pub invariant-levels : goal.invariant-levels
invariant-levels l = (l.found ≡ None) × (from_level (state_of l.c l.m) l.q l.end l.l ≡ unread (state_of l.c l.m) l.q)
