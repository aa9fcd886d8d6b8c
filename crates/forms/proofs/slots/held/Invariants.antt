use mathlib.Core.Path.{◌≡◌}
use Prim.Native.Nat.{◌+◌, ◌-◌, ◌*◌, ◌≤◌}
use Rattle.forms.specs.Levels.{held_in}
use Rattle.forms.proofs.slots.held.Given as goal

abbrev pub invariant-loop-i : goal.invariant-loop-i
invariant-loop-i l = (l.count ≤ l.i * 255) × (l.count + held_in l.seen (l.c + l.i) (l.n - l.i) ≡ held_in l.seen l.c l.n)
