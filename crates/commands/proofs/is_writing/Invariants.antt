use mathlib.Core.Path.{◌≡◌}
use mathlib.Core.Bool.{false}
use Prim.Native.Nat.{ℕ, ◌<◌}
use Rattle.rules.specs.State.{write}
use Rattle.commands.specs.Outstanding.{of_kind}
use Rattle.commands.specs.Commands.{command_in}
use Rattle.commands.proofs.is_writing.Given as goal

abbrev pub invariant-loop-i : goal.invariant-loop-i
invariant-loop-i l = (x : ℕ) → x < l.i → of_kind write (command_in l.c.shape l.m x) ≡ false
