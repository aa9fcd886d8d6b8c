use mathlib.Core.Path.{◌≡◌}
use mathlib.Core.Bool.{false}
use Prim.Native.Nat.{ℕ, ◌<◌}
use Rattle.rules.specs.Completion.{is_command}
use Rattle.client.specs.Kinds.{kind_number}
use Rattle.commands.specs.Commands.{command_in, spot_command}
use Rattle.commands.proofs.search.Given as goal

abbrev pub invariant-loop-j : goal.invariant-loop-j
invariant-loop-j l = (x : ℕ) → x < l.j → is_command (spot_command l.c.shape.l (kind_number l.kind) l.q l.spot) (command_in l.c.shape l.m x) ≡ false
