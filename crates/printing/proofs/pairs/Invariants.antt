use Prim.Native.Nat.{◌+◌, ◌*◌}
use mathlib.Core.Path.{◌≡◌}
use lib.ListN.{take}
use Rattle.printing.specs.Text.{hexadecimal}
use Rattle.lists.specs.Written.{Written}
use Rattle.printing.proofs.pairs.Given as goal

abbrev pub invariant-loop-b : goal.invariant-loop-b
invariant-loop-b l = (l.k ≡ l.at + 2 * l.b-index) × Written l.initial.out l.at (hexadecimal (take l.b-index l.bytes)) l.out l.k
