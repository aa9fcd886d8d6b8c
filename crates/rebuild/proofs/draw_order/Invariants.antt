use mathlib.Core.Path.{◌≡◌}
use Prim.Native.Nat.{◌-◌}
use lib.ListN.{length}
use Rattle.tape.specs.Tape.{words_of}
use Rattle.rebuild.specs.Shuffle.{Drawing}
use Rattle.rebuild.proofs.draw_order.Given as goal

abbrev pub invariant-loop-i : goal.invariant-loop-i
invariant-loop-i l = (length l.m ≡ length l.initial.m) × Drawing l.c l.initial.m l.m l.base l.n l.from (l.i - 1) l.k (words_of l.tape)
