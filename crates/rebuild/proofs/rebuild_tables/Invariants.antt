use mathlib.Core.Path.{◌≡◌}
use Prim.Native.Nat.{suc}
use lib.ListN.{length, drop}
use Rattle.rules.specs.Memory.{needed}
use Rattle.memory.specs.Fits.{shape_of}
use Rattle.tape.specs.Tape.{words_of}
use Rattle.rebuild.specs.Laying.{whole, Unlaid}
use Rattle.rebuild.proofs.rebuild_tables.Given as goal

abbrev pub invariant-loop-t : goal.invariant-loop-t
invariant-loop-t l = (length l.m ≡ length l.initial.m) × Unlaid l.c l.q l.next l.list (words_of l.tape) l.t l.m l.p
    × (whole l.c l.q l.next l.list (words_of l.tape) l.t l.m l.p ≡ whole l.c l.q l.next l.list (words_of l.tape) (suc l.top) l.initial.m (record { words = 0; blocks = 0 }))
    × (drop (needed (shape_of l.c.shape)) l.m ≡ drop (needed (shape_of l.c.shape)) l.initial.m)
