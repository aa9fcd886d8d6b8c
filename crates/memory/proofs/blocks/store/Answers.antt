use mathlib.Core.Path.{◌≡◌}
use Prim.Native.Nat.{◌+◌, ◌-◌}
use native.Mathlib.Omega.{arith}
use lib.ListN.{length}
use Rattle.rules.specs.Memory.{needed}
use Rattle.memory.specs.Parts.{part-put, set-blocks}
use Rattle.memory.specs.Fits.{shape_of}
use Rattle.memory.proofs.blocks.store.Goals as goal

pub returns : goal.returns
unfolding needed
returns c =
    let s = c.start-a in
    let h = shape_of c.args.h in
    let m = c.args.m.now in
    let v = c.args.src.now in
    let l : length v ≡ s.result + h.B - s.result = omega arith in
    rw (c.copy_from_slice.ensures.after, part-put s.result (s.result + h.B) m v l, s.ensures) (set-blocks h m c.requires.0.long c.args.b c.requires.1 v c.requires.2)
