use Prim.Native.Nat.{◌<◌}
use native.Mathlib.Omega.{arith}
use Rattle.memory.specs.Fits.{fit-lt}
use Rattle.cache.proofs.move_up.Goals as goal

pub get-requires : goal.get-requires
get-requires c =
    let h = c.args.c.shape in
    let w = c.get-x in
    let l : w.result < h.n = rw w.ensures (fit-lt h.n _ (omega arith)) in
    omega arith

pub set-requires : goal.set-requires
set-requires c =
    let h = c.args.c.shape in
    let w = c.get-x in
    let l : w.result < h.n = rw w.ensures (fit-lt h.n _ (omega arith)) in
    omega arith
