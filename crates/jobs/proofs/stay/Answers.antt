use Prim.Native.Nat.{◌<◌}
use native.Mathlib.Omega.{arith}
use Rattle.memory.specs.Fits.{fit-lt}
use Rattle.jobs.proofs.stay.Goals as goal

pub set-requires : goal.set-requires
set-requires c =
    let h = c.args.c.shape in
    let p = c.get-p in
    let l : p.result < h.p = rw p.ensures (fit-lt h.p _ (omega arith)) in
    omega arith
