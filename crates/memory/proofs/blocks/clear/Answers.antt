use mathlib.Core.Path.{◌≡◌}
use Prim.Native.Nat.{ℕ, ◌-◌}
use native.Mathlib.Omega.{arith}
use lib.ListN.{length, take, replicate, length-take, length-replicate}
use Rattle.memory.specs.Parts.{part-put}
use Rattle.memory.proofs.blocks.clear.Goals as goal

pub returns : goal.returns
returns c =
    let a = c.args in
    let n = a.n in
    let m = a.m.now in
    let e : length (take (n - 0) m) ≡ n = omega (arith, length-take (n - 0) m) in
    let r : length {A = ℕ} (replicate n 0) ≡ n - 0 = omega (arith, length-replicate {A = ℕ} n 0) in
    rw (c.zeros.ensures, e) (part-put 0 n m (replicate n 0) r)
