use mathlib.Core.Path.{◌≡◌}
use Prim.Native.Nat.{◌+◌, ◌*◌, ◌-◌}
use native.Mathlib.Omega.{arith}
use Rattle.memory.specs.Words.{numbers_of_lem}
use Rattle.memory.proofs.tables.numbers.Goals as goal

pub returns : goal.returns
returns c =
    let a = c.args in
    let e : a.k * 2 + a.n * 2 - a.k * 2 ≡ a.n * 2 = omega arith in
    rw e (numbers_of_lem a.m.now a.k a.n c.requires.0)
