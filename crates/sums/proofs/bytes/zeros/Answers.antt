use Rattle.std.proofs.Common.{◌≡◌, ℕ, ◌+◌, ◌-◌, length, take, drop, replicate, arith, length-drop, length-take}
use lib.ListN.{length-replicate}
use Rattle.sums.specs.Puts.{lent_written}
use Rattle.sums.proofs.bytes.zeros.Goals as goal

pub returns : goal.returns
returns c =
    let a = c.args in
    let t = a.buffer.now in
    let e : length (take (a.at + a.n - a.at) (drop a.at t)) ≡ a.n = omega (arith, length-take (a.at + a.n - a.at) (drop a.at t), length-drop a.at t) in
    rw (c.fill.ensures.after (λ y e. e), e) (lent_written t (replicate a.n 0) a.at (a.at + a.n) (omega arith) (omega arith) (omega (arith, length-replicate {A = ℕ} a.n 0)))
