use mathlib.Core.Path.{◌≡◌, refl}
use Prim.Native.Nat.{◌-◌}
use native.Mathlib.Omega.{arith}
use Rattle.lists.specs.Written.{nothing}
use Rattle.session.specs.Session.{gives}
use Rattle.session.proofs.answer.Goals as goal

pub returns-in-Open : goal.returns-in-Open
unfolding gives
returns-in-Open c = rw c.in-Open.is (c.open_line.ensures c.args.host.now)

pub returns-in-Read : goal.returns-in-Read
unfolding gives
returns-in-Read c = rw c.in-Read.is (c.ask_line.ensures c.args.host.now)

pub returns-in-Write : goal.returns-in-Write
unfolding gives
returns-in-Write c =
    let n : c.in-Write.k - 0 ≡ c.in-Write.k = omega arith in
    rw c.in-Write.is (rw n at (c.ask_line-in-Write.ensures c.args.host.now))

pub returns-in-Collect : goal.returns-in-Collect
unfolding gives
returns-in-Collect c = rw c.in-Collect.is (c.collect_line.ensures c.args.host.now)

pub returns-in-Malformed : goal.returns-in-Malformed
unfolding gives
returns-in-Malformed c = rw c.in-Malformed.is (record { session = refl; text = nothing _ _; served = c.requires.0; room = omega arith })
