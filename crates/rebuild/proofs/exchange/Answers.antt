use Prim.Native.Nat.{◌<◌}
use native.Mathlib.Omega.{arith}
use Rattle.rebuild.specs.Steps.{slot_lt, exchanged}
use Rattle.rebuild.proofs.exchange.Goals as goal

pub set-requires : goal.set-requires
set-requires c =
    let l : c.fit-b.result < c.args.n = rw (rw c.entry-2.ensures at c.fit-b.ensures) (slot_lt _ c.args.n c.args.x _ c.requires.1) in
    omega arith

pub set-requires-2 : goal.set-requires-2
set-requires-2 c =
    let l : c.fit-a.result < c.args.n = rw (rw c.entry.ensures at c.fit-a.ensures) (slot_lt _ c.args.n c.args.x _ c.requires.1) in
    omega arith

pub returns : goal.returns
returns c =
    exchanged c.args.c c.args.m.now c.set.new.m _ c.args.n c.args.x c.args.y _ _ c.requires.1 c.requires.2 (rw c.entry.ensures at c.fit-a.ensures) (rw c.entry-2.ensures at c.fit-b.ensures) c.set.ensures c.set-2.ensures
