use Prim.Native.Nat.{◌+◌, ◌<◌}
use native.Mathlib.Omega.{arith}
use Rattle.memory.specs.Fits.{fit-lt}
use Rattle.completing.specs.Completing.{stores-none, stores_some}
use Rattle.completing.proofs.store_read.Goals as goal

pub returns-then-b-eq0 : goal.returns-then-b-eq0
returns-then-b-eq0 c =
    let k = c.cell-x in
    let a = c.args in
    stores-none a.c a.m.now a.q a.l a.i k.result c.get-b.result a.bytes.now k.ensures.0 c.get-b.ensures c.if-b-eq0.true

pub store-requires : goal.store-requires
store-requires c =
    let b = c.get-b in
    let h = c.args.c.shape in
    let l : b.result < h.n + 1 = rw b.ensures (fit-lt (h.n + 1) _ (omega arith)) in
    omega arith

pub returns : goal.returns
returns c =
    let k = c.cell-x in
    let a = c.args in
    stores_some a.c a.m.now a.q a.l a.i k.result c.get-b.result a.bytes.now k.ensures.0 c.get-b.ensures _ c.if-b-eq0.false c.store.ensures
