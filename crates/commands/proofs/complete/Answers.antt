use mathlib.Core.Path.{refl}
use Prim.Native.Nat.{◌+◌}
use native.Mathlib.Omega.{arith}
use Rattle.commands.specs.Commands.{completing-none, completing-more, completed, kind-lt, spot-lt-word}
use Rattle.commands.proofs.complete.Goals as goal

pub loop-i-init : goal.loop-i-init
loop-i-init c = (refl, completing-none _ _ _)

pub set-requires : goal.set-requires
set-requires c =
    let k = c.entry-a in
    let l = c.loop-i in
    let h = c.args.c.shape in
    omega (arith, kind-lt h l.m (l.i + 1) k.result (omega arith) k.ensures)

pub set-requires-in-loop-i : goal.set-requires-in-loop-i
set-requires-in-loop-i c =
    let k = c.entry-x in
    let l = c.loop-i in
    let h = c.args.c.shape in
    omega (arith, spot-lt-word h l.m (l.i + 1) k.result (omega arith) k.ensures)

pub loop-i-preserved : goal.loop-i-preserved
loop-i-preserved c =
    let l = c.loop-i in
    (omega arith, completing-more _ _ _ _ _ _ l.i _ _ (omega arith) c.entry-a.ensures c.entry-x.ensures c.set.ensures c.set-in-loop-i.ensures l.invariant.1)

pub returns : goal.returns
returns c =
    let l = c.loop-i in
    let a = c.args in
    (c.with_out.ensures, rw c.with_out.ensures (completed a.c a.m.now _ a.j l.i (omega arith) (omega arith) l.invariant.1))
