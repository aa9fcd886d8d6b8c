use mathlib.Core.Path.{refl}
use Prim.Native.Nat.{suc, ◌-◌}
use native.Mathlib.Numerals.{add-one}
use native.Mathlib.Omega.{arith}
use Rattle.rules.specs.Shape.{slots, cell}
use Rattle.memory.specs.Fits.{shape_of}
use Rattle.client.specs.View.{state_of}
use Rattle.client.specs.Moves.{Stands}
use Rattle.tape.specs.Tape.{words_of}
use Rattle.rebuild.specs.Steps.{emptied}
use Rattle.rebuild.specs.Placing.{emptied-empty}
use Rattle.rebuild.specs.Laying.{laying-start, laying-done}
use Rattle.rebuild.proofs.rebuild_tables.Goals as goal
use Rattle.rebuild.proofs.rebuild_tables.Goals.{After-clear_levels}

cleared : (c : After-clear_levels) → let x = c.args in
    Stands x.c x.m.now c.clear_levels.new.m (emptied (cell (shape_of x.c.shape) x.q 0 0) (slots (suc x.top) - 2) (state_of x.c x.m.now))
cleared c = rw (← add-one c.args.top) c.clear_levels.ensures

pub loop-t-init : goal.loop-t-init
loop-t-init c =
    let x = c.args in
    let d = cleared (goal.at.loop-t-init c).After-clear_levels in
    let e = emptied-empty x.c x.m.now _ _ _ d in
    let u = laying-start x.c x.q x.next x.top x.list.now (words_of x.tape.now) x.m.now _ d c.requires.5 e in
    (refl, rw (add-one x.top) u, rw (add-one x.top), refl)

pub returns : goal.returns
returns c =
    let x = c.args in
    let l = c.loop-t in
    laying-done x.c x.q x.next x.top x.list.now (words_of x.tape.now) x.m.now _ (cleared (goal.at.returns c).After-clear_levels) l.m l.t l.p (omega arith) l.invariant.2 l.invariant.3
