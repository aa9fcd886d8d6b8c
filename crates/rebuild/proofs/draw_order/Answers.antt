use mathlib.Core.Path.{refl}
use Prim.Native.Nat.{ℕ, ◌+◌, ◌-◌, ◌<◌}
use native.Mathlib.Omega.{arith}
use lib.ListN.{drop}
use Rattle.lists.specs.Search.{below}
use Rattle.rules.specs.Draws.{order_bounds}
use Rattle.rules.specs.Laws.Draws.{Enough}
use Rattle.memory.specs.Fits.{shape_of}
use Rattle.client.specs.View.{state_of}
use Rattle.client.specs.Moves.{Stands}
use Rattle.std.specs.Prelude.{Some}
use Rattle.tape.specs.Tape.{words_of, length-words}
use Rattle.tape.specs.Settled.{Settles}
use Rattle.rebuild.specs.Target.{Within, within_level}
use Rattle.rebuild.specs.Steps.{ordered}
use Rattle.rebuild.specs.Shuffle.{drawing-start, drawing-step, drawing-done, drawing-taken, drawn-some}
use Rattle.rebuild.proofs.draw_order.Goals as goal
use Rattle.rebuild.proofs.draw_order.Goals.{After-level_start-base, After-unwrap-w}

started : (c : After-level_start-base) →
    Stands c.args.c c.args.m.now c.start_order.new.m (ordered c.level_start-base.result (below c.pow2-n.result) (state_of c.args.c c.args.m.now))
started c = rw (c.level_start-base.ensures, c.pow2-n.ensures.0) c.start_order.ensures

-- item i's cell, for i below n
cell_at : (c : After-level_start-base) (i : ℕ) → i < c.pow2-n.result →
    Within (shape_of c.args.c.shape) c.pow2-n.result (c.level_start-base.result + i)
cell_at c i l =
    within_level (shape_of c.args.c.shape) c.args.q c.requires.1 c.args.t c.level_start-base.result c.pow2-n.result i c.requires.2 c.requires.0.levels c.level_start-base.ensures c.pow2-n.ensures.0 l

-- the word that settles the draw
settled : (c : After-unwrap-w) → Settles (c.loop-i.i - 1 + 1) (words_of c.args.tape.now) c.loop-i.k (Some c.unwrap-w.result)
settled c = rw c.unwrap-w.ensures at c.settle.ensures

pub loop-i-init : goal.loop-i-init
loop-i-init c =
    let n = c.pow2-n in
    let e : Enough (order_bounds n.result) (drop c.args.from (words_of c.args.tape.now)) = rw n.ensures.0 c.requires.3 in
    (refl, drawing-start c.args.c c.args.m.now _ c.level_start-base.result n.result c.args.from (words_of c.args.tape.now) (started c) (omega arith) e)

pub unwrap-w-requires : goal.unwrap-w-requires
unwrap-w-requires c =
    let l = c.loop-i in
    let a = c.args in
    drawn-some a.c _ l.m _ _ _ (l.i - 1) l.k (words_of a.tape.now) (omega arith) l.invariant.1 c.settle.result c.settle.ensures

pub overflow_add-base : goal.overflow_add-base
overflow_add-base c =
    omega (arith, cell_at (goal.at.overflow_add-base c).After-level_start-base (c.loop-i.i - 1) (omega arith))

pub overflow_add-base-in-loop-i : goal.overflow_add-base-in-loop-i
overflow_add-base-in-loop-i c =
    omega (arith, cell_at (goal.at.overflow_add-base-in-loop-i c).After-level_start-base c.draw-j.result (omega arith))

pub exchange-requires : goal.exchange-requires
exchange-requires c =
    (omega arith, cell_at (goal.at.exchange-requires c).After-level_start-base (c.loop-i.i - 1) (omega arith), cell_at (goal.at.exchange-requires c).After-level_start-base c.draw-j.result (omega arith))

pub loop-i-preserved : goal.loop-i-preserved
loop-i-preserved c =
    let l = c.loop-i in
    let n = c.pow2-n.result in
    let x = drawing-step c.args.c _ l.m c.level_start-base.result n c.args.from (l.i - 1) l.k (words_of c.args.tape.now) (omega arith) l.invariant.1 c.unwrap-w.result
    (settled (goal.at.loop-i-preserved c).After-unwrap-w).1 c.exchange.new.m c.draw-j.result (omega arith) (omega arith) c.draw-j.ensures.0 c.exchange.ensures in
    (omega arith, x)

pub overflow_add-k : goal.overflow_add-k
overflow_add-k c = omega (arith, (settled (goal.at.overflow_add-k c).After-unwrap-w).0, length-words c.args.tape.now)

pub returns : goal.returns
returns c =
    let l = c.loop-i in
    let ws = words_of c.args.tape.now in
    let s = started (goal.at.returns c).After-level_start-base in (
      rw (← c.level_start-base.ensures, ← c.pow2-n.ensures.0)
          (drawing-done c.args.c c.args.m.now _ c.level_start-base.result c.pow2-n.result c.args.from ws s l.m (l.i - 1) l.k (omega arith) l.invariant.1),
      rw (← c.pow2-n.ensures.0) (drawing-taken c.args.c c.args.m.now _ c.level_start-base.result c.pow2-n.result c.args.from ws s l.m (l.i - 1) l.k (omega arith) l.invariant.1),
    )
