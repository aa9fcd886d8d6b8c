use mathlib.Core.Path.{ap, sym, ◌∙◌}
use native.Mathlib.Omega.{arith}
use lib.ListN.{length, get_or, take, drop}
use Rattle.lists.specs.Tables.{put}
use Rattle.rules.specs.Memory.{needed}
use Rattle.memory.specs.Tables.{Tables, with_partition}
use Rattle.memory.specs.Parts.{empty}
use Rattle.memory.specs.Fits.{Fits, fits, shape_of}
use Rattle.opening.specs.Opening.{drawn_by, fill_step, drawn-length, drawn-number}
use Rattle.opening.proofs.draw_partitions.Goals as goal
use Rattle.opening.proofs.draw_partitions.Goals.{Start}

room : (a : Start) → Fits (shape_of a.args.h) (length a.args.m.now)
room a = fits (shape_of a.args.h) (length a.args.m.now) a.requires.0 a.requires.1

pub draw-q-requires : goal.draw-q-requires
draw-q-requires c = let f = room (goal.at.draw-q-requires c).Start in (omega (arith, c.requires.2), f.some_partitions)

pub set-requires : goal.set-requires
set-requires c =
    let f = room (goal.at.set-requires c).Start in
    let l = c.loop-b in
    (rw l.invariant.0 f, omega arith, omega (arith, c.draw-q.ensures.1, f.partitions))

pub loop-b-preserved : goal.loop-b-preserved
loop-b-preserved c =
    let l = c.loop-b in
    let js = drawn_by c.args.h c.args.tape.now in
    let e : Tables = empty (shape_of c.args.h) (drop (needed (shape_of c.args.h)) c.args.m.now) in
    let number = c.draw-q.ensures.0 ∙ sym (drawn-number c.args.h c.args.tape.now c.requires.0 c.requires.2 l.b (omega arith)) in
    let step = fill_step l.b js (omega (arith, drawn-length c.args.h c.args.tape.now c.requires.0 c.requires.2)) in (
      omega arith,
      c.set.ensures
          ∙ ap (λ (t : Tables). with_partition (put l.b c.draw-q.result t.partition) t) l.invariant.1
          ∙ ap (λ q. with_partition (put l.b q (λ b. get_or (take l.b js) b 0)) e) number
          ∙ ap (λ f. with_partition f e) step,
    )
