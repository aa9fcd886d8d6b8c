use mathlib.Core.Path.{refl, ap}
use Rattle.contract.specs.Answers.{refusal-some}
use Prim.Native.Nat.{◌*◌}
use native.Mathlib.Omega.{arith}
use Rattle.rules.specs.Shape.{Shape}
use Rattle.tape.specs.Tape.{length-words}
use Rattle.session.specs.Answers.{Slot}
use Rattle.session.specs.Laws.{left_le, left-whole}
use Rattle.session.specs.Slots.{slots-most}
use Rattle.session.specs.TurnLine.{turn-shape, turn-taken, turn-sent, turn-slot, turns-no, turns-yes}
use Rattle.session.proofs.turn_with.Goals as goal

pub overflow_mul-from : goal.overflow_mul-from
overflow_mul-from c = omega (arith, left_le c.args.s c.args.tape.now c.requires.0)

pub slice_bounds-turn-count : goal.slice_bounds-turn-count
slice_bounds-turn-count c = left_le c.args.s c.args.tape.now c.requires.0

pub slice_bounds-turn-start : goal.slice_bounds-turn-start
slice_bounds-turn-start c = omega (arith, left_le c.args.s c.args.tape.now c.requires.0)

pub returns-in-Err : goal.returns-in-Err
returns-in-Err c =
    let p = c.refuse in
    turns-no c.args.s c.args.memory.now c.args.tape.now c.args.host.now _ c.requires.0 (left-whole (c.args.s.taken * 2) c.args.tape.now) (omega arith) _ c.requires.3 _ _ _ c.in-Err.ensures (refusal-some c.in-Err.e) _ p.ensures.0 _ _ _ p.ensures.1

pub complete-client-requires : goal.complete-client-requires
complete-client-requires c =
    let d = turn-sent c.args.s c.args.memory.now c.args.tape.now c.args.host.now _ c.requires.0 (left-whole (c.args.s.taken * 2) c.args.tape.now) (omega arith) _ c.requires.3 _ _ _ c.in-Ok.ensures refl in
    let h = ap (λ (x : Shape). x.B) (turn-shape c.args.s c.args.memory.now c.args.tape.now c.args.host.now _ c.requires.0 (left-whole (c.args.s.taken * 2) c.args.tape.now) (omega arith) _ c.requires.3 _ _ _ c.in-Ok.ensures) in
    (turn-slot c.args.s c.args.memory.now c.args.tape.now c.args.host.now _ c.requires.0 (left-whole (c.args.s.taken * 2) c.args.tape.now) (omega arith) _ c.requires.3 _ _ _ c.in-Ok.ensures refl, d.some, d.kind, omega (arith, c.requires.3, h))

pub command-k-requires : goal.command-k-requires
command-k-requires c =
    let w : Slot _ _ = turn-slot c.args.s c.args.memory.now c.args.tape.now c.args.host.now _ c.requires.0 (left-whole (c.args.s.taken * 2) c.args.tape.now) (omega arith) _ c.requires.3 _ _ _ c.in-Ok.ensures refl in
    let u = slots-most c.in-Ok.r.level (omega (arith, w.level, w.levels)) in
    (omega (arith, w.partition, w.partitions), omega (arith, w.level, w.levels), omega (arith, w.slot), omega (arith, c.requires.2))

pub overflow_add-result : goal.overflow_add-result
overflow_add-result c =
    omega (arith, turn-taken c.args.s c.args.memory.now c.args.tape.now c.args.host.now _ c.requires.0 (left-whole (c.args.s.taken * 2) c.args.tape.now) (omega arith) _ c.requires.3 _ _ _ c.in-Ok.ensures, length-words c.args.tape.now, c.requires.1)

pub returns-in-Ok : goal.returns-in-Ok
returns-in-Ok c =
    let x = c.complete-client in
    turns-yes c.args.s c.args.memory.now c.args.tape.now c.args.host.now _ c.requires.0 (left-whole (c.args.s.taken * 2) c.args.tape.now) (omega arith) _ c.requires.3 _ _ _ c.in-Ok.ensures refl (omega (arith, c.turn.auto)) _ _ _ x.ensures _ refl _ _ _ c.command-k.ensures
