use Prim.Native.Nat.{◌*◌}
use mathlib.Core.Path.{refl}
use native.Mathlib.Omega.{arith}
use Rattle.contract.specs.Answers.{refusal-some}
use Rattle.session.specs.Laws.{left_le, left-whole, asked-no, asked-yes, asked-taken}
use Rattle.tape.specs.Tape.{length-words}
use Rattle.session.proofs.ask_line.Goals as goal

pub overflow_mul-from : goal.overflow_mul-from
overflow_mul-from c = omega (arith, left_le c.args.s c.args.tape.now c.requires.0)

pub slice_bounds-request-count : goal.slice_bounds-request-count
slice_bounds-request-count c = left_le c.args.s c.args.tape.now c.requires.0

pub slice_bounds-request-start : goal.slice_bounds-request-start
slice_bounds-request-start c = omega (arith, left_le c.args.s c.args.tape.now c.requires.0)

pub returns-in-Err : goal.returns-in-Err
returns-in-Err c =
    let p = c.refuse in
    asked-no c.args.s c.args.memory.now c.args.tape.now _ c.requires.0 (left-whole (c.args.s.taken * 2) c.args.tape.now) (omega arith) _ _ _ _ _ c.in-Err.ensures (refusal-some c.in-Err.e) _ p.ensures.0 _ _ _ p.ensures.1

pub later-requires : goal.later-requires
later-requires c =
    omega (arith, asked-taken c.args.s c.args.memory.now c.args.tape.now _ c.requires.0 (left-whole (c.args.s.taken * 2) c.args.tape.now) (omega arith) _ _ _ _ _ c.in-Ok.ensures, length-words c.args.tape.now, c.requires.1)

pub returns-in-Ok : goal.returns-in-Ok
returns-in-Ok c =
    asked-yes c.args.s c.args.memory.now c.args.tape.now _ c.requires.0 (left-whole (c.args.s.taken * 2) c.args.tape.now) (omega arith) _ _ _ _ _ c.in-Ok.ensures refl _ c.later.ensures _ _ _ c.number-k.ensures
