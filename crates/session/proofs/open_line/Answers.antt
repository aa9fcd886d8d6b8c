use mathlib.Core.Path.{◌≡◌, refl, sym, ◌∙◌}
use Rattle.contract.specs.Answers.{refusal-some}
use mathlib.Core.Bool.{true}
use Prim.Native.Nat.{◌*◌}
use native.Mathlib.Omega.{arith}
use Rattle.rules.specs.Shape.{within}
use Rattle.memory.specs.Fits.{shape_of}
use Rattle.tape.specs.Tape.{length-words}
use Rattle.session.specs.Session.{serves}
use Rattle.session.specs.Laws.{left_le, left-whole}
use Rattle.session.specs.OpenLine.{bounds, opens-out, opens-large, opens-no, opens-yes, opens-taken}
use Rattle.session.proofs.open_line.Goals as goal
use Rattle.session.proofs.open_line.Goals.{Else-not-is_within, Else-not-serves}

-- the shape is within bounds, and it is served
bounded : (c : Else-not-is_within) → within (shape_of c.args.h) ≡ true
bounded c = sym c.is_within.ensures ∙ c.if-not-is_within.false

roomy : (c : Else-not-serves) → serves (shape_of c.args.h) ≡ true
roomy c = sym c.serves.ensures ∙ c.if-not-serves.false

pub returns-then-not-is_within : goal.returns-then-not-is_within
returns-then-not-is_within c =
    let p = c.refuse in
    opens-out c.args.s c.args.memory.now c.args.tape.now c.requires.0 _ _ p.ensures.0 _ _ _ (sym c.is_within.ensures ∙ c.if-not-is_within.true) p.ensures.1

pub serves-requires : goal.serves-requires
serves-requires c = bounds _ (bounded c)

pub returns-then-not-serves : goal.returns-then-not-serves
returns-then-not-serves c =
    let p = c.refuse-then-not-serves in
    opens-large c.args.s c.args.memory.now c.args.tape.now c.requires.0 _ _ p.ensures.0 _ _ _ (bounded (goal.at.returns-then-not-serves c).Else-not-is_within) (sym c.serves.ensures ∙ c.if-not-serves.true) p.ensures.1

pub overflow_mul-from : goal.overflow_mul-from
overflow_mul-from c = omega (arith, left_le c.args.s c.args.tape.now c.requires.0)

pub slice_bounds-open-count : goal.slice_bounds-open-count
slice_bounds-open-count c = left_le c.args.s c.args.tape.now c.requires.0

pub slice_bounds-open-start : goal.slice_bounds-open-start
slice_bounds-open-start c = omega (arith, left_le c.args.s c.args.tape.now c.requires.0)

pub returns-in-Err : goal.returns-in-Err
returns-in-Err c =
    let p = c.refuse-in-Err in
    opens-no c.args.s c.args.memory.now c.args.tape.now _ c.requires.0 (left-whole (c.args.s.taken * 2) c.args.tape.now) (omega arith) _ (bounded (goal.at.returns-in-Err c).Else-not-is_within) (roomy (goal.at.returns-in-Err c).Else-not-serves) _ _ c.in-Err.ensures (refusal-some c.in-Err.e) _ p.ensures.0 _ _ _ p.ensures.1

pub later-requires : goal.later-requires
later-requires c =
    omega (arith, opens-taken c.args.s c.args.memory.now c.args.tape.now _ c.requires.0 (left-whole (c.args.s.taken * 2) c.args.tape.now) (omega arith) _ (bounded (goal.at.later-requires c).Else-not-is_within) (roomy (goal.at.later-requires c).Else-not-serves) _ _ c.in-Ok.ensures, length-words c.args.tape.now, c.requires.1)

pub returns-in-Ok : goal.returns-in-Ok
returns-in-Ok c =
    opens-yes c.args.s c.args.memory.now c.args.tape.now _ c.requires.0 (left-whole (c.args.s.taken * 2) c.args.tape.now) (omega arith) _ (bounded (goal.at.returns-in-Ok c).Else-not-is_within) (roomy (goal.at.returns-in-Ok c).Else-not-serves) _ _ c.in-Ok.ensures refl _ c.later.ensures _ _ _ c.number-k.ensures
