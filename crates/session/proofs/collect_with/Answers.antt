use mathlib.Core.Path.{refl}
use native.Mathlib.Omega.{arith}
use Rattle.contract.specs.Answers.{refusal-some}
use Rattle.tape.specs.Tape.{length-words}
use Rattle.session.specs.TurnLine.{collect-taken, collects-no, collects-yes}
use Rattle.session.proofs.collect_with.Goals as goal

pub returns-in-Err : goal.returns-in-Err
returns-in-Err c =
    let p = c.refuse in
    collects-no c.args.s c.args.memory.now c.args.tape.now c.requires.0 (omega arith) _ c.requires.3 _ _ _ c.in-Err.ensures (refusal-some c.in-Err.e) _ p.ensures.0 _ _ _ p.ensures.1

pub later-requires : goal.later-requires
later-requires c =
    omega (arith, collect-taken c.args.s c.args.memory.now c.args.tape.now c.requires.0 (omega arith) _ c.requires.3 _ _ _ c.in-Ok.ensures, length-words c.args.tape.now, c.requires.1)

pub returns-in-Ok : goal.returns-in-Ok
returns-in-Ok c =
    collects-yes c.args.s c.args.memory.now c.args.tape.now c.requires.0 (omega arith) _ c.requires.3 _ _ _ c.in-Ok.ensures refl (omega (arith, c.collect.auto)) _ c.later.ensures _ _ _ c.contents-k.ensures
