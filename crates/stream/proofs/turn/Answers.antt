use Rattle.std.proofs.Common.{refl, arith}
use Rattle.stream.proofs.Carry.{if_ok_two, if_ok_four, respond-carried, begin-carried, part-carried, long-carried}
use Rattle.stream.proofs.turn.Goals as goal

pub returns-then-t-clause-turned : goal.returns-then-t-clause-turned
returns-then-t-clause-turned g c =
    if_ok_two c.begin.result (λ r p sent. begin-carried c.args.s c.args.chunk.now c.args.line.now _ c.requires.2 _ _ _ c.in-Whole.ensures r _ c.if-t.true p _ _ _ sent)
    c.begin.ensures.begun c.begin.ensures.sent

pub returns-else-t-clause-turned : goal.returns-else-t-clause-turned
returns-else-t-clause-turned g c =
    if_ok_two c.respond.result (λ r p sent. respond-carried c.args.s c.args.chunk.now c.args.line.now _ c.requires.2 _ _ _ c.in-Whole.ensures r _ c.if-t.false refl p _ _ _ sent)
    c.respond.ensures.responds c.respond.ensures.sent

pub returns-in-Part-clause-turned : goal.returns-in-Part-clause-turned
returns-in-Part-clause-turned g c =
    if_ok_four c.refill.result (λ r f read sent end. part-carried c.args.s c.args.chunk.now c.args.line.now _ c.requires.2 c.requires.0.served c.requires.0.tape _ _ c.in-Part.ensures r _ _ f _ _ _ _ read sent (omega arith) end)
    c.refill.ensures.refilled c.refill.ensures.read c.refill.ensures.sent c.refill.ensures.end

pub returns-in-TooLong-clause-turned : goal.returns-in-TooLong-clause-turned
returns-in-TooLong-clause-turned g c = long-carried c.args.s c.args.chunk.now c.args.line.now _ c.requires.2 c.requires.0 _ c.in-TooLong.ensures _ _
