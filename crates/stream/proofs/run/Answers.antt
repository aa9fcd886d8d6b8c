use Rattle.stream.specs.History.{zeros}
use Rattle.stream.proofs.Turns.{followed-prints}
use Rattle.stream.proofs.Carry.{on_err, run-sent, run-answered, run-broken, run-whole}
use Rattle.stream.proofs.run.Goals as goal

pub returns-in_err-handed-clause-broken : goal.returns-in_err-handed-clause-broken
returns-in_err-handed-clause-broken g c =
    let f = c.in_ok-s.ensures.followed in
    on_err c.from_residual-in_err-handed.result (run-broken zeros _ _ _ _ _ _ _ f.0 f.1 _ c.in_err-handed.ensures.part)

pub returns-clause-prints : goal.returns-clause-prints
returns-clause-prints g c = followed-prints _ _ _ _ _ c.in_ok-s.ensures.followed.0 _ c.in_ok-handed.ensures.count

pub returns-clause-answered : goal.returns-clause-answered
returns-clause-answered g c =
    let f = c.in_ok-s.ensures.followed in
    run-answered zeros _ _ _ _ _ _ _ f.0 f.1 _ _ c.in_ok-handed.ensures.count c.in_ok-handed.ensures.all

pub returns-clause-whole : goal.returns-clause-whole
returns-clause-whole g c =
    let f = c.in_ok-s.ensures.followed in
    run-whole zeros f.0.input f.1.rest _ _ _ _ _ f.1.read f.1.closed (run-sent zeros _ _ _ _ _ _ _ f.0 f.1 _ c.in_ok-handed.ensures.all)
