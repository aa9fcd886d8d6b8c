use Rattle.stream.specs.History.{zeros}
use Rattle.stream.proofs.Turns.{followed-pages}
use Rattle.stream.proofs.Carry.{on_err, page-sent, page-shown, page-broken, page-whole}
use Rattle.stream.proofs.page.Goals as goal

pub returns-in_err-handed-clause-broken : goal.returns-in_err-handed-clause-broken
returns-in_err-handed-clause-broken g c =
    let f = c.in_ok-s.ensures.followed in
    on_err c.from_residual-in_err-handed.result (page-broken zeros _ _ _ _ _ _ _ f.0 f.1 _ c.in_err-handed.ensures.part)

pub returns-clause-pages : goal.returns-clause-pages
returns-clause-pages g c = followed-pages _ _ _ _ _ c.in_ok-s.ensures.followed.0 _ c.in_ok-handed.ensures.count

pub returns-clause-paged : goal.returns-clause-paged
returns-clause-paged g c =
    let f = c.in_ok-s.ensures.followed in
    page-shown zeros _ _ _ _ _ _ _ f.0 f.1 _ _ c.in_ok-handed.ensures.count c.in_ok-handed.ensures.all

pub returns-clause-whole : goal.returns-clause-whole
returns-clause-whole g c =
    let f = c.in_ok-s.ensures.followed in
    page-whole zeros f.0.input f.1.rest _ _ _ _ _ f.1.read f.1.closed (page-sent zeros _ _ _ _ _ _ _ f.0 f.1 _ c.in_ok-handed.ensures.all)
