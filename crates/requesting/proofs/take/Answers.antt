use Rattle.client.specs.Kinds.{kind_number, kind-range}
use Rattle.client.specs.Moves.{Stands}
use Rattle.releasing.specs.Released.{released-stands}
use Rattle.requesting.specs.Requesting.{Taken, taken-stands}
use Rattle.requesting.proofs.take.Goals as goal
use Rattle.requesting.proofs.take.Goals.{After-with_request-d}

-- the request is in hand
taken : (c : After-with_request-d) → let a = c.args in
    Stands c.with_request-d.result a.m.now c.keep.new.m (Taken a.c a.m.now (kind_number a.kind) a.block a.contents.now a.tape.now)
taken c =
    let a = c.args in
    rw (c.with_request-d.ensures, c.from.ensures)
    (taken-stands a.c a.m.now _ (kind_number a.kind) a.block a.contents.now a.tape.now _ _ c.keep.ensures c.requires.5 (kind-range a.kind).0 c.requires.6 c.requires.7 c.draw-next.ensures.0 c.draw-evict.ensures.0)

pub returns : goal.returns
returns c =
    let a = c.args in
    released-stands {s = Taken a.c a.m.now (kind_number a.kind) a.block a.contents.now a.tape.now} (taken (goal.at.returns c).After-with_request-d) c.release.ensures
