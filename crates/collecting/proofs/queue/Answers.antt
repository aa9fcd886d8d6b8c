use Rattle.collecting.specs.Collecting.{queued-stand}
use Rattle.collecting.proofs.queue.Goals as goal

pub returns : goal.returns
returns c =
    let y = c.push-e in
    let x = c.push-d in
    let a = c.args in
    rw (c.with_request.ensures, c.none.ensures) (queued-stand a.c _ _ a.m.now _ _ a.p a.evict x.ensures.0 x.ensures.1 y.ensures.0 y.ensures.1)
