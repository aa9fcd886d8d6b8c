use Rattle.releasing.specs.Released.{releasable}
use Rattle.exports.proofs.Settled.{found-stored}
use Rattle.exports.proofs.release.Goals as goal

pub release-d-requires : goal.release-d-requires
release-d-requires c = rw c.decode-c.ensures (releasable _ _ c.requires)

pub returns : goal.returns
returns c =
    let a = c.args in
    let r = c.release-d in
    found-stored a.state.now a.memory.now r.result _ (rw (← c.decode-c.ensures) r.ensures) c.set_found.ensures
