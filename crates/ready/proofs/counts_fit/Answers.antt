use Rattle.client.specs.Ready.{counts_fit}
use Rattle.ready.proofs.counts_fit.Goals as goal

pub returns : goal.returns
unfolding counts_fit
returns c = rw c.pow2-slots.ensures.0
