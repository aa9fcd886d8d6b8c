use mathlib.Core.Path.{refl}
use Rattle.client.specs.Ready.{request_fits}
use Rattle.ready.proofs.request_fits.Goals as goal

pub returns : goal.returns
unfolding request_fits
returns c = refl
