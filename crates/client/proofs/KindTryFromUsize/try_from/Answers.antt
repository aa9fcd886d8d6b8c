use native.Mathlib.Omega.{arith}
use Rattle.client.specs.Kinds.{no-kind}
use Rattle.client.proofs.KindTryFromUsize.try_from.Goals as goal

pub returns-in_default : goal.returns-in_default
returns-in_default c = no-kind c.args.n (λ e. omega (arith, c.in_default)) (λ e. omega (arith, c.in_default))
