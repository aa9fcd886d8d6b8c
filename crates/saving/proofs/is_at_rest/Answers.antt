use Rattle.saving.specs.Saving.{rest-is}
use Rattle.saving.proofs.is_at_rest.Goals as goal

pub returns : goal.returns
returns c = λ m. rest-is c.args.c m
