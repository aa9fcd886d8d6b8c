-- Demand 3 on the rules.
use Rattle.hiding.proofs.Reached.{reached}
use Rattle.hiding.specs.Claim.{Hiding}
use Rattle.hiding.proofs.Lists.Runs.{claim}
use Rattle.hiding.proofs.Cache.Runs.{smaller}
use Rattle.hiding.proofs.Lists.Served.{tapes}

pub hidden : Hiding
hidden = record { lists = claim reached; tapes = tapes; cache = smaller }
