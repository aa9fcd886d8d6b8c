use Rattle.saving.specs.Parts.{waiter_in}
use Rattle.saving.proofs.payload.waiters.Given as goal

abbrev pub ghost-put_each : goal.ghost-put_each
ghost-put_each a = waiter_in a.put.0.now a.put.1.now
