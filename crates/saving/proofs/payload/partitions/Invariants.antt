use Rattle.client.specs.View.{state_of}
use Rattle.saving.specs.Parts.{width_of, partition_in}
use Rattle.saving.proofs.payload.partitions.Given as goal

abbrev pub ghost-put_each : goal.ghost-put_each
ghost-put_each a = partition_in (width_of a.put.0.now.shape) (state_of a.put.0.now a.put.1.now)
