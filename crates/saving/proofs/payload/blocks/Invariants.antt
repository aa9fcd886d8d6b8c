use Rattle.rules.specs.Form.Payload.{block_bytes}
use Rattle.client.specs.View.{state_of}
use Rattle.saving.specs.Parts.{width_of}
use Rattle.saving.proofs.payload.blocks.Given as goal

abbrev pub ghost-put_each : goal.ghost-put_each
ghost-put_each a = block_bytes (width_of a.put.0.now.shape) (state_of a.put.0.now a.put.1.now)
