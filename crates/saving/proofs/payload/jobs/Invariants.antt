use Rattle.rules.specs.Form.Numbers.{little}
use Rattle.memory.specs.Tables.{tables_of}
use Rattle.memory.specs.Fits.{shape_of, fit}
use Rattle.saving.proofs.payload.jobs.Given as goal

abbrev pub ghost-put_each : goal.ghost-put_each
ghost-put_each a = λ i. little 2 (fit a.put.0.now.p ((tables_of (shape_of a.put.0.now) a.put.1.now).queue i))
