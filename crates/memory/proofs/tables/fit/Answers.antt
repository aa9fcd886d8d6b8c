use mathlib.Core.Path.{sym}
use Rattle.memory.specs.Fits.{fit-in, fit-out}
use Rattle.memory.proofs.tables.fit.Goals as goal

pub returns-then-x-bound : goal.returns-then-x-bound
returns-then-x-bound c = sym (fit-in _ _ c.if-x-bound.true)

pub returns-else-x-bound : goal.returns-else-x-bound
returns-else-x-bound c = sym (fit-out _ _ c.if-x-bound.false)
