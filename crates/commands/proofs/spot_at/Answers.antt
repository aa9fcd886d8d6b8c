use Rattle.commands.specs.Commands.{spot-none, spot-some}
use Rattle.commands.proofs.spot_at.Goals as goal

pub returns-then-x-lt2 : goal.returns-then-x-lt2
returns-then-x-lt2 c =
    spot-none _ _ _ (rw (c.pow2-bound.ensures.0, c.entry.ensures) at c.fit-x.ensures) c.if-x-lt2.true

pub returns-else-x-lt2 : goal.returns-else-x-lt2
returns-else-x-lt2 c =
    spot-some _ _ _ (rw (c.pow2-bound.ensures.0, c.entry.ensures) at c.fit-x.ensures) c.if-x-lt2.false
