use Rattle.session.specs.Session.{ends}
use Rattle.stream.specs.Laws.{ends-not}
use Rattle.stream.proofs.ends.Goals as goal

pub returns-in_default : goal.returns-in_default
returns-in_default c b = ends-not _ c.in_default.not-Malformed b

pub returns-in-Malformed : goal.returns-in-Malformed
unfolding ends
returns-in-Malformed c b = rw c.in-Malformed.is
