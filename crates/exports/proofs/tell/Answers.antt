use mathlib.Core.Path.{ap, ◌∙◌}
use Rattle.codec.specs.Codec.{packed}
use Rattle.exports.proofs.tell.Goals as goal

pub returns-in-Ok : goal.returns-in-Ok
returns-in-Ok c = rw c.in-Ok.is (c.pack.ensures c.args.c ∙ ap packed c.new.ensures)

pub returns-in-Err : goal.returns-in-Err
returns-in-Err c = rw c.in-Err.is (c.pack-in-Err.ensures c.args.c)
