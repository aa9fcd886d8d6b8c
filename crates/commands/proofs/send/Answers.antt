use Rattle.client.specs.Kinds.{kind_number, kind-range}
use Rattle.commands.specs.Commands.{sent}
use Rattle.commands.proofs.send.Goals as goal

pub returns : goal.returns
returns c = (
  c.with_out.ensures,
  rw c.with_out.ensures (sent c.args.c c.args.m.now _ _ (kind_number c.args.kind) c.args.q c.args.l c.args.i (kind-range c.args.kind).0 (kind-range c.args.kind).1 c.requires.0.partitions c.requires.2 c.requires.3 c.requires.4 (rw c.first_number.ensures at c.set.ensures) (rw c.pow2.ensures.0 at c.set-2.ensures)),
)
