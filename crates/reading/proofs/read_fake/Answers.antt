use mathlib.Core.Path.{◌∙◌}
use Rattle.client.specs.View.{state_of}
use Rattle.reading.specs.Slots.{fake-is}
use Rattle.reading.proofs.read_fake.Goals as goal

pub returns : goal.returns
returns c =
    c.item.ensures ∙ fake-is (state_of c.args.c c.args.m.now) c.args.q c.args.l c.args.marked c.requires.1
