use native.Mathlib.Omega.{arith}
use Rattle.saving.specs.Sizes.{payload-size, waiters-few}
use Rattle.saving.proofs.sizes.payload.Goals as goal

pub returns : goal.returns
returns c =
    (payload-size c.args.c c.args.m.now c.requires.0 c.blocks-2.result c.levels.result c.blocks-2.ensures.0 c.levels.ensures.0, omega (arith, waiters-few c.args.c.waiting c.args.c.shape.n c.args.c.shape.b c.requires.1 c.requires.0.blocks c.requires.0.bytes))
