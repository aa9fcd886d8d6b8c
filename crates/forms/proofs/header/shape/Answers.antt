use Rattle.rules.specs.Form.Sums.{out_of_blocks}
use Rattle.forms.specs.Lists.{shape-in}
use Rattle.forms.proofs.header.shape.Goals as goal

pub returns : goal.returns
returns c = rw (shape-in (out_of_blocks c.args.form.now), c.number-6.ensures.0, c.number-5.ensures.0, c.number-4.ensures.0, c.number-3.ensures.0, c.number-2.ensures.0, c.number.ensures.0)
