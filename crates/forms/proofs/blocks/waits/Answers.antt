use mathlib.Core.Path.{sym}
use Rattle.rules.specs.Form.Sums.{out_of_blocks}
use Rattle.forms.specs.Walks.{waits-is}
use Rattle.forms.proofs.blocks.waits.Goals as goal

pub returns : goal.returns
returns c = rw c.byte.ensures.0 (sym (waits-is (out_of_blocks c.args.form.bytes.now) c.args.at))
