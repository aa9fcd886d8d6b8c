use mathlib.Core.Path.{sym, ◌∙◌}
use native.Mathlib.Omega.{arith}
use Rattle.forms.specs.Bytes.{payload-in, payload-past}
use Rattle.forms.proofs.bytes.Form.byte.Goals as goal

pub returns-then-at-self : goal.returns-then-at-self
returns-then-at-self c =
    let a = c.args in
    (c.from.ensures ∙ sym (payload-in a.self.bytes.now a.k a.self.whole c.if-at-self.true), omega arith)

pub returns-else-at-self : goal.returns-else-at-self
returns-else-at-self c =
    let a = c.args in
    (sym (payload-past a.self.bytes.now a.k a.self.whole (omega arith)), omega arith)
