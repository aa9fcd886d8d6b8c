use Prim.Native.Nat.{◌-◌}
use Rattle.lists.specs.Lengths.{bit}
use mathlib.Core.Path.{refl, ap, sym, ◌∙◌}
use native.Mathlib.Omega.{arith}
use Rattle.rules.specs.Form.Sums.{out_of_blocks}
use Rattle.forms.specs.Records.{away, away-more, away-none}
use Rattle.forms.specs.Walks.{bit_not, blocks-left, blocks-none, blocks-all}
use borrow.Author.Rules.{rules}
use Rattle.forms.proofs.records.mark_away.Goals as goal

pub loop-b-init : goal.loop-b-init
loop-b-init c =
    let a = c.args in
    (omega arith, refl, ap (away a.seen.now 0) (blocks-all (out_of_blocks a.form.bytes.now) a.n a.from))

pub loop-b-preserved : goal.loop-b-preserved
loop-b-preserved c =
    let l = c.loop-b in
    let a = c.args in
    let p = out_of_blocks a.form.bytes.now in
    let e = blocks-left p a.n l.b l.at (omega arith) in
    let w = c.from.ensures ∙ bit_not c.waits.result ∙ ap (λ t. 1 - bit t) c.waits.ensures in
    let z = c.size-at.ensures.0 in
    (omega arith, search rules, rw (z, w) (sym (away-more l.seen l.b _ _) ∙ ap (away l.seen l.b) (sym e) ∙ l.invariant.2))

pub returns : goal.returns
returns c =
    let l = c.loop-b in
    let a = c.args in
    let p = out_of_blocks a.form.bytes.now in
    sym (away-none l.seen l.b) ∙ ap (away l.seen l.b) (sym (blocks-none p a.n l.b l.at (omega arith))) ∙ l.invariant.2
