use Rattle.std.proofs.Common.{refl, sym, ◌∙◌, arith}
use Rattle.lines.specs.Lines.{stored}
use Rattle.lines.specs.Numbers.{number-small}
use Rattle.lines.specs.Told.{written_none, written_one, written-two, written-three}
use Rattle.lines.proofs.write_line.Goals as goal

pub returns-then-n-lt2 : goal.returns-then-n-lt2
returns-then-n-lt2 c = (sym (written_none c.args.line.now (omega arith)), tt)

pub returns-then-e-n : goal.returns-then-e-n
returns-then-e-n c = (sym (written_one c.args.line.now _ (omega arith) c.end-e.ensures c.if-e-n.true), tt)

pub returns-then-z-n : goal.returns-then-z-n
returns-then-z-n c = (sym (written-three c.args.line.now _ (omega arith) c.end-e.ensures _ (omega arith) c.end-z.ensures c.if-z-n.true), tt)

pub returns-in_default : goal.returns-in_default
unfolding stored
returns-in_default c = (sym (written-two c.args.line.now _ (omega arith) c.end-e.ensures _ (omega arith) c.end-z.ensures (omega arith) ∙ rw (sym c.number.ensures ∙ c.in_default.is) refl), tt)

pub returns-in_default-contents : goal.returns-in_default-contents
unfolding stored
returns-in_default-contents c =
    let k = sym c.in_default-contents.ensures.contents in
    (sym (written-two c.args.line.now _ (omega arith) c.end-e.ensures _ (omega arith) c.end-z.ensures (omega arith) ∙ rw (sym c.number.ensures ∙ c.in-Some.is, k) refl), tt)

pub returns : goal.returns
unfolding stored
returns c =
    let b = sym c.number.ensures ∙ c.in-Some.is in
    let k = c.in-Some-contents.ensures in
    (sym (written-two c.args.line.now _ (omega arith) c.end-e.ensures _ (omega arith) c.end-z.ensures (omega arith) ∙ rw (b, sym k.contents) refl), (number-small _ _ b, k.within.0, k.within.1))
