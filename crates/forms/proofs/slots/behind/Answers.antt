use mathlib.Core.Path.{ap, sym, ◌∙◌}
use native.Mathlib.Omega.{arith}
use Rattle.rules.specs.Form.Sums.{out_of_blocks}
use Rattle.memory.specs.Fits.{shape_of}
use Rattle.forms.specs.Blocks.{counter_in}
use Rattle.forms.specs.Passes.{passed, keys_of, each_left, each_none, each_all, pass-none, pass-stop, pass-more}
use Rattle.forms.proofs.slots.behind.Goals as goal

pub loop-q-init : goal.loop-q-init
loop-q-init c =
    let a = c.args in
    let p = out_of_blocks a.form.bytes.now in
    (omega arith, ap (λ ks. passed (shape_of a.h) p a.seen.now ks a.from) (each_all (keys_of a.h.l (counter_in p a.h.p)) a.h.p))

pub returns-in_err-at : goal.returns-in_err-at
returns-in_err-at c =
    let l = c.loop-q in
    let a = c.args in
    let h = shape_of a.h in
    let p = out_of_blocks a.form.bytes.now in
    let s = a.seen.now in
    let g = keys_of a.h.l (counter_in p a.h.p) in
    let z = sym c.partition.ensures.0 ∙ c.in_err-at.was in
    rw c.from_residual.ensures (sym (sym l.invariant.1 ∙ ap (λ ks. passed h p s ks l.at) (each_left g a.h.p l.q (omega arith)) ∙ pass-stop h p s (g l.q) _ l.at z), tt)

pub loop-q-preserved : goal.loop-q-preserved
loop-q-preserved c =
    let l = c.loop-q in
    let a = c.args in
    let h = shape_of a.h in
    let p = out_of_blocks a.form.bytes.now in
    let s = a.seen.now in
    let g = keys_of a.h.l (counter_in p a.h.p) in
    let z = sym c.partition.ensures.0 ∙ c.in_ok-at.was in
    let r = c.in_ok-at.ensures in
    (omega (arith, r.1), sym (pass-more h p s (g l.q) _ l.at c.in_ok-at.at z) ∙ ap (λ ks. passed h p s ks l.at) (sym (each_left g a.h.p l.q (omega arith))) ∙ l.invariant.1)

pub returns : goal.returns
returns c =
    let l = c.loop-q in
    let a = c.args in
    let h = shape_of a.h in
    let p = out_of_blocks a.form.bytes.now in
    let s = a.seen.now in
    let b = c.requires.0 in
    (sym (sym l.invariant.1 ∙ ap (λ ks. passed h p s ks l.at) (each_none (keys_of a.h.l (counter_in p a.h.p)) a.h.p l.q (omega arith)) ∙ pass-none h p s l.at), omega (arith, b.partitions))
