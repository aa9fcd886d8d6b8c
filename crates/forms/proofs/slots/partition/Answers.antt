use mathlib.Core.Path.{ap, sym, ◌∙◌}
use native.Mathlib.Omega.{arith}
use Rattle.lists.specs.Search.{below}
use Rattle.rules.specs.Form.Numbers.{each}
use Rattle.rules.specs.Form.Sums.{out_of_blocks}
use Rattle.memory.specs.Fits.{shape_of}
use Rattle.forms.specs.Lists.{numbers-at}
use Rattle.forms.specs.Passes.{passed, key_at, keys_of, each_left, each_none, each_all, pass-none, pass-stop, pass-more}
use Rattle.forms.proofs.slots.partition.Goals as goal

pub loop-l-init : goal.loop-l-init
unfolding keys_of
loop-l-init c =
    let a = c.args in
    let p = out_of_blocks a.form.bytes.now in
    let e = each_all (key_at a.q c.number-c.result) a.h.l ∙ ap (λ k. each (key_at a.q k) (below a.h.l)) (c.number-c.ensures.0 ∙ sym (numbers-at p 2 a.h.p 13 a.q (omega arith))) in
    (omega arith, ap (λ ks. passed (shape_of a.h) p a.seen.now ks a.from) e)

pub returns-in_err-at : goal.returns-in_err-at
returns-in_err-at c =
    let l = c.loop-l in
    let a = c.args in
    let h = shape_of a.h in
    let p = out_of_blocks a.form.bytes.now in
    let s = a.seen.now in
    let g = key_at a.q c.number-c.result in
    let z = sym c.level.ensures.0 ∙ c.in_err-at.was in
    rw c.from_residual.ensures (sym (sym l.invariant.1 ∙ ap (λ ks. passed h p s ks l.at) (each_left g a.h.l l.l (omega arith)) ∙ pass-stop h p s (g l.l) _ l.at z), tt)

pub loop-l-preserved : goal.loop-l-preserved
loop-l-preserved c =
    let l = c.loop-l in
    let a = c.args in
    let h = shape_of a.h in
    let p = out_of_blocks a.form.bytes.now in
    let s = a.seen.now in
    let g = key_at a.q c.number-c.result in
    let z = sym c.level.ensures.0 ∙ c.in_ok-at.was in
    let r = c.in_ok-at.ensures in
    (omega (arith, r.1), sym (pass-more h p s (g l.l) _ l.at c.in_ok-at.at z) ∙ ap (λ ks. passed h p s ks l.at) (sym (each_left g a.h.l l.l (omega arith))) ∙ l.invariant.1)

pub returns : goal.returns
returns c =
    let l = c.loop-l in
    let a = c.args in
    let h = shape_of a.h in
    let p = out_of_blocks a.form.bytes.now in
    let s = a.seen.now in
    let b = c.requires.0 in
    (sym (sym l.invariant.1 ∙ ap (λ ks. passed h p s ks l.at) (each_none (key_at a.q c.number-c.result) a.h.l l.l (omega arith)) ∙ pass-none h p s l.at), omega (arith, b.levels))
