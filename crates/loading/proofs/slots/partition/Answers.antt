use mathlib.Core.Path.{refl, ap, sym, ◌∙◌}
use Prim.Native.Nat.{◌+◌}
use native.Mathlib.Omega.{arith}
use Rattle.lists.specs.Search.{below}
use Rattle.rules.specs.Form.Numbers.{each}
use Rattle.rules.specs.Form.Sums.{out_of_blocks}
use Rattle.memory.specs.Fits.{shape_of}
use Rattle.memory.specs.Tables.{tables_of}
use Rattle.forms.specs.At.{level_size, size_at}
use Rattle.forms.specs.Lists.{numbers-at}
use Rattle.forms.specs.Passes.{key_at, keys_of}
use Rattle.loading.specs.Levels.{levels_put, leads-all, leads-next, leads-end}
use Rattle.loading.proofs.slots.partition.Goals as goal

pub loop-l-init : goal.loop-l-init
loop-l-init c =
    let a = c.args in
    (refl, omega arith, leads-all (shape_of a.h) (out_of_blocks a.form.bytes.now) (key_at a.q c.number-c.result) a.h.l a.from (tables_of (shape_of a.h) a.m.now))

pub loop-l-preserved : goal.loop-l-preserved
loop-l-preserved c =
    let l = c.loop-l in
    let a = c.args in
    let r = c.level-at.ensures in
    (omega arith, omega (arith, r.1), leads-next (shape_of a.h) (out_of_blocks a.form.bytes.now) (key_at a.q c.number-c.result) a.h.l l.l _ l.at _ a.from _ _ _ (omega arith) r.0 r.2 l.invariant.2)

pub returns : goal.returns
unfolding keys_of
returns c =
    let l = c.loop-l in
    let a = c.args in
    let p = out_of_blocks a.form.bytes.now in
    let k = ap (λ n. each (key_at a.q n) (below a.h.l)) (c.number-c.ensures.0 ∙ sym (numbers-at p 2 a.h.p 13 a.q c.requires.1)) in
    let r = leads-end (shape_of a.h) p (key_at a.q c.number-c.result) a.h.l l.l _ l.at a.from _ _ (omega arith) l.invariant.2 in
    (r.0 ∙ ap (λ ks. a.from + size_at (level_size 1) ks a.from) k, omega (arith, c.requires.0.levels), r.1 ∙ ap (λ ks. levels_put (shape_of a.h) p ks a.from (tables_of (shape_of a.h) a.m.now)) k)
