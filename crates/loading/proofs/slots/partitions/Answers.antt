use mathlib.Core.Path.{refl}
use native.Mathlib.Omega.{arith}
use Rattle.rules.specs.Form.Sums.{out_of_blocks}
use Rattle.memory.specs.Fits.{shape_of}
use Rattle.memory.specs.Tables.{tables_of}
use Rattle.forms.specs.Blocks.{counter_in}
use Rattle.forms.specs.Passes.{keys_of}
use Rattle.loading.specs.Levels.{leads-all, leads-next, leads-end}
use Rattle.loading.proofs.slots.partitions.Goals as goal

pub loop-q-init : goal.loop-q-init
loop-q-init c =
    let a = c.args in
    let p = out_of_blocks a.form.bytes.now in
    (refl, omega arith, leads-all (shape_of a.h) p (keys_of a.h.l (counter_in p a.h.p)) a.h.p a.from (tables_of (shape_of a.h) a.m.now))

pub loop-q-preserved : goal.loop-q-preserved
loop-q-preserved c =
    let l = c.loop-q in
    let a = c.args in
    let p = out_of_blocks a.form.bytes.now in
    let r = c.partition-at.ensures in
    (omega arith, omega (arith, r.1), leads-next (shape_of a.h) p (keys_of a.h.l (counter_in p a.h.p)) a.h.p l.q _ l.at _ a.from _ _ _ (omega arith) r.0 r.2 l.invariant.2)

pub returns : goal.returns
returns c =
    let l = c.loop-q in
    let a = c.args in
    let p = out_of_blocks a.form.bytes.now in
    let r = leads-end (shape_of a.h) p (keys_of a.h.l (counter_in p a.h.p)) a.h.p l.q _ l.at a.from _ _ (omega arith) l.invariant.2 in
    (r.0, omega (arith, c.requires.0.partitions), r.1)
