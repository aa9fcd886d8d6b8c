use Rattle.loading.specs.Levels.{few-slots}
use lib.ListN.{get_or}
use Rattle.rules.proofs.Laws.Layout.{offset-lt}
use Rattle.forms.specs.Blocks.{counter_in}
use mathlib.Core.Path.{refl, ap}
use Prim.Native.Nat.{◌+◌}
use native.Mathlib.Omega.{arith}
use Rattle.rules.specs.Form.Sums.{out_of_blocks}
use Rattle.memory.specs.Fits.{shape_of}
use Rattle.memory.specs.Tables.{tables_of}
use Rattle.loading.specs.Blocks.{none-put, slot-in, slot-put}
use Rattle.loading.proofs.blocks.block.Goals as goal

pub returns-then-l-ge-WAITING : goal.returns-then-l-ge-WAITING
returns-then-l-ge-WAITING c =
    let a = c.args in
    none-put (shape_of a.h) (out_of_blocks a.form.bytes.now) a.b a.at c.number-q.result c.byte-l.result c.number-q.ensures.0 c.byte-l.ensures.0
    (tables_of (shape_of a.h) a.m.now) _ _ c.set.ensures (omega arith) c.byte-l.ensures.1 c.set-then-l-ge-WAITING.ensures

pub pow2-requires : goal.pow2-requires
pow2-requires c =
    let a = c.args in
    omega (arith, c.requires.0.levels, (slot-in (shape_of a.h) (out_of_blocks a.form.bytes.now) a.at c.number-q.result c.byte-l.result (get_or (out_of_blocks a.form.bytes.now) (a.at + 3) 0) (counter_in (out_of_blocks a.form.bytes.now) a.h.p) c.number-q.ensures.0 c.byte-l.ensures.0 refl (omega arith) c.requires.3).1)

pub set-requires-2 : goal.set-requires-2
set-requires-2 c =
    let a = c.args in
    omega (arith, few-slots c.byte-l.result (omega (arith, c.requires.0.levels, (slot-in (shape_of a.h) (out_of_blocks a.form.bytes.now) a.at c.number-q.result c.byte-l.result c.byte.result (counter_in (out_of_blocks a.form.bytes.now) a.h.p) c.number-q.ensures.0 c.byte-l.ensures.0 c.byte.ensures.0 (omega arith) c.requires.3).1)), c.pow2.ensures.0, c.byte.ensures.1)

pub cell_of-requires : goal.cell_of-requires
cell_of-requires c =
    let a = c.args in
    let f = c.requires.0 in
    let s = slot-in (shape_of a.h) (out_of_blocks a.form.bytes.now) a.at c.number-q.result c.byte-l.result c.byte.result (counter_in (out_of_blocks a.form.bytes.now) a.h.p) c.number-q.ensures.0 c.byte-l.ensures.0 c.byte.ensures.0 (omega arith) c.requires.3 in
    (f.levels, f.partitions, f.cells, s.0, rw c.pow2.ensures.0 (offset-lt a.h.l c.byte-l.result c.byte.result s.1 s.2))

pub returns : goal.returns
returns c =
    let a = c.args in
    slot-put (shape_of a.h) (out_of_blocks a.form.bytes.now) a.b a.at c.number-q.result c.byte-l.result c.number-q.ensures.0 c.byte-l.ensures.0
    (tables_of (shape_of a.h) a.m.now) _ _ c.set.ensures c.byte.result c.byte.ensures.0 (omega arith)
    _ _ _ (ap (λ n. n + c.byte.result) c.pow2.ensures.0) c.cell_of.ensures.0 c.set-2.ensures c.set-3.ensures
