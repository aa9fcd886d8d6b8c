use mathlib.Core.Path.{sym, ◌∙◌}
use mathlib.Core.Bool.{true≢false}
use native.Mathlib.Omega.{arith}
use Rattle.rules.specs.Form.Sums.{out_of_blocks}
use Rattle.memory.specs.Fits.{shape_of}
use Rattle.forms.specs.Blocks.{placed-far, placed-none, placed-bad, placed-slot, marked-is, slot-facts}
use Rattle.forms.proofs.blocks.is_placed.Goals as goal

pub returns-then-h-q : goal.returns-then-h-q
returns-then-h-q c =
    let a = c.args in
    (sym (placed-far (shape_of a.h) (out_of_blocks a.form.bytes.now) a.seen.now a.at c.number-q.result c.number-q.ensures.0 (omega arith)), λ e. absurd (true≢false (sym e)))

pub returns-then-l-ge-WAITING : goal.returns-then-l-ge-WAITING
returns-then-l-ge-WAITING c =
    let a = c.args in
    let r = placed-none (shape_of a.h) (out_of_blocks a.form.bytes.now) a.seen.now a.at c.number-q.result c.byte-l.result c.number-q.ensures.0 c.byte-l.ensures.0 (omega arith) (omega arith) c.byte-l.ensures.1 in
    (sym r.0, λ e. sym r.1)

pub returns-then-not-is_slot : goal.returns-then-not-is_slot
returns-then-not-is_slot c =
    let a = c.args in (
      sym (placed-bad (shape_of a.h) (out_of_blocks a.form.bytes.now) a.seen.now a.at c.number-q.result c.byte-l.result c.byte-i.result c.number-c.result
          c.number-q.ensures.0 c.byte-l.ensures.0 c.byte-i.ensures.0 c.number-c.ensures.0 (omega arith) (omega arith) (sym c.is_slot.ensures ∙ c.if-not-is_slot.true)),
      λ e. absurd (true≢false (sym e)),
    )

pub cell-requires : goal.cell-requires
cell-requires c =
    let a = c.args in
    let b = c.requires.0 in
    let y = slot-facts (shape_of a.h) c.number-c.result c.byte-l.result c.byte-i.result (sym c.is_slot.ensures ∙ c.if-not-is_slot.false) in
    (b.levels, b.partitions, b.cells, omega arith, y.0, y.1)

pub returns : goal.returns
returns c =
    let a = c.args in
    let s = sym c.is_slot.ensures ∙ c.if-not-is_slot.false in
    let d = placed-slot (shape_of a.h) (out_of_blocks a.form.bytes.now) a.seen.now a.at c.number-q.result c.byte-l.result c.byte-i.result c.number-c.result
    c.number-q.ensures.0 c.byte-l.ensures.0 c.byte-i.ensures.0 c.number-c.ensures.0 (omega arith) (omega arith) s in
    let m = marked-is (shape_of a.h) (out_of_blocks a.form.bytes.now) a.seen.now a.at c.number-q.result c.byte-l.result c.byte-i.result c.number-c.result
    c.number-q.ensures.0 c.byte-l.ensures.0 c.byte-i.ensures.0 c.number-c.ensures.0 (omega arith) (omega arith) in
    (rw (d, ← c.cell.ensures.0) c.is_new.ensures.0, λ e. rw (m, ← c.cell.ensures.0) c.is_new.ensures.1)
