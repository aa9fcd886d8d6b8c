use mathlib.Core.Path.{ap, sym, ◌∙◌}
use mathlib.Core.Bool.{true≢false}
use Prim.Native.Nat.{◌+◌}
use native.Mathlib.Omega.{arith}
use Rattle.rules.specs.Form.Sums.{out_of_blocks}
use Rattle.memory.specs.Fits.{shape_of}
use Rattle.forms.specs.At.{block_at, block_size}
use Rattle.forms.specs.Blocks.{blocks_left, counter_in, all_stand, marked}
use Rattle.forms.specs.Cells.{cells_of}
use Rattle.forms.specs.Once.{mark_all}
use Rattle.forms.specs.Walks.{blocks-left, blocks-none, blocks-all, stand-more, stand-not, stand-none, marked_more, marked-none}
use Rattle.forms.proofs.blocks.are_placed.Goals as goal

pub loop-b-init : goal.loop-b-init
loop-b-init c =
    let a = c.args in
    let p = out_of_blocks a.form.bytes.now in
    let e = blocks-all p a.h.n a.from in
    (omega arith, ap (all_stand (shape_of a.h) (counter_in p a.h.p) a.seen.now) e, ap (λ xs. mark_all a.seen.now (cells_of (shape_of a.h) xs)) e)

pub returns-then-not-is_placed : goal.returns-then-not-is_placed
returns-then-not-is_placed c =
    let l = c.loop-b in
    let a = c.args in
    let p = out_of_blocks a.form.bytes.now in
    let e = blocks-left p a.h.n l._b l.at (omega arith) in
    (sym (sym l.invariant.1 ∙ ap (all_stand (shape_of a.h) (counter_in p a.h.p) l.seen) e ∙ stand-not (shape_of a.h) (counter_in p a.h.p) l.seen (block_at p 1 l.at) _ (sym c.is_placed.ensures.0 ∙ c.if-not-is_placed.true)), λ e. absurd (true≢false (sym e)))

pub loop-b-preserved : goal.loop-b-preserved
loop-b-preserved c =
    let l = c.loop-b in
    let a = c.args in
    let p = out_of_blocks a.form.bytes.now in
    let h = shape_of a.h in
    let k = counter_in p a.h.p in
    let e = blocks-left p a.h.n l._b l.at (omega arith) in
    let y = c.if-not-is_placed.false in
    let m = c.is_placed.ensures.1 y in
    let z = ap (λ s. blocks_left p a.h.n (l._b + 1) (l.at + s)) c.size-at.ensures.0 in
    let x = block_at p 1 l.at in
    let xs = blocks_left p a.h.n (l._b + 1) (l.at + block_size p 1 l.at) in (
      omega arith,
      ap (λ s. all_stand h k s (blocks_left p a.h.n (l._b + 1) (l.at + c.size-at.result))) m ∙ ap (all_stand h k (marked h l.seen x)) z ∙ stand-more h k l.seen x xs (sym c.is_placed.ensures.0 ∙ y) ∙ ap (all_stand h k l.seen) (sym e) ∙ l.invariant.1,
      ap (λ s. mark_all s (cells_of h (blocks_left p a.h.n (l._b + 1) (l.at + c.size-at.result)))) m ∙ ap (λ xs. mark_all (marked h l.seen x) (cells_of h xs)) z ∙ marked_more h k l.seen x xs ∙ ap (λ xs. mark_all l.seen (cells_of h xs)) (sym e) ∙ l.invariant.2,
    )

pub returns : goal.returns
returns c =
    let l = c.loop-b in
    let a = c.args in
    let p = out_of_blocks a.form.bytes.now in
    let e = blocks-none p a.h.n l._b l.at (omega arith) in
    (sym (sym l.invariant.1 ∙ ap (all_stand (shape_of a.h) (counter_in p a.h.p) l.seen) e ∙ stand-none (shape_of a.h) (counter_in p a.h.p) l.seen), λ y. sym (sym l.invariant.2 ∙ ap (λ xs. mark_all l.seen (cells_of (shape_of a.h) xs)) e ∙ marked-none (shape_of a.h) l.seen))
