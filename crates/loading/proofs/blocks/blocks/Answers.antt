use Rattle.forms.specs.Lists.{all-next}
use mathlib.Core.Path.{◌≡◌, refl, ap, sym, ◌∙◌, subst}
use Prim.Native.Nat.{◌+◌}
use native.Mathlib.Omega.{arith}
use Rattle.lists.specs.All.{All}
use Rattle.rules.specs.Form.Sums.{out_of_blocks}
use Rattle.memory.specs.Fits.{shape_of}
use Rattle.memory.specs.Tables.{tables_of}
use Rattle.forms.specs.At.{block_at, block_size}
use Rattle.forms.specs.Blocks.{blocks_left, size_left, counter_in}
use Rattle.forms.specs.Cells.{PlacedIn}
use Rattle.forms.specs.Walks.{blocks-left, blocks-none, blocks-all, size-left, size_none, size-all}
use Rattle.loading.specs.Blocks.{put_blocks, blocks-put, no_blocks}
use Rattle.loading.proofs.blocks.blocks.Goals as goal

pub loop-b-init : goal.loop-b-init
loop-b-init c =
    let a = c.args in
    let p = out_of_blocks a.form.bytes.now in (
      refl,
      omega arith,
      ap (λ n. a.from + n) (size-all p a.h.n a.from),
      subst (All (PlacedIn (shape_of a.h) (counter_in p a.h.p))) (sym (blocks-all p a.h.n a.from)) c.requires.2,
      ap (λ xs. put_blocks (shape_of a.h) 0 xs (tables_of (shape_of a.h) a.m.now)) (blocks-all p a.h.n a.from),
    )

pub block-requires : goal.block-requires
block-requires c =
    let l = c.loop-b in
    let a = c.args in
    let p = out_of_blocks a.form.bytes.now in
    (rw l.invariant.0 c.requires.0, omega arith, omega (arith, c.requires.0.blocks), (all-next _ _ (blocks-left p a.h.n l.b l.at (omega arith)) l.invariant.3).0)

pub loop-b-preserved : goal.loop-b-preserved
loop-b-preserved c =
    let l = c.loop-b in
    let a = c.args in
    let h = shape_of a.h in
    let p = out_of_blocks a.form.bytes.now in
    let e = c.size-at.ensures.0 in
    let left = blocks-left p a.h.n l.b l.at (omega arith) in
    let rest = blocks_left p a.h.n (l.b + 1) (l.at + block_size p 1 l.at) in
    let n : l.at + block_size p 1 l.at + size_left p a.h.n (l.b + 1) (l.at + block_size p 1 l.at) ≡ l.at + (block_size p 1 l.at + size_left p a.h.n (l.b + 1) (l.at + block_size p 1 l.at)) = omega arith in (
      omega arith,
      omega (arith, c.size-at.ensures.1),
      ap (λ k. l.at + k + size_left p a.h.n (l.b + 1) (l.at + k)) e ∙ n ∙ ap (λ k. l.at + k) (sym (size-left p a.h.n l.b l.at (omega arith))) ∙ l.invariant.2,
      subst (λ k. All (PlacedIn h (counter_in p a.h.p)) (blocks_left p a.h.n (l.b + 1) (l.at + k))) (sym e) (all-next _ rest left l.invariant.3).1,
      (λ i. put_blocks h (l.b + 1) (blocks_left p a.h.n (l.b + 1) (l.at + e i)) (c.block.ensures i))
          ∙ blocks-put h l.b (block_at p 1 l.at) rest (tables_of h l.m) ∙ sym (ap (λ ys. put_blocks h l.b ys (tables_of h l.m)) left) ∙ l.invariant.4,
    )

pub returns : goal.returns
returns c =
    let l = c.loop-b in
    let a = c.args in
    let h = shape_of a.h in
    let p = out_of_blocks a.form.bytes.now in
    let n : l.b ≡ a.h.n = omega arith in (
      omega (arith, l.invariant.2, size_none p a.h.n l.b l.at (omega arith)),
      omega arith,
      sym (ap (λ ys. put_blocks h l.b ys (tables_of h l.m)) (blocks-none p a.h.n l.b l.at (omega arith)) ∙ no_blocks h l.b (tables_of h l.m)) ∙ l.invariant.4,
    )
