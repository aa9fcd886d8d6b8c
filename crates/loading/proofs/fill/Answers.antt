use mathlib.Core.Path.{ap, sym, ◌∙◌, subst}
use Prim.Native.Nat.{◌+◌, ◌*◌}
use native.Mathlib.Omega.{arith}
use Rattle.lists.specs.All.{All}
use Rattle.rules.specs.Form.Sums.{out_of_blocks}
use Rattle.memory.specs.declared.tables.Table.TheVariants.{Queue, Counter}
use Rattle.memory.specs.Fits.{shape_of}
use Rattle.memory.specs.Tables.{tables_of}
use Rattle.forms.specs.At.{numbers_at}
use Rattle.forms.specs.Blocks.{blocks_at, counter_in}
use Rattle.forms.specs.Cells.{PlacedIn}
use Rattle.loading.specs.Laid.{laid}
use Rattle.loading.specs.Blocks.{put_blocks}
use Rattle.loading.specs.Levels.{levels_put}
use Rattle.loading.specs.Records.{records_at, put_records}
use Rattle.loading.specs.Restored.{put_form}
use Rattle.loading.specs.Loading.{keys_by, form_by, by-jobs, by-placed, by-waiting, by_end, by-records, levels-as, records-as}
use Rattle.loading.proofs.fill.Goals as goal

pub numbers-requires-2 : goal.numbers-requires-2
numbers-requires-2 c = (omega arith, omega (arith, by-jobs c.args.form.bytes.now c.args.h c.requires.0), omega (arith, c.requires.1.partitions), omega (arith, by-jobs c.args.form.bytes.now c.args.h c.requires.0))

pub overflow_mul-jobs : goal.overflow_mul-jobs
overflow_mul-jobs c = omega (arith, by-jobs c.args.form.bytes.now c.args.h c.requires.0)

pub overflow_add-queue-4 : goal.overflow_add-queue-4
overflow_add-queue-4 c = omega (arith, by-jobs c.args.form.bytes.now c.args.h c.requires.0)

pub blocks-levels-requires : goal.blocks-levels-requires
blocks-levels-requires c =
    let a = c.args in
    let k = c.requires.0 in
    (omega arith, omega (arith, by-jobs c.args.form.bytes.now c.args.h c.requires.0, c.requires.1.partitions), subst (λ j. All (PlacedIn (shape_of a.h) (counter_in (out_of_blocks a.form.bytes.now) a.h.p)) (blocks_at (out_of_blocks a.form.bytes.now) a.h.n (13 + a.h.p * 2 + 2 + j * 2))) (sym c.requires.2) (by-placed a.form.bytes.now a.h k))

pub partitions-at-requires : goal.partitions-at-requires
partitions-at-requires c =
    (omega arith, omega (arith, by-jobs c.args.form.bytes.now c.args.h c.requires.0, c.blocks-levels.ensures.1, c.requires.1.blocks, c.requires.1.partitions))

pub waiters-requires : goal.waiters-requires
waiters-requires c =
    let a = c.args in
    let k = c.requires.0 in
    let p = out_of_blocks a.form.bytes.now in
    let f = c.requires.1 in
    let w = c.requires.3 in
    let e = records-as a.form.bytes.now a.h k c.blocks-levels.result c.partitions-at.result (levels-as a.form.bytes.now a.h k a.jobs c.blocks-levels.result c.requires.2 c.blocks-levels.ensures.0) c.partitions-at.ensures.0 in (
      omega arith,
      omega (arith, by-jobs c.args.form.bytes.now c.args.h c.requires.0, c.blocks-levels.ensures.1, c.partitions-at.ensures.1, f.blocks, f.partitions),
      omega (arith, w, by-waiting a.form.bytes.now a.h k, f.blocks),
      rw (w, e) (by_end a.form.bytes.now a.h k),
      rw (w, e) (by-records a.form.bytes.now a.h k),
    )

pub returns : goal.returns
unfolding put_form form_by levels_put
returns c =
    let a = c.args in
    let k = c.requires.0 in
    let h = shape_of a.h in
    let p = out_of_blocks a.form.bytes.now in
    let j = c.requires.2 in
    let w = c.requires.3 in
    let l = levels-as a.form.bytes.now a.h k a.jobs c.blocks-levels.result j c.blocks-levels.ensures.0 in
    let e = records-as a.form.bytes.now a.h k c.blocks-levels.result c.partitions-at.result l c.partitions-at.ensures.0 in
    c.waiters.ensures
    ∙ ap (put_records (records_at p a.h.b a.waiting c.partitions-at.result))
    (c.partitions-at.ensures.2 ∙ ap (levels_put h p (keys_by p h) c.blocks-levels.result) (c.blocks-levels.ensures.2 ∙ ap (put_blocks h 0 (blocks_at p a.h.n (13 + a.h.p * 2 + 2 + a.jobs * 2))) (c.numbers-2.ensures ∙ ap (laid Queue 0 (numbers_at p 2 a.jobs (13 + a.h.p * 2 + 2))) c.numbers.ensures)))
    ∙ (λ i. put_records (records_at p a.h.b (w i) (e i)) (levels_put h p (keys_by p h) (l i) (put_blocks h 0 (blocks_at p a.h.n (13 + a.h.p * 2 + 2 + j i * 2)) (laid Queue 0 (numbers_at p 2 (j i) (13 + a.h.p * 2 + 2)) (laid Counter 0 (numbers_at p 2 a.h.p 13) (tables_of h a.m.now))))))
