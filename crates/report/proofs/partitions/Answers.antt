use borrow.Author.Rules.{rules}
use Prim.Native.Nat.{◌<◌}
use mathlib.Core.Path.{◌≡◌, sym, ap, ◌∙◌}
use mathlib.Core.List.{[], ◌∷◌}
use native.Mathlib.Numerals.{add-one}
use native.Mathlib.Omega.{arith}
use Rattle.rules.specs.Figures.{figures}
use Rattle.client.specs.View.{state_of, view}
use Rattle.client.specs.Readings.{counter-is}
use Rattle.printing.specs.Columns.{partition_line}
use Rattle.printing.specs.Widths.{line-length}
use Rattle.lists.specs.Written.{nothing, followed, same_text}
use Rattle.report.specs.Page.{partition_lines}
use Rattle.report.specs.Laws.{each_line, line-figures, line_small}
use Rattle.report.proofs.partitions.Goals as goal

pub loop-q-init : goal.loop-q-init
unfolding partition_lines
loop-q-init c = (search rules, omega arith, nothing _ _)

pub partition_line-at-requires : goal.partition_line-at-requires
partition_line-at-requires c =
    let l = c.loop-q in
    let s = state_of c.args.c c.args.m.now in
    let k = line_small s c.args.table.now c.requires.1 c.requires.0.range l.q (unfold state_of view in omega arith) in
    let n = counter-is c.args.c c.args.m.now l.q c.get-counter.result c.get-counter.ensures in
    (omega (arith, c.requires.0.room.partitions), omega arith, omega (arith, c.figure-stored.ensures), omega (arith, c.figure-waiting.ensures), omega (arith, c.figure-queued.ensures), omega arith)

pub loop-q-preserved : goal.loop-q-preserved
unfolding partition_lines
loop-q-preserved c =
    let l = c.loop-q in
    let s = state_of c.args.c c.args.m.now in
    let short : l.q < 64 = omega (arith, c.requires.0.room.partitions) in
    let n = counter-is c.args.c c.args.m.now l.q c.get-counter.result c.get-counter.ensures in
    let same : c.get-counter.result ∷ c.figure-stored.result ∷ c.figure-waiting.result ∷ c.figure-queued.result ∷ [] ≡ figures s l.q
    = (λ i. sym n i ∷ c.figure-stored.ensures i ∷ c.figure-waiting.ensures i ∷ c.figure-queued.ensures i ∷ []) ∙ sym (line-figures s c.args.table.now c.requires.1 l.q short) in
    let w = same_text (ap (partition_line l.q) same) c.partition_line-at.ensures in (
      omega (arith, w.size),
      omega (arith, w.place, line-length _ (each_line s c.requires.0.range l.q (unfold state_of view in omega arith))),
      rw add-one (followed l.invariant.2 w),
    )
