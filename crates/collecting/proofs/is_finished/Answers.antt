use mathlib.Core.Path.{◌≡◌, ap, sym, ◌∙◌}
use mathlib.Core.Bool.{false, not}
use Prim.Native.Nat.{◌<◌}
use native.Mathlib.Omega.{arith}
use Rattle.lists.specs.Search.{any}
use Rattle.rules.specs.Request.{held}
use Rattle.memory.specs.Tables.{tables_of}
use Rattle.memory.specs.Fits.{shape_of, fit-lt}
use Rattle.client.specs.View.{state_of, view}
use Rattle.client.specs.Readings.{hand_of, hand-held, hand-released, partition-is, out-count}
use Rattle.commands.specs.Outstanding.{of_partition}
use Rattle.levels.specs.Next.{next-some, next-none}
use Rattle.collecting.specs.Collecting.{unfinished-held, unfinished-reads, finished-sent}
use Rattle.collecting.proofs.is_finished.Goals as goal
use Rattle.collecting.proofs.is_finished.Goals.{After-get-p}

-- the block's partition
of : (c : After-get-p) → let a = c.args in (state_of a.c a.m.now).partition a.c.request.block ≡ c.get-p.result
of c = let a = c.args in partition-is a.c a.m.now a.c.request.block c.get-p.result c.get-p.ensures

inside : (c : After-get-p) → c.get-p.result < c.args.c.shape.p
inside c =
    let h = c.args.c.shape in
    omega (arith, c.get-p.ensures, fit-lt h.p ((tables_of (shape_of h) c.args.m.now).partition c.args.c.request.block) c.requires.0.room.some_partitions)

-- it is not held
unheld : (c : After-get-p) → let a = c.args in held (hand_of a.c a.m.now) ≡ false
unheld c = let a = c.args in hand-released a.c a.m.now c.if-c-eq0.false

pub returns-then-c-eq0 : goal.returns-then-c-eq0
returns-then-c-eq0 c =
    let a = c.args in
    sym (unfinished-held (state_of a.c a.m.now) (hand_of a.c a.m.now) (hand-held a.c a.m.now c.if-c-eq0.true))

pub sources-sources-requires : goal.sources-sources-requires
sources-sources-requires c = let p = c.requires in (p.0.room, omega (arith, p.0.jobs), inside c, p.1)

pub next_level-requires : goal.next_level-requires
next_level-requires c = let p = c.requires in (p.0.room, inside (goal.at.next_level-requires c).After-get-p, p.0.asked.level, c.sources-sources.ensures)

pub returns-then-is_some : goal.returns-then-is_some
unfolding state_of view
returns-then-is_some c =
    let n = c.next_level in
    let a = c.args in
    let x = next-some _ _ _ n.result n.ensures (sym c.is_some.ensures ∙ c.if-is_some.true) in
    sym (unfinished-reads (state_of a.c a.m.now) (hand_of a.c a.m.now) c.get-p.result (of (goal.at.returns-then-is_some c).After-get-p) (unheld (goal.at.returns-then-is_some c).After-get-p) _ _ x.1.passes)

pub returns : goal.returns
unfolding state_of view
returns c =
    let n = c.next_level in
    let a = c.args in
    let s = state_of a.c a.m.now in
    ap not (c.is_busy.ensures ∙ ap (any (of_partition c.get-p.result)) (c.awaited.ensures.1 s.outstanding (out-count a.c a.m.now)))
    ∙ sym (finished-sent s (hand_of a.c a.m.now) c.get-p.result (of (goal.at.returns c).After-get-p) (unheld (goal.at.returns c).After-get-p) (next-none _ _ _ n.result n.ensures (sym c.is_some.ensures ∙ c.if-is_some.false)))
