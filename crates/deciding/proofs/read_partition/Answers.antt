use mathlib.Core.Path.{ap, sym, ◌∙◌}
use mathlib.Core.Option.{Option, some}
use Prim.Native.Nat.{ℕ, ◌+◌}
use native.Mathlib.Omega.{arith}
use lib.Pow.{pow_mono}
use Rattle.rules.specs.Reader.{costs}
use Rattle.rules.specs.Turn.{read_step}
use Rattle.client.specs.View.{state_of, found_of}
use Rattle.levels.specs.Next.{NextAt, next-passes}
use Rattle.reading.specs.Slots.{reads-lt, placed-lt}
use Rattle.deciding.specs.Steps.{first-none, first-at}
use Rattle.deciding.proofs.read_partition.Goals as goal
use Rattle.deciding.proofs.read_partition.Goals.{In-Some}

-- the level that is left
next : (c : In-Some) → let a = c.args in NextAt (costs (state_of a.c a.m.now) a.q) a.c.shape.l a.c.request.level c.in-Some.l
next c = rw c.in-Some.is at c.next_level.ensures

pub level_of-found-requires : goal.level_of-found-requires
level_of-found-requires c =
    let h = c.args.c.shape in
    omega (arith, placed-lt c.args.c c.args.m.now c.get-x.result c.get-x.ensures, pow_mono {i = h.l + 1} {j = 9} (omega (arith, c.requires.0.room.levels)))

pub sources-sources-requires : goal.sources-sources-requires
sources-sources-requires c = let u = c.requires.0 in (u.room, u.jobs, reads-lt _ _ _ c.requires.1 u, u.counts.begun)

pub next_level-requires : goal.next_level-requires
next_level-requires c = let u = c.requires.0 in (u.room, reads-lt _ _ _ c.requires.1 u, (u.asked c.requires.1.some).0.level, c.sources-sources.ensures)

pub returns-in_default : goal.returns-in_default
returns-in_default c =
    let a = c.args in
    first-none a.c a.m.now a.q _ (rw c.in_default.is at c.next_level.ensures)

pub read_level-requires : goal.read_level-requires
read_level-requires c =
    let a = c.requires in
    (a.0, a.1, (next (goal.at.read_level-requires c).In-Some).end, next-passes (next (goal.at.read_level-requires c).In-Some), c.get-x.ensures, c.level_of-found.ensures, c.sources-sources.ensures)

pub returns-in-Some-read_level : goal.returns-in-Some-read_level
unfolding read_step
returns-in-Some-read_level c =
    let a = c.args in
    ap (λ (o : Option ℕ). some (read_step a.q c.in-Some.l o)) (sym (ap found_of c.in-Some-read_level.is))
    ∙ first-at a.c a.m.now a.q _ c.in-Some.l (next (goal.at.returns-in-Some-read_level c).In-Some) (found_of c.read_level.result) c.read_level.ensures

pub returns-in-None : goal.returns-in-None
unfolding read_step
returns-in-None c =
    let a = c.args in
    ap (λ (o : Option ℕ). some (read_step a.q c.in-Some.l o)) (sym (ap found_of c.in-None.is))
    ∙ first-at a.c a.m.now a.q _ c.in-Some.l (next (goal.at.returns-in-None c).In-Some) (found_of c.read_level.result) c.read_level.ensures
