use mathlib.Core.Path.{◌≡◌, refl, sym}
use Rattle.rules.specs.Jobs.{joined}
use Rattle.rules.specs.Laws.Levels.{Joins}
use Rattle.bits.specs.Runs.{together}
use Rattle.memory.specs.Fits.{shape_of}
use Rattle.client.specs.Readings.{counter-is}
use Rattle.client.specs.View.{state_of}
use Rattle.jobs.specs.Runs.{counter-lt, joined_is, run-joins, run-top}
use Rattle.jobs.proofs.running.Goals as goal
use Rattle.jobs.proofs.running.Goals.{After-joins-j}

-- how many they are
number : (c : After-joins-j) → let s = c.before.before.before.before in c.joins-j.result ≡ joined (state_of s.args.c s.args.m.now) s.args.q
number c =
    let s = c in
    joined_is s.args.c s.args.m.now s.args.q _ _ _ c.get-counter.ensures c.begun_with-n.ensures (c.joins-j.ensures (shape_of s.args.c.shape) refl)

-- they are as many as may join
may : (c : After-joins-j) → Joins (shape_of c.args.c.shape) c.get-counter.result c.joins-j.result
may c = run-joins c.args.c c.args.m.now c.args.q c.requires _ _ c.get-counter.ensures (number c)

pub joins-j-requires : goal.joins-j-requires
joins-j-requires c =
    (c.requires.room.levels, counter-lt c.args.c c.args.m.now c.args.q _ c.get-counter.ensures)

pub top_level-top-requires : goal.top_level-top-requires
top_level-top-requires c =
    let a = c.args in
    (c.requires.room.some_levels, c.requires.room.levels, together (shape_of a.c.shape) _ _ (counter-lt a.c a.m.now a.q _ c.get-counter.ensures) (may c))

pub returns : goal.returns
returns c =
    let k = c.get-counter in
    let a = c.args in
    record {
      counter = sym (counter-is a.c a.m.now a.q k.result k.ensures);
      joined = number (goal.at.returns c).After-joins-j;
      top = run-top a.c a.m.now a.q c.requires _ _ k.ensures (number (goal.at.returns c).After-joins-j) _ (c.top_level-top.ensures.0 (shape_of a.c.shape) refl);
      low = counter-lt a.c a.m.now a.q _ k.ensures;
      joins = may (goal.at.returns c).After-joins-j;
      level = c.top_level-top.ensures.1;
    }
