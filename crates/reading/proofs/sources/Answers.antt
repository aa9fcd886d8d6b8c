use mathlib.Core.Path.{◌≡◌}
use native.Mathlib.Omega.{arith}
use Rattle.reading.specs.Sources.{no-job, other-job, own-job}
use Rattle.reading.proofs.sources.Goals as goal
use Rattle.reading.proofs.sources.Goals.{Else-front-q}

-- the front job is for q
own : (c : Else-front-q) → c.front.result ≡ c.args.q
own c = omega (arith, c.if-front-q.false)

pub returns-then-c-eq0 : goal.returns-then-c-eq0
returns-then-c-eq0 c = let a = c.args in no-job a.c a.m.now a.q c.if-c-eq0.true

pub returns-then-front-q : goal.returns-then-front-q
returns-then-front-q c = let a = c.args in other-job a.c a.m.now a.q c.front.result _ c.front.ensures.0 c.if-front-q.true

pub returns : goal.returns
returns c =
    let r = c.running-run in
    let a = c.args in
    own-job a.c a.m.now a.q c.front.result _ c.front.ensures.0 (own (goal.at.returns c).Else-front-q) r.result.top r.ensures.level r.ensures.top
