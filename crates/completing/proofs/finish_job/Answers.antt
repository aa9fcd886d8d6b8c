use mathlib.Core.Path.{refl, sym, ◌∙◌}
use Rattle.completing.specs.Completing.{finish-none, finish-later, finish-now}
use Rattle.completing.proofs.finish_job.Goals as goal

pub returns-then-c-eq0 : goal.returns-then-c-eq0
returns-then-c-eq0 c =
    let a = c.args in
    (refl, finish-none a.c a.m.now c.if-c-eq0.true, refl)

pub returns-then-not-is_done : goal.returns-then-not-is_done
returns-then-not-is_done c =
    let q = c.front-q in
    let a = c.args in
    (refl, finish-later a.c a.m.now q.result q.ensures.0 (sym c.is_done.ensures ∙ c.if-not-is_done.true), refl)

pub returns : goal.returns
returns c =
    let e = c.end_job in
    let q = c.front-q in
    let a = c.args in
    (e.ensures.0, finish-now a.c a.m.now q.result q.ensures.0 _ _ (sym c.is_done.ensures ∙ c.if-not-is_done.false) e.ensures.1, e.ensures.2)
