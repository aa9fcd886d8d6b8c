use mathlib.Core.Path.{◌≡◌, refl, ap, sym, ◌∙◌}
use native.Mathlib.Omega.{arith}
use Rattle.memory.specs.Fits.{shape_of, fit-lt}
use Rattle.memory.specs.Tables.{tables_of}
use Rattle.rules.specs.Request.{held_for}
use Rattle.client.specs.View.{state_of}
use Rattle.client.specs.Readings.{partition-is}
use Rattle.releasing.specs.Released.{unasked, found_before, still-held, released}
use Rattle.releasing.proofs.release.Goals as goal
use Rattle.releasing.proofs.release.Goals.{After-is_held_for}

-- whether jobs hold it
queued : (c : After-is_held_for) → let a = c.args in let s = state_of a.c a.m.now in
    held_for s (s.partition a.c.request.block) ≡ c.is_held_for.result
queued c =
    let a = c.args in
    let s = state_of a.c a.m.now in
    ap (held_for s) (partition-is a.c a.m.now a.c.request.block c.get-q.result c.get-q.ensures) ∙ sym c.is_held_for.ensures

pub returns-then-r-eq0 : goal.returns-then-r-eq0
returns-then-r-eq0 c =
    let a = c.args in
    record { state = sym (unasked a.c a.m.now c.if-r-eq0.true); found = refl; idle = λ z. refl; low = λ l. l; few = λ l. l }

pub returns-then-r-ne0 : goal.returns-then-r-ne0
returns-then-r-ne0 c =
    let a = c.args in
    record { state = sym (found_before a.c a.m.now c.if-r-eq0.false c.if-r-ne0.true); found = refl; idle = λ z. refl; low = λ l. l; few = λ l. l }

pub is_held_for-requires : goal.is_held_for-requires
is_held_for-requires c =
    let h = c.args.c.shape in
    (c.requires.room, c.requires.jobs, omega (arith, c.get-q.ensures, fit-lt h.p ((tables_of (shape_of h) c.args.m.now).partition c.args.c.request.block) c.requires.room.some_partitions), c.requires.begun)

pub returns-then-is_held_for : goal.returns-then-is_held_for
returns-then-is_held_for c =
    let a = c.args in
    record { state = sym (still-held a.c a.m.now c.if-r-eq0.false (queued (goal.at.returns-then-is_held_for c).After-is_held_for ∙ c.if-is_held_for.true)); found = refl; idle = λ z. refl; low = λ l. l; few = λ l. l }

pub returns : goal.returns
returns c =
    let a = c.args in
    let n = c.if-r-eq0.false in
    rw (c.with_request.ensures, c.at_found.ensures) (record {
      state = released a.c a.m.now n c.look_up-found.result (omega (arith, c.if-r-ne0.false)) (queued (goal.at.returns c).After-is_held_for ∙ c.if-is_held_for.false) c.look_up-found.ensures.0;
      found = refl;
      idle = λ z. absurd (n z);
      low = λ l. omega (arith, c.look_up-found.ensures.1);
      few = λ l. omega (arith, c.requires.out);
    })
