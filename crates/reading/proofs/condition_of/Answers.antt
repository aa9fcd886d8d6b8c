use mathlib.Core.Path.{◌≡◌, ap, sym, ◌∙◌}
use mathlib.Core.Bool.{true}
use native.Mathlib.Omega.{arith}
use Rattle.rules.specs.Levels.{filled}
use Rattle.client.specs.Readings.{counter-is}
use Rattle.client.specs.View.{state_of, view}
use Rattle.memory.specs.Fits.{shape_of, fit-lt}
use Rattle.memory.specs.Tables.{tables_of}
use Rattle.rules.specs.Shape.{slots, cell}
use Prim.Native.Nat.{ℕ, ◌≤◌, ◌<◌}
use Rattle.reading.specs.Sources.{above, beneath}
use Rattle.reading.specs.Conditions.{is-empty, is-unmarked, has-unread, all_read_lem}
use Rattle.reading.proofs.condition_of.Goals as goal
use Rattle.reading.proofs.condition_of.Goals.{Else-not-filled, Start}

-- the level is filled, by the counter
full : (c : Else-not-filled) → let a = c.args in filled ((state_of a.c a.m.now).counter a.q) a.l ≡ true
full c =
    let a = c in
    ap (λ k. filled k a.args.l) (counter-is a.args.c a.args.m.now a.args.q a.args.counter a.requires.1) ∙ sym c.filled.ensures ∙ c.if-not-filled.false

-- a mark is 0 or 1
marked : (a : Start) (i : ℕ) → i < slots a.args.l → let s = state_of a.args.c a.args.m.now in s.mark (cell s.shape a.args.q a.args.l i) ≤ 1
unfolding state_of view
marked a i l =
    let h = shape_of a.args.c.shape in
    omega (arith, fit-lt 2 ((tables_of h a.args.m.now).mark (cell h a.args.q a.args.l i)) (omega arith))

pub returns-then-not-filled : goal.returns-then-not-filled
returns-then-not-filled c =
    let empty = ap (λ k. filled k c.args.l) (counter-is c.args.c c.args.m.now c.args.q c.args.counter c.requires.1) ∙ sym c.filled.ensures ∙ c.if-not-filled.true in
    is-empty (state_of c.args.c c.args.m.now) c.args.q c.args.l empty

pub returns-then-sources-l : goal.returns-then-sources-l
returns-then-sources-l c =
    is-unmarked (state_of c.args.c c.args.m.now) c.args.q c.args.l (full (goal.at.returns-then-sources-l c).Else-not-filled) (above _ _ _ _ c.args.l c.requires.2 c.if-sources-l.true)

pub returns-then-reads-pow2 : goal.returns-then-reads-pow2
unfolding state_of view
returns-then-reads-pow2 c =
    has-unread (state_of c.args.c c.args.m.now) c.args.q c.args.l (marked (goal.at.returns-then-reads-pow2 c).Start) (full (goal.at.returns-then-reads-pow2 c).Else-not-filled) (beneath _ _ _ _ c.args.l c.requires.2 (full (goal.at.returns-then-reads-pow2 c).Else-not-filled) c.if-sources-l.false) (omega (arith, c.reads.ensures.0, c.pow2.ensures.0, c.if-reads-pow2.true))

pub returns : goal.returns
unfolding state_of view
returns c =
    all_read_lem (state_of c.args.c c.args.m.now) c.args.q c.args.l (marked (goal.at.returns c).Start) (full (goal.at.returns c).Else-not-filled) (beneath _ _ _ _ c.args.l c.requires.2 (full (goal.at.returns c).Else-not-filled) c.if-sources-l.false) (omega (arith, c.reads.ensures.0, c.pow2.ensures.0, c.if-reads-pow2.false))
