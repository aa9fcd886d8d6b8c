use mathlib.Core.Path.{◌≡◌, ap, sym, ◌∙◌}
use mathlib.Core.Bool.{true}
use Prim.Native.Nat.{◌-◌}
use native.Mathlib.Omega.{arith}
use lib.Dec.{ltb}
use Rattle.rules.specs.Reader.{level_of, slot_of, is_level}
use Rattle.client.specs.Readings.{place-as}
use Rattle.client.specs.View.{state_of, view, found_of, place_of}
use Rattle.reading.specs.Conditions.{ReadAs, costs-filled, read_as}
use Rattle.reading.specs.Sources.{marked}
use Rattle.reading.specs.Slots.{found-is, reads-lt, placed-lt, SlotIn, slot-in, level-real, level-fake}
use Rattle.reading.proofs.read_level.Goals as goal
use Rattle.reading.proofs.read_level.Goals.{Start, After-eq}

-- the block's place, by its number
at : (a : Start) → (state_of a.args.c a.args.m.now).place a.args.c.request.block ≡ place_of a.args.c.shape.l a.args.x
at a = place-as a.args.c a.args.m.now a.args.c.request.block a.args.x a.requires.4

-- whether the level that was found is this one
found : (a : Start) → is_level (level_of ((state_of a.args.c a.args.m.now).place a.args.c.request.block)) a.args.l ≡ is_level (found_of a.args.found) a.args.l
found a =
    let b = a.args in
    ap (λ o. is_level o b.l) (ap level_of (at a) ∙ sym (a.requires.5 b.c.shape.l (placed-lt b.c b.m.now b.x a.requires.4)))

-- the level is read by its mark
by-mark : (a : Start) → ReadAs (state_of a.args.c a.args.m.now) a.args.q a.args.l (ltb a.args.l a.args.sources)
by-mark a = read_as (state_of a.args.c a.args.m.now) a.args.q a.args.l (ltb a.args.l a.args.sources) (marked _ _ _ _ a.args.l a.requires.6 (costs-filled (state_of a.args.c a.args.m.now) a.args.q a.args.l a.requires.3)) a.requires.3

-- ..as the code asks it
asked : (c : After-eq) → let a = c.args in is_level (found_of a.found) a.l ≡ c.eq.result
asked c = sym (c.eq.ensures ∙ found-is c.args.found c.args.l)

-- the block's slot, where it is this one
own : (a : Start) → is_level (found_of a.args.found) a.args.l ≡ true → SlotIn a.args.c.shape.l a.args.l a.args.x
unfolding state_of view
own a e =
    let u = a.requires.0 in
    slot-in a.args.c.shape.l a.args.l a.args.x (rw (at a) at (u.range.places a.args.c.request.block (u.asked a.requires.1.some).0.block)) (rw (at a) at (found a ∙ e))

pub overflow_sub-x : goal.overflow_sub-x
overflow_sub-x c =
    let s = own (goal.at.overflow_sub-x c).Start (asked (goal.at.overflow_sub-x c).After-eq ∙ c.if-eq.true) in
    omega (arith, c.pow2-n.ensures.0, s.begins)

pub read_real-requires : goal.read_real-requires
read_real-requires c =
    let s = own (goal.at.read_real-requires c).Start (asked (goal.at.read_real-requires c).After-eq ∙ c.if-eq.true) in
    ((c.requires.0.room, reads-lt _ _ _ c.requires.1 c.requires.0, c.requires.2, omega (arith, c.pow2-n.ensures.0, s.begins, s.ends)), by-mark (goal.at.read_real-requires c).Start)

pub returns-then-eq : goal.returns-then-eq
returns-then-eq c =
    let s = state_of c.args.c c.args.m.now in
    let e = asked (goal.at.returns-then-eq c).After-eq ∙ c.if-eq.true in
    c.read_real.ensures
    ∙ level-real s c.args.q c.args.l (s.place c.args.c.request.block) (ltb c.args.l c.args.sources) (by-mark (goal.at.returns-then-eq c).Start) (c.args.x - c.pow2-n.result)
    (ap slot_of (at (goal.at.returns-then-eq c).Start) ∙ (own (goal.at.returns-then-eq c).Start e).slot ∙ ap (λ n. c.args.x - n) (sym c.pow2-n.ensures.0))
    (found (goal.at.returns-then-eq c).Start ∙ e)

pub read_fake-requires : goal.read_fake-requires
read_fake-requires c = ((c.requires.0.room, reads-lt _ _ _ c.requires.1 c.requires.0, c.requires.2), by-mark (goal.at.read_fake-requires c).Start)

pub returns : goal.returns
returns c =
    let s = state_of c.args.c c.args.m.now in
    c.read_fake.ensures
    ∙ level-fake s c.args.q c.args.l (s.place c.args.c.request.block) (ltb c.args.l c.args.sources) (by-mark (goal.at.returns c).Start)
    (found (goal.at.returns c).Start ∙ asked (goal.at.returns c).After-eq ∙ c.if-eq.false)
