use mathlib.Core.Path.{sym, ◌∙◌}
use Prim.Native.Nat.{suc, ◌+◌, ◌<◌}
use native.Mathlib.Omega.{arith}
use native.Mathlib.Decide.{dec_lt}
use lib.Pow.{pow_pos, pow_mono}
use Rattle.rules.specs.Shape.{slots}
use Rattle.memory.specs.Fits.{shape_of, fit-lt}
use Rattle.memory.specs.Tables.{tables_of}
use Rattle.releasing.specs.Released.{found-level, found-cache, found_nowhere_lem}
use Rattle.releasing.proofs.look_up.Goals as goal
use Rattle.releasing.proofs.look_up.Goals.{After-level_of, After-get-x}

-- a slot's number is small
small : (c : After-get-x) → c.get-x.result < 512
small c =
    let h = c.args.c.shape in
    omega (arith, c.get-x.ensures, fit-lt (slots h.l) ((tables_of (shape_of h) c.args.m.now).place c.args.c.request.block) (pow_pos (h.l + 1)), pow_mono {i = h.l + 1} {j = 9} (omega (arith, c.requires.0.levels)))

-- ..and so is its level
shallow : (c : After-level_of) → c.level_of.result < 16
shallow c = go (dec_lt c.level_of.result 16)
  where
    small' : c.get-x.result < 512
    small' = let h = c.args.c.shape in omega (arith, c.get-x.ensures, fit-lt (slots h.l) ((tables_of (shape_of h) c.args.m.now).place c.args.c.request.block) (pow_pos (h.l + 1)), pow_mono {i = h.l + 1} {j = 9} (omega (arith, c.requires.0.levels)))

    go : Dec (c.level_of.result < 16) → c.level_of.result < 16
    go (yes l) = l
    go (no l) = absurd (omega (arith, small', c.level_of.ensures.0, pow_mono {i = 17} {j = c.level_of.result + 1} (omega arith)))

pub level_of-requires : goal.level_of-requires
level_of-requires c = omega (arith, small (goal.at.level_of-requires c).After-get-x)

pub overflow_add-result : goal.overflow_add-result
overflow_add-result c = omega (arith, shallow c)

pub returns-then-x-ge2 : goal.returns-then-x-ge2
returns-then-x-ge2 c =
    let p = c.get-x in
    let a = c.args in
    let ℓ = c.level_of.result in
    (found-level a.c a.m.now a.c.request.block p.result p.ensures ℓ c.if-x-ge2.true (omega (arith, c.level_of.ensures.0, c.if-x-ge2.true)) (omega (arith, c.level_of.ensures.1, c.if-x-ge2.true, pow_mono {i = ℓ + 2} {j = suc ℓ + 1} (omega arith))), omega (arith, shallow c))

pub returns-then-is_waiting : goal.returns-then-is_waiting
returns-then-is_waiting c =
    let p = c.get-x in
    let a = c.args in
    (found-cache a.c a.m.now a.c.request.block p.result p.ensures (omega (arith, c.if-x-ge2.false)) (sym c.is_waiting.ensures ∙ c.if-is_waiting.true), omega arith)

pub returns-else-is_waiting : goal.returns-else-is_waiting
returns-else-is_waiting c =
    let p = c.get-x in
    let a = c.args in
    (found_nowhere_lem a.c a.m.now a.c.request.block p.result p.ensures (omega (arith, c.if-x-ge2.false)) (sym c.is_waiting.ensures ∙ c.if-is_waiting.false), omega arith)
