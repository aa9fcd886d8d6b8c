use mathlib.Core.Path.{◌≡◌, sym, ◌∙◌}
use mathlib.Core.Bool.{true}
use Prim.Native.Nat.{◌+◌, ◌≤◌}
use native.Mathlib.Omega.{arith}
use lib.ListN.{length-drop}
use lib.Pow.{pow_mono}
use Rattle.lists.specs.All.{all_take, all_drop}
use Rattle.lists.specs.Parts.{nodup-take, nodup-drop}
use Rattle.rules.specs.Shape.{slots}
use Rattle.rules.specs.Levels.{filled}
use Rattle.tape.specs.Tape.{words_of}
use Rattle.rebuild.specs.Laying.{level-passed, level-enough, level-empty, level-laid, part-is}
use Rattle.rebuild.proofs.write_filled.Goals as goal
use Rattle.rebuild.proofs.write_filled.Goals.{Else-not-filled}

filled_is : (c : Else-not-filled) → filled c.args.next c.args.t ≡ true
filled_is c = sym c.filled.ensures ∙ c.if-not-filled.false

pub returns-then-not-filled : goal.returns-then-not-filled
returns-then-not-filled c =
    let x = c.args in
    level-passed x.c x.q x.next x.list.now (words_of x.tape.now) x.t x.m.now x.p c.requires.5 (sym c.filled.ensures ∙ c.if-not-filled.true)

pub write_level-w-requires : goal.write_level-w-requires
write_level-w-requires c =
    let x = c.args in
    let s = c.share-n in
    let e = filled_is (goal.at.write_level-w-requires c).Else-not-filled in
    let u = c.requires.5 in
    let n : s.result ≤ slots x.t = omega (arith, s.ensures, pow_mono {i = x.t} {j = x.t + 1} (omega arith)) in (
      omega arith,
      c.requires.1,
      c.requires.2,
      n,
      rw (part-is x.p.blocks x.list.now) (omega (arith, s.ensures, length-drop x.p.blocks x.list.now)),
      rw (part-is x.p.blocks x.list.now) (nodup-take s.result _ (nodup-drop x.p.blocks x.list.now c.requires.3)),
      rw (part-is x.p.blocks x.list.now) (all_take s.result (all_drop x.p.blocks c.requires.4)),
      level-enough x.c x.q x.next x.list.now (words_of x.tape.now) x.t x.m.now x.p u e,
      level-empty x.c x.q x.next x.list.now (words_of x.tape.now) x.t x.m.now x.p u e,
    )

pub returns : goal.returns
returns c =
    let x = c.args in
    let w = c.write_level-w in
    let s = c.share-n in
    let e = filled_is (goal.at.returns c).Else-not-filled in
    level-laid x.c x.q x.next x.list.now (words_of x.tape.now) x.t x.m.now x.p c.requires.5 e w.new.m s.result w.result s.ensures w.ensures.1
    (rw (part-is x.p.blocks x.list.now) at w.ensures.0)
