use mathlib.Core.Bool.{false}
use Prim.Native.Nat.{◌<◌, ◌-◌}
use Rattle.rules.specs.Form.Payload.{place_bytes}
use Rattle.client.specs.View.{place_of}
use mathlib.Core.Path.{◌≡◌, ap, sym, ◌∙◌}
use mathlib.Core.List.{◌++◌}
use native.Mathlib.Omega.{arith}
use lib.ListN.{length}
use Rattle.rules.specs.Shape.{slots}
use Rattle.rules.specs.Form.Numbers.{little}
use Rattle.lists.specs.Written.{followed, same_text}
use Rattle.saving.specs.Entries.{nowhere-bytes, level-lt, stored_bytes}
use Rattle.saving.proofs.payload.place.Goals as goal
use Rattle.saving.proofs.payload.place.Goals.{After-level_of-l}

-- the level of a slot's number, and what is written for it
low : (c : After-level_of-l) → c.level_of-l.result < c.args.levels
low c = level-lt c.args.levels c.args.x c.level_of-l.result (omega (arith, c.if-x-lt2.false)) c.requires.1 c.level_of-l.ensures.0 c.level_of-l.ensures.1

text : (c : After-level_of-l) → let a = c.args in place_bytes 1 false (place_of a.levels a.x) ≡ little 1 c.level_of-l.result ++ little 1 (a.x - slots c.level_of-l.result)
text c = stored_bytes c.args.levels c.args.x c.level_of-l.result (omega (arith, c.if-x-lt2.false)) c.requires.1 c.level_of-l.ensures.0 c.level_of-l.ensures.1 1 c.requires.0

pub byte-requires : goal.byte-requires
unfolding little
byte-requires c = omega (arith, ap length (nowhere-bytes 1 c.args.levels c.args.x c.if-x-lt2.true))

pub returns-then-x-lt2 : goal.returns-then-x-lt2
returns-then-x-lt2 c = same_text (sym (nowhere-bytes 1 c.args.levels c.args.x c.if-x-lt2.true)) c.byte.ensures

pub byte-k-requires : goal.byte-k-requires
unfolding little
byte-k-requires c = omega (arith, ap length (text (goal.at.byte-k-requires c).After-level_of-l))

pub overflow_add-l : goal.overflow_add-l
overflow_add-l c = omega (arith, low (goal.at.overflow_add-l c).After-level_of-l)

pub pow2-requires : goal.pow2-requires
pow2-requires c = omega (arith, low (goal.at.pow2-requires c).After-level_of-l)

pub byte-requires-2 : goal.byte-requires-2
unfolding little
byte-requires-2 c = omega (arith, ap length (text (goal.at.byte-requires-2 c).After-level_of-l))

pub returns : goal.returns
returns c =
    let x = c.args.x in
    let same : x - c.pow2.result ≡ x - slots c.level_of-l.result = omega arith in
    same_text (ap (λ y. little 1 c.level_of-l.result ++ little 1 y) same ∙ sym (text (goal.at.returns c).After-level_of-l)) (followed c.byte-k.ensures c.byte-2.ensures)
