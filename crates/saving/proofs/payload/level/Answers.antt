use mathlib.Core.Path.{◌≡◌, ap, sym, ◌∙◌}
use mathlib.Core.Bool.{false}
use mathlib.Core.List.{List, ◌++◌}
use Prim.Native.Nat.{ℕ, ◌+◌}
use Rattle.rules.specs.State.{State}
use Rattle.saving.specs.Parts.{level_in, width_of, order_in, mark_in, level-filled, level-empty}
use native.Mathlib.Omega.{arith}
use lib.ListN.{length, length-append}
use Rattle.lists.specs.Search.{below}
use Rattle.rules.specs.Shape.{slots}
use Rattle.rules.specs.Levels.{filled}
use Rattle.rules.specs.Form.Numbers.{each}
use Rattle.client.specs.View.{state_of}
use Rattle.lists.specs.Written.{nothing, followed, same_text}
use Rattle.saving.proofs.payload.level.Goals as goal
use Rattle.saving.proofs.payload.level.Goals.{Else-not-filled}

pub returns-then-not-filled : goal.returns-then-not-filled
returns-then-not-filled c =
    let none : filled ((state_of c.args.c c.args.m.now).counter c.args.q) c.args.l ≡ false = ap (λ x. filled x c.args.l) (sym c.requires.3) ∙ sym c.filled.ensures ∙ c.if-not-filled.true in
    same_text (sym (level-empty (width_of c.args.c.shape) (state_of c.args.c c.args.m.now) c.args.q c.args.l none)) (nothing _ _)

-- what is written for a filled level
module _ (c : Else-not-filled) where
  abbrev s : State
  s = state_of c.args.c c.args.m.now

  abbrev orders : List ℕ
  orders = each (order_in (width_of c.args.c.shape) s c.args.q c.args.l) (below (slots c.args.l))

  abbrev marks : List ℕ
  marks = each (mark_in s c.args.q c.args.l) (below (slots c.args.l))

  text : level_in (width_of c.args.c.shape) s c.args.q c.args.l ≡ orders ++ marks
  text =
      level-filled (width_of c.args.c.shape) s c.args.q c.args.l
      (ap (λ x. filled x c.args.l) (sym c.requires.3) ∙ sym c.filled.ensures ∙ c.if-not-filled.false)

  size : length (level_in (width_of c.args.c.shape) s c.args.q c.args.l) ≡ length orders + length marks
  size = ap length text ∙ length-append orders marks

pub order-k-requires : goal.order-k-requires
order-k-requires c = (c.requires.0, c.requires.1, c.requires.2, omega (arith, size (goal.at.order-k-requires c).Else-not-filled))

pub read_marks-requires : goal.read_marks-requires
read_marks-requires c = (c.requires.0, c.requires.1, c.requires.2, omega (arith, size (goal.at.read_marks-requires c).Else-not-filled, c.order-k.ensures.place, c.order-k.ensures.size))

pub returns : goal.returns
returns c = same_text (sym (text (goal.at.returns c).Else-not-filled)) (followed c.order-k.ensures c.read_marks.ensures)
