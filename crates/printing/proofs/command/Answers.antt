use borrow.Author.Rules.{rules}
use mathlib.Core.Path.{ap}
use mathlib.Core.List.{[], ◌∷◌}
use Prim.Native.Nat.{ℕ}
use native.Mathlib.Omega.{arith}
use Rattle.printing.specs.Text.{command_text, further}
use Rattle.printing.specs.Laws.{decimal-0, decimal-le}
use Rattle.lists.specs.Written.{followed, same_text}
use Rattle.printing.proofs.command.Goals as goal

pub field-third-requires : goal.field-third-requires
field-third-requires c = (
  search rules,
  omega (arith, decimal-le c.args.partition, c.field-second.ensures.place, c.field-second.ensures.size),
)

pub field-last-requires : goal.field-last-requires
field-last-requires c = (
  search rules,
  omega (
    arith,
    decimal-le c.args.partition,
    decimal-le c.args.level,
    c.field-second.ensures.place,
    c.field-third.ensures.place,
  ),
)

pub put-requires : goal.put-requires
put-requires c =
    omega (
      arith,
      decimal-le c.args.partition,
      decimal-le c.args.level,
      decimal-le c.args.slot,
      c.field-second.ensures.place,
      c.field-third.ensures.place,
      c.field-last.ensures.place,
    )

pub returns : goal.returns
unfolding command_text further
returns c =
    rw decimal-0
    (followed c.put-zero.ensures
    (followed c.put-gap.ensures
    (followed (same_text (ap (λ (d : ℕ). d ∷ []) c.letter.ensures) c.put-first.ensures)
    (followed c.field-second.ensures
    (followed c.field-third.ensures
    (followed c.field-last.ensures c.put.ensures))))))
