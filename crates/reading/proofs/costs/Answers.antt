use mathlib.Core.Path.{◌≡◌, refl}
use mathlib.Core.Bool.{false}
use Rattle.std.proofs.lemmas.Grind.{common_steps}
use native.Mathlib.Omega.{arith}
use Rattle.rules.specs.Reader.{costing}
use Rattle.reading.specs.declared.Condition.{Condition}
use Rattle.reading.specs.declared.Condition.TheVariants.{Empty, Unmarked, AllRead, SomeUnread}
use Rattle.reading.specs.Conditions.{condition_of}
use Rattle.reading.proofs.costs.Goals as goal

else-none : (x : Condition) → (x ≡ Unmarked → ⊥) → (x ≡ SomeUnread → ⊥) → false ≡ costing (condition_of x)
unfolding costing
else-none Empty n k = refl
else-none Unmarked n k = absurd (n refl)
else-none AllRead n k = refl
else-none SomeUnread n k = absurd (k refl)

pub returns-in-Unmarked : goal.returns-in-Unmarked
unfolding costing
returns-in-Unmarked c = grind (arith, common_steps)

pub returns-in_default : goal.returns-in_default
returns-in_default c = else-none _ c.in_default.not-Unmarked c.in_default.not-SomeUnread
