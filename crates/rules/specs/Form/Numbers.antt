-- Document 02, P5: "Numbers are little-endian, two bytes each, but form, level and slot one byte."
use Rattle.std.specs.Prelude.{List, [], ◌∷◌, ◌++◌, ℕ, zero, suc, ◌+◌, ◌*◌, ◌/◌, ◌%◌}
use Rattle.rules.specs.Shape.{Shape}

-- a number in n bytes, the lowest first
unfoldable pub little : ℕ → ℕ → List ℕ
little zero x = []
little (suc n) x = x % 256 ∷ little n (x / 256)

-- the number that bytes stand for
unfoldable pub value : List ℕ → ℕ
value [] = 0
value (x ∷ xs) = x + 256 * value xs

-- what is written for each of a list's elements, in turn
module _ {A B : Type 0} where
  unfoldable pub each : (A → List B) → List A → List B
  each f [] = []
  each f (x ∷ xs) = f x ++ each f xs

-- "Form number 1": the number of the form in which a shape is saved
unfoldable pub form_of : Shape → ℕ
form_of h = 1

-- the bytes of a slot in a form: form 1 has one
unfoldable pub slot_width : ℕ → ℕ
slot_width form = form
