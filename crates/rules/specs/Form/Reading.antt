-- Document 02, P5: a payload, read in the order in which it is written.
use Rattle.std.specs.Prelude.{List, [], ◌∷◌, ℕ, zero, suc, length, get_or, eqb, Bool, true, false, if◌then◌else◌}
use Rattle.std.proofs.Math.Option.{Option, none, some}
use Rattle.lists.specs.Search.{keep, below}
use Rattle.rules.specs.Shape.{Shape, slots}
use Rattle.rules.specs.Form.Numbers.{value, slot_width}
use Rattle.rules.specs.Form.Payload.{filled_levels, Waiter}

-- What is read, and the bytes after it; none where the bytes end before
module _ {A B : Type 0} where
  unfoldable pub and_then : Option (A × List ℕ) → (A → List ℕ → Option (B × List ℕ)) → Option (B × List ℕ)
  and_then none f = none
  and_then (some x) f = f x.0 x.1

unfoldable pub get_bytes : ℕ → List ℕ → Option (List ℕ × List ℕ)
get_bytes zero bs = some ([], bs)
get_bytes (suc n) [] = none
get_bytes (suc n) (x ∷ bs) = and_then (get_bytes n bs) (λ xs r. some (x ∷ xs, r))

-- a number of w bytes
unfoldable pub get_number : ℕ → List ℕ → Option (ℕ × List ℕ)
get_number w bs = and_then (get_bytes w bs) (λ x r. some (value x, r))

-- one thing for each of a list
module _ {K A : Type 0} where
  unfoldable pub get_each : (K → List ℕ → Option (A × List ℕ)) → List K → List ℕ → Option (List A × List ℕ)
  get_each g [] bs = some ([], bs)
  get_each g (k ∷ ks) bs = and_then (g k bs) (λ x r. and_then (get_each g ks r) (λ xs r'. some (x ∷ xs, r')))

unfoldable pub get_numbers : ℕ → ℕ → List ℕ → Option (List ℕ × List ℕ)
get_numbers w n bs = get_each (λ k. get_number w) (below n) bs

unfoldable pub shape_of : List ℕ → Shape
shape_of xs = record { N = get_or xs 0 0; P = get_or xs 1 0; L = get_or xs 2 0; B = get_or xs 3 0; E = get_or xs 4 0; W = get_or xs 5 0 }

-- "A byte 255 for nowhere, 254 for waiting, or the level and then the slot"
pub data Spot : Type 0 where
  absent : Spot
  waits : Spot
  at : ℕ → ℕ → Spot

unfoldable pub get_spot : ℕ → List ℕ → Option (Spot × List ℕ)
get_spot w [] = none
get_spot w (x ∷ bs) = if eqb x 255 then some (absent, bs) else (if eqb x 254 then some (waits, bs) else and_then (get_number w bs) (λ i r. some (at x i, r)))

unfoldable pub get_block : ℕ → List ℕ → Option ((ℕ × Spot) × List ℕ)
get_block w bs = and_then (get_number 2 bs) (λ p r. and_then (get_spot w r) (λ y r'. some ((p, y), r')))

-- a level: its partition and number, its order and its read marks
pub record Level : Type 0 where
  pub partition : ℕ
  pub level : ℕ
  pub order : List ℕ
  pub marks : List ℕ

unfoldable pub get_level : ℕ → ℕ × ℕ → List ℕ → Option (Level × List ℕ)
get_level w k bs = and_then (get_numbers w (slots k.1) bs) (λ o r. and_then (get_bytes (slots k.1) r) (λ m r'.
    some (record { partition = k.0; level = k.1; order = o; marks = m }, r')))

unfoldable pub get_waiter : ℕ → List ℕ → Option (Waiter × List ℕ)
get_waiter n bs = and_then (get_number 2 bs) (λ b r. and_then (get_number 2 r) (λ a r'. and_then (get_bytes n r') (λ x r''.
    some (record { block = b; age = a; bytes = x }, r''))))

unfoldable pub is_waiting : ℕ × Spot → Bool
is_waiting x = elim x.1 [ absent ↦ false | waits ↦ true | at ℓ i ↦ false ]

pub record Form : Type 0 where
  pub number : ℕ
  pub shape : Shape
  pub counters : List ℕ
  pub queue : List ℕ
  pub blocks : List (ℕ × Spot)
  pub levels : List Level
  pub waiters : List Waiter

-- "In this order". There is a record for each block whose place is 254
unfoldable pub get_form : List ℕ → Option (Form × List ℕ)
get_form bs =
    and_then (get_number 1 bs) (λ n r₁.
    and_then (get_numbers 2 6 r₁) (λ h r₂.
    and_then (get_numbers 2 (shape_of h).P r₂) (λ cs r₃.
    and_then (get_number 2 r₃) (λ m r₄.
    and_then (get_numbers 2 m r₄) (λ qs r₅.
    and_then (get_each (λ b. get_block (slot_width n)) (below (shape_of h).N) r₅) (λ xs r₆.
    and_then (get_each (get_level (slot_width n)) (filled_levels (shape_of h).P (shape_of h).L (λ q. get_or cs q 0)) r₆) (λ ls r₇.
    and_then (get_each (λ k. get_waiter (shape_of h).B) (below (length (keep is_waiting xs))) r₇) (λ ws r₈.
    some (record { number = n; shape = shape_of h; counters = cs; queue = qs; blocks = xs; levels = ls; waiters = ws }, r₈)))))))))
