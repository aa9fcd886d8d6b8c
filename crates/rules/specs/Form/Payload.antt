-- Document 02, P5: what a saved form holds, in this order.
use Rattle.std.specs.Prelude.{Bool, true, false, List, [], ◌∷◌, ◌++◌, map, ℕ, suc, ◌-◌, length}
use Rattle.lists.specs.Search.{keep, below, member}
use Rattle.rules.specs.Shape.{Shape, slots, cell}
use Rattle.rules.specs.State.{Place, nowhere, stored, State}
use Rattle.rules.specs.Levels.{filled}
use Rattle.rules.specs.Form.Numbers.{little, each, form_of, slot_width}
use Rattle.rules.specs.Form.Sums.{in_blocks}

-- "Shape (N P L B E W)"
unfoldable pub shape_numbers : Shape → List ℕ
shape_numbers h = h.N ∷ h.P ∷ h.L ∷ h.B ∷ h.E ∷ h.W ∷ []

-- "A place is a byte 255 for nowhere, 254 for waiting, or the level and then the slot."
unfoldable pub place_bytes : ℕ → Bool → Place → List ℕ
place_bytes w true x = 254 ∷ []
place_bytes w false nowhere = 255 ∷ []
place_bytes w false (stored ℓ i) = ℓ ∷ little w i

-- "Each block's partition and place"
unfoldable pub block_bytes : ℕ → State → ℕ → List ℕ
block_bytes w s b = little 2 (s.partition b) ++ place_bytes w (member b s.waiting) (s.place b)

-- "Each filled level's .., partitions and then levels upward": partition and level of each, by the counters
unfoldable pub filled_levels : ℕ → ℕ → (ℕ → ℕ) → List (ℕ × ℕ)
filled_levels p l counter = each (λ q. map (λ ℓ. (q, ℓ)) (keep (filled (counter q)) (below l))) (below p)

-- "Order (the slot of each item, items ascending as numbered when it was written) and read marks (a byte 0 or 1 a slot)": 1 for a slot that was read
unfoldable pub order_slots : State → ℕ → ℕ → List ℕ
order_slots s q ℓ = map (λ k. s.order (cell s.shape q ℓ k)) (below (slots ℓ))

unfoldable pub read_marks : State → ℕ → ℕ → List ℕ
read_marks s q ℓ = map (λ i. 1 - s.mark (cell s.shape q ℓ i)) (below (slots ℓ))

unfoldable pub level_bytes : ℕ → State → ℕ × ℕ → List ℕ
level_bytes w s k = each (little w) (order_slots s k.0 k.1) ++ read_marks s k.0 k.1

-- "The waiting blocks as records of block, age (0 the longest waiting) and contents"
pub record Waiter : Type 0 where
  pub block : ℕ
  pub age : ℕ
  pub bytes : List ℕ

-- ".. in any order": they are written longest waiting first. This is the place that says so
unfoldable pub waiters : (ℕ → List ℕ) → ℕ → List ℕ → List Waiter
waiters bytes a [] = []
waiters bytes a (b ∷ bs) = record { block = b; age = a; bytes = bytes b } ∷ waiters bytes (suc a) bs

unfoldable pub waiter_bytes : Waiter → List ℕ
waiter_bytes r = little 2 r.block ++ (little 2 r.age ++ r.bytes)

-- All of it: "form number 1, shape, counters, queue (length, then front to back), each block's partition and place, each filled level's order
-- and read marks, and the waiting blocks"
unfoldable pub payload : State → List ℕ
payload s = let w = slot_width (form_of s.shape) in
    little 1 (form_of s.shape)
    ++ (each (little 2) (shape_numbers s.shape)
    ++ (each (λ q. little 2 (s.counter q)) (below s.shape.P)
    ++ (little 2 (length s.queue)
    ++ (each (little 2) s.queue
    ++ (each (block_bytes w s) (below s.shape.N)
    ++ (each (level_bytes w s) (filled_levels s.shape.P s.shape.L s.counter)
    ++ each waiter_bytes (waiters s.bytes 0 s.waiting)))))))

-- The saved form of a state
unfoldable pub saved_form : State → List ℕ
saved_form s = in_blocks (payload s)
