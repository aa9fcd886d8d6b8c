-- Document 01, "State and ranges": what slots hold, and what a block reads as.
use Rattle.std.specs.Prelude.{Bool, true, false, not, ◌&&◌, List, map, ℕ, zero, suc, ◌-◌, length, replicate, ltb, eqb, if◌then◌else◌}
use Rattle.std.proofs.Math.Option.{Option, none, some}
use Rattle.lists.specs.Totals.{total}
use Rattle.lists.specs.Search.{keep, below, member}
use Rattle.rules.specs.Shape.{Shape, slots, cell}
use Rattle.rules.specs.State.{Place, nowhere, stored, Found, found_nowhere, found_cache, found_level, State}

-- the block that an entry of `holds` names
unfoldable pub named : ℕ → Option ℕ
named zero = none
named (suc b) = some b

-- the block in a slot
unfoldable pub holder : State → ℕ → ℕ → ℕ → Option ℕ
holder s q ℓ i = named (s.holds (cell s.shape q ℓ i))

-- what the slots of q in levels below `top` hold: their cells lie together
unfoldable pub entries : State → ℕ → ℕ → List ℕ
entries s q top = map (λ j. s.holds (cell s.shape q 0 j)) (below (slots top - 2))

-- how many of them hold a block
unfoldable pub blocks_in : State → ℕ → ℕ → ℕ
blocks_in s q top = length (keep (ltb 0) (entries s q top))

-- "Which slots have been read since the level was written": this one has not
unfoldable pub is_unread : State → ℕ → ℕ → ℕ → Bool
is_unread s q ℓ i = eqb (s.mark (cell s.shape q ℓ i)) 1

-- how many slots of level ℓ of q have been read since it was written
unfoldable pub reads_of : Shape → (ℕ → ℕ) → ℕ → ℕ → ℕ
reads_of h mark q ℓ = total (slots ℓ) (λ i. 1 - mark (cell h q ℓ i))

-- "A dummy is B zeros."
unfoldable pub zeros : State → List ℕ
zeros s = replicate s.shape.B 0

unfoldable pub is_nowhere : Place → Bool
is_nowhere nowhere = true
is_nowhere (stored ℓ i) = false

-- "A block that is nowhere reads as B zeros."
unfoldable pub contents : State → ℕ → List ℕ
contents s b = if is_nowhere (s.place b) && not (member b s.waiting) then zeros s else s.bytes b

-- Document 02, P2: "The look-up of a place now also says nowhere, cache, or which level": by the block's place, and whether it waits. No call leaves
-- a block that has a slot and waits; it would be found in its level
unfoldable pub found_at : Place → Bool → Found
found_at nowhere false = found_nowhere
found_at nowhere true = found_cache
found_at (stored ℓ i) waits = found_level ℓ

unfoldable pub look_up : State → ℕ → Found
look_up s b = found_at (s.place b) (member b s.waiting)

-- what is written to a slot that holds this block, or a dummy
unfoldable pub slot_bytes : State → Option ℕ → List ℕ
slot_bytes s none = zeros s
slot_bytes s (some b) = s.bytes b
