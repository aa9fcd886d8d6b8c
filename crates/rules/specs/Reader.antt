-- Document 02, P6: the reads of a request, by the partition reader algorithm of document 001 (Figure 6) in that text's order: "find the level, go over the
-- conditions of the levels, then real or dummy per filled level (a rebuild's source levels as P4 says)". A level is marked for shuffling, and is
-- being shuffled, while it is a source of the front job; what is cached in is a slot whose read is sent.
use Rattle.std.specs.Prelude.{Bool, true, false, not, ◌&&◌, List, [], ◌∷◌, map, ℕ, ◌-◌, eqb, if◌then◌else◌}
use Rattle.std.proofs.Math.Option.{Option, none, some}
use Rattle.lists.specs.Search.{find, keep, any, is_none, below, count}
use Rattle.rules.specs.Shape.{slots, cell}
use Rattle.rules.specs.State.{Place, nowhere, stored, Request, State}
use Rattle.rules.specs.Levels.{filled}
use Rattle.rules.specs.Blocks.{holder, is_unread}
use Rattle.rules.specs.Request.{is_source}

-- ---- ReadPartition(p*, blockid), 1): "Looks up the position map to determine the level ℓ* where blockid resides. If .. blockid is not found in partition p*,
-- then set ℓ* ← ⊥": a block that waits in the cache or is nowhere is in no level
unfoldable pub level_of : Place → Option ℕ
level_of nowhere = none
level_of (stored ℓ i) = some ℓ

-- where in its level
unfoldable pub slot_of : Place → ℕ
slot_of nowhere = 0
slot_of (stored ℓ i) = i

-- ---- 2): "For each level in partition p* that satisfies one of the following conditions"
pub data Condition : Type 0 where
  empty : Condition  -- "the level is empty"
  unmarked : Condition  -- "the level is not marked for shuffling"
  all_read : Condition  -- "the level is marked for shuffling but all blocks have been cached in"
  some_unread : Condition  -- none of them: it is marked, and a slot of it is unread

-- is it filled, is it a source of the front job, has it an unread slot
unfoldable pub condition_by : Bool → Bool → Bool → Condition
condition_by false source unread = empty
condition_by true false unread = unmarked
condition_by true true false = all_read
condition_by true true true = some_unread

unfoldable pub condition : State → ℕ → ℕ → Condition
condition s q ℓ = condition_by (filled (s.counter q) ℓ) (is_source s q ℓ) (any (is_unread s q ℓ) (below (slots ℓ)))

unfoldable pub conditions : State → ℕ → List ℕ → List (ℕ × Condition)
conditions s q ℓs = map (λ ℓ. (ℓ, condition s q ℓ)) ℓs

-- ---- ReadFake(ℓ): "If level ℓ is not being shuffled: get address addr of next random dummy block." Document 01: "the slot of the lowest-numbered unread
-- dummy item": items ascending, each by its slot; their order is random
unfoldable pub dummy : State → ℕ → ℕ → Option ℕ
dummy s q ℓ = find (λ i. is_unread s q ℓ i && is_none (holder s q ℓ i)) (map (λ k. s.order (cell s.shape q ℓ k)) (below (slots ℓ)))

-- "If level ℓ is being shuffled, and level ℓ has unread blocks, perform an early cache-in." P4: "the lowest-numbered unread item", block or dummy
unfoldable pub lowest : State → ℕ → ℕ → Option ℕ
lowest s q ℓ = find (is_unread s q ℓ) (map (λ k. s.order (cell s.shape q ℓ k)) (below (slots ℓ)))

-- "Else return with ⊥."
unfoldable pub fake_by : Option ℕ → Option ℕ → Condition → Option ℕ
fake_by next_dummy early empty = none
fake_by next_dummy early unmarked = next_dummy
fake_by next_dummy early all_read = none
fake_by next_dummy early some_unread = early

unfoldable pub read_fake : State → ℕ → ℕ → Condition → Option ℕ
read_fake s q ℓ c = fake_by (dummy s q ℓ) (lowest s q ℓ) c

-- ---- ReadReal(ℓ, blockid), of the block in slot i: "If blockid has been cached in": in a marked level it is if its slot was read. In another the slot is
-- read whatever its mark is, document 01: "the block's slot if its place is there" (in states that calls left it is unread there: `own-unread` of
-- crate reachable)
unfoldable pub is_cached_in : Condition → Bool → Bool
is_cached_in empty unread = false
is_cached_in unmarked unread = false
is_cached_in all_read unread = true
is_cached_in some_unread unread = not unread

-- ".. call ReadFake(ℓ) .. Else: cache in block blockid from server." P4: "the block's slot if the block is there unread"
unfoldable pub read_real : State → ℕ → ℕ → ℕ → Condition → Option ℕ
read_real s q ℓ i c = if is_cached_in c (is_unread s q ℓ i) then read_fake s q ℓ c else some i

-- ---- ReadPartition, 3): "For each filled level ℓ in partition p*: if ℓ = ℓ*, ReadReal(ℓ, blockid). Else, ReadFake(ℓ)."
unfoldable pub if_filled : Condition → Option ℕ → Option ℕ
if_filled empty slot = none
if_filled unmarked slot = slot
if_filled all_read slot = slot
if_filled some_unread slot = slot

unfoldable pub is_level : Option ℕ → ℕ → Bool
is_level none ℓ = false
is_level (some m) ℓ = eqb m ℓ

unfoldable pub read_level : State → ℕ → Place → ℕ → Condition → Option ℕ
read_level s q place ℓ c = if_filled c (if is_level (level_of place) ℓ then read_real s q ℓ (slot_of place) c else read_fake s q ℓ c)

-- a level and its slot; a level of which nothing is read has no entry
unfoldable pub add_read : ℕ → Option ℕ → List (ℕ × ℕ) → List (ℕ × ℕ)
add_read ℓ none reads = reads
add_read ℓ (some i) reads = (ℓ, i) ∷ reads

unfoldable pub each_level : (ℕ → Condition → Option ℕ) → List (ℕ × Condition) → List (ℕ × ℕ)
each_level slot [] = []
each_level slot (x ∷ xs) = add_read x.0 (slot x.0 x.1) (each_level slot xs)

-- the three steps over some of the levels, for block b; p* is its partition
unfoldable pub read_levels : State → ℕ → List ℕ → List (ℕ × ℕ)
read_levels s b ℓs = each_level (read_level s (s.partition b) (s.place b)) (conditions s (s.partition b) ℓs)

-- all that is read for block b, from the state at its release: "one read to each filled level of p, level 0 first"
unfoldable pub read_partition : State → ℕ → List (ℕ × ℕ)
read_partition s b = read_levels s b (below s.shape.L)

-- ---- A turn sends one of these reads: the same three steps, for one level

-- the slot that is read of level ℓ, for a block that is at this place
unfoldable pub slot_read : State → ℕ → Place → ℕ → Option ℕ
slot_read s q place ℓ = read_level s q place ℓ (condition s q ℓ)

-- "One read to each filled level of p." P4: "A source level with none unread costs nothing."
unfoldable pub costing : Condition → Bool
costing empty = false
costing unmarked = true
costing all_read = false
costing some_unread = true

unfoldable pub costs : State → ℕ → ℕ → Bool
costs s q ℓ = costing (condition s q ℓ)

-- "Then it sends one read to each filled level of p, level 0 first": the levels to which it has yet to send one
unfoldable pub levels_left : State → Request → List ℕ
levels_left s r = keep (costs s (s.partition r.block)) (count r.level (s.shape.L - r.level))
