-- Document 02, P6: what the partition reader reads of a level is what documents 01 and 02 (P4) say in their own words, on every state; and a list of its
-- reads is those of the levels that cost one.
use Rattle.std.specs.Prelude.{Bool, ℕ, eqb, if◌then◌else◌}
use mathlib.Core.List.{List, [], ◌∷◌}
use Rattle.std.proofs.Math.Option.{Option, none, some}
use Rattle.lists.specs.Search.{or_else}
use Rattle.rules.specs.State.{Place, nowhere, stored, Found, found_nowhere, found_cache, found_level}
use Rattle.rules.specs.Reader.{Condition, level_of, slot_of, fake_by, is_cached_in, if_filled, is_level, add_read}

-- ---- The sentences of document 01 and of P4

-- "The block's slot if its place is there"
unfoldable pub slot_in : ℕ → Place → Option ℕ
slot_in ℓ nowhere = none
slot_in ℓ (stored m i) = if eqb m ℓ then some i else none

-- P4: "the block's slot if the block is there unread"
unfoldable pub if_unread : (ℕ → Bool) → Option ℕ → Option ℕ
if_unread p none = none
if_unread p (some i) = if p i then some i else none

-- P4: "For a source level with unread slots it reads the block's slot if the block is there unread, else the lowest-numbered unread item. .. Other
-- levels are read as before": "the block's slot if its place is there, else the slot of the lowest-numbered unread dummy item"
unfoldable pub slot_said : Bool → (ℕ → Bool) → Option ℕ → Option ℕ → Place → ℕ → Option ℕ
slot_said source unread next_dummy early place ℓ = if source then or_else (if_unread unread (slot_in ℓ place)) early else or_else (slot_in ℓ place) next_dummy

-- ---- What is read of one level, by what it depends on: its condition; whether the block's slot is unread; its lowest unread dummy and item; and the
-- block's place
abbrev pub read_by : Condition → Bool → Option ℕ → Option ℕ → Place → ℕ → Option ℕ
read_by c unread d low x ℓ = if_filled c (if is_level (level_of x) ℓ then (if is_cached_in c unread then fake_by d low c else some (slot_of x)) else fake_by d low c)

-- ---- Lists of reads

-- the slots of these levels
unfoldable pub slots_of : (ℕ → Option ℕ) → List ℕ → List (ℕ × ℕ)
slots_of slot [] = []
slots_of slot (ℓ ∷ ℓs) = add_read ℓ (slot ℓ) (slots_of slot ℓs)

-- ---- Document 02, P2: the level that a request carries as found is the reader's ℓ*
unfoldable pub level_in : Found → Option ℕ
level_in found_nowhere = none
level_in found_cache = none
level_in (found_level ℓ) = some ℓ
