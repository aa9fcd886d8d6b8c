-- What a slot is written with and what a block reads as has B bytes, in a state whose blocks have B bytes each.
use Rattle.std.specs.Prelude.{◌≡◌, Bool, true, false, not, ◌&&◌, ℕ, length, if◌then◌else◌}
use Rattle.std.proofs.Math.Option.{Option, none, some}
use Rattle.std.proofs.lemmas.List.{length-replicate}
use Rattle.lists.specs.Search.{member}
use Rattle.rules.specs.Blocks.{zeros, contents, slot_bytes, is_nowhere}
use Rattle.rules.specs.State.{State}

-- each block has B bytes
abbrev pub Whole : State → Type 0
Whole s = (b : ℕ) → length (s.bytes b) ≡ s.shape.B

pub slot-length : (s : State) → Whole s → (o : Option ℕ) → length (slot_bytes s o) ≡ s.shape.B
unfolding slot_bytes zeros
slot-length s w none = length-replicate s.shape.B 0
slot-length s w (some b) = w b

pub contents-length : (s : State) → Whole s → (b : ℕ) → length (contents s b) ≡ s.shape.B
unfolding contents zeros
contents-length s w b = go (is_nowhere (s.place b) && not (member b s.waiting))
  where
    go : (t : Bool) → length (if t then zeros s else s.bytes b) ≡ s.shape.B
    go true = length-replicate s.shape.B 0
    go false = w b
