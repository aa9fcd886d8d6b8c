-- Where the contents of a block are: a clause for each place it may have.
use Rattle.std.specs.Prelude.{◌≡◌, ◌⊎◌, true, List, ℕ, ◌<◌}
use Rattle.lists.specs.Distinct.{Mem}
use Rattle.lists.specs.Search.{any}
use Rattle.rules.specs.Blocks
use Rattle.rules.specs.Completion
use Rattle.rules.specs.Shape.{cell}
use Rattle.rules.specs.State.{State, cmd, write, nowhere, stored}
use Rattle.reachable.specs.Live.{Target, Wrote}
use Rattle.reachable.specs.Values.{Values, Out}
use Rattle.array.specs.Claim.{Slots}

-- a write of this slot is outstanding
abbrev pub Due : State → ℕ → ℕ → ℕ → Type 0
Due s q ℓ i = any (Completion.is_command (cmd write q ℓ i)) s.outstanding ≡ true

-- a block that is nowhere: zeros
abbrev pub Nowhere : State → (ℕ → List ℕ) → Type 0
Nowhere s array = (b : ℕ) → b < s.shape.N → s.place b ≡ nowhere → ¬ Mem b s.waiting → Blocks.zeros s ≡ array b

-- unread, or its read outstanding, and its write was sent
abbrev pub Sent : State → ℕ → ℕ → ℕ → Type 0
Sent s q ℓ i = ((s.mark (cell s.shape q ℓ i) ≡ 1) ⊎ Out s q ℓ i) × (Target s q ℓ → Wrote s q ℓ i)

-- ..then the bytes last sent to the slot are the block's
abbrev pub Written : State → Slots → (ℕ → List ℕ) → Type 0
Written s last array = (b ℓ i : ℕ) → b < s.shape.N → s.place b ≡ stored ℓ i → Sent s (s.partition b) ℓ i → last (s.partition b) ℓ i ≡ array b

-- ..and once that write has completed, the host has them
abbrev pub Settled : State → Slots → (ℕ → List ℕ) → Type 0
Settled s has array = (b ℓ i : ℕ) → b < s.shape.N → s.place b ≡ stored ℓ i → Sent s (s.partition b) ℓ i → ¬ Due s (s.partition b) ℓ i → has (s.partition b) ℓ i ≡ array b

-- The contents of every block: the client's own (`Values`: of one that waits, is in a level that a drawn job writes, or was read), zeros, or the host's
pub record Contents (s : State) (last has : Slots) (array : ℕ → List ℕ) : Type 0 where
  pub absent : Nowhere s array
  pub values : Values s array
  pub written : Written s last array
  pub settled : Settled s has array
