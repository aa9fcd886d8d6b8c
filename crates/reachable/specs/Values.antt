-- Where the client has the contents of a block: it waits; it is in a level that a drawn job writes; or its slot was read and the read has completed. A
-- table y has these contents, and a turn keeps it so.
use Rattle.std.specs.Prelude.{◌≡◌, true, List, ℕ, ◌<◌}
use Rattle.lists.specs.Distinct.{Mem}
use Rattle.lists.specs.Search.{any}
use Rattle.rules.specs.Completion.{is_command}
use Rattle.rules.specs.Shape.{cell}
use Rattle.rules.specs.State.{State, cmd, read, stored}
use Rattle.reachable.specs.Live.{Target}

-- the read of this slot is outstanding
abbrev pub Out : State → ℕ → ℕ → ℕ → Type 0
Out s q ℓ i = any (is_command (cmd read q ℓ i)) s.outstanding ≡ true

-- a waiting block
abbrev pub Waits : State → (ℕ → List ℕ) → Type 0
Waits s y = (b : ℕ) → b < s.shape.N → Mem b s.waiting → s.bytes b ≡ y b

-- in a level that a drawn job writes
abbrev pub Drawn : State → (ℕ → List ℕ) → Type 0
Drawn s y = (b ℓ i : ℕ) → b < s.shape.N → s.place b ≡ stored ℓ i → Target s (s.partition b) ℓ → s.bytes b ≡ y b

-- read and completed
abbrev pub Known : State → (ℕ → List ℕ) → Type 0
Known s y = (b ℓ i : ℕ) → b < s.shape.N → s.place b ≡ stored ℓ i → ¬ (s.mark (cell s.shape (s.partition b) ℓ i) ≡ 1) → ¬ Out s (s.partition b) ℓ i → s.bytes b ≡ y b

pub record Values (s : State) (y : ℕ → List ℕ) : Type 0 where
  pub waiting : Waits s y
  pub drawn : Drawn s y
  pub known : Known s y
