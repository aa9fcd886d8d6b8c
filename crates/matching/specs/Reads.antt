-- A set of slots in a hidden arrangement, and the trades of a read. Where the slot at a hidden place is read, that slot is drawn when it is
-- shown. Where the slot is known beforehand, its place is drawn, which nobody sees. Either way an arrangement of the other slots is left.
use Rattle.std.specs.Prelude.{◌≡◌, List, [], ◌∷◌, ℕ, length}
use Rattle.lists.specs.Places.{remove_at}
use Rattle.lists.specs.Distinct.{Mem, NoDup, index}

-- ---- arrangements

-- h has the slots of U, each once, in some order
abbrev pub Arranges : List ℕ → List ℕ → Type 0
Arranges U h = (length h ≡ length U) × NoDup h × ((z : ℕ) → Mem z h → Mem z U)

-- the slots but one
abbrev pub less : ℕ → List ℕ → List ℕ
less x U = remove_at (index x U) U

-- ---- the slot at place n is read

-- one slot of U is drawn
abbrev pub Pick : List ℕ → List ℕ → Type 0
Pick U [] = ⊥
Pick U (e ∷ []) = Mem e U
Pick U (e ∷ f ∷ es) = ⊥
