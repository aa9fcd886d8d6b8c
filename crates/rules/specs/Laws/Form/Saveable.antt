-- What a state has that is brought back by its form, and what the form leaves out of it.
use Rattle.std.specs.Prelude.{◌≡◌, true, List, [], ℕ, suc, ◌^◌, ◌≤◌, ◌<◌, length}
use Rattle.std.proofs.Math.Option.{none}
use Rattle.lists.specs.Distinct.{Mem, NoDup}
use Rattle.rules.specs.Form.Loading.{stored_at}
use Rattle.rules.specs.Laws.Range.{InRange}
use Rattle.rules.specs.Levels.{filled}
use Rattle.rules.specs.Setters.{◌▷◌, set_bytes, set_order}
use Rattle.rules.specs.Shape.{Shape, cell, slots}
use Rattle.rules.specs.State.{State, nowhere, stored}

-- a cell of a filled level
pub record FilledCell (h : Shape) (counter : ℕ → ℕ) (c : ℕ) : Type 0 where
  pub part : ℕ
  pub level : ℕ
  pub slot : ℕ
  pub in_parts : part < h.P
  pub in_levels : level < h.L
  pub is_filled : filled (counter part) level ≡ true
  pub in_slots : slot < slots level
  pub is_cell : c ≡ cell h part level slot

pub record Saveable (s : State) : Type 0 where
  pub range : InRange s
  -- it is at rest
  pub idle : s.request ≡ none
  pub quiet : s.outstanding ≡ []
  pub unbegun : s.begun ≡ 0
  pub unscanned : s.cursor ≡ 0
  pub unsent : s.sent ≡ 0
  -- who waits, waits once, has no place, and B bytes
  pub once : NoDup s.waiting
  pub absent : (b : ℕ) → Mem b s.waiting → s.place b ≡ nowhere
  pub whole : (b : ℕ) → Mem b s.waiting → length (s.bytes b) ≡ s.shape.B
  -- orders are permutations, blocks in unread slots of filled levels, at most 2^ℓ in level ℓ
  pub each : (q ℓ i : ℕ) → q < s.shape.P → ℓ < s.shape.L → filled (s.counter q) ℓ ≡ true → i < slots ℓ → (k : ℕ) × ((k < slots ℓ) × (s.order (cell s.shape q ℓ k) ≡ i))
  pub placed : (b ℓ i : ℕ) → b < s.shape.N → s.place b ≡ stored ℓ i
      → (filled (s.counter (s.partition b)) ℓ ≡ true) × (s.mark (cell s.shape (s.partition b) ℓ i) ≡ 1) × (s.holds (cell s.shape (s.partition b) ℓ i) ≡ suc b)
  pub room : (q ℓ : ℕ) → length (stored_at s q ℓ) ≤ 2 ^ ℓ
  -- nothing is outside the shape, in slots that hold no block, or in levels that are not filled
  pub partitions : (b : ℕ) → s.shape.N ≤ b → s.partition b ≡ 0
  pub places : (b : ℕ) → s.shape.N ≤ b → s.place b ≡ nowhere
  pub counters : (q : ℕ) → s.shape.P ≤ q → s.counter q ≡ 0
  pub marked : (c : ℕ) → ¬ (s.mark c ≡ 0) → FilledCell s.shape s.counter c
  pub held : (c : ℕ) → ¬ (s.holds c ≡ 0) → (b : ℕ) × (ℓ : ℕ) × (i : ℕ) × ((b < s.shape.N) × (s.place b ≡ stored ℓ i) × (c ≡ cell s.shape (s.partition b) ℓ i))

-- A state with other contents of blocks, and other orders
abbrev pub over : (ℕ → List ℕ) → (ℕ → ℕ) → State → State
over y o s = s ▷ set_bytes y ▷ set_order o

-- ..which agree with its own where the form has them: the contents of waiting blocks, the orders of filled levels
pub record Agrees (s : State) (y : ℕ → List ℕ) (o : ℕ → ℕ) : Type 0 where
  pub contents : (b : ℕ) → Mem b s.waiting → y b ≡ s.bytes b
  pub orders : (q ℓ k : ℕ) → q < s.shape.P → ℓ < s.shape.L → filled (s.counter q) ℓ ≡ true → k < slots ℓ → o (cell s.shape q ℓ k) ≡ s.order (cell s.shape q ℓ k)
