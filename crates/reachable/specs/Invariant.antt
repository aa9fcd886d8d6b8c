-- What holds of every state that calls left: one record, a named fact to each field.
use Rattle.std.specs.Prelude.{◌≡◌, ◌⊎◌, true, false, List, ◌∷◌, ℕ, zero, suc, ◌+◌, ◌-◌, ◌%◌, ◌^◌, ◌≤◌, ◌<◌, length, drop}
use Rattle.std.proofs.Math.Option.{Option, some}
use Rattle.lists.specs.All.{All}
use Rattle.lists.specs.Distinct.{Mem, NoDup}
use Rattle.lists.specs.Totals.{total}
use Rattle.rules.specs.Form.Loading.{stored_at}
use Rattle.rules.specs.Laws.Form.Saveable.{FilledCell}
use Rattle.rules.specs.Laws.Range.{InRange}
use Rattle.rules.specs.Jobs.{slot_count}
use Rattle.rules.specs.Levels.{filled, written_levels}
use Rattle.rules.specs.Shape.{Shape, cell, offset, slots}
use Rattle.rules.specs.State.{State, Command, Place, nowhere, stored, Request, read, write}
use Rattle.rules.specs.Request
use Rattle.rules.specs.Request.{is_front, is_source}
use Rattle.rules.specs.Blocks.{reads_of}
use Rattle.reachable.specs.Live.{stored_in, counted, Running, Source, Gathers, Alone, pending, passed_by, write_number}
use Rattle.reachable.specs.Terms.{Numbered, Apart}

-- ---- Blocks and slots

-- A block waits once, and then it is in no slot
pub record Waiting (waiting : List ℕ) (place : ℕ → Place) : Type 0 where
  pub once : NoDup waiting
  pub absent : (b : ℕ) → Mem b waiting → place b ≡ nowhere

-- In a live level the order is a permutation of the slots
pub record Orders (h : Shape) (count : ℕ → ℕ) (order : ℕ → ℕ) : Type 0 where
  pub one : (q ℓ j k : ℕ) → q < h.P → ℓ < h.L → filled (count q) ℓ ≡ true → j < slots ℓ → k < slots ℓ → order (cell h q ℓ j) ≡ order (cell h q ℓ k) → j ≡ k
  pub each : (q ℓ i : ℕ) → q < h.P → ℓ < h.L → filled (count q) ℓ ≡ true → i < slots ℓ → (k : ℕ) × ((k < slots ℓ) × (order (cell h q ℓ k) ≡ i))

-- The items of a live level are so numbered
abbrev pub Items : Shape → (ℕ → ℕ) → (ℕ → ℕ) → (ℕ → ℕ) → (ℕ → ℕ) → Type 0
Items h count order mark holds = (q ℓ : ℕ) → q < h.P → ℓ < h.L → filled (count q) ℓ ≡ true → (n : ℕ) × Numbered h order mark holds q ℓ n

-- A block's place is in a live level, whose slot holds it; and what a slot holds has its place there: no entry is stale
pub record Agree (h : Shape) (count : ℕ → ℕ) (partition : ℕ → ℕ) (place : ℕ → Place) (holds : ℕ → ℕ) : Type 0 where
  pub placed : (b ℓ i : ℕ) → b < h.N → place b ≡ stored ℓ i → (filled (count (partition b)) ℓ ≡ true) × (holds (cell h (partition b) ℓ i) ≡ suc b)
  pub held : (q ℓ i b : ℕ) → q < h.P → ℓ < h.L → i < slots ℓ → holds (cell h q ℓ i) ≡ suc b → (partition b ≡ q) × (place b ≡ stored ℓ i)

-- A level stores at most 2^ℓ blocks, a partition 2^(L-1)
abbrev pub Room : State → Type 0
Room s = (q ℓ : ℕ) → length (stored_at s q ℓ) ≤ 2 ^ ℓ

abbrev pub Full : State → Type 0
Full s = (q : ℕ) → length (stored_in s q s.shape.L) ≤ 2 ^ (s.shape.L - 1)

-- the slots of level ℓ of q that hold a block
unfoldable pub taken : ℕ → ℕ
taken zero = 0
taken (suc b) = 1

unfoldable pub holds_of : Shape → (ℕ → ℕ) → ℕ → ℕ → ℕ
holds_of h holds q ℓ = total (slots ℓ) (λ i. taken (holds (cell h q ℓ i)))

-- At most 2^ℓ slots of level ℓ hold a block
abbrev pub Taken : Shape → (ℕ → ℕ) → Type 0
Taken h holds = (q ℓ : ℕ) → q < h.P → ℓ < h.L → holds_of h holds q ℓ ≤ 2 ^ ℓ

-- ---- Reads and writes

-- Writes are sent for the front job, at most one to each slot of its written levels
abbrev pub Begun : State → Type 0
Begun s = (s.sent ≡ 0 → ⊥) → (q : ℕ) × (rest : List ℕ) × ((s.queue ≡ q ∷ rest) × (s.sent ≤ slot_count (written_levels s.shape (s.counter q) s.begun)))

-- Where none has begun, none has gone over anything, and no write is sent
abbrev pub Unbegun : State → Type 0
Unbegun s = s.begun ≡ 0 → (s.cursor ≡ 0) × (s.sent ≡ 0)

-- A live level that is not gathered has been read at most once for each job that was drawn since it was written, and once for each job and
-- each request that is pending
abbrev pub Reads : State → Type 0
Reads s = (q ℓ : ℕ) → q < s.shape.P → ℓ < s.shape.L → filled (counted s q) ℓ ≡ true
    → Gathers s q ℓ ⊎ (reads_of s.shape s.mark q ℓ ≤ counted s q % 2 ^ ℓ + pending s q ℓ)

-- A request that has sent a read is not held
abbrev pub Unheld : State → Type 0
Unheld s = (r : Request) → s.request ≡ some r → (r.level ≡ 0) ⊎ (Request.held r ≡ false)

-- The partition of a request that is not held has no job, or only those of one run, at the front and not drawn
abbrev pub Released : State → Type 0
Released s = (r : Request) → s.request ≡ some r → Request.held r ≡ false → (¬ Mem (s.partition r.block) s.queue) ⊎ Alone s (s.partition r.block)

-- ..and of the levels that it has yet to pass, those that are no source have been read less than 2^ℓ times
abbrev pub Unworn : State → Type 0
Unworn s = (r : Request) → s.request ≡ some r → Request.held r ≡ false → (ℓ : ℕ) → r.level ≤ ℓ → ℓ < s.shape.L → filled (s.counter (s.partition r.block)) ℓ ≡ true
    → is_source s (s.partition r.block) ℓ ≡ false → reads_of s.shape s.mark (s.partition r.block) ℓ < 2 ^ ℓ

-- ..and an outstanding command of its partition that it does not await is of a level that the job gathers, and not of its block's slot
abbrev pub Aside : State → Request → Command → Type 0
Aside s r c = c.partition ≡ s.partition r.block → Gathers s (s.partition r.block) c.level × ¬ (s.place r.block ≡ stored c.level c.slot)

abbrev pub Unawaited : State → Type 0
Unawaited s = (r : Request) → s.request ≡ some r → Request.held r ≡ false → All (Aside s r) (drop r.awaits s.outstanding)

-- The request in hand is for b and has passed level ℓ
abbrev pub Own : State → ℕ → ℕ → Type 0
Own s b ℓ = (r : Request) × ((s.request ≡ some r) × (r.block ≡ b) × (ℓ < r.level))

-- A block's slot has not been read, but by the request for it or by the job that gathers it
abbrev pub Unread : State → Type 0
Unread s = (b ℓ i : ℕ) → b < s.shape.N → s.place b ≡ stored ℓ i → (s.mark (cell s.shape (s.partition b) ℓ i) ≡ 1) ⊎ (Own s b ℓ ⊎ Gathers s (s.partition b) ℓ)

-- Where a request has passed its block's level, the block's slot has been read
abbrev pub Fetched : State → Type 0
Fetched s = (r : Request) (ℓ i : ℕ) → s.request ≡ some r → s.place r.block ≡ stored ℓ i → ℓ < r.level → s.mark (cell s.shape (s.partition r.block) ℓ i) ≡ 0

-- The slots of its sources that the front job has gone over are read
abbrev pub Scanned : State → Type 0
Scanned s = (q ℓ i : ℕ) → is_front s.queue q ≡ true → s.sent ≡ 0 → Source s.shape (s.counter q) s.begun ℓ → i < slots ℓ → offset ℓ i < s.cursor → s.mark (cell s.shape q ℓ i) ≡ 0

-- ---- Outstanding commands

-- An outstanding read: its slot counts as read, its level is filled, and the request for its partition has passed it, or the front job gathers it
pub record ReadOf (h : Shape) (counter mark partition : ℕ → ℕ) (request : Option Request) (queue : List ℕ) (job sent : ℕ) (c : Command) : Type 0 where
  pub kind : c.kind ≡ read
  pub is_read : mark (cell h c.partition c.level c.slot) ≡ 0
  pub full : filled (counter c.partition) c.level ≡ true
  pub whose : (passed_by partition request c.partition c.level ≡ true)
      ⊎ ((is_front queue c.partition ≡ true) × (sent ≡ 0) × Source h (counter c.partition) job c.level)

-- An outstanding write: of a level that the front job writes, and one of the writes that it has sent
pub record WriteOf (h : Shape) (counter : ℕ → ℕ) (queue : List ℕ) (job sent : ℕ) (c : Command) : Type 0 where
  pub kind : c.kind ≡ write
  pub front : is_front queue c.partition ≡ true
  pub busy : sent ≡ 0 → ⊥
  pub goal : Mem c.level (written_levels h (counter c.partition) job)
  pub slot : write_number (written_levels h (counter c.partition) job) c.level c.slot < sent

abbrev pub Reading : State → Command → Type 0
Reading s c = ReadOf s.shape s.counter s.mark s.partition s.request s.queue s.begun s.sent c

abbrev pub Writing : State → Command → Type 0
Writing s c = WriteOf s.shape s.counter s.queue s.begun s.sent c

abbrev pub Commands : State → Type 0
Commands s = All (λ c. Reading s c ⊎ Writing s c) s.outstanding

-- ---- Nothing stale

-- a cell of a slot
pub record SlotCell (h : Shape) (c : ℕ) : Type 0 where
  pub part : ℕ
  pub level : ℕ
  pub slot : ℕ
  pub in_parts : part < h.P
  pub in_levels : level < h.L
  pub in_slots : slot < slots level
  pub is_cell : c ≡ cell h part level slot

-- Tables have zeros outside the shape, and a slot that is not in a live level is not unread
pub record Tidy (s : State) : Type 0 where
  pub partitions : (b : ℕ) → s.shape.N ≤ b → s.partition b ≡ 0
  pub places : (b : ℕ) → s.shape.N ≤ b → s.place b ≡ nowhere
  pub counters : (q : ℕ) → s.shape.P ≤ q → s.counter q ≡ 0
  pub marked : (c : ℕ) → ¬ (s.mark c ≡ 0) → FilledCell s.shape (counted s) c
  pub held : (c : ℕ) → ¬ (s.holds c ≡ 0) → SlotCell s.shape c
  pub whole : (b : ℕ) → length (s.bytes b) ≡ s.shape.B

-- ---- All of it

pub record Reached (s : State) : Type 0 where
  pub range : InRange s  -- each number is in its range
  pub waiting : Waiting s.waiting s.place
  pub orders : Orders s.shape (counted s) s.order
  pub items : Items s.shape (counted s) s.order s.mark s.holds
  pub agree : Agree s.shape (counted s) s.partition s.place s.holds
  pub room : Room s
  pub full : Full s
  pub taken : Taken s.shape s.holds
  pub begun : Begun s
  pub running : Running s
  pub unbegun : Unbegun s
  pub reads : Reads s
  pub unheld : Unheld s
  pub released : Released s
  pub unworn : Unworn s
  pub unawaited : Unawaited s
  pub unread : Unread s
  pub fetched : Fetched s
  pub scanned : Scanned s
  pub apart : Apart s.outstanding  -- a slot never has two commands outstanding
  pub commands : Commands s
  pub tidy : Tidy s  -- what a saved form leaves out is no part of it
