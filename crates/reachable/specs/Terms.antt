-- Words that the theorems use: nothing of the invariant.
use Rattle.std.specs.Prelude.{◌≡◌, Bool, true, false, not, ◌&&◌, List, [], ◌∷◌, ◌++◌, map, ℕ, ◌+◌, ◌^◌, ◌≤◌, ◌<◌, eqb, ltb, length, if◌then◌else◌}
use Rattle.std.proofs.Math.Option.{Option, none, some}
use Rattle.rules.specs.Jobs.{queued, leave_queue, slot_count}
use Rattle.rules.specs.Laws.Single.Rules.{written_apart}
use Rattle.rules.specs.Levels.{grown, written_levels}
use Rattle.rules.specs.Laws.Answers.{opens}
use Rattle.rules.specs.Questions.{Ask, opening, request, turn, completion, collect, save, load, Call, number}
use Rattle.lists.specs.All.{All}
use Rattle.lists.specs.Search.{keep}
use Rattle.rules.specs.Run.{Outcome, step}
use Rattle.rules.specs.Shape.{Shape, cell, slots}
use Rattle.rules.specs.State.{State, Command, cmd, read, write}
use Rattle.rules.specs.Turn.{Step, idle, no_dummy, read_for_request, read_for_job, rebuild, write_next, decide}

-- ---- States that calls left

-- "What document 01 says of states that calls left holds from open and through loads of saved forms": the state after an open, whatever was
-- before it; after a call other than an open or a load; and after a load of what a save in such a state has put into its buffer, whenever that
-- was, and whatever is before the load. Any of these calls may be refused
pub data CallsLeft : State → Type 0 where
  opened : {t : State} (s : State) (c : Call) (h : Shape) → c.ask ≡ opening h → t ≡ (step s c).0 → CallsLeft t
  called : {s t : State} (c : Call) → CallsLeft s → opens c.ask ≡ false → t ≡ (step s c).0 → CallsLeft t
  loaded : {u t : State} (s : State) (c d : Call) → CallsLeft u → d.ask ≡ save → c.ask ≡ load (step u d).1.bytes → t ≡ (step s c).0 → CallsLeft t

-- A call of a list: a load is of a saved form
abbrev pub OfSaved : Ask → Type 0
OfSaved (opening h) = Unit {0}
OfSaved (request k b bs) = Unit {0}
OfSaved turn = Unit {0}
OfSaved (completion c bs) = Unit {0}
OfSaved collect = Unit {0}
OfSaved save = Unit {0}
OfSaved (load form) = (u : State) × (d : Call) × (CallsLeft u × (d.ask ≡ save) × (form ≡ (step u d).1.bytes))

-- ---- Document 02, P7: the run of the front job

-- From s to t the run ends, of the jobs that it began with: at least one, all of the front's partition. Exactly these leave the queue; the jobs for other
-- partitions stay as they are, in their order; the counter of the partition grows by as many, and no other. As many writes were sent as the written levels
-- have slots, which are no more than these jobs would have sent one after the other
pub record Ends (s t : State) : Type 0 where
  pub part : ℕ
  pub rest : List ℕ
  pub front : s.queue ≡ part ∷ rest
  pub some-jobs : 1 ≤ s.begun
  pub all-queued : s.begun ≤ queued s.queue part
  pub queue : t.queue ≡ leave_queue part s.begun s.queue
  pub fewer : length t.queue + s.begun ≡ length s.queue
  pub own : queued t.queue part + s.begun ≡ queued s.queue part
  pub others : keep (λ p. not (eqb part p)) t.queue ≡ keep (λ p. not (eqb part p)) s.queue
  pub counter : t.counter part ≡ grown s.shape (s.counter part) s.begun
  pub counters : (p : ℕ) → ¬ (p ≡ part) → t.counter p ≡ s.counter p
  pub begun : t.begun ≡ 0
  pub writes : s.sent ≡ slot_count (written_levels s.shape (s.counter part) s.begun)
  pub no_more : s.sent ≤ written_apart s.shape (s.counter part) s.begun

-- no completion of these calls moves the queue: no run ends
abbrev pub Unended : State → List Call → Type 0
Unended s [] = Unit {0}
Unended s (c ∷ cs) = ((d : Command) (bs : List ℕ) → c.ask ≡ completion d bs → (step s c).0.queue ≡ s.queue) × Unended (step s c).0 cs

-- ---- Slots and commands

-- Two slots are one
abbrev pub One : ℕ → ℕ → ℕ → ℕ → ℕ → ℕ → Type 0
One p m j q ℓ i = (p ≡ q) × (m ≡ ℓ) × (j ≡ i)

-- Two commands are in different slots
abbrev pub Elsewhere : Command → Command → Type 0
Elsewhere c d = One c.partition c.level c.slot d.partition d.level d.slot → ⊥

-- No two commands of a list are in one slot
pub data Apart : List Command → Type 0 where
  none_apart : Apart []
  one_apart : {c : Command} {cs : List Command} → All (Elsewhere c) cs → Apart cs → Apart (c ∷ cs)

-- the kind of the last command to slot (q, ℓ, i): k before command c, and c's if it is to that slot. A command of zeros is none
unfoldable pub last_kind : ℕ → ℕ → ℕ → ℕ → Command → ℕ
last_kind q ℓ i k c = if ltb 0 c.kind && (eqb c.partition q && (eqb c.level ℓ && eqb c.slot i)) then c.kind else k

-- each read of the slot comes when the last command to it was a write; k is the kind of the last one before the list
abbrev pub EachAfterWrite : ℕ → ℕ → ℕ → ℕ → List Outcome → Type 0
EachAfterWrite q ℓ i k [] = Unit {0}
EachAfterWrite q ℓ i k (o ∷ os) = (o.command ≡ cmd read q ℓ i → k ≡ write) × EachAfterWrite q ℓ i (last_kind q ℓ i k o.command) os

-- ---- Items

-- Of the items of level ℓ of q, in the numbers that they got when it was written: the slot of one below n holds a block or has been read, and that of
-- one from n on holds none. Where n is more than the blocks that there were, the dummies between have been read
pub record Numbered (h : Shape) (order mark holds : ℕ → ℕ) (q ℓ n : ℕ) : Type 0 where
  pub few : n ≤ 2 ^ ℓ
  pub blocks : (k : ℕ) → k < n → k < slots ℓ → holds (cell h q ℓ (order (cell h q ℓ k))) ≡ 0 → mark (cell h q ℓ (order (cell h q ℓ k))) ≡ 0
  pub dummies : (k : ℕ) → n ≤ k → k < slots ℓ → holds (cell h q ℓ (order (cell h q ℓ k))) ≡ 0

-- Slot i is that of an unread item from n on, and the items between n and it have been read
pub record LowestUnread (h : Shape) (order mark : ℕ → ℕ) (q ℓ n i : ℕ) : Type 0 where
  pub item : ℕ
  pub from : n ≤ item
  pub in_level : item < slots ℓ
  pub slot : order (cell h q ℓ item) ≡ i
  pub unread : mark (cell h q ℓ i) ≡ 1
  pub lower : (j : ℕ) → n ≤ j → j < item → mark (cell h q ℓ (order (cell h q ℓ j))) ≡ 0

-- ---- Document 02, P6: the reads that turns send for the request in hand

-- the first of these reads of q, as a turn's step
unfoldable pub first_of : ℕ → List (ℕ × ℕ) → Option Step
first_of q [] = none
first_of q (p ∷ ps) = some (read_for_request q p.0 p.1)

-- the read that a step sends for the request: level and slot
unfoldable pub own_reads : Step → List (ℕ × ℕ)
own_reads idle = []
own_reads no_dummy = []
own_reads (read_for_request q ℓ i) = (ℓ, i) ∷ []
own_reads (read_for_job q ℓ i) = []
own_reads (rebuild q t) = []
own_reads (write_next q t i) = []

unfoldable pub is_turn : Ask → Bool
is_turn (opening h) = false
is_turn (request k b bs) = false
is_turn turn = true
is_turn (completion c bs) = false
is_turn collect = false
is_turn save = false
is_turn (load form) = false

-- a call sends it if it is a turn that is accepted
unfoldable pub reads_by : State → Call → List (ℕ × ℕ)
reads_by s c = if is_turn c.ask && eqb (number s c) 0 then own_reads (decide s) else []

-- over a list of calls
unfoldable pub reads_sent : State → List Call → List (ℕ × ℕ)
reads_sent s [] = []
reads_sent s (c ∷ cs) = reads_by s c ++ reads_sent (step s c).0 cs

-- what outcomes tell of commands: a command of zeros is none
unfoldable pub commands_told : List Outcome → List Command
commands_told os = keep (λ (c : Command). ltb 0 c.kind) (map (λ (o : Outcome). o.command) os)

-- a level and a slot of q as a read
abbrev pub as_read : ℕ → ℕ × ℕ → Command
as_read q p = cmd read q p.0 p.1
