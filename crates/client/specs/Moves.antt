-- A client with one number changed; and what it means that a function moves client and memory to another state.
use Rattle.std.specs.Prelude.{◌≡◌, List, ℕ, ◌<◌, ◌≤◌, length, drop}
use Rattle.std.proofs.Common.{ap, ◌∙◌}
use Rattle.rules.specs.Shape.{slots}
use Rattle.rules.specs.State.{State}
use Rattle.rules.specs.Memory.{needed}
use Rattle.memory.specs.declared.Shape.{Shape as Numbers}
use Rattle.memory.specs.Tables.{Tables, tables_of}
use Rattle.memory.specs.Fits.{shape_of, Fits}
use Rattle.client.specs.declared.Client.{Client}
use Rattle.client.specs.declared.Request.{Request}
use Rattle.client.specs.View.{view, state_of}

-- the same request, to go on from level n; with k commands that it awaits
abbrev pub at_level : ℕ → ℕ → Request → Request
at_level n k r = record { kind = r.kind; block = r.block; next = r.next; evict = r.evict; level = n; found = r.found; awaits = k }

-- the same request, whose block was found where the number n says; with k commands that it awaits
abbrev pub at_found : ℕ → ℕ → Request → Request
at_found n k r = record { kind = r.kind; block = r.block; next = r.next; evict = r.evict; level = r.level; found = n; awaits = k }

-- the same request, which awaits k commands
abbrev pub awaiting : ℕ → Request → Request
awaiting k r = record { kind = r.kind; block = r.block; next = r.next; evict = r.evict; level = r.level; found = r.found; awaits = k }

-- no request in hand
abbrev pub no_request : Request
no_request = record { kind = 0; block = 0; next = 0; evict = 0; level = 0; found = 0; awaits = 0 }

-- no request in hand, no command outstanding, no job begun
abbrev pub resting_client : Numbers → ℕ → ℕ → Client
resting_client h jobs waiting = record { shape = h; request = no_request; jobs = jobs; begun = 0; cursor = 0; sent = 0; waiting = waiting; out = 0 }

abbrev pub with_request : Request → Client → Client
with_request x c = record { shape = c.shape; request = x; jobs = c.jobs; begun = c.begun; cursor = c.cursor; sent = c.sent; waiting = c.waiting; out = c.out }

abbrev pub with_jobs : ℕ → Client → Client
with_jobs x c = record { shape = c.shape; request = c.request; jobs = x; begun = c.begun; cursor = c.cursor; sent = c.sent; waiting = c.waiting; out = c.out }

abbrev pub with_begun : ℕ → Client → Client
with_begun x c = record { shape = c.shape; request = c.request; jobs = c.jobs; begun = x; cursor = c.cursor; sent = c.sent; waiting = c.waiting; out = c.out }

abbrev pub with_cursor : ℕ → Client → Client
with_cursor x c = record { shape = c.shape; request = c.request; jobs = c.jobs; begun = c.begun; cursor = x; sent = c.sent; waiting = c.waiting; out = c.out }

abbrev pub with_sent : ℕ → Client → Client
with_sent x c = record { shape = c.shape; request = c.request; jobs = c.jobs; begun = c.begun; cursor = c.cursor; sent = x; waiting = c.waiting; out = c.out }

abbrev pub with_waiting : ℕ → Client → Client
with_waiting x c = record { shape = c.shape; request = c.request; jobs = c.jobs; begun = c.begun; cursor = c.cursor; sent = c.sent; waiting = x; out = c.out }

abbrev pub with_out : ℕ → Client → Client
with_out x c = record { shape = c.shape; request = c.request; jobs = c.jobs; begun = c.begun; cursor = c.cursor; sent = c.sent; waiting = c.waiting; out = x }

-- the memory m is long enough for the client's shape, whose numbers are within bounds
abbrev pub Room : Client → List ℕ → Type 0
Room c m = Fits (shape_of c.shape) (length m)

-- Room, and the jobs that are queued fit their table
abbrev pub QueueRoom : Client → List ℕ → Type 0
QueueRoom c m = Room c m × (c.jobs ≤ 64)

-- Room, and the blocks that wait fit their table
abbrev pub CacheRoom : Client → List ℕ → Type 0
CacheRoom c m = Room c m × (c.waiting ≤ c.shape.n)

-- Room, and partition q has a level ℓ
abbrev pub HasLevel : Client → List ℕ → ℕ → ℕ → Type 0
HasLevel c m q ℓ = Room c m × (q < c.shape.p) × (ℓ < c.shape.l)

-- Room, and partition q has a level ℓ with a slot i
abbrev pub HasSlot : Client → List ℕ → ℕ → ℕ → ℕ → Type 0
HasSlot c m q ℓ i = Room c m × (q < c.shape.p) × (ℓ < c.shape.l) × (i < slots ℓ)

-- Client and memory stand for the state s, and what is past the memory that the shape needs is as it was in m₀
pub record Stands (c : Client) (m₀ m : List ℕ) (s : State) : Type 0 where
  pub state : state_of c m ≡ s
  pub tail : drop (needed (shape_of c.shape)) m ≡ drop (needed (shape_of c.shape)) m₀

-- from the tables
pub stands : (c : Client) (m₀ m : List ℕ) (t : Tables) (s : State) → tables_of (shape_of c.shape) m ≡ t → t.tail ≡ drop (needed (shape_of c.shape)) m₀ → view c t ≡ s → Stands c m₀ m s
unfolding state_of tables_of
stands c m₀ m t s e l v = record { state = ap (view c) e ∙ v; tail = ap (λ (x : Tables). x.tail) e ∙ l }

-- the same state in other words
pub restated : {c : Client} {m₀ m : List ℕ} {s s' : State} → Stands c m₀ m s → s ≡ s' → Stands c m₀ m s'
restated a e = record { state = a.state ∙ e; tail = a.tail }

-- one move after the other
pub then : (c c' : Client) (m₀ m m' : List ℕ) (s s' : State) → c'.shape ≡ c.shape → Stands c m₀ m s → Stands c' m m' s' → Stands c' m₀ m' s'
then c c' m₀ m m' s s' e a b = record { state = b.state; tail = b.tail ∙ rw e a.tail }
