-- Every accepted call leaves each number of the state in its range.
use Rattle.std.specs.Prelude.{◌≡◌, true, List, ℕ, ◌-◌, ◌^◌, ◌≤◌, ◌<◌, length}
use Rattle.std.proofs.Math.Option.{Option, none, some}
use Rattle.lists.specs.All.{All, IfSome}
use Rattle.rules.specs.Shape.{Shape, cell, slots, within}
use Rattle.rules.specs.State.{State, Command, Place, nowhere, stored, Found, found_nowhere, found_cache, found_level, Request}
use Rattle.rules.specs.Ranges.{is_kind, bytes_of}
use Rattle.rules.specs.Laws.Waiting.{Waits}

abbrev pub PlaceIn : ℕ → Place → Type 0
PlaceIn top nowhere = Unit {0}
PlaceIn top (stored ℓ i) = (ℓ < top) × (i < slots ℓ)

abbrev pub FoundIn : ℕ → Option Found → Type 0
FoundIn top none = Unit {0}
FoundIn top (some found_nowhere) = Unit {0}
FoundIn top (some found_cache) = Unit {0}
FoundIn top (some (found_level ℓ)) = ℓ < top

pub record CommandIn (h : Shape) (c : Command) : Type 0 where
  pub kind : is_kind c.kind ≡ true
  pub partition : c.partition < h.P
  pub level : c.level < h.L
  pub slot : c.slot < slots c.level

pub record RequestIn (h : Shape) (r : Request) : Type 0 where
  pub kind : is_kind r.kind ≡ true
  pub block : r.block < h.N
  pub bytes : length r.bytes ≡ bytes_of h r.kind
  pub next : r.next < h.P
  pub evict : r.evict < h.P
  pub level : r.level ≤ h.L
  pub found : FoundIn h.L r.found
  pub awaits : r.awaits ≤ h.W

abbrev pub JobsIn : List ℕ → Option Request → Type 0
JobsIn qs none = length qs ≤ 64
JobsIn qs (some r) = length qs ≤ 62

-- `inRange`, as facts
pub record InRange (s : State) : Type 0 where
  pub shape : within s.shape ≡ true
  pub partitions : (b : ℕ) → b < s.shape.N → s.partition b < s.shape.P
  pub places : (b : ℕ) → b < s.shape.N → PlaceIn s.shape.L (s.place b)
  pub counters : (q : ℕ) → q < s.shape.P → s.counter q < 2 ^ s.shape.L
  pub orders : (q ℓ i : ℕ) → q < s.shape.P → ℓ < s.shape.L → i < slots ℓ → s.order (cell s.shape q ℓ i) < slots ℓ
  pub marks : (q ℓ i : ℕ) → q < s.shape.P → ℓ < s.shape.L → i < slots ℓ → s.mark (cell s.shape q ℓ i) ≤ 1
  pub holds : (q ℓ i : ℕ) → q < s.shape.P → ℓ < s.shape.L → i < slots ℓ → s.holds (cell s.shape q ℓ i) ≤ s.shape.N
  pub waiting : All (λ b. b < s.shape.N) s.waiting
  pub queue : All (λ q. q < s.shape.P) s.queue
  pub outstanding : All (CommandIn s.shape) s.outstanding
  pub begun : s.begun ≤ 64
  pub cursor : s.cursor ≤ slots s.shape.L - 2
  pub sent : s.sent ≤ slots s.shape.L - 2
  pub free : length s.outstanding ≤ s.shape.W
  pub request : IfSome (RequestIn s.shape) s.request
  pub jobs : JobsIn s.queue s.request
  pub cache : Waits s.shape.E s.waiting s.request
