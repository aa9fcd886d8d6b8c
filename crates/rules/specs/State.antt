-- Document 01, "State and ranges": the state of a client.
use Rattle.std.specs.Prelude.{List, [], ℕ, ◌+◌}
use Rattle.std.proofs.Math.Option.{Option, none}
use Rattle.rules.specs.Shape.{Shape}

-- "One command: read or write, partition, level, slot." Kinds are 1 read and 2 write; a refusal reports a command of zeros.
pub record Command : Type 0 where
  pub kind : ℕ
  pub partition : ℕ
  pub level : ℕ
  pub slot : ℕ

abbrev pub cmd : ℕ → ℕ → ℕ → ℕ → Command
cmd k q ℓ i = record { kind = k; partition = q; level = ℓ; slot = i }

abbrev pub read : ℕ
read = 1

abbrev pub write : ℕ
write = 2

-- "Per block: its place: nowhere, waiting in the cache, or in a level as an item." Who waits is told by the list of waiting blocks; the place of
-- any other block is nowhere, or a slot of a level of its partition
pub data Place : Type 0 where
  nowhere : Place
  stored : ℕ → ℕ → Place

-- Document 02, P2: "The look-up of a place now also says nowhere, cache, or which level."
pub data Found : Type 0 where
  found_nowhere : Found
  found_cache : Found
  found_level : ℕ → Found

-- the number by which an answer tells it
unfoldable pub found_number : Found → ℕ
found_number found_nowhere = 0
found_number found_cache = 1
found_number (found_level ℓ) = ℓ + 2

-- "A request in hand": what was asked, its two draws, the level from which its reads are still to be sent. Document 02, P2: "the request carries it",
-- where its block was found; nothing while it is held. P4: how many of the commands outstanding, which are in the order of sending, were sent before it
-- ceased to be held or not after its last own read: it awaits those of its partition among them
pub record Request : Type 0 where
  pub kind : ℕ
  pub block : ℕ
  pub bytes : List ℕ
  pub next : ℕ
  pub evict : ℕ
  pub level : ℕ
  pub found : Option Found
  pub awaits : ℕ

pub record State : Type 0 where
  pub shape : Shape
  pub partition : ℕ → ℕ  -- of a block
  pub place : ℕ → Place  -- of a block
  pub bytes : ℕ → List ℕ  -- of a block
  pub waiting : List ℕ  -- the blocks in the cache, "with its age order": longest waiting first
  pub counter : ℕ → ℕ  -- of a partition
  pub order : ℕ → ℕ  -- "an order of items over slots": the slot of an item, at the item's cell
  pub mark : ℕ → ℕ  -- "which slots have been read since the level was written": 1 if written and not read since, at the slot's cell
  pub holds : ℕ → ℕ  -- which block is in a slot: 0 for a dummy, b + 1 for block b, at the slot's cell
  pub queue : List ℕ  -- "a first-in first-out queue of jobs, each a partition number", front first
  pub begun : ℕ  -- "a job has begun once one of its commands is sent": how many jobs the front one runs for, 0 until it has begun
  pub cursor : ℕ  -- how many slots of its sources the front job has gone over
  pub sent : ℕ  -- how many writes the front job has sent: 0 until its orders are drawn
  pub outstanding : List Command
  pub request : Option Request

-- "A closed state, all zeros."
unfoldable pub closed : State
closed = record {
  shape = record { N = 0; P = 0; L = 0; B = 0; E = 0; W = 0 };
  partition = λ b. 0;
  place = λ b. nowhere;
  bytes = λ b. [];
  waiting = [];
  counter = λ q. 0;
  order = λ c. 0;
  mark = λ c. 0;
  holds = λ c. 0;
  queue = [];
  begun = 0;
  cursor = 0;
  sent = 0;
  outstanding = [];
  request = none;
}
