-- Demand 2, the plain array: over every sequence of calls from one open up to the next, each given the state the last one left, and a host
-- that completes each read with the bytes last written to that slot, in whatever order, collected contents are those of a plain array
-- of blocks that starts as zeros. Document 02, P5: "the array goes on through a load if no call came between it and the save of its form".
-- To believe the claim, read this file and crate `rules`. It is proved in Theorem.antt; Hosts.antt has two hosts that meet its premise.
use Rattle.std.specs.Prelude.{◌≡◌, ◌⊎◌, ◌&&◌, List, [], ◌∷◌, ℕ, replicate, eqb, if◌then◌else◌}
use Rattle.std.proofs.Math.Option.{Option, none, some}
use Rattle.rules.specs.Resumes.{Resumes}
use Rattle.lists.specs.Tables.{put}
use Rattle.rules.specs.Questions.{Ask, opening, request, turn, completion, collect, save, load, Call}
use Rattle.rules.specs.Run.{Outcome, run}
use Rattle.rules.specs.Shape.{Shape}
use Rattle.rules.specs.State.{State, Command, read, write}

-- ---- The host

-- bytes for each slot: partition, level, slot
abbrev pub Slots : Type 0
Slots = ℕ → ℕ → ℕ → List ℕ

-- the bytes of the write last sent to each slot, and what the host has there
pub record Host : Type 0 where
  pub last : Slots
  pub has : Slots

-- a command that is a write leaves its bytes in its slot
unfoldable pub store : Command → List ℕ → Slots → Slots
store c bs f q ℓ i = if eqb c.kind write && (eqb q c.partition && (eqb ℓ c.level && eqb i c.slot)) then bs else f q ℓ i

-- a turn's write is sent with the outcome's bytes. (The command of any other outcome is one of zeros, which is no write)
unfoldable pub sends : Slots → Outcome → Slots
sends last o = store o.command o.bytes last

-- from one call to the next the host may take into any slot the bytes last sent to it: at once, later, or never before it must
abbrev pub Moves : Host → Slots → Type 0
Moves m x = (q ℓ i : ℕ) → (x q ℓ i ≡ m.has q ℓ i) ⊎ (x q ℓ i ≡ m.last q ℓ i)

-- when a write's completion is accepted, the host has taken its bytes; when a read's is, it brings what the host has
abbrev pub Brings : Slots → Slots → Ask → Type 0
Brings last x (opening h) = Unit {0}
Brings last x (request k b bs) = Unit {0}
Brings last x turn = Unit {0}
Brings last x (completion c bs) = (c.kind ≡ write → x c.partition c.level c.slot ≡ last c.partition c.level c.slot)
    × (c.kind ≡ read → bs ≡ x c.partition c.level c.slot)
Brings last x collect = Unit {0}
Brings last x save = Unit {0}
Brings last x (load form) = Unit {0}

-- The host of a list of calls: at each call it has some map x that it may have moved to. Nothing is asked of the order of completions, of
-- what is lent, or of calls that are refused
abbrev pub Honest : Host → List Call → List Outcome → Type 0
Honest m [] os = Unit {0}
Honest m (c ∷ cs) [] = Unit {0}
Honest m (c ∷ cs) (o ∷ os) = (x : Slots) × (Moves m x × (o.number ≡ 0 → Brings m.last x c.ask) × Honest (record { last = sends m.last o; has = x }) cs os)

-- ---- The array

-- a request, as it was asked
pub record Asked : Type 0 where
  pub kind : ℕ
  pub block : ℕ
  pub bytes : List ℕ

-- the request accepted and not yet collected, and a plain array of blocks
pub record Expected : Type 0 where
  pub asked : Option Asked
  pub array : ℕ → List ℕ

-- a collected request: a write changes its block
unfoldable pub change : Option Asked → (ℕ → List ℕ) → ℕ → List ℕ
change none array = array
change (some r) array = if eqb r.kind write then put r.block r.bytes array else array

-- after an accepted call
unfoldable pub next : Expected → Ask → Expected
next m (opening h) = record { asked = none; array = λ b. replicate h.B 0 }
next m (request k b bs) = record { asked = some (record { kind = k; block = b; bytes = bs }); array = m.array }
next m turn = m
next m (completion c bs) = m
next m collect = record { asked = none; array = change m.asked m.array }
next m save = m
next m (load form) = m

-- a refused call changes nothing of it
unfoldable pub expects : Expected → Ask → Outcome → Expected
expects m a o = if eqb o.number 0 then next m a else m

-- an accepted collect follows an accepted request, and hands out what the array has at its block
abbrev pub Has : Option Asked → (ℕ → List ℕ) → List ℕ → Type 0
Has none array bs = ⊥
Has (some r) array bs = bs ≡ array r.block

abbrev pub Hands : Expected → Ask → Outcome → Type 0
Hands m (opening h) o = Unit {0}
Hands m (request k b bs) o = Unit {0}
Hands m turn o = Unit {0}
Hands m (completion c bs) o = Unit {0}
Hands m collect o = Has m.asked m.array o.bytes
Hands m save o = Unit {0}
Hands m (load form) o = Unit {0}

-- The store of a list of calls
abbrev pub Plain : Expected → List Call → List Outcome → Type 0
Plain m [] os = Unit {0}
Plain m (c ∷ cs) [] = Unit {0}
Plain m (c ∷ cs) (o ∷ os) = (o.number ≡ 0 → Hands m c.ask o) × Plain (expects m c.ask o) cs os

-- ---- Demand 2: whatever was before the open (state, host, array), whatever calls follow it, each load of the form that the call just before it
-- has saved. A later open starts a new array; a save and a load change nothing of it
abbrev pub Claim : Type 0
Claim = (s : State) (host : Host) (m : Expected) (h : Shape) (c : Call) (cs : List Call) → c.ask ≡ opening h
    → Resumes [] (c ∷ cs) (run s (c ∷ cs)) → Honest host (c ∷ cs) (run s (c ∷ cs)) → Plain m (c ∷ cs) (run s (c ∷ cs))
