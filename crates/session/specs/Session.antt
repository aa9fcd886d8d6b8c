-- Document 01, "A session, whole": what each line does and prints, by the rules' five calls.
use Rattle.std.specs.Prelude.{Bool, true, false, ◌&&◌, List, [], ◌∷◌, ◌++◌, ℕ, ◌+◌, ◌-◌, ◌*◌, take, drop, eqb, leb, if◌then◌else◌, None, Some}
use Rattle.rules.specs.Shape.{Shape, slots, offset}
use Rattle.rules.specs.State.{State, Command, read, write, closed}
use Rattle.rules.specs.Questions.{Ask, opening, request, turn, completion, collect, Call}
use Rattle.rules.specs.Run.{Outcome, step}
use Rattle.memory.specs.Parts.{replaced}
use Rattle.lines.specs.Lines.{Line, opens, reads, writes, turns, collects, malformed, line_of, tape_of}
use Rattle.printing.specs.Text.{number_text, command_text, contents_text}

-- What a session keeps from line to line: the client's state, what is left of the tape, and the bytes of the host in memory
pub record Session : Type 0 where
  pub state : State
  pub words : List ℕ
  pub host : List ℕ

-- "It serves N up to 64 and P × (2^(L+1) − 2) × B up to 16,384": so many blocks, and so many bytes at its host
abbrev pub most_blocks : ℕ
most_blocks = 64

abbrev pub host_room : ℕ
host_room = 16384

unfoldable pub serves : Shape → Bool
serves h = leb h.N most_blocks && leb (h.P * (slots h.L - 2) * h.B) host_room

-- the bytes of memory that it has for the calls: enough for every shape that it serves (`served-fits`)
abbrev pub memory_room : ℕ
memory_room = 133120

-- ".. and prints 2 for a larger O whose shape is within bounds": no memory is lent for one
unfoldable pub lent : Shape → ℕ
lent h = if serves h then memory_room else 0

-- ---- The host in memory

-- where a slot's B bytes begin: the slots of a partition one after another, levels ascending, then those of the next partition
unfoldable pub start : Shape → Command → ℕ
start h c = (c.partition * (slots h.L - 2) + offset c.level c.slot) * h.B

unfoldable pub fetched : Shape → Command → List ℕ → List ℕ
fetched h c host = take h.B (drop (start h c) host)

-- a write's bytes lie in its slot from then on; a read leaves all as it was
unfoldable pub stored : Shape → Outcome → List ℕ → List ℕ
stored h o host = if eqb o.command.kind write then replaced (start h o.command) host o.bytes else host

-- ---- What a line does

-- "each call is lent what is left of it" (the tape)
abbrev pub call : Ask → ℕ → List ℕ → ℕ → Call
call a memory words buffer = record { ask = a; memory = memory; words = words; buffer = buffer }

-- after a call: its state, and the tape without the words that it took
unfoldable pub went : Session → State × Outcome → Session
went s r = record { state = r.0; words = drop r.1.taken s.words; host = s.host }

-- what a session is after a line, and what the line prints
abbrev pub Given : Type 0
Given = Session × List ℕ

-- "A refused line prints its number alone"; an accepted one the text given
unfoldable pub answered : Session → State × Outcome → Given → Given
answered s r given = if eqb r.1.number 0 then given else (s, number_text r.1.number)

-- "then completion of its command by a host in memory": a read brings the slot's bytes
unfoldable pub brought : Shape → Command → List ℕ → List ℕ
brought h c host = if eqb c.kind read then fetched h c host else []

unfoldable pub completed : Session → Outcome → Session
completed s o = record {
  state = (step s.state (call (completion o.command (brought s.state.shape o.command s.host)) memory_room [] 0)).0;
  words = s.words;
  host = stored s.state.shape o s.host;
}

-- O, R and W print the number alone. "A refused O changes nothing, and an accepted one starts a new store while the tape goes on"
unfoldable pub replied : Session → State × Outcome → Given
replied s r = answered s r (went s r, number_text 0)

unfoldable pub turned : Session → State × Outcome → Given
turned s r = answered s r (completed (went s r) r.1, command_text r.1.command)

unfoldable pub collected : Session → State × Outcome → Given
collected s r = answered s r (went s r, contents_text r.1.bytes)

-- The buffers of a turn and of a collect have exactly B bytes
unfoldable pub gives : Session → Line → Given
gives s (opens h) = replied s (step closed (call (opening h) (lent h) s.words 0))
gives s (reads b) = replied s (step s.state (call (request read b []) memory_room s.words 0))
gives s (writes b bs) = replied s (step s.state (call (request write b bs) memory_room s.words 0))
gives s turns = turned s (step s.state (call turn memory_room s.words s.state.shape.B))
gives s collects = collected s (step s.state (call collect memory_room s.words s.state.shape.B))
gives s malformed = (s, [])

-- ---- What a session prints

-- "a malformed line prints nothing and ends the session"
unfoldable pub ends : Line → Bool
ends (opens h) = false
ends (reads b) = false
ends (writes b bs) = false
ends turns = false
ends collects = false
ends malformed = true

-- the lines that end with a newline, in turn
unfoldable pub prints : Session → List (List ℕ) → List ℕ
prints s [] = []
prints s (l ∷ ls) = if ends (line_of l) then [] else ((gives s (line_of l)).1 ++ prints (gives s (line_of l)).0 ls)

-- "Without T the tape is empty." Before an accepted O the state is closed, and "the other lines print 2"
unfoldable pub begun : List ℕ → List ℕ → Session
begun host words = record { state = closed; words = words; host = host }

-- "T may only be the first line"
unfoldable pub session : List ℕ → List (List ℕ) → List ℕ
session host [] = []
session host (l ∷ ls) = elim (tape_of l) [ None ↦ prints (begun host []) (l ∷ ls) | Some ws ↦ prints (begun host ws) ls ]

-- ---- What a session leaves

-- the session after these lines; a malformed one ends it
unfoldable pub leaves : Session → List (List ℕ) → Session
leaves s [] = s
leaves s (l ∷ ls) = if ends (line_of l) then s else leaves (gives s (line_of l)).0 ls

-- ..from its start, where the first line may be the tape
unfoldable pub left : List ℕ → List (List ℕ) → Session
left host [] = begun host []
left host (l ∷ ls) = elim (tape_of l) [ None ↦ leaves (begun host []) (l ∷ ls) | Some ws ↦ leaves (begun host ws) ls ]
