-- What the functions over buffers say.
use Rattle.std.specs.Prelude.{◌≡◌, Bool, true, false, List, ◌++◌, ℕ, ◌+◌, ◌-◌, ◌≤◌, ◌<◌, length, take, get_or, eqb, Option, None, Some}
use Rattle.tape.specs.Tape.{words_of}
use Rattle.lines.specs.Lines.{line_of, tape_of, tape_room}
use Rattle.session.specs.Session.{ends}
use Rattle.printing.specs.Laws.{text_room}
use Rattle.session.specs.Answers.{Served, Answers, fresh}
use Rattle.session.specs.declared.Session.{Session}
use Rattle.stream.specs.declared.State.{State}
use Rattle.output.specs.declared.Output.{Output}
use Rattle.stream.specs.declared.Brought.{Brought}
use Rattle.stream.specs.declared.Brought.TheVariants.{Whole, Part, TooLong}
use Rattle.output.specs.Output.{out_room, total, Placed}

abbrev pub line_room : ℕ
line_room = 49153

-- what holds between turns: the session is served with its part of the tape's buffer, and each count is within its buffer
pub record Ready (s : State) (words : List ℕ) : Type 0 where
  pub served : Served s.session (take s.tape words)
  pub tape : s.tape ≤ tape_room
  pub from : s.from ≤ s.to
  pub to : s.to ≤ 65536
  pub len : s.len ≤ line_room
  pub at : s.output.at ≤ out_room

-- none of the first n bytes is a newline
abbrev pub Plain : ℕ → List ℕ → Type 0
Plain n bytes = (j : ℕ) → j < n → get_or bytes j 0 ≡ 10 → ⊥

-- A newline is at place i: the line has k bytes, those that it had and those before the newline
pub record Ended (bytes had : List ℕ) (k i : ℕ) (line : List ℕ) : Type 0 where
  pub room : k ≤ line_room
  pub within : i < length bytes
  pub newline : get_or bytes i 0 ≡ 10
  pub plain : Plain i bytes
  pub text : take k line ≡ had ++ take i bytes

-- No newline: all are taken
pub record Goes (bytes had : List ℕ) (k : ℕ) (line : List ℕ) : Type 0 where
  pub room : k ≤ line_room
  pub plain : Plain (length bytes) bytes
  pub text : take k line ≡ had ++ bytes

-- More bytes than there is room for come before a newline
pub record Past (bytes had : List ℕ) : Type 0 where
  pub more : line_room < length had + length bytes
  pub plain : Plain (line_room + 1 - length had) bytes

abbrev pub Brings : List ℕ → List ℕ → Brought → List ℕ → Type 0
Brings bytes had (Whole k i) line = Ended bytes had k i line
Brings bytes had (Part k) line = Goes bytes had k line
Brings bytes had TooLong line = Past bytes had

-- The buffers that an answer may change: the tape's, the memory that the calls are lent, the host's and the output's
pub record Buffers : Type 0 where
  pub tape : List ℕ
  pub memory : List ℕ
  pub host : List ℕ
  pub out : List ℕ

abbrev pub buffers : List ℕ → List ℕ → List ℕ → List ℕ → Buffers
buffers tape memory host out = record { tape = tape; memory = memory; host = host; out = out }

-- A line that is no tape. One that ends the session leaves all as it was. The answer to any other is what the definition gives, with the first n bytes of the
-- tape's buffer; its text stands behind what the output's buffer holds, at the start if all of that has left
abbrev pub Gives : Bool → Session → ℕ → Output → List ℕ → Buffers → State → Buffers → Type 0
Gives true s n o line b r e = (r.session ≡ s) × (r.output ≡ o) × (e ≡ b)
Gives false s n o line b r e = (p : Output) × ((out : List ℕ) × (Placed o b.out p out × (r.output.gone ≡ p.gone) × Answers s (line_of line) b.memory (take n b.tape) b.host out p.at (record { session = r.session; at = r.output.at }) e.memory e.host e.out))

-- the places of the bytes that wait, the length of the line that has begun, and whether the output is silent, are as they were
pub record Stays (s r : State) : Type 0 where
  pub from : r.from ≡ s.from
  pub to : r.to ≡ s.to
  pub len : r.len ≡ s.len
  pub silent : r.output.silent ≡ s.output.silent

pub record Responds (s : State) (line : List ℕ) (b : Buffers) (r : State) (e : Buffers) : Type 0 where
  pub ready : Ready r e.tape
  pub size : total r.output ≤ total s.output + text_room
  pub stays : Stays s r
  pub ended : ends (line_of line) ≡ r.done
  pub tape : r.tape ≡ s.tape
  pub first : r.first ≡ s.first
  pub gives : Gives (ends (line_of line)) s.session s.tape s.output line b r e

-- The first line: a tape is lent from then on, exactly its words, and prints nothing; without one the tape is empty, and the line is any other
abbrev pub Begins : Option (List ℕ) → State → List ℕ → Buffers → State → Buffers → Type 0
Begins (Some ws) s line b r e = (words_of (take r.tape e.tape) ≡ ws) × (r.session ≡ fresh) × (r.output ≡ s.output) × (r.done ≡ s.done) × (e ≡ buffers e.tape b.memory b.host b.out)
Begins None s line b r e = (r.tape ≡ 0) × (ends (line_of line) ≡ r.done) × Gives (ends (line_of line)) fresh 0 s.output line (buffers e.tape b.memory b.host b.out) r e

pub record Begun (s : State) (line : List ℕ) (b : Buffers) (r : State) (e : Buffers) : Type 0 where
  pub ready : Ready r e.tape
  pub size : total r.output ≤ total s.output + text_room
  pub stays : Stays s r
  pub first : r.first ≡ false
  pub begins : Begins (tape_of line) s line b r e

-- All that was printed has left, and what was read is at the start of its buffer; the session has ended if that is nothing
pub record Refilled (s r : State) : Type 0 where
  pub session : r.session ≡ s.session
  pub tape : r.tape ≡ s.tape
  pub first : r.first ≡ s.first
  pub len : r.len ≡ s.len
  pub at : r.output.at ≡ 0
  pub gone : r.output.gone ≡ total s.output
  pub silent : r.output.silent ≡ s.output.silent
  pub from : r.from ≡ 0
  pub to : r.to ≤ 65536
  pub done : r.done ≡ eqb r.to 0
