-- What holds, between turns, of the whole input, of all that it prints and of the session that it leaves.
use Rattle.std.specs.Prelude.{◌≡◌, Bool, true, false, List, [], ◌++◌, ℕ, ◌+◌, ◌-◌, ◌≤◌, length, take, drop, replicate}
use Rattle.client.specs.View.{state_of}
use Rattle.session.specs.Session as S
use Rattle.session.specs.Session.{prints, session, leaves, left, host_room}
use Rattle.printing.specs.Laws.{text_room}
use Rattle.session.specs.Answers.{kept}
use Rattle.stream.specs.declared.State.{State}
use Rattle.stream.specs.declared.Brought.{Brought}
use Rattle.stream.specs.declared.Brought.TheVariants.{Whole, Part, TooLong}
use Rattle.output.specs.Output.{out_room, total, total_most, Holds}
use Rattle.output.specs.Printed.{cut, printed}
use Rattle.output.specs.Paged.{paged}
use Rattle.stream.specs.Stream.{Ready, Brings, Buffers}

-- the host's bytes at the start of the program
abbrev pub zeros : List ℕ
zeros = replicate host_room 0

-- What an input gives: the session that it leaves, and all that it prints
abbrev pub given : List ℕ → List ℕ → S.Given
given host input = (left host (cut [] input), printed host input)

-- .. with a text printed before
abbrev pub behind_text : List ℕ → S.Given → S.Given
behind_text t g = (g.0, t ++ g.1)

-- Whatever bytes come after `past`, they give f of the lines that they make, the first of which begins with `had`
abbrev pub Follows : List ℕ → List ℕ → (List (List ℕ) → S.Given) → List ℕ → Type 0
Follows host past f had = (more : List ℕ) → given host (past ++ more) ≡ behind_text (printed host past) (f (cut had more))

-- What lines give in a session; at its start the first may be the tape
abbrev pub coming : Bool → S.Session → List (List ℕ) → S.Given
coming true k ls = (left k.host ls, session k.host ls)
coming false k ls = (leaves k ls, prints k ls)

-- the session that is kept in a state and the buffers
abbrev pub kept_in : State → Buffers → S.Session
kept_in s b = kept s.session b.memory (take s.tape b.tape) b.host

-- the bytes that were read and are not taken yet
abbrev pub waiting : State → List ℕ → List ℕ
waiting s chunk = take (s.to - s.from) (drop s.from chunk)

-- `past` are the bytes that were taken so far, in order, of those that were read
pub record History (host past : List ℕ) (s : State) (chunk line : List ℕ) (b : Buffers) : Type 0 where
  -- all that they print has left, but for what the output's buffer holds
  pub text : Holds (printed host past) b.out s.output
  -- the session that they leave is the one that is kept
  pub session : left host (cut [] past) ≡ kept_in s b
  -- until the session ends, the rest of the input gives what the session that is kept gives for it; the line that has begun is in its buffer
  pub goes : s.done ≡ false → Follows host past (coming s.first (kept_in s b)) (take s.len line)
  -- after its end, what was read and is not taken prints nothing, and leaves the session as it is
  pub over : s.done ≡ true → given host (past ++ waiting s chunk) ≡ given host past

-- What a turn takes of the bytes that wait: all up to and with the first newline, or all if there is none; none if the line does not fit into its buffer
abbrev pub taken : Brought → List ℕ → List ℕ
taken (Whole k i) bytes = take (i + 1) bytes
taken (Part k) bytes = bytes
taken TooLong bytes = []

-- .. and what it leaves: the others wait; or what a read brought waits, and all that was printed has left
abbrev pub Leaves : Brought → List ℕ → State → List ℕ → Type 0
Leaves (Whole k i) bytes r chunk = waiting r chunk ≡ drop (i + 1) bytes
Leaves (Part k) bytes r chunk = (r.from ≡ 0) × (r.output.at ≡ 0)
Leaves TooLong bytes r chunk = waiting r chunk ≡ bytes

-- What a turn promises: it carries every history on by the bytes that it takes
pub record Turned (s : State) (chunk line : List ℕ) (b : Buffers) (r : State) (chunk' line' : List ℕ) (e : Buffers) : Type 0 where
  pub ready : Ready r e.tape
  pub size : total r.output ≤ total s.output + text_room
  pub silent : r.output.silent ≡ s.output.silent
  pub found : Brought
  pub brings : Brings (waiting s chunk) (take s.len line) found line'
  pub leaves : Leaves found (waiting s chunk) r chunk'
  pub history : (host past : List ℕ) → History host past s chunk line b → History host (past ++ taken found (waiting s chunk)) r chunk' line' e

-- ---- The end

-- What is there when a session was followed (that it has come to its end is the code of `follow`): of all that some input prints the first bytes have left, and
-- the others are what the output's buffer holds; the state that the client and the memory stand for is the one that the input leaves; and the output is silent
-- or not
pub record Followed (host : List ℕ) (quiet : Bool) (r : State) (memory out : List ℕ) : Type 0 where
  pub input : List ℕ
  pub text : Holds (printed host input) out r.output
  pub state : state_of r.session.client memory ≡ (left host (cut [] input)).state
  pub silent : r.output.silent ≡ quiet
  pub room : r.output.at ≤ out_room
  pub count : total r.output ≤ total_most

-- n is the number of all bytes that an input prints
pub record Prints (host : List ℕ) (n : ℕ) : Type 0 where
  pub input : List ℕ
  pub all : n ≡ length (printed host input)

-- n is the number of all bytes of the page that an input leaves
pub record Pages (host : List ℕ) (n : ℕ) : Type 0 where
  pub input : List ℕ
  pub all : n ≡ length (paged host input)
