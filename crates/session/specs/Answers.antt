-- What the functions over slices say of a line's answer.
use Rattle.std.specs.Prelude.{◌≡◌, refl, true, List, [], ℕ, ◌+◌, ◌≤◌, ◌<◌, length, drop, eqb, if◌then◌else◌}
use Rattle.std.proofs.Common.{arith}
use Rattle.rules.specs.Shape.{Shape, slots}
use Rattle.rules.specs.State.{Command, write}
use Rattle.rules.specs.Questions.{request, completion}
use Rattle.rules.specs.Run.{step}
use Rattle.memory.specs.Parts.{replaced}
use Rattle.memory.specs.Fits.{shape_of}
use Rattle.client.specs.declared.Client.{Client}
use Rattle.client.specs.View.{state_of}
use Rattle.tape.specs.Tape.{words_of}
use Rattle.lines.specs.Lines.{Line}
use Rattle.contract.specs.Answers.{Answer, cleared_client}
use Rattle.contract.specs.Meets.{command_of, closed_is}
use Rattle.lists.specs.Written.{Written}
use Rattle.printing.specs.Laws.{text_room}
use Rattle.session.specs.Session as S
use Rattle.session.specs.Session.{serves, gives, memory_room, call, replied, brought, start, begun}
use Rattle.session.specs.declared.Session.{Session}
use Rattle.session.specs.declared.Printed.{Printed}

-- the session that is kept, with the memory, the tape and the host's bytes
abbrev pub kept : Session → List ℕ → List ℕ → List ℕ → S.Session
kept s m tape host = record { state = state_of s.client m; words = drop s.taken (words_of tape); host = host }

-- a session begins with a closed state and the whole tape
abbrev pub fresh : Session
fresh = record { client = cleared_client; taken = 0 }

-- What holds between lines: the shape is served, so that its slots fit into the host's bytes and its blocks into the buffers, and no more words are
-- taken than there are
pub record Served (s : Session) (tape : List ℕ) : Type 0 where
  pub serves : serves (shape_of s.client.shape) ≡ true
  pub block : s.client.shape.b ≤ 512
  pub taken : s.taken ≤ length (words_of tape)

pub fresh-served : (tape : List ℕ) → Served fresh tape
unfolding S.serves
fresh-served tape = record { serves = refl; block = omega arith; taken = omega arith }

pub fresh_kept : (m tape host : List ℕ) → kept fresh m tape host ≡ begun host (words_of tape)
unfolding begun
fresh_kept m tape host = λ i. record { state = closed_is m i; words = words_of tape; host = host }

-- What is given is what is kept after the line (r, the memory m, the host's bytes) and printed (from the place `at` on); no text is longer than that
pub record Gives (g : S.Given) (tape out : List ℕ) (at : ℕ) (r : Printed) (m host out' : List ℕ) : Type 0 where
  pub session : kept r.session m tape host ≡ g.0
  pub text : Written out at g.1 out' r.at
  pub served : Served r.session tape
  pub room : r.at ≤ at + text_room

-- The line's answer is what the definition gives
abbrev pub Answers : Session → Line → List ℕ → List ℕ → List ℕ → List ℕ → ℕ → Printed → List ℕ → List ℕ → List ℕ → Type 0
Answers s l m tape host out at r m' host' out' = Gives (gives (kept s m tape host) l) tape out at r m' host' out'

-- .. by a function that does not get the host's bytes, and leaves them as they are
abbrev pub AnswersApart : Session → Line → List ℕ → List ℕ → List ℕ → ℕ → Printed → List ℕ → List ℕ → Type 0
AnswersApart s l m tape out at r m' out' = (host : List ℕ) → Answers s l m tape host out at r m' host out'

-- A request, by its kind and contents
abbrev pub Asks : Session → ℕ → ℕ → List ℕ → List ℕ → List ℕ → List ℕ → ℕ → Printed → List ℕ → List ℕ → Type 0
Asks s kind block bs m tape out at r m' out' = (host : List ℕ)
    → Gives (replied (kept s m tape host) (step (state_of s.client m) (call (request kind block bs) memory_room (drop s.taken (words_of tape)) 0))) tape out at r m' host out'

-- A command's slot in a shape that is served
pub record Slot (h : Shape) (c : Command) : Type 0 where
  pub partition : c.partition < h.P
  pub level : c.level < h.L
  pub slot : c.slot < slots c.level
  pub serves : serves h ≡ true
  pub partitions : h.P ≤ 64
  pub levels : h.L ≤ 8
  pub block : h.B ≤ 512

-- The client c and the host's bytes after the command of a turn's answer r is completed; the turn left `bytes` in its buffer
pub record Completes (r : Answer) (m host bytes : List ℕ) (c : Client) (m' host' : List ℕ) : Type 0 where
  pub state : state_of c m' ≡ (step (state_of r.client m) (call (completion (command_of r) (brought (shape_of r.client.shape) (command_of r) host)) (length m) [] 0)).0
  pub stored : host' ≡ (if eqb r.kind write then replaced (start (shape_of r.client.shape) (command_of r)) host bytes else host)
