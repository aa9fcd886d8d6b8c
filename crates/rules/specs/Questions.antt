-- Document 01, "Questions, and the number when the reply is no"; document 02, P5, the questions of saving and loading.
use Rattle.std.specs.Prelude.{Bool, true, false, not, ◌&&◌, ◌||◌, List, [], ◌∷◌, ℕ, length, replicate, ltb, leb, eqb, if◌then◌else◌}
use Rattle.std.proofs.Math.Option.{Option, none, some}
use Rattle.lists.specs.Tests.{every}
use Rattle.lists.specs.Search.{any, is_none, member}
use Rattle.rules.specs.Shape.{Shape, within}
use Rattle.rules.specs.State.{Command, read, write, Request, State}
use Rattle.rules.specs.Ranges.{is_kind, bytes_of, in_range}
use Rattle.rules.specs.Memory.{needed}
use Rattle.rules.specs.Draws.{draws}
use Rattle.rules.specs.Jobs.{capacity}
use Rattle.rules.specs.Rebuild.{gathered}
use Rattle.rules.specs.Turn.{Step, idle, no_dummy, read_for_request, read_for_job, rebuild, write_next, decide, command, step_bounds}
use Rattle.rules.specs.Completion.{is_command}
use Rattle.rules.specs.Collect.{finished}
use Rattle.rules.specs.Form.Sums.{summed}
use Rattle.rules.specs.Form.Payload.{saved_form}
use Rattle.rules.specs.Form.Longest.{longest}
use Rattle.rules.specs.Form.Loading.{loads, loaded_form}

-- What is asked
pub data Ask : Type 0 where
  opening : Shape → Ask
  request : ℕ → ℕ → List ℕ → Ask  -- kind, block, contents
  turn : Ask
  completion : Command → List ℕ → Ask
  collect : Ask
  save : Ask
  load : List ℕ → Ask  -- a form's bytes

-- ..and what is lent with it: the bytes of memory, the words of the tape, the bytes of the buffer
pub record Call : Type 0 where
  pub ask : Ask
  pub memory : ℕ
  pub words : List ℕ
  pub buffer : ℕ

-- The bounds of the draws of a call that is accepted
unfoldable pub bounds : State → Ask → List ℕ
bounds s (opening h) = replicate h.N h.P
bounds s (request k b bs) = s.shape.P ∷ s.shape.P ∷ []
bounds s turn = step_bounds (decide s)
bounds s (completion c bs) = []
bounds s collect = []
bounds s save = []
bounds s (load form) = []

-- "Memory long enough, each number of the state in its range"
unfoldable pub ready : State → ℕ → Bool
ready s memory = leb (needed s.shape) memory && in_range s

-- "A command to send?"
unfoldable pub sends : Step → Bool
sends idle = false
sends no_dummy = true
sends (read_for_request q ℓ i) = true
sends (read_for_job q ℓ i) = true
sends (rebuild q ls) = true
sends (write_next q t i) = true

-- "A step that lacks an unread dummy, or would gather more blocks than the target holds", than the written levels hold, "answers 2."
unfoldable pub possible : State → Step → Bool
possible s idle = true
possible s no_dummy = false
possible s (read_for_request q ℓ i) = true
possible s (read_for_job q ℓ i) = true
possible s (rebuild q ls) = leb (length (gathered s q)) (capacity ls)
possible s (write_next q t i) = true

unfoldable pub in_hand : (Request → Bool) → Option Request → Bool
in_hand p none = false
in_hand p (some r) = p r

-- "While a request is in hand, a command outstanding or a job begun": none is
unfoldable pub at_rest : State → Bool
at_rest s = every (is_none s.request ∷ eqb (length s.outstanding) 0 ∷ eqb s.begun 0 ∷ [])

-- The questions of a call in their order, each with the number of a no
unfoldable pub questions : State → Ask → ℕ → List ℕ → ℕ → List (Bool × ℕ)
questions s (opening h) memory words buffer =
    (within h, 1)
    ∷ (leb (needed h) memory, 2)
    ∷ (not (is_none (draws (bounds s (opening h)) words)), 3) ∷ []
questions s (request k b bs) memory words buffer =
    (ready s memory && is_kind k, 2)
    ∷ (is_none s.request, 4)
    ∷ (ltb b s.shape.N, 5)
    ∷ (eqb (length bs) (bytes_of s.shape k), 6)
    ∷ (leb (length s.queue) 62, 7)
    ∷ (ltb (length s.waiting) s.shape.E || member b s.waiting, 8)
    ∷ (not (is_none (draws (bounds s (request k b bs)) words)), 3) ∷ []
questions s turn memory words buffer =
    (ready s memory, 2)
    ∷ (ltb (length s.outstanding) s.shape.W, 9)
    ∷ (sends (decide s), 10)
    ∷ (not (eqb (command (decide s)).kind write) || eqb buffer s.shape.B, 15)
    ∷ (not (is_none (draws (bounds s turn) words)), 3)
    ∷ (possible s (decide s), 2) ∷ []
questions s (completion c bs) memory words buffer =
    (ready s memory && is_kind c.kind, 2)
    ∷ (any (is_command c) s.outstanding, 11)
    ∷ (eqb (length bs) (if eqb c.kind read then s.shape.B else 0), 12) ∷ []
questions s collect memory words buffer =
    (ready s memory, 2)
    ∷ (in_hand (λ r. true) s.request, 13)
    ∷ (in_hand (finished s) s.request, 14)
    ∷ (eqb buffer s.shape.B, 15) ∷ []
-- "After 2, which covers the form's buffer, saving replies 16 ..". The last 2 is for states that no calls left, where one block may wait twice
questions s save memory words buffer =
    (ready s memory && leb (longest s.shape) buffer, 2)
    ∷ (at_rest s, 16)
    ∷ (leb (length (saved_form s)) buffer, 2) ∷ []
-- "Loading replies 17 .., then 18 .., then 2 for lent memory too short."
questions s (load form) memory words buffer =
    (summed form, 17)
    ∷ (loads form, 18)
    ∷ (leb (needed (loaded_form form).shape) memory, 2) ∷ []

-- "The first no decides."
unfoldable pub first_no : List (Bool × ℕ) → ℕ
first_no [] = 0
first_no (x ∷ xs) = if x.0 then first_no xs else x.1

unfoldable pub number : State → Call → ℕ
number s c = first_no (questions s c.ask c.memory c.words c.buffer)
