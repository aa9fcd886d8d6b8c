-- What is public of a call and of a state, and the number and the step that follow from it.
use Rattle.std.specs.Prelude.{Bool, true, false, not, ◌&&◌, ◌||◌, List, [], ◌∷◌, ℕ, length, replicate, eqb, leb, ltb, if◌then◌else◌}
use Rattle.std.proofs.Math.Option.{Option, none, some, get_or}
use Rattle.lists.specs.Search.{keep, any, all, below, is_none, member}
use Rattle.rules.specs.Memory.{needed}
use Rattle.rules.specs.Completion.{is_command}
use Rattle.rules.specs.Turn.{Step, idle, no_dummy, read_for_request, read_for_job, rebuild, write_next, first_read, job_step, command, step_bounds}
use Rattle.rules.specs.Questions
use Rattle.rules.specs.Questions.{Ask, Call, in_hand, sends, first_no, number, at_rest}
use Rattle.rules.specs.Form.Payload.{saved_form}
use Rattle.rules.specs.Form.Longest.{longest}
use Rattle.rules.specs.Ranges.{is_kind, bytes_of}
use Rattle.rules.specs.Shape.{Shape, within, slots, cell}
use Rattle.rules.specs.Setters.{set_partition, set_place, set_bytes, set_waiting, set_order, set_holds, set_request, ◌▷◌}
use Rattle.rules.specs.State.{Command, read, write, nowhere, Request, State, Found, found_nowhere}
use Rattle.rules.specs.Collect.{finished}
use Rattle.rules.specs.Request.{held}
use Rattle.rules.specs.Reader.{levels_left}
use Rattle.matching.specs.Keyed.{Key}

-- ---- The calls of a list: an open, which comes first, and later ones; each with the memory and the words lent, and a later one's buffer

-- what a later call asks: rules' `Ask`, but for an open
pub data Later : Type 0 where
  later-request : ℕ → ℕ → List ℕ → Later
  later-turn : Later
  later-completion : Command → List ℕ → Later
  later-collect : Later
  later-save : Later
  later-reload : ℕ → ℕ → Later  -- the load of what a save just before it has written; memory and buffer of that save

-- memory and words; memory, words and buffer
pub data Entry : Type 0 where
  first : ℕ → ℕ → Entry
  later : Later → ℕ → ℕ → ℕ → Entry

abbrev pub saving : ℕ → ℕ → Call
saving m n = record { ask = Questions.save; memory = m; words = []; buffer = n }

-- what a save puts into its buffer
unfoldable pub saved : State → ℕ → ℕ → List ℕ
saved s m n = if eqb (number s (saving m n)) 0 then saved_form s else []

abbrev pub ask : State → Later → Ask
ask s (later-request k b bs) = Questions.request k b bs
ask s later-turn = Questions.turn
ask s (later-completion c bs) = Questions.completion c bs
ask s later-collect = Questions.collect
ask s later-save = Questions.save
ask s (later-reload m n) = Questions.load (saved s m n)

-- the public part of a call: all well-formed requests are one, and contents are but a length
unfoldable pub formed : Shape → ℕ → ℕ → ℕ → Bool
formed h k b n = is_kind k && (ltb b h.N && eqb n (bytes_of h k))

abbrev pub public_ask : Bool → ℕ → ℕ → ℕ → Later
public_ask true k b n = later-request read 0 []
public_ask false k b n = later-request k b (replicate n 0)

abbrev pub public_later : Shape → Later → Later
public_later h (later-request k b bs) = public_ask (formed h k b (length bs)) k b (length bs)
public_later h later-turn = later-turn
public_later h (later-completion c bs) = later-completion c (replicate (length bs) 0)
public_later h later-collect = later-collect
public_later h later-save = later-save
public_later h (later-reload m n) = later-reload m n

abbrev pub public_entry : Shape → Entry → Entry
public_entry h (first m w) = first m w
public_entry h (later l m w n) = later (public_later h l) m w n

-- ---- The public part of a state: of the request in hand, its partition p, the eviction partition, the level, whether it is held, and what it awaits

abbrev pub present : (ℕ → ℕ) → Option Request → ℕ
present f none = 0
present f (some r) = f r.block

-- where the block was found is not public, but that the request is no longer held
abbrev pub public_found : Option Found → Option Found
public_found none = none
public_found (some x) = some found_nowhere

abbrev pub public_request : ℕ → ℕ → Option Found → ℕ → Request
public_request evict level found awaits = record { kind = read; block = 0; bytes = []; next = 0; evict = evict; level = level; found = public_found found; awaits = awaits }

abbrev pub blank : Option Request → Option Request
blank none = none
blank (some r) = some (public_request r.evict r.level r.found r.awaits)

abbrev pub hide : State → State
hide s =
    s ▷ set_partition (λ b. present s.partition s.request)
    ▷ set_place (λ b. nowhere)
    ▷ set_bytes (λ b. [])
    ▷ set_waiting []
    ▷ set_order (λ c. 0)
    ▷ set_holds (λ c. 0)
    ▷ set_request (blank s.request)

-- of these slots of a level, the open ones: those that are unread
unfoldable pub open_in : Shape → (ℕ → ℕ) → (Key → List ℕ) → Key → List ℕ
open_in h mark xs k = if ltb k.0 h.P && ltb k.1 h.L then keep (λ i. eqb (mark (cell h k.0 k.1 i)) 1) (xs k) else []

-- the unread slots of a level, ascending
abbrev pub unread_in : Shape → (ℕ → ℕ) → Key → List ℕ
unread_in h mark = open_in h mark (λ k. below (slots k.1))

-- ---- What a public state does. The slot of a request's read is not in it.

unfoldable pub request_step_p : State → Option Request → Option Step
request_step_p s none = none
request_step_p s (some r) = if held r then none else first_read (s.partition r.block) (λ ℓ. some 0) (levels_left s r)

unfoldable pub planned_p : State → Step
planned_p s = get_or (request_step_p s s.request) (job_step s s.queue)

-- a state that calls left reads unread slots, and writes levels of its shape; a step that does not is none
unfoldable pub is_nil : List ℕ → Bool
is_nil [] = true
is_nil (x ∷ xs) = false

unfoldable pub checked : State → Step → Step
checked s idle = idle
checked s no_dummy = no_dummy
checked s (read_for_request q ℓ x) = if is_nil (unread_in s.shape s.mark (q, ℓ)) then idle else read_for_request q ℓ x
checked s (read_for_job q ℓ x) = if member x (unread_in s.shape s.mark (q, ℓ)) then read_for_job q ℓ x else idle
checked s (rebuild q ls) = if ltb q s.shape.P && all (λ ℓ. ltb ℓ s.shape.L) ls then rebuild q ls else idle
checked s (write_next q t x) = write_next q t x

unfoldable pub decide_p : State → Step
decide_p s = checked s (planned_p s)

abbrev pub bounds_p : State → Later → List ℕ
bounds_p i (later-request k b bs) = i.shape.P ∷ i.shape.P ∷ []
bounds_p i later-turn = step_bounds (decide_p i)
bounds_p i (later-completion c bs) = []
bounds_p i later-collect = []
bounds_p i later-save = []
bounds_p i (later-reload m n) = []

-- the number of a save
unfoldable pub save_p : State → ℕ → ℕ → ℕ
save_p i m n = first_no ((leb (needed i.shape) m && leb (longest i.shape) n, 2) ∷ (at_rest i, 16) ∷ [])

unfoldable pub questions_p : State → Later → ℕ → ℕ → ℕ → List (Bool × ℕ)
questions_p i (later-request k b bs) m w n =
    (leb (needed i.shape) m && is_kind k, 2)
    ∷ (is_none i.request, 4)
    ∷ (ltb b i.shape.N, 5)
    ∷ (eqb (length bs) (bytes_of i.shape k), 6)
    ∷ (leb (length i.queue) 62, 7)
    ∷ (leb 2 w, 3) ∷ []
questions_p i later-turn m w n =
    (leb (needed i.shape) m, 2)
    ∷ (ltb (length i.outstanding) i.shape.W, 9)
    ∷ (sends (decide_p i), 10)
    ∷ (not (eqb (command (decide_p i)).kind write) || eqb n i.shape.B, 15)
    ∷ (leb (length (step_bounds (decide_p i))) w, 3) ∷ []
questions_p i (later-completion c bs) m w n =
    (leb (needed i.shape) m && is_kind c.kind, 2)
    ∷ (any (is_command c) i.outstanding, 11)
    ∷ (eqb (length bs) (if eqb c.kind read then i.shape.B else 0), 12) ∷ []
questions_p i later-collect m w n =
    (leb (needed i.shape) m, 2)
    ∷ (in_hand (λ r. true) i.request, 13)
    ∷ (in_hand (finished i) i.request, 14)
    ∷ (eqb n i.shape.B, 15) ∷ []
questions_p i later-save m w n = (leb (needed i.shape) m && leb (longest i.shape) n, 2) ∷ (at_rest i, 16) ∷ []
questions_p i (later-reload m₀ n₀) m w n = (eqb (save_p i m₀ n₀) 0, 17) ∷ (leb (needed i.shape) m, 2) ∷ []

unfoldable pub number_p : State → Later → ℕ → ℕ → ℕ → ℕ
number_p i l m w n = first_no (questions_p i l m w n)

unfoldable pub number_open : Shape → ℕ → ℕ → ℕ
number_open h m w = first_no ((within h, 1) ∷ (leb (needed h) m, 2) ∷ (leb h.N w, 3) ∷ [])
