-- What the exported calls' contracts say: the answer, read off one number, and the state, read off 76 bytes, meet the rules.
use Rattle.std.specs.Prelude.{◌≡◌, List, [], ℕ, ◌*◌, ◌%◌, ◌≤◌, length, take, replicate, if◌then◌else◌}
use Rattle.rules.specs.Shape.{Shape, within}
use Rattle.rules.specs.State.{closed}
use Rattle.rules.specs.Form.Loading.{loads}
use Rattle.rules.specs.Form.Sums.{summed}
use Rattle.rules.specs.Questions.{Ask, opening, request, turn, completion, collect, save, load}
use Rattle.memory.specs.Words.{word_at}
use Rattle.client.specs.declared.Client.{Client}
use Rattle.client.specs.View.{state_of}
use Rattle.contract.specs.Answers.{Answer, cleared_client}
use Rattle.contract.specs.Meets.{Meets}
use Rattle.codec.specs.Codec.{state_length, client_of, with_shape, with_rest, Between, packed, answer_of}

-- the client that 76 bytes say
abbrev pub client_in : List ℕ → Client
client_in st = client_of (word_at st)

-- An exported call looks at no more than the first 2^32 − 1 words lent, of two bytes each: its answer could not count more (docs/DECISIONS.md)
abbrev pub most_words : ℕ
most_words = 4294967295

abbrev pub looked_at : List ℕ → List ℕ
looked_at tape = take (most_words * 2) tape

-- A request, turn, completion, collect or save: st is the state handed in, st' the state handed back
pub record Exported (a : Ask) (st m tape b : List ℕ) (u : ℕ) (st' m' b' : List ℕ) : Type 0 where
  pub meets : length st ≡ state_length → Meets (client_in st) (state_of (client_in st) m) a m (looked_at tape) b (answer_of u (client_in st')) m' b'
  pub refused : (u % 32 ≡ 0 → ⊥) → st' ≡ st
  -- the bytes between the numbers of the state stay
  pub between : Between (word_at st) (word_at st')
  -- a state of another length: 2, and nothing is written
  pub other : (length st ≡ state_length → ⊥) → (u ≡ 2) × (st' ≡ st) × (m' ≡ m) × (b' ≡ b)

-- A state of another length is no memory for a client. Of an open: shape within bounds? 1. Long enough? 2. Of a load: sums right? 17. A form? 18.
-- Long enough? 2
abbrev pub unlent : Ask → ℕ
unlent (opening h) = if within h then 2 else 1
unlent (request k b bs) = 2
unlent turn = 2
unlent (completion c bs) = 2
unlent collect = 2
unlent save = 2
unlent (load form) = if summed form then (if loads form then 2 else 18) else 17

-- An open or a load: it looks at no state
pub record Started (a : Ask) (st m tape : List ℕ) (u : ℕ) (st' m' : List ℕ) : Type 0 where
  pub meets : length st ≡ state_length → Meets cleared_client closed a m (looked_at tape) [] (answer_of u (client_in st')) m' []
  -- a refused one hands back a closed state: zeros in all that was lent for it
  pub refused : (u % 32 ≡ 0 → ⊥) → st' ≡ replicate (length st) 0
  -- an accepted one leaves the bytes between the numbers
  pub between : u % 32 ≡ 0 → Between (word_at st) (word_at st')
  -- with a state of another length nothing is written to the memory
  pub other : (length st ≡ state_length → ⊥) → (u ≡ unlent a) × (m' ≡ m)

abbrev pub Opened : Shape → List ℕ → List ℕ → List ℕ → ℕ → List ℕ → List ℕ → Type 0
Opened h st m tape u st' m' = Started (opening h) st m tape u st' m'

-- a load of these bytes takes no tape
abbrev pub Loaded : List ℕ → List ℕ → List ℕ → ℕ → List ℕ → List ℕ → Type 0
Loaded form st m u st' m' = Started (load form) st m [] u st' m'

-- Of a save, if the length that it reports has 32 bits
abbrev pub Reports : Ask → Answer → Type 0
Reports (opening h) r = Unit {0}
Reports (request k b bs) r = Unit {0}
Reports turn r = Unit {0}
Reports (completion c bs) r = Unit {0}
Reports collect r = Unit {0}
Reports save r = r.taken ≤ most_words
Reports (load form) r = Unit {0}

-- ---- The state as it is handed back

-- `stored` makes the words after an accepted call of those before it
pub record HandedBack (stored : (ℕ → ℕ) → ℕ → ℕ) (r : Answer) (u : ℕ) (st st' : List ℕ) : Type 0 where
  pub answer : u ≡ packed r
  pub accepted : r.number ≡ 0 → word_at st' ≡ stored (word_at st)
  pub refused : (r.number ≡ 0 → ⊥) → st' ≡ st

pub record HandedBackOpened (r : Answer) (u : ℕ) (st st' : List ℕ) : Type 0 where
  pub answer : u ≡ packed r
  pub accepted : r.number ≡ 0 → word_at st' ≡ with_rest r.client (with_shape r.client.shape (word_at st))
  pub refused : (r.number ≡ 0 → ⊥) → st' ≡ replicate (length st) 0

abbrev pub numbers : ℕ → ℕ → ℕ → ℕ → ℕ → ℕ → Shape
numbers n p l b e w = record { N = n; P = p; L = l; B = b; E = e; W = w }
