-- Document 01, "Two lists and their tapes", with the tapes of document 02, "Even draws": what demand 3 says, over the rules' own run.
-- `hidden : Hiding` (Theorem.antt) is its proof.
--
-- The section, sentence by sentence:
--   "A list is an open .. and then requests, turns, completions and collects in any order and number": `first` with a list of `Lent`, none of
--     which `Alike` takes to be an open. "Refused ones included, also after a refused open": nothing asks for a call to be accepted.
--   Document 02, P5: a list has saves and loads too (`saves`, `loads` of `Alike`). "The hiding goes on through a load if no call came between it and
--     the save of its form; .. each of the two runs loads the form that it saved itself, whatever its length": a list says of a load only that it
--     is one, and which form it is of is the run's own (`loads` of `Gives`, by rules' `Resumes`). Where the call just before it was no save, or
--     was refused, there is no form: such a load, of no bytes, is refused and closes both runs.
--   "On memory with any bytes": `Claim` and `Smaller` hold for any states s and s' before the open.
--   "Each later call gets the state and the memory as the last one left them": `run` of the rules. "Lent too little of that memory, it replies
--     2": `Lent` has the length of the memory that is lent to each call.
--   "All other buffers are lent for one call; what they hold before it, a completion's bytes among it, may be anything in either list": of a
--     buffer a call has but the length. Of a completion's bytes, and of a request's contents, a list has but the length (`Outline`): the tapes
--     and their matching are there before the bytes are, and `Lends` takes any bytes of that length. So they may depend on the tape and on all
--     that was told in the run, as those of an honest host do, which stores blocks where the tape puts them (Honest.antt).
--   "Two lists are compared if E is N, the shape is the same": the first lines of `Claim`. "Each place has the same call in both, lent as many
--     words, with all other lengths equal but that of a request's contents": `Compared`, `Same`, `Alike`. "A completion names the same kind and
--     slot", "A request that is well-formed in one is so in the other; its block, kind and contents may differ. Any other request has the same
--     kind, block and length of contents": `completions`, `well_formed`, `any_other`.
--   Document 02: "A matching of tapes of words, no longer of drawn numbers .. A tape then has the words taken and all words lent to a turn
--     answered 3, and no more": `used` says which words of a call are the tape's, by the call and its outcome alone, and `tape_of` puts them
--     one behind the other. "The tape is 16-bit words": `Short`. A list's tapes (`Tape`) are those of its runs, whatever words are lent and
--     whatever bytes are brought; which tapes it has does not depend on the bytes (`given` of `Tapes`).
--   "For callers who lend no word again that was taken or that was lent to a turn answered 3": the plainest such caller has one flat
--     tape and lends each call what comes next of it (`serve`); words that were lent and are not the tape's may be lent again. `Tapes` says that
--     the tapes above are what it uses up: of every flat tape that is long enough exactly the beginning that is a tape of the list is used up
--     (`served`, `alone`). The matching itself asks nothing of the caller: behind the words of the tape any words may be lent, at each call,
--     and they do not matter (`tells`, `decides`).
--   "There is a matching: each tape of either list has exactly one partner among the other's": `Matching`. "With partners, the two runs have at
--     each place the same number answered, the same count of words taken and, for a turn, the same command": `told`, the last lines of `Claim`.
--     So partners are of one length (`long`), and with evenly drawn words as likely as each other.
--   "For the smaller cache ..": `Smaller`, "with the smaller cache too, each of the two runs loads the form that it saved itself". The bytes
--     brought may be any in either run (`tells`); with the same bytes in both, the bytes handed out are equal too (`whole`), but for those of a
--     form, which has E in it.
use Rattle.std.specs.Prelude.{◌≡◌, Bool, true, false, ◌&&◌, List, [], ◌∷◌, ◌++◌, map, ℕ, ◌+◌, ◌≤◌, ◌<◌, length, take, drop, eqb, if◌then◌else◌}
use Rattle.lists.specs.All.{All}
use Rattle.rules.specs.Ranges.{is_kind, bytes_of}
use Rattle.rules.specs.Questions.{Ask, opening, request, turn, completion, collect, save, load, Call}
use Rattle.rules.specs.Run.{Outcome, step, run}
use Rattle.rules.specs.State.{State, Command}
use Rattle.rules.specs.Resumes.{saved_by, Resumes, NoOpen}
use Rattle.rules.specs.Shape.{Shape}

-- What a list says of what is asked: all but the bytes of a request's contents and of a completion, of which it has the length, and the form of a load
pub data Outline : Type 0 where
  an_open : Shape → Outline
  a_request : ℕ → ℕ → ℕ → Outline  -- kind, block, length of the contents
  a_turn : Outline
  a_completion : Command → ℕ → Outline  -- length of the bytes
  a_collect : Outline
  a_save : Outline
  a_load : Outline

abbrev pub outline : Ask → Outline
outline (opening h) = an_open h
outline (request k b bs) = a_request k b (length bs)
outline turn = a_turn
outline (completion c bs) = a_completion c (length bs)
outline collect = a_collect
outline save = a_save
outline (load form) = a_load

-- A call of a list: what is asked, and the lengths lent. Neither bytes nor words are part of it
pub record Lent : Type 0 where
  pub ask : Outline
  pub memory : ℕ
  pub words : ℕ
  pub buffer : ℕ

-- the call that asks this, with these words lent
abbrev pub lend : Lent → Ask → List ℕ → Call
lend a k ws = record { ask = k; memory = a.memory; words = ws; buffer = a.buffer }

-- an open of the shape
abbrev pub first : Shape → ℕ → ℕ → ℕ → Lent
first h m w n = record { ask = an_open h; memory = m; words = w; buffer = n }

-- ---- Two lists

-- "A request is well-formed if its kind is read or write, its block is below N and its contents have the length 6 wants"
pub record WellFormed (h : Shape) (k b n : ℕ) : Type 0 where
  pub kind : is_kind k ≡ true
  pub block : b < h.N
  pub contents : n ≡ bytes_of h k

-- The same call in both. No open is among these: a list has one, and it comes first
pub data Alike (h : Shape) : Outline → Outline → Type 0 where
  well_formed : {k b n k' b' n' : ℕ} → WellFormed h k b n → WellFormed h k' b' n' → Alike h (a_request k b n) (a_request k' b' n')
  any_other : {k b n : ℕ} → ¬ WellFormed h k b n → Alike h (a_request k b n) (a_request k b n)
  turns : Alike h a_turn a_turn
  completions : {c : Command} {n : ℕ} → Alike h (a_completion c n) (a_completion c n)
  collects : Alike h a_collect a_collect
  saves : Alike h a_save a_save
  loads : Alike h a_load a_load

-- .. lent as many words, with all other lengths equal
pub record Same (h : Shape) (a b : Lent) : Type 0 where
  pub ask : Alike h a.ask b.ask
  pub memory : a.memory ≡ b.memory
  pub words : a.words ≡ b.words
  pub buffer : a.buffer ≡ b.buffer

-- .. at each place
pub data Compared (h : Shape) : List Lent → List Lent → Type 0 where
  none : Compared h [] []
  more : {a b : Lent} {as' bs' : List Lent} → Same h a b → Compared h as' bs' → Compared h (a ∷ as') (b ∷ bs')

-- ---- A list's tapes of words

-- the calls of a list, with as many words and bytes as it says: any words, any bytes
pub data Lends : List Lent → List Call → Type 0 where
  none : Lends [] []
  more : {a : Lent} {k : Ask} {ws : List ℕ} {as' : List Lent} {cs : List Call} → outline k ≡ a.ask → length ws ≡ a.words → Lends as' cs
      → Lends (a ∷ as') (lend a k ws ∷ cs)

-- all their words are of 16 bits
abbrev pub ShortWords : List ℕ → Type 0
ShortWords ws = All (λ w. w < 65536) ws

abbrev pub Short : List Call → Type 0
Short cs = All (λ (c : Call). ShortWords c.words) cs

unfoldable pub is_turn : Ask → Bool
is_turn (opening h) = false
is_turn (request k b bs) = false
is_turn turn = true
is_turn (completion c bs) = false
is_turn collect = false
is_turn save = false
is_turn (load form) = false

-- of a call "the words taken", of "a turn answered 3" "all words lent to" it, "and no more"
unfoldable pub used_by : Bool → List ℕ → ℕ → ℕ → List ℕ
used_by is_turn words number taken =
    if eqb number 0 then take taken words
    else (if is_turn && eqb number 3 then words else [])

abbrev pub used : Call → Outcome → List ℕ
used c o = used_by (is_turn c.ask) c.words o.number o.taken

-- the tape of a run, by its calls and outcomes
unfoldable pub tape_of : List Call → List Outcome → List ℕ
tape_of [] os = []
tape_of (c ∷ cs) [] = []
tape_of (c ∷ cs) (o ∷ os) = used c o ++ tape_of cs os

-- these calls are the list's, lent words of 16 bits, each load is of what the call just before it, a save, has put into its buffer, and their run has
-- this tape
pub record Gives (s : State) (as' : List Lent) (t : List ℕ) (cs : List Call) : Type 0 where
  pub calls : Lends as' cs
  pub short : Short cs
  pub loads : Resumes [] cs (run s cs)
  pub tape : tape_of cs (run s cs) ≡ t

-- a list's tapes are those of its runs, whatever words are lent, whatever bytes are brought
abbrev pub Tape : State → List Lent → List ℕ → Type 0
Tape s as' t = (cs : List Call) × Gives s as' t cs

-- the words that are lent to each call, and what is asked
abbrev pub words_in : List Call → List (List ℕ)
words_in cs = map (λ (c : Call). c.words) cs

abbrev pub asks_in : List Call → List Ask
asks_in cs = map (λ (c : Call). c.ask) cs

-- ---- The claims

-- each value of either has exactly one partner among the other's
pub record Matching (P Q : List ℕ → Type 0) : Type 0 where
  pub f : List ℕ → List ℕ
  pub g : List ℕ → List ℕ
  pub f-ok : (t : List ℕ) → P t → Q (f t)
  pub g-ok : (t : List ℕ) → Q t → P (g t)
  pub g-f : (t : List ℕ) → P t → g (f t) ≡ t
  pub f-g : (t : List ℕ) → Q t → f (g t) ≡ t

-- what is compared of an outcome: the number, the count of words, the command
abbrev pub told : Outcome → ℕ × ℕ × Command
told o = (o.number, o.taken, o.command)

-- For every two compared lists, whatever was before the open in either. The matching comes first; then a tape, and then any words that give it
-- and its partner, whatever is lent behind those of the tapes, with any bytes of the lengths that the lists say
abbrev pub Claim : Type 0
Claim = (h : Shape) → h.E ≡ h.N → (m w n : ℕ) (as' bs' : List Lent) → Compared h as' bs' → (s s' : State) →
    (p : Matching (Tape s (first h m w n ∷ as')) (Tape s' (first h m w n ∷ bs')))
    × ((t : List ℕ) (cs ds : List Call) → Gives s (first h m w n ∷ as') t cs → Gives s' (first h m w n ∷ bs') (p.f t) ds →
    map told (run s cs) ≡ map told (run s' ds))

-- ---- What a tape is to a caller who lends no word again that is the tape's

-- what is asked, where a load is of this form
abbrev pub loading : List ℕ → Ask → Ask
loading form (opening h) = opening h
loading form (request k b bs) = request k b bs
loading form turn = turn
loading form (completion c bs) = completion c bs
loading form collect = collect
loading form save = save
loading form (load x) = load form

-- the calls ask this in turn, a load with what the call just before it has saved; each is lent the next words of one flat tape, and those that it has
-- not used up are lent again
unfoldable pub serve : State → List ℕ → List Lent → List Ask → List ℕ → List Call
serve s form [] ks x = []
serve s form (a ∷ as') [] x = []
serve s form (a ∷ as') (k ∷ ks) x =
    let c = lend a (loading form k) (take a.words x) in
    let r = step s c in
    c ∷ serve r.0 (saved_by c.ask r.1) as' ks (drop (length (used c r.1)) x)

-- as many words as a list can be lent
abbrev pub most : List Lent → ℕ
most [] = 0
most (a ∷ as') = a.words + most as'

pub record Tapes : Type 0 where
  -- a flat tape that is long enough begins with a tape of the list, which is what such a caller's run has used up, whatever bytes are brought
  pub served : (s : State) (as' : List Lent) (ks : List Ask) (x : List ℕ) → map outline ks ≡ map (λ (a : Lent). a.ask) as' → ShortWords x → most as' ≤ length x →
      (t : List ℕ) × ((y : List ℕ) × ((x ≡ t ++ y) × Gives s as' t (serve s [] as' ks x)))
  -- words that give a tape give it whatever bytes are brought
  pub given : (h : Shape) (m w n : ℕ) (as' : List Lent) (s : State) (t : List ℕ) (cs : List Call) → Gives s (first h m w n ∷ as') t cs →
      (ds : List Call) → Lends (first h m w n ∷ as') ds → words_in ds ≡ words_in cs → Resumes [] ds (run s ds) → Gives s (first h m w n ∷ as') t ds
  -- no tape of a list begins with another
  pub alone : (h : Shape) (m w n : ℕ) (as' : List Lent) (s : State) (t u x y : List ℕ) →
      Tape s (first h m w n ∷ as') t → Tape s (first h m w n ∷ as') u → t ++ x ≡ u ++ y → t ≡ u
  -- what is told follows from the tape, whatever words are lent behind its own and whatever bytes are brought
  pub tells : (h : Shape) (m w n : ℕ) (as' : List Lent) (s : State) (t : List ℕ) (cs ds : List Call) →
      Gives s (first h m w n ∷ as') t cs → Gives s (first h m w n ∷ as') t ds → map told (run s cs) ≡ map told (run s ds)
  -- the tape with the bytes decides the whole run, whatever words are lent behind its own
  pub decides : (h : Shape) (m w n : ℕ) (as' : List Lent) (s : State) (t : List ℕ) (cs ds : List Call) →
      Gives s (first h m w n ∷ as') t cs → Gives s (first h m w n ∷ as') t ds → asks_in cs ≡ asks_in ds → run s cs ≡ run s ds
  -- runs of compared lists that tell the same have used up as many words
  pub long : (h : Shape) (m w n : ℕ) (as' bs' : List Lent) → Compared h as' bs' → (s s' : State) (t u : List ℕ) (cs ds : List Call) →
      Gives s (first h m w n ∷ as') t cs → Gives s' (first h m w n ∷ bs') u ds → map told (run s cs) ≡ map told (run s' ds) → length t ≡ length u

-- ---- The smaller cache: the requests may be any

abbrev pub with_cache : ℕ → Shape → Shape
with_cache e h = record { N = h.N; P = h.P; L = h.L; B = h.B; E = e; W = h.W }

-- an open with e places in the cache
abbrev pub open_over : ℕ → Shape → ℕ → List ℕ → ℕ → Call
open_over e h m ws n = record { ask = opening (with_cache e h); memory = m; words = ws; buffer = n }

-- calls after the open: none is another
abbrev pub NoOpens : List Call → Type 0
NoOpens cs = All (λ (c : Call). NoOpen c.ask) cs

-- the same call with the same words; of what is asked, what f has of it is equal
pub record Twin {A : Type 0} (f : Ask → A) (c d : Call) : Type 0 where
  pub ask : f c.ask ≡ f d.ask
  pub memory : c.memory ≡ d.memory
  pub words : c.words ≡ d.words
  pub buffer : c.buffer ≡ d.buffer

pub data Twins {A : Type 0} (f : Ask → A) : List Call → List Call → Type 0 where
  none : Twins f [] []
  more : {c d : Call} {cs ds : List Call} → Twin f c d → Twins f cs ds → Twins f (c ∷ cs) (d ∷ ds)

-- an outcome, but for the bytes of the form that a save has put into its buffer
abbrev pub without_form : Ask → Outcome → Outcome
without_form (opening h) o = o
without_form (request k b bs) o = o
without_form turn o = o
without_form (completion c bs) o = o
without_form collect o = o
without_form save o = record { number = o.number; taken = o.taken; command = o.command; bytes = []; found = o.found }
without_form (load form) o = o

abbrev pub without_forms : List Call → List Outcome → List Outcome
without_forms [] os = []
without_forms (c ∷ cs) [] = []
without_forms (c ∷ cs) (o ∷ os) = without_form c.ask o ∷ without_forms cs os

-- What f has of the outcomes is equal at each place before the first 8 of the second run, or everywhere if it has none
pub data AgreeUntil8 {A : Type 0} (f : Outcome → A) : List Outcome → List Outcome → Type 0 where
  done : AgreeUntil8 f [] []
  full : {x y : Outcome} {xs ys : List Outcome} → y.number ≡ 8 → AgreeUntil8 f (x ∷ xs) (y ∷ ys)
  equal : {x y : Outcome} {xs ys : List Outcome} → f x ≡ f y → AgreeUntil8 f xs ys → AgreeUntil8 f (x ∷ xs) (y ∷ ys)

-- The same list with the same words, once with E equal to N and once with any E from 1 to N − 1; each run loads what it has saved itself
pub record Smaller : Type 0 where
  -- whatever bytes are brought in either run: what is told
  pub tells : (h : Shape) (e : ℕ) → 1 ≤ e → e < h.N → (m n : ℕ) (ws : List ℕ) (cs ds : List Call) → NoOpens cs → Twins outline cs ds → (s s' : State) →
      let A = open_over h.N h m ws n ∷ cs in
      let B = open_over e h m ws n ∷ ds in
      Resumes [] A (run s A) → Resumes [] B (run s' B) → AgreeUntil8 told (run s A) (run s' B)
  -- the same bytes in both, but for the forms that are loaded: the bytes handed out too, but for the forms that are saved
  pub whole : (h : Shape) (e : ℕ) → 1 ≤ e → e < h.N → (m n : ℕ) (ws : List ℕ) (cs ds : List Call) → NoOpens cs → Twins (loading []) cs ds → (s s' : State) →
      let A = open_over h.N h m ws n ∷ cs in
      let B = open_over e h m ws n ∷ ds in
      Resumes [] A (run s A) → Resumes [] B (run s' B) → AgreeUntil8 (λ o. o) (without_forms A (run s A)) (without_forms B (run s' B))

-- Demand 3
pub record Hiding : Type 0 where
  pub lists : Claim
  pub tapes : Tapes
  pub cache : Smaller
