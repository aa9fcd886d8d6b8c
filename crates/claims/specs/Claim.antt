-- Demands 2 and 3 for exported calls, as a host program makes them: an open, then any calls. Each is handed the 76 bytes of state and the memory
-- that the last one left, or a part of that memory from its start; a load may be handed any. All that is known of a call is its contract.
-- To believe the claims, read this file, `Exported`, `Opened` and `Loaded` of crate `exports`, `found_as` of crate `client`, the claims of crates `array` and
-- `hiding`, of crate `rules` the runs of Run.antt and Silent.antt, Reader.antt, `Resumes`, and `first_found` of Laws/Found.antt, and Terms.antt of crate
-- `reachable`. They are proved in Theorem.antt, one each in Found.antt, Reads.antt and Tapes.antt, the last in Words.antt.
use Rattle.std.specs.Prelude.{◌≡◌, ◌⊎◌, false, ◌&&◌, List, [], ◌∷◌, ◌++◌, map, ℕ, suc, ◌≤◌, ◌<◌, length, take, eqb, if◌then◌else◌}
use Rattle.std.proofs.Math.Option.{some}
use Rattle.lists.specs.All.{All}
use Rattle.rules.specs.Silent.{untold, run_unseen}
use Rattle.rules.specs.Shape.{Shape}
use Rattle.rules.specs.State.{closed, write, Command, Request}
use Rattle.rules.specs.Questions.{Ask, opening, request, turn, completion, collect, save, load, Call}
use Rattle.rules.specs.Laws.Answers.{opens}
use Rattle.rules.specs.Laws.Awaited.{Holds}
use Rattle.rules.specs.Laws.Found.{first_found}
use Rattle.rules.specs.Reader.{read_partition}
use Rattle.rules.specs.Request.{held}
use Rattle.rules.specs.Resumes.{Resumes}
use Rattle.rules.specs.Run.{Outcome, run, after}
use Rattle.memory.specs.Fits.{shape_of}
use Rattle.client.specs.View.{found_as}
use Rattle.tape.specs.Tape.{words_of}
use Rattle.contract.specs.Meets.{call_of, command_of}
use Rattle.codec.specs.Codec.{answer_of, state_length}
use Rattle.exports.specs.Exported.{client_in, most_words, looked_at, Exported, Opened, Loaded}
use Rattle.reachable.specs.Terms.{OfSaved, reads_sent, commands_told, as_read}
use Rattle.array.specs.Claim.{Slots, Host, Expected, Honest, Plain}
use Rattle.array.specs.Served.{served}
use Rattle.hiding.specs.Chosen.{Told, Choice, opened, Chosen, Uses}
use Rattle.hiding.specs.Claim.{outline, Lent, first, WellFormed, Same, Compared, Lends, tape_of, Tape, serve, most, Matching, told, loading, NoOpens, open_over, Twins, without_forms, AgreeUntil8}

-- ---- A run of exported calls

-- One call: what is asked, the bytes handed in, the number answered, and the bytes after it. What a call doesn't take, tape or buffer, is []
pub record Made : Type 0 where
  pub ask : Ask
  pub state : List ℕ
  pub memory : List ℕ
  pub tape : List ℕ
  pub buffer : List ℕ
  pub answer : ℕ
  pub state' : List ℕ
  pub memory' : List ℕ
  pub buffer' : List ℕ

-- its contract
abbrev pub Contract : Ask → Made → Type 0
Contract (opening h) x = Opened h x.state x.memory x.tape x.answer x.state' x.memory'
Contract (request k b bs) x = Exported (request k b bs) x.state x.memory x.tape x.buffer x.answer x.state' x.memory' x.buffer'
Contract turn x = Exported turn x.state x.memory x.tape x.buffer x.answer x.state' x.memory' x.buffer'
Contract (completion c bs) x = Exported (completion c bs) x.state x.memory x.tape x.buffer x.answer x.state' x.memory' x.buffer'
Contract collect x = Exported collect x.state x.memory x.tape x.buffer x.answer x.state' x.memory' x.buffer'
Contract save x = Exported save x.state x.memory x.tape x.buffer x.answer x.state' x.memory' x.buffer'
Contract (load form) x = Loaded form x.state x.memory x.answer x.state' x.memory'

-- What an exported function ensures: its contract, and that the memory it is lent has the same length after it. Each function of crate
-- `callers` calls one of the seven and ensures this of it: were the exported one's contract weaker, it would not be proved
abbrev pub Called : Made → Type 0
Called x = Contract x.ask x × (length x.memory' ≡ length x.memory)

-- the call that asks a, on these bytes, with its answer and the bytes after it
abbrev pub made : Ask → List ℕ → List ℕ → List ℕ → List ℕ → ℕ → List ℕ → List ℕ → List ℕ → Made
made a st m tape b u st' m' b' = record { ask = a; state = st; memory = m; tape = tape; buffer = b; answer = u; state' = st'; memory' = m'; buffer' = b' }

-- The call is handed the state st, and of the memory m all but `rest`. An open or a load looks at neither, and may be handed any bytes: a form is loaded
-- after the machine was shut down. (Handed a state of another length, a call answers 2, an open or load also 1, 17 or 18, and leaves every byte of
-- the memory as it was, by its contract: it is no part of a run)
pub record Handed (st m rest : List ℕ) (x : Made) : Type 0 where
  pub bytes : length x.state ≡ state_length
  pub state : opens x.ask ≡ false → x.state ≡ st
  pub memory : opens x.ask ≡ false → x.memory ++ rest ≡ m
  pub called : Called x

-- "Each later call gets the state and the memory as the last one left them, and nobody else writes them meanwhile"
abbrev pub Runs : List ℕ → List ℕ → List Made → Type 0
Runs st m [] = Unit {0}
Runs st m (x ∷ xs) = (rest : List ℕ) × (Handed st m rest x × Runs x.state' (x.memory' ++ rest) xs)

-- the first call is an open
abbrev pub Opens : List Made → Type 0
Opens [] = ⊥
Opens (x ∷ xs) = (h : Shape) × (x.ask ≡ opening h)

-- A run starts with an open, on a state and a memory of any bytes. (Later opens are allowed here; the lists that demand 3 compares have none)
pub record FromOpen (xs : List Made) : Type 0 where
  pub state : List ℕ
  pub memory : List ℕ
  pub opens : Opens xs
  pub runs : Runs state memory xs

-- ---- What was asked, and what was told, as the rules have it

-- the call: what is asked, the length of memory and buffer, the words of the tape that it looks at (all of them, if they are fewer than 2^32)
abbrev pub call_made : Made → Call
call_made x = call_of x.ask x.memory (looked_at x.tape) x.buffer

-- the bytes handed out are in the buffer after an accepted collect, and after an accepted turn that sends a write; after a save they are as many
-- as it reports, from its start on. n is the number, k the command's kind, and t what is reported
unfoldable pub hands_out : Ask → ℕ → ℕ → ℕ → List ℕ → List ℕ
hands_out (opening h) n t k buffer = []
hands_out (request j b bs) n t k buffer = []
hands_out turn n t k buffer = if eqb n 0 && eqb k write then buffer else []
hands_out (completion c bs) n t k buffer = []
hands_out collect n t k buffer = if eqb n 0 then buffer else []
hands_out save n t k buffer = take t buffer
hands_out (load form) n t k buffer = []

-- the words taken are what is reported; a save takes none
abbrev pub takes : Ask → ℕ → ℕ
takes (opening h) t = t
takes (request j b bs) t = t
takes turn t = t
takes (completion c bs) t = t
takes collect t = t
takes save t = 0
takes (load form) t = t

-- number, count of words, command, and where a block was found (`found_as` of crate `client`) are read off the number answered
abbrev pub outcome_of : Made → Outcome
outcome_of x =
    let r = answer_of x.answer (client_in x.state') in
    record { number = r.number; taken = takes x.ask r.taken; command = command_of r; bytes = hands_out x.ask r.number r.taken r.kind x.buffer'; found = found_as r.found }

-- Document 02, P5: "if no call came between it and the save of its form": each load of the run is of what the call just before it has saved
abbrev pub OwnForms : List Made → Type 0
OwnForms xs = Resumes [] (map call_made xs) (map outcome_of xs)

-- ---- The claims

-- A run's outcomes are those of the rules, "no more and no fewer". (The rules' open looks at no state before it; `closed` stands for any)
abbrev pub RulesClaim : Type 0
RulesClaim = (xs : List Made) → FromOpen xs → map outcome_of xs ≡ run closed (map call_made xs)

-- Document 02, P2: "Nothing the host is sent may change by it": but for where blocks were found, a run's outcomes are those of calls that look no
-- block's place up to tell it
abbrev pub UnseenClaim : Type 0
UnseenClaim = (xs : List Made) → FromOpen xs → map untold (map outcome_of xs) ≡ run_unseen closed (map call_made xs)

-- Document 02, P2: "as found when the request ceased to be held (at acceptance if it never was)". In a run x is an accepted request for block b and y the
-- accepted collect of it: no call between them opens a store, or is an accepted collect. What y tells is where b was in the first state, from the one that
-- x left on, in which no job held requests for its partition
abbrev pub FoundClaim : Type 0
FoundClaim = (xs ys : List Made) (x y : Made) (k b : ℕ) (bs : List ℕ) → FromOpen (xs ++ (x ∷ (ys ++ (y ∷ []))))
    → x.ask ≡ request k b bs → (outcome_of x).number ≡ 0
    → All (λ z. (opens z.ask ≡ false) × (z.ask ≡ collect → (outcome_of z).number ≡ 0 → ⊥)) ys
    → y.ask ≡ collect → (outcome_of y).number ≡ 0
    → (outcome_of y).found ≡ first_found (after closed (map call_made (xs ++ (x ∷ [])))) b (map call_made ys)

-- Document 02, P6: "one definition in that order is proved to give exactly the reads sent". In a run x is the call after which a request r is released, its
-- acceptance or a later one (before it none is in hand, or one that is held), and y the accepted collect of it; loads before x are of saved forms. The
-- reads that turns send for r between them are those that the partition reader gives in the state that x left, in its order; and the commands told
-- between them are these, and then others
abbrev pub ReadsClaim : Type 0
ReadsClaim = (xs ys : List Made) (x y : Made) (r : Request) → FromOpen (xs ++ (x ∷ (ys ++ (y ∷ [])))) → All (λ (z : Made). OfSaved z.ask) xs →
    let now = after closed (map call_made (xs ++ (x ∷ []))) in
    Holds (after closed (map call_made xs)).request → now.request ≡ some r → held r ≡ false
    → All (λ z. (opens z.ask ≡ false) × (z.ask ≡ collect → (outcome_of z).number ≡ 0 → ⊥)) ys
    → y.ask ≡ collect → (outcome_of y).number ≡ 0
    → (reads_sent now (map call_made ys) ≡ read_partition now r.block)
    × ((rest : List Command) × (commands_told (map outcome_of ys) ≡ map (as_read (now.partition r.block)) (read_partition now r.block) ++ rest))

-- Demand 2: with an honest host, what is collected is a plain array's, also through loads of what was just saved
abbrev pub ArrayClaim : Type 0
ArrayClaim = (xs : List Made) → FromOpen xs → OwnForms xs → (host : Host) (m : Expected)
    → Honest host (map call_made xs) (map outcome_of xs) → Plain m (map call_made xs) (map outcome_of xs)

-- Document 02, P3: "A tape then has the words taken and all words lent to a turn answered 3, and no more": the tape of a run, by its own outcomes
abbrev pub used_up : List Made → List ℕ
used_up xs = tape_of (map call_made xs) (map outcome_of xs)

-- a run of an open and k calls more, each chosen by what was told before it, as by a host that completes the commands it was sent; a load is of what was
-- just saved
abbrev pub Chooses : Shape → ℕ → ℕ → ℕ → Choice → ℕ → List Made → Type 0
Chooses h m w n σ k xs = (length xs ≡ suc k) × Chosen (opened (first h m w n) σ) [] (map call_made xs) (map outcome_of xs) × OwnForms xs

-- Demand 3: the tapes of words of two compared lists are matched, partners are of one length, and two runs that used up partners are told the same at
-- each place, number, count of words and command, whatever bytes completions bring and requests have for contents (a list has but their lengths), each run loading the
-- forms that it saved itself
abbrev pub HidingClaim : Type 0
HidingClaim = (h : Shape) → h.E ≡ h.N → (m w n : ℕ) (as' bs' : List Lent) → Compared h as' bs' →
    (p : Matching (Tape closed (first h m w n ∷ as')) (Tape closed (first h m w n ∷ bs')))
    × ((t : List ℕ) → Tape closed (first h m w n ∷ as') t → length (p.f t) ≡ length t)
    × ((xs ys : List Made) → FromOpen xs → FromOpen ys → OwnForms xs → OwnForms ys → Lends (first h m w n ∷ as') (map call_made xs) → Lends (first h m w n ∷ bs') (map call_made ys) →
    p.f (used_up xs) ≡ used_up ys → map told (map outcome_of xs) ≡ map told (map outcome_of ys))

-- What those tapes are to exported calls
pub record TapesClaim : Type 0 where
  -- every run's words are a tape of its list, or of the choice that it follows
  pub of_run : (as' : List Lent) (xs : List Made) → FromOpen xs → OwnForms xs → Lends as' (map call_made xs) → Tape closed as' (used_up xs)
  pub of_choice : (h : Shape) (m w n : ℕ) (σ : Choice) (k : ℕ) (xs : List Made) → FromOpen xs → Chooses h m w n σ k xs → Uses h m w n σ k closed (used_up xs)
  -- and every tape is some run's: there are bytes to lend at each place, as many words as the list says, and each run of the list that is lent them
  -- uses up this tape
  pub given : (h : Shape) (m w n : ℕ) (bs' : List Lent) (t : List ℕ) → let as' = first h m w n ∷ bs' in Tape closed as' t → All (λ (a : Lent). a.words ≤ most_words) as' →
      (tapes : List (List ℕ)) × (All (λ tape. All (λ x. x < 256) tape) tapes
      × (map (λ tape. length (words_of (looked_at tape))) tapes ≡ map (λ (a : Lent). a.words) as')
      × ((xs : List Made) → FromOpen xs → OwnForms xs → Lends as' (map call_made xs) → map (λ (x : Made). x.tape) xs ≡ tapes → used_up xs ≡ t))
  -- "callers who lend no word again that was taken or that was lent to a turn answered 3": one that lends each call what comes next of one flat
  -- tape of words uses up a beginning of it, and this is a tape of the list
  pub served : (as' : List Lent) (ks : List Ask) (ws : List ℕ) (xs : List Made) → FromOpen xs → map outline ks ≡ map (λ (a : Lent). a.ask) as' →
      All (λ w. w < 65536) ws → most as' ≤ length ws → map call_made xs ≡ serve closed [] as' ks ws → Tape closed as' (used_up xs) × ((rest : List ℕ) × (ws ≡ used_up xs ++ rest))

-- Every run can be served: `served` puts into its completions of reads what the host has, which takes a write's bytes from the turn that sends it
-- (x has what it had in each slot before), and into its loads what was just saved. Exported calls that are lent these bytes have an honest host
abbrev pub ServedClaim : Type 0
ServedClaim = (x : Slots) (h : Shape) (c : Call) (cs : List Call) → c.ask ≡ opening h → (xs : List Made) → FromOpen xs → map call_made xs ≡ served x [] closed (c ∷ cs)
    → OwnForms xs × Honest (record { last = x; has = x }) (map call_made xs) (map outcome_of xs)

-- Both at once, with an honest host in either run: the host is told the same at each place, and each collect hands out a plain array's contents
abbrev pub HonestClaim : Type 0
HonestClaim = (h : Shape) → h.E ≡ h.N → (m w n : ℕ) (as' bs' : List Lent) → Compared h as' bs' →
    (p : Matching (Tape closed (first h m w n ∷ as')) (Tape closed (first h m w n ∷ bs')))
    × ((xs ys : List Made) → FromOpen xs → FromOpen ys → OwnForms xs → OwnForms ys → Lends (first h m w n ∷ as') (map call_made xs) → Lends (first h m w n ∷ bs') (map call_made ys) →
    p.f (used_up xs) ≡ used_up ys →
    (host host' : Host) → Honest host (map call_made xs) (map outcome_of xs) → Honest host' (map call_made ys) (map outcome_of ys) → (e e' : Expected) →
    (map told (map outcome_of xs) ≡ map told (map outcome_of ys))
    × Plain e (map call_made xs) (map outcome_of xs) × Plain e' (map call_made ys) (map outcome_of ys))

-- The same for runs whose calls are chosen by what was told
abbrev pub ChosenExported : Type 0
ChosenExported = (h : Shape) → h.E ≡ h.N → (m w n : ℕ) (σ τ : Choice) → ((os : List Told) → Same h (σ os) (τ os)) → (k : ℕ) →
    (p : Matching (Uses h m w n σ k closed) (Uses h m w n τ k closed))
    × ((xs ys : List Made) → FromOpen xs → FromOpen ys → Chooses h m w n σ k xs → Chooses h m w n τ k ys →
    p.f (used_up xs) ≡ used_up ys → (map told (map outcome_of xs) ≡ map told (map outcome_of ys))
    × ((host host' : Host) → Honest host (map call_made xs) (map outcome_of xs) → Honest host' (map call_made ys) (map outcome_of ys) → (e e' : Expected) →
    Plain e (map call_made xs) (map outcome_of xs) × Plain e' (map call_made ys) (map outcome_of ys)))

-- The smaller cache: the same calls with the same words, with E equal to N and with a smaller E. Whatever bytes are brought in either run,
-- what is told is equal before the first 8
abbrev pub CacheClaim : Type 0
CacheClaim = (h : Shape) (e : ℕ) → 1 ≤ e → e < h.N → (m n : ℕ) (ws : List ℕ) (cs ds : List Call) → NoOpens cs → Twins outline cs ds → (xs ys : List Made) → FromOpen xs → FromOpen ys
    → OwnForms xs → OwnForms ys → map call_made xs ≡ open_over h.N h m ws n ∷ cs → map call_made ys ≡ open_over e h m ws n ∷ ds
    → AgreeUntil8 told (map outcome_of xs) (map outcome_of ys)

-- .. and with the same bytes brought in both, the bytes handed out too, and where each block was found; but for a form, which has E in it
abbrev pub CacheBytesClaim : Type 0
CacheBytesClaim = (h : Shape) (e : ℕ) → 1 ≤ e → e < h.N → (m n : ℕ) (ws : List ℕ) (cs ds : List Call) → NoOpens cs → Twins (loading []) cs ds → (xs ys : List Made) → FromOpen xs → FromOpen ys
    → OwnForms xs → OwnForms ys → map call_made xs ≡ open_over h.N h m ws n ∷ cs → map call_made ys ≡ open_over e h m ws n ∷ ds
    → AgreeUntil8 (λ o. o) (without_forms (map call_made xs) (map outcome_of xs)) (without_forms (map call_made ys) (map outcome_of ys))

-- "Among such requests only 8 may depend on names": two well-formed requests that are handed the same state and memory, and as many words
abbrev pub NamesClaim : Type 0
NamesClaim = (x y : Made) (k b k' b' : ℕ) (bs bs' : List ℕ) → x.ask ≡ request k b bs → y.ask ≡ request k' b' bs' → Called x → Called y
    → length x.state ≡ state_length → x.state ≡ y.state → x.memory ≡ y.memory → length (call_made x).words ≡ length (call_made y).words
    → WellFormed (shape_of (client_in x.state).shape) k b (length bs) → WellFormed (shape_of (client_in x.state).shape) k' b' (length bs')
    → ((outcome_of x).number ≡ (outcome_of y).number) ⊎ (((outcome_of x).number ≡ 8) ⊎ ((outcome_of y).number ≡ 8))

-- The words of a run may be any: up to 2^32 − 1 words of 16 bits are those of some bytes
abbrev pub WordsClaim : Type 0
WordsClaim = (ws : List ℕ) → All (λ w. w < 65536) ws → length ws ≤ most_words → (tape : List ℕ) × (All (λ x. x < 256) tape × (words_of (looked_at tape) ≡ ws))
