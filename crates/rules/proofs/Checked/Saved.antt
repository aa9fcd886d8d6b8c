-- Document 02, P5, computed: a small session saved and loaded, and forms that no save made.
use Rattle.std.specs.Prelude.{◌≡◌, refl, List, [], ◌∷◌, ◌++◌, map, ℕ, set, get_or, replicate, drop, take, length}
use Rattle.rules.specs.Form.Longest.{longest, longest_payload}
use Rattle.rules.specs.Setters.{◌▷◌, set_waiting, set_queue, set_counter, set_order}
use Rattle.rules.specs.State.{State, cmd, closed}
use Rattle.rules.specs.Form.Sums.{in_blocks}
use Rattle.rules.specs.Form.Payload.{payload, saved_form}
use Rattle.rules.specs.Form.Loading.{loaded_form}
use Rattle.rules.specs.Questions.{opening, request, turn, completion, collect, save, load, Call, number}
use Rattle.rules.specs.Run.{Outcome, run, after, step, form_length}
use Rattle.rules.specs.Unfold.{model, shape, call, out}

-- Two blocks, one partition, two levels, one byte a block: block 0 is written
unfoldable pub start : List Call
start =
    (call (opening (shape 2 1 2 1 2 1)) 1000000 (0 ∷ 0 ∷ []) 0
    ∷ call (request 2 0 (7 ∷ [])) 1000000 (0 ∷ 0 ∷ []) 0
    ∷ call collect 1000000 [] 1 ∷ [])

-- a job: block 0 goes to slot 1 of level 0, and its two writes complete
unfoldable pub job : List Call
job =
    (call turn 1000000 (0 ∷ []) 1
    ∷ call (completion (cmd 2 0 0 0) []) 1000000 [] 0
    ∷ call turn 1000000 [] 1
    ∷ call (completion (cmd 2 0 0 1) []) 1000000 [] 0 ∷ [])

-- one block waits, two jobs are queued
unfoldable pub waits : State
waits = after closed start

-- ..or one, which then runs alone
unfoldable pub alone : State
alone = waits ▷ set_queue (0 ∷ [])

-- block 0 is stored, one job is queued
unfoldable pub stored : State
stored = after alone job ▷ set_queue (0 ∷ [])

unfoldable pub saves : State → Outcome
saves s = (step s (call save 1000000 [] 100000)).1

unfoldable pub loads : List ℕ → ℕ
loads form = number closed (call (load form) 1000000 [] 0)

abbrev pub zeros : ℕ → List ℕ
zeros n = replicate n 0

-- ---- What is written

-- the form, the shape, the counter, a queue of two jobs; block 0 of partition 0 waits, block 1 of partition 0 is nowhere; no level is filled;
-- block 0 has age 0 and the contents 07; zeros
pub waiting-payload : payload waits ≡ 1 ∷ 2 ∷ 0 ∷ 1 ∷ 0 ∷ 2 ∷ 0 ∷ 1 ∷ 0 ∷ 2 ∷ 0 ∷ 1 ∷ 0 ∷ 0 ∷ 0 ∷ 2 ∷ 0 ∷ 0 ∷ 0 ∷ 0 ∷ 0 ∷ 0 ∷ 0 ∷ 254 ∷ 0 ∷ 0 ∷ 255 ∷ 0 ∷ 0 ∷ 0 ∷ 0 ∷ 7 ∷ []
unfolding model waits start
waiting-payload = refl

-- counter 1, a queue of one job; block 0 is in level 0, slot 1; level 0's order is 1, 0, and none of its slots was read
pub stored-payload : payload stored ≡ 1 ∷ 2 ∷ 0 ∷ 1 ∷ 0 ∷ 2 ∷ 0 ∷ 1 ∷ 0 ∷ 2 ∷ 0 ∷ 1 ∷ 0 ∷ 1 ∷ 0 ∷ 1 ∷ 0 ∷ 0 ∷ 0 ∷ 0 ∷ 0 ∷ 0 ∷ 1 ∷ 0 ∷ 0 ∷ 255 ∷ 1 ∷ 0 ∷ 0 ∷ 0 ∷ []
unfolding model stored alone waits start job
stored-payload = refl

-- one block of 512 bytes; its words sum up to 0x0aff0601
pub waiting-form : saved_form waits ≡ payload waits ++ zeros 476 ++ (1 ∷ 6 ∷ 255 ∷ 10 ∷ [])
unfolding model waits start
waiting-form = refl

-- a second block: its words sum up to 23 times 0x01010101, and 1 for its number
pub second_block : drop 1020 (in_blocks (replicate 600 1)) ≡ 24 ∷ 23 ∷ 23 ∷ 23 ∷ []
unfolding model
second_block = refl

-- The formula for the longest form is met by one that loads: both blocks wait, 64 jobs are queued, both levels are filled, items in the order of slots
unfoldable pub longest_state : State
longest_state =
    waits ▷ set_waiting (0 ∷ 1 ∷ []) ▷ set_queue (replicate 64 0) ▷ set_counter (λ q. 3) ▷ set_order (λ c. get_or (0 ∷ 0 ∷ 0 ∷ 1 ∷ 0 ∷ 1 ∷ 2 ∷ 3 ∷ []) c 0)

pub longest-met : (loads (saved_form longest_state) ≡ 0) × (length (payload longest_state) ≡ longest_payload longest_state.shape) × (length (saved_form longest_state) ≡ longest longest_state.shape)
unfolding model loads longest_state waits start
longest-met = (refl, refl, refl)

-- ---- What is answered

-- the form's length is reported, 512 here, and the buffer is asked for by the longest form of the shape: 512 too
pub saved-answers : map form_length (saves waits ∷ saves stored ∷ saves closed ∷ []) ≡ 512 ∷ 512 ∷ 0 ∷ []
unfolding model saves alone waits stored start job
saved-answers = refl

unfoldable pub saves_into : State → ℕ → ℕ
saves_into s n = number s (call save 1000000 [] n)

-- a buffer too short; a request in hand, a job begun with its command outstanding, a job begun
pub saving-numbers : saves_into waits 511 ∷ saves_into waits 512 ∷ saves_into (after alone (take 1 job)) 512 ∷ saves_into (after alone (take 2 job)) 512 ∷ saves_into (after alone (take 4 job)) 512
    ∷ saves_into (after closed (take 2 start)) 512 ∷ saves_into closed 512 ∷ [] ≡ 2 ∷ 0 ∷ 16 ∷ 16 ∷ 0 ∷ 16 ∷ 2 ∷ []
unfolding model saves_into alone waits start job
saving-numbers = refl

-- ---- A session goes on from the loaded state as from the saved one: the second job reads level 0, and a request for block 0 follows
unfoldable pub goes_on : List Call
goes_on =
    (call turn 1000000 [] 1
    ∷ call (completion (cmd 1 0 0 0) (0 ∷ [])) 1000000 [] 0
    ∷ call turn 1000000 [] 1
    ∷ call (completion (cmd 1 0 0 1) (7 ∷ [])) 1000000 [] 0
    ∷ call turn 1000000 (0 ∷ 0 ∷ 0 ∷ []) 1
    ∷ call (request 1 0 []) 1000000 (0 ∷ 0 ∷ []) 0 ∷ [])

unfoldable pub then : List Outcome
then =
    (out 0 0 (cmd 1 0 0 0) []
    ∷ out 0 0 (cmd 0 0 0 0) []
    ∷ out 0 0 (cmd 1 0 0 1) []
    ∷ out 0 0 (cmd 0 0 0 0) []
    ∷ out 0 3 (cmd 2 0 1 0) (0 ∷ [])
    ∷ out 0 2 (cmd 0 0 0 0) [] ∷ [])

pub goes_on_lem : (run stored goes_on ≡ then) × (run (loaded_form (saved_form stored)) goes_on ≡ then)
unfolding model alone waits stored start job goes_on then
goes_on_lem = (refl, refl)

-- ---- Forms that no save made

-- a wrong sum, a wrong byte, no block, a length that is no multiple of 512; 2 for memory too short, and last
pub loading-numbers : loads (saved_form stored) ∷ loads (set (saved_form stored) 508 0) ∷ loads (set (saved_form stored) 13 0) ∷ loads [] ∷ loads (drop 1 (saved_form stored))
    ∷ number closed (call (load (saved_form stored)) 10 [] 0) ∷ [] ≡ 0 ∷ 17 ∷ 17 ∷ 17 ∷ 17 ∷ 2 ∷ []
unfolding model loads alone waits stored start job
loading-numbers = refl

-- the payload of `stored` with the byte at a place changed, and right sums
unfoldable pub changed : ℕ → ℕ → ℕ
changed i x = loads (in_blocks (set (payload stored) i x))

-- form 2; four levels more than N asks for are in bounds, nine are not; a counter of 4; a job for partition 1; a block in level 1, which is not
-- filled; in slot 2; a place 253; an order that is none; a block in a slot that was read; the other slot read; a mark of 2
pub stored-changed : map (λ (x : ℕ × ℕ). changed x.0 x.1) ((0, 2) ∷ (5, 9) ∷ (13, 4) ∷ (17, 1) ∷ (21, 1) ∷ (22, 2) ∷ (21, 253) ∷ (26, 0) ∷ (29, 1) ∷ (28, 1) ∷ (28, 2) ∷ [])
    ≡ 18 ∷ 18 ∷ 18 ∷ 18 ∷ 18 ∷ 18 ∷ 18 ∷ 18 ∷ 18 ∷ 0 ∷ 18 ∷ []
unfolding model changed loads alone waits stored start job
stored-changed = refl

-- Two blocks wait: 1 with the contents 08, and longer 0 with 07. The records in either order load, and bring the same
unfoldable pub pair : List ℕ → List ℕ
pair records = in_blocks ((1 ∷ 2 ∷ 0 ∷ 1 ∷ 0 ∷ 2 ∷ 0 ∷ 1 ∷ 0 ∷ 2 ∷ 0 ∷ 1 ∷ 0 ∷ 0 ∷ 0 ∷ 0 ∷ 0 ∷ 0 ∷ 0 ∷ 254 ∷ 0 ∷ 0 ∷ 254 ∷ []) ++ records)

unfoldable pub brings : List ℕ → ℕ × List ℕ × List (List ℕ)
brings x = (loads (pair x), (loaded_form (pair x)).waiting, map (loaded_form (pair x)).bytes (0 ∷ 1 ∷ []))

pub any_order : map brings
    ((0 ∷ 0 ∷ 0 ∷ 0 ∷ 7 ∷ 1 ∷ 0 ∷ 1 ∷ 0 ∷ 8 ∷ []) ∷ (1 ∷ 0 ∷ 1 ∷ 0 ∷ 8 ∷ 0 ∷ 0 ∷ 0 ∷ 0 ∷ 7 ∷ []) ∷ [])
    ≡ (0, (0 ∷ 1 ∷ []), ((7 ∷ []) ∷ (8 ∷ []) ∷ [])) ∷ (0, (0 ∷ 1 ∷ []), ((7 ∷ []) ∷ (8 ∷ []) ∷ [])) ∷ []
unfolding model pair loads brings
any_order = refl

-- an age twice; an age with a gap; a block twice; a byte behind the records
pub wrong-records : map (λ x. loads (pair x))
    ((0 ∷ 0 ∷ 0 ∷ 0 ∷ 7 ∷ 1 ∷ 0 ∷ 0 ∷ 0 ∷ 8 ∷ []) ∷ (0 ∷ 0 ∷ 0 ∷ 0 ∷ 7 ∷ 1 ∷ 0 ∷ 2 ∷ 0 ∷ 8 ∷ []) ∷ (0 ∷ 0 ∷ 0 ∷ 0 ∷ 7 ∷ 0 ∷ 0 ∷ 1 ∷ 0 ∷ 8 ∷ []) ∷ (0 ∷ 0 ∷ 0 ∷ 0 ∷ 7 ∷ 1 ∷ 0 ∷ 1 ∷ 0 ∷ 8 ∷ 1 ∷ []) ∷ [])
    ≡ 18 ∷ 18 ∷ 18 ∷ 18 ∷ []
unfolding model pair loads
wrong-records = refl
