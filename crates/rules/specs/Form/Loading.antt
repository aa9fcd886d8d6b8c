-- Document 02, P5: the state that a form brings, and which forms load.
use Rattle.std.specs.Prelude.{Bool, true, false, ◌&&◌, List, [], ◌∷◌, ◌++◌, map, ℕ, suc, ◌-◌, ◌^◌, length, get_or, replicate, ltb, leb, eqb}
use Rattle.std.proofs.Math.Option.{Option, none, some}
use Rattle.lists.specs.Tests.{every}
use Rattle.lists.specs.Search.{find, keep, any, all, below, member}
use Rattle.lists.specs.Tables.{put_all}
use Rattle.rules.specs.Shape.{Shape, slots, cell}
use Rattle.rules.specs.State.{Place, nowhere, stored, State, closed}
use Rattle.rules.specs.Ranges.{in_range}
use Rattle.rules.specs.Levels.{filled}
use Rattle.rules.specs.Blocks.{is_unread}
use Rattle.rules.specs.Form.Numbers.{form_of}
use Rattle.rules.specs.Form.Sums.{out_of_blocks}
use Rattle.rules.specs.Form.Payload.{Waiter}
use Rattle.rules.specs.Form.Reading.{Spot, absent, waits, at, Level, Form, get_form, is_waiting}

-- ---- The state

-- a table with lists of entries laid into it in turn, each from some place on
unfoldable pub lay_over : (ℕ → ℕ) → List (ℕ × List ℕ) → ℕ → ℕ
lay_over t [] = t
lay_over t (x ∷ xs) = lay_over (put_all x.0 x.1 t) xs

-- .. into a table of zeros
abbrev pub lay : List (ℕ × List ℕ) → ℕ → ℕ
lay xs = lay_over (λ c. 0) xs

-- a block's partition and place; there is none past the last
unfoldable pub block_at : List (ℕ × Spot) → ℕ → ℕ × Spot
block_at xs b = get_or xs b (0, absent)

-- Who waits is told by the records; any other block is nowhere, or where its place says
unfoldable pub place_of : Spot → Place
place_of absent = nowhere
place_of waits = nowhere
place_of (at ℓ i) = stored ℓ i

-- what the slots hold: blocks from number b on, each in the slot of its place
unfoldable pub held_at : Shape → ℕ → ℕ → Spot → List (ℕ × List ℕ)
held_at h b p absent = []
held_at h b p waits = []
held_at h b p (at ℓ i) = (cell h p ℓ i, suc b ∷ []) ∷ []

unfoldable pub held_from : Shape → ℕ → List (ℕ × Spot) → List (ℕ × List ℕ)
held_from h b [] = []
held_from h b (x ∷ xs) = held_at h b x.0 x.1 ++ held_from h (suc b) xs

unfoldable pub orders_of : Shape → List Level → List (ℕ × List ℕ)
orders_of h ls = map (λ (l : Level). (cell h l.partition l.level 0, l.order)) ls

-- a slot that was not read has 1 in the state
unfoldable pub marks_of : Shape → List Level → List (ℕ × List ℕ)
marks_of h ls = map (λ (l : Level). (cell h l.partition l.level 0, map (λ m. 1 - m) l.marks)) ls

unfoldable pub block_in : Option Waiter → ℕ
block_in none = 0
block_in (some r) = r.block

unfoldable pub bytes_in : List ℕ → Option Waiter → List ℕ
bytes_in bs none = bs
bytes_in bs (some r) = r.bytes

-- by age, whatever the order of the records
unfoldable pub aged : List Waiter → ℕ → Option Waiter
aged ws a = find (λ (r : Waiter). eqb r.age a) ws

unfoldable pub of_block : List Waiter → ℕ → Option Waiter
of_block ws b = find (λ (r : Waiter). eqb r.block b) ws

-- "Loading a saved state brings that state back": no request in hand, no command outstanding, no job begun. What the form leaves out is zeros
unfoldable pub loaded : Form → State
loaded f = record {
  shape = f.shape;
  partition = λ b. (block_at f.blocks b).0;
  place = λ b. place_of (block_at f.blocks b).1;
  bytes = λ b. bytes_in (replicate f.shape.B 0) (of_block f.waiters b);
  waiting = map (λ a. block_in (aged f.waiters a)) (below (length f.waiters));
  counter = λ q. get_or f.counters q 0;
  order = lay (orders_of f.shape f.levels);
  mark = lay (marks_of f.shape f.levels);
  holds = lay (held_from f.shape 0 f.blocks);
  queue = f.queue;
  begun = 0;
  cursor = 0;
  sent = 0;
  outstanding = [];
  request = none;
}

-- ---- Which forms load

-- the blocks whose place is in level ℓ of q
unfoldable pub is_in : ℕ → Place → Bool
is_in ℓ nowhere = false
is_in ℓ (stored m i) = eqb m ℓ

unfoldable pub stored_at : State → ℕ → ℕ → List ℕ
stored_at s q ℓ = keep (λ b. eqb (s.partition b) q && is_in ℓ (s.place b)) (below s.shape.N)

-- "Blocks in unread slots of filled levels, one each": the slot holds this block and not another
unfoldable pub well_placed : State → ℕ → Place → Bool
well_placed s b nowhere = true
well_placed s b (stored ℓ i) = every
    (filled (s.counter (s.partition b)) ℓ
    ∷ is_unread s (s.partition b) ℓ i
    ∷ eqb (s.holds (cell s.shape (s.partition b) ℓ i)) (suc b) ∷ [])

unfoldable pub is_permutation : Level → Bool
is_permutation l = all (λ i. member i l.order) (below (slots l.level))

-- "A byte 0 or 1 a slot"
unfoldable pub are_marks : Level → Bool
are_marks l = all (λ m. leb m 1) l.marks

unfoldable pub waits_at : List (ℕ × Spot) → ℕ → Bool
waits_at xs b = is_waiting (block_at xs b)

-- "18 unless it is a form as above with shape and numbers in range, orders that are permutations, blocks in unread slots of filled levels, one
-- each, at most 2^ℓ in level ℓ, at most E waiting, ages from 0 without gap, each once". At most E waiting is among the ranges of a state.
-- There are as many records as waiting blocks and ages: where each has one, each has one only. `rest` is what comes after: "the rest of the
-- last block is zeros"
unfoldable pub checks : Form × List ℕ → List Bool
checks x = let f = x.0 in let s = loaded f in
    (eqb f.number (form_of f.shape)
    ∷ in_range s
    ∷ all is_permutation f.levels
    ∷ all are_marks f.levels
    ∷ all (λ b. well_placed s b (s.place b)) (below f.shape.N)
    ∷ all (λ (l : Level). leb (length (stored_at s l.partition l.level)) (2 ^ l.level)) f.levels
    ∷ all (λ a. any (λ (r : Waiter). eqb r.age a) f.waiters) (below (length f.waiters))
    ∷ all (λ b. any (λ (r : Waiter). eqb r.block b) f.waiters) (keep (waits_at f.blocks) (below f.shape.N))
    ∷ all (eqb 0) x.1
    ∷ ltb (length x.1) 508 ∷ [])

unfoldable pub sound : Form × List ℕ → Bool
sound x = every (checks x)

unfoldable pub is_sound : Option (Form × List ℕ) → Bool
is_sound none = false
is_sound (some x) = sound x

unfoldable pub loads : List ℕ → Bool
loads bs = is_sound (get_form (out_of_blocks bs))

unfoldable pub state_in : Option (Form × List ℕ) → State
state_in none = closed
state_in (some x) = loaded x.0

-- the state that a form brings
unfoldable pub loaded_form : List ℕ → State
loaded_form bs = state_in (get_form (out_of_blocks bs))
