-- Two compared lists of a small shape, some of their tapes, and what their runs show: computed.
-- One partition with two levels, two blocks. Both lists open, make a request, collect it, let its two jobs run together and make a second request.
-- The first list writes block 0 and then reads it. The second reads block 1 and then writes block 0, which is nowhere and so costs a dummy. The
-- draws that are not below 1 are one order of four slots: 24 choices. The turn that draws it is first lent words that end before its last draw is
-- settled, as 65,535 is passed over below 3. In either list each of the four slots of level 1 is read with six of the choices. Both lists go on
-- with a completion of that read as one of slot 2, and a collect: they are accepted with those six choices and refused with the others. All else
-- is the same.
-- Saved and loaded before the second request, the two lists are told the same as before.
-- With an honest host, the bytes that a read brings depend on the tape. What is told is the same as if it brought zeros, and where the second
-- request is collected, the first list's hands out the 7 that it wrote, and the second's a 0.
use Rattle.std.specs.Prelude.{◌≡◌, refl, Bool, true, false, not, List, [], ◌∷◌, ◌++◌, map, ℕ, ◌<◌, length, get_or, take, drop, eqb, ltb, if◌then◌else◌}
use Rattle.std.proofs.Common.{sym, true≢false, arith, ltb-true}
use Rattle.lists.specs.All.{All, nil, cons, all_yes, all_map}
use Rattle.lists.specs.Search.{keep, all, below}
use Rattle.lists.specs.Tests.{between}
use Rattle.rules.specs.Questions.{Ask, opening, request, turn, completion, collect, save, load, Call}
use Rattle.rules.specs.Unfold.{model, shape, call}
use Rattle.rules.specs.State.{State, Command, cmd, read, write, closed}
use Rattle.rules.specs.Resumes.{saved_by, OfLast, Resumes}
use Rattle.rules.specs.Run.{Outcome, step, run}
use Rattle.rules.specs.Ranges.{is_kind, bytes_of}
use Rattle.rules.specs.Shape.{Shape}
use Rattle.rules.specs.Draws.{new_order}
use Rattle.hiding.proofs.Lists.Served.{loading-outline, loading-last}
use Rattle.hiding.proofs.Theorem.{hidden}
use Rattle.hiding.specs.Claim
use Rattle.array.specs.Claim.{Slots, store, sends as host_sends}
use Rattle.array.specs.Served.{fit, brings, served}
use Rattle.hiding.specs.Claim.{Outline, a_turn, a_completion, a_collect, a_save, a_load, outline, loading, Lent, first, WellFormed, Alike, well_formed, turns, completions, collects, saves, loads, Same, Compared, Tape, Lends, Short, is_turn, used_by, tape_of, told, Matching}

abbrev two : Shape
two = shape 2 1 2 1 2 1

-- a call, with the words it is lent
abbrev pub lent : Outline → ℕ → ℕ → Lent
lent a w n = record { ask = a; memory = 1000; words = w; buffer = n }

-- a command is sent, with these words, and completed
pub record Sends : Type 0 where
  pub command : Command
  pub words : List ℕ

abbrev pub sends : ℕ → ℕ → ℕ → ℕ → List ℕ → Sends
sends k q ℓ i ws = record { command = cmd k q ℓ i; words = ws }

-- the two jobs, together: from counter 0 to 2, so they write level 1, by an order with draws a, b, c. Before them a turn answered 3, and a
-- completion answered 2
abbrev jobs : ℕ → ℕ → ℕ → List Sends
jobs a b c =
    sends 0 0 0 0 (a ∷ 65535 ∷ 1 ∷ [])
    ∷ sends write 0 1 0 (a ∷ 65535 ∷ b ∷ c ∷ []) ∷ sends write 0 1 1 [] ∷ sends write 0 1 2 [] ∷ sends write 0 1 3 []
    ∷ []

-- how many bytes are brought for a read; in these runs they are zeros
abbrev many : ℕ → ℕ
many k = if eqb k read then 1 else 0

abbrev brought : ℕ → List ℕ
brought k = if eqb k read then 0 ∷ [] else []

-- the second request, r, with its turn, a completion and a collect
abbrev ending : Ask → List Call
ending r = call r 1000 (0 ∷ 0 ∷ []) 0 ∷ call turn 1000 [] 1 ∷ call (completion (cmd read 0 1 2) (0 ∷ [])) 1000 [] 0 ∷ call collect 1000 [] 1 ∷ []

abbrev ending_list : Outline → List Lent
ending_list r = lent r 2 0 ∷ lent a_turn 0 1 ∷ lent (a_completion (cmd read 0 1 2) 1) 0 0 ∷ lent a_collect 0 1 ∷ []

-- the jobs and then these calls
unfoldable pub calls : List Call → List Sends → List Call
calls cs [] = cs
calls cs (x ∷ xs) = call turn 1000 x.words 1 ∷ call (completion x.command (brought x.command.kind)) 1000 [] 0 ∷ calls cs xs

unfoldable pub list : List Lent → List Sends → List Lent
list as' [] = as'
list as' (x ∷ xs) = lent a_turn (length x.words) 1 ∷ lent (a_completion x.command (many x.command.kind)) 0 0 ∷ list as' xs

-- the list after its open, and its run with these draws
abbrev later : Ask → Ask → List Lent
later r₁ r₂ = lent (outline r₁) 2 0 ∷ lent a_collect 0 1 ∷ list (ending_list (outline r₂)) (jobs 0 0 0)

abbrev begins : Ask → List Call → ℕ → ℕ → ℕ → List Call
begins r cs a b c = call (opening two) 1000 (0 ∷ 0 ∷ []) 0 ∷ call r 1000 (0 ∷ 0 ∷ []) 0 ∷ call collect 1000 [] 1 ∷ calls cs (jobs a b c)

abbrev runs : Ask → Ask → ℕ → ℕ → ℕ → List Call
runs r₁ r₂ a b c = begins r₁ (ending r₂) a b c

-- the two lists' requests
abbrev a₁ : Ask
a₁ = request write 0 (7 ∷ [])

abbrev a₂ : Ask
a₂ = request read 0 []

abbrev b₁ : Ask
b₁ = request read 1 []

abbrev b₂ : Ask
b₂ = request write 0 (9 ∷ [])

-- ---- they are compared

pub well : (h : Shape) (k b n : ℕ) → is_kind k ≡ true → b < h.N → n ≡ bytes_of h k → WellFormed h k b n
well h k b n x y z = record { kind = x; block = y; contents = z }

pub same : {h : Shape} (a b : Outline) (w n : ℕ) → Alike h a b → Same h (lent a w n) (lent b w n)
same a b w n k = record { ask = k; memory = refl; words = refl; buffer = refl }

ends-compared : (r q : Outline) → Alike two r q → Compared two (ending_list r) (ending_list q)
ends-compared r q k = Claim.more (same r q 2 0 k) (Claim.more (same a_turn a_turn 0 1 turns) (Claim.more (same _ _ 0 0 completions) (Claim.more (same a_collect a_collect 0 1 collects) Claim.none)))

pub rest-compared : {h : Shape} (as' bs' : List Lent) → Compared h as' bs' → (xs : List Sends) → Compared h (list as' xs) (list bs' xs)
unfolding list
rest-compared as' bs' k [] = k
rest-compared as' bs' k (x ∷ xs) = Claim.more (same a_turn a_turn _ 1 turns) (Claim.more (same _ _ 0 0 completions) (rest-compared as' bs' k xs))

first_alike : Alike two (outline a₁) (outline b₁)
unfolding is_kind between bytes_of
first_alike = well_formed (well two write 0 1 refl (omega arith) refl) (well two read 1 0 refl (omega arith) refl)

second_alike : Alike two (outline a₂) (outline b₂)
unfolding is_kind between bytes_of
second_alike = well_formed (well two read 0 0 refl (omega arith) refl) (well two write 0 1 refl (omega arith) refl)

pub compared : Compared two (later a₁ a₂) (later b₁ b₂)
compared =
    Claim.more (same (outline a₁) (outline b₁) 2 0 first_alike)
    (Claim.more (same a_collect a_collect 0 1 collects) (rest-compared (ending_list (outline a₂)) (ending_list (outline b₂)) (ends-compared (outline a₂) (outline b₂) second_alike) (jobs 0 0 0)))

-- ---- their tapes

abbrev pub join : {A : Type 0} → List (List A) → List A
join [] = []
join (xs ∷ xss) = xs ++ join xss

-- for each of the 24 choices of the draws
abbrev each : {A : Type 0} → (ℕ → ℕ → ℕ → A) → List A
each f = join (map (λ a. join (map (λ b. map (λ c. f a b c) (below 2)) (below 3))) (below 4))

-- the words taken, and those lent to the turn answered 3
abbrev tape : ℕ → ℕ → ℕ → List ℕ
tape a b c = 0 ∷ 0 ∷ 0 ∷ 0 ∷ a ∷ 65535 ∷ 1 ∷ a ∷ 65535 ∷ b ∷ c ∷ 0 ∷ 0 ∷ []

-- the list of some calls
abbrev pub lent_of : Call → Lent
lent_of c = record { ask = outline c.ask; memory = c.memory; words = length c.words; buffer = c.buffer }

pub lends : (cs : List Call) → Lends (map lent_of cs) cs
lends [] = Claim.none
lends (c ∷ cs) = Claim.more refl refl (lends cs)

-- without loads there is none to be of another form
unfoldable pub is_load : Ask → Bool
is_load (opening h) = false
is_load (request k b bs) = false
is_load turn = false
is_load (completion c bs) = false
is_load collect = false
is_load save = false
is_load (load form) = true

pub loadless : (cs : List Call) → all (λ (c : Call). not (is_load c.ask)) cs ≡ true → (y : List ℕ) (os : List Outcome) → Resumes y cs os
unfolding is_load
loadless cs e = every cs (all_yes (λ (c : Call). not (is_load c.ask)) cs e)
  where
    one : (y : List ℕ) (a : Ask) → not (is_load a) ≡ true → OfLast y a
    one y (opening h) e = tt
    one y (request k b bs) e = tt
    one y turn e = tt
    one y (completion c bs) e = tt
    one y collect e = tt
    one y save e = tt
    one y (load form) e = absurd (true≢false (sym e))

    every : (cs : List Call) → All (λ (c : Call). not (is_load c.ask) ≡ true) cs → (y : List ℕ) (os : List Outcome) → Resumes y cs os
    every [] nil y os = tt
    every (c ∷ cs) p y [] = tt
    every (c ∷ cs) (cons p q) y (o ∷ os) = (one y c.ask p, every cs q (saved_by c.ask o) os)

-- words of 16 bits, computed
unfoldable pub is_short : Call → Bool
is_short c = all (λ w. ltb w 65536) c.words

pub short : (cs : List Call) → all is_short cs ≡ true → Short cs
unfolding is_short
short cs e = all_map (λ (c : Call) k. all_map (λ w l. ltb-true w 65536 l) (all_yes (λ w. ltb w 65536) c.words k)) (all_yes is_short cs e)

-- the runs have these tapes, of which the two with draws 0 0 0 and 3 2 1 are different
abbrev Two : Ask → Ask → Type 0
Two r₁ r₂ = Tape closed (first two 1000 2 0 ∷ later r₁ r₂) (tape 0 0 0) × Tape closed (first two 1000 2 0 ∷ later r₁ r₂) (tape 3 2 1)

pub tapes-first : Two a₁ a₂
unfolding model calls list used_by tape_of is_short is_load is_turn
tapes-first = (
  (runs a₁ a₂ 0 0 0, record { calls = lends (runs a₁ a₂ 0 0 0); short = short (runs a₁ a₂ 0 0 0) refl; loads = loadless (runs a₁ a₂ 0 0 0) refl [] (run closed (runs a₁ a₂ 0 0 0)); tape = refl }),
  (runs a₁ a₂ 3 2 1, record { calls = lends (runs a₁ a₂ 3 2 1); short = short (runs a₁ a₂ 3 2 1) refl; loads = loadless (runs a₁ a₂ 3 2 1) refl [] (run closed (runs a₁ a₂ 3 2 1)); tape = refl }),
)

pub tapes-second : Two b₁ b₂
unfolding model calls list used_by tape_of is_short is_load is_turn
tapes-second = (
  (runs b₁ b₂ 0 0 0, record { calls = lends (runs b₁ b₂ 0 0 0); short = short (runs b₁ b₂ 0 0 0) refl; loads = loadless (runs b₁ b₂ 0 0 0) refl [] (run closed (runs b₁ b₂ 0 0 0)); tape = refl }),
  (runs b₁ b₂ 3 2 1, record { calls = lends (runs b₁ b₂ 3 2 1); short = short (runs b₁ b₂ 3 2 1) refl; loads = loadless (runs b₁ b₂ 3 2 1) refl [] (run closed (runs b₁ b₂ 3 2 1)); tape = refl }),
)

-- and the tapes of the two lists are matched
pub matching : Matching (Tape closed (first two 1000 2 0 ∷ later a₁ a₂)) (Tape closed (first two 1000 2 0 ∷ later b₁ b₂))
matching = (hidden.lists two refl 1000 2 0 (later a₁ a₂) (later b₁ b₂) compared closed closed).0

-- ---- what their runs show

abbrev pub zeros : Command
zeros = cmd 0 0 0 0

-- the completion of a read of slot 2, and the collect
abbrev ends : ℕ → List (ℕ × ℕ × Command)
ends i = if eqb i 2 then (0, 0, zeros) ∷ (0, 0, zeros) ∷ [] else (11, 0, zeros) ∷ (14, 0, zeros) ∷ []

-- if the second request reads slot i
abbrev shows : ℕ → List (ℕ × ℕ × Command)
shows i =
    (0, 2, zeros) ∷ (0, 2, zeros) ∷ (0, 0, zeros)
    ∷ (3, 0, zeros) ∷ (2, 0, zeros)
    ∷ (0, 4, cmd write 0 1 0) ∷ (0, 0, zeros) ∷ (0, 0, cmd write 0 1 1) ∷ (0, 0, zeros)
    ∷ (0, 0, cmd write 0 1 2) ∷ (0, 0, zeros) ∷ (0, 0, cmd write 0 1 3) ∷ (0, 0, zeros)
    ∷ (0, 2, zeros) ∷ (0, 0, cmd read 0 1 i) ∷ ends i

-- the slot of an item
abbrev slot_of : ℕ → ℕ → ℕ → ℕ → ℕ
slot_of k a b c = get_or (new_order 4 (a ∷ b ∷ c ∷ [])) k 0

-- the first list's block is item 0; the second's second request reads item 1, the lowest dummy
pub shown-first : each (λ a b c. map told (run closed (runs a₁ a₂ a b c))) ≡ each (λ a b c. shows (slot_of 0 a b c))
unfolding model calls
shown-first = refl

pub shown-second : each (λ a b c. map told (run closed (runs b₁ b₂ a b c))) ≡ each (λ a b c. shows (slot_of 1 a b c))
unfolding model calls
shown-second = refl

-- how often each slot is read
abbrev counted : List ℕ → List ℕ
counted xs = map (λ i. length (keep (eqb i) xs)) (below 4)

pub as-often : (counted (each (slot_of 0)) ≡ 6 ∷ 6 ∷ 6 ∷ 6 ∷ []) × (counted (each (slot_of 1)) ≡ 6 ∷ 6 ∷ 6 ∷ 6 ∷ [])
unfolding model
as-often = (refl, refl)

-- ---- with an honest host

-- what was in the slots before
abbrev pub unknown : Slots
unknown q ℓ i = 255 ∷ []

abbrev honestly : Ask → Ask → ℕ → ℕ → ℕ → List Call
honestly r₁ r₂ a b c = served unknown [] closed (runs r₁ r₂ a b c)

-- what is told, and what the last call, the second collect, hands out
abbrev seen : List Outcome → List (ℕ × ℕ × Command) × List ℕ
seen os = (map told os, get_or (map (λ (o : Outcome). o.bytes) os) 16 [])

-- What is told is the same as before. The collect hands out what the array has at block 0, where it is accepted
pub honest-first : each (λ a b c. seen (run closed (honestly a₁ a₂ a b c)))
    ≡ each (λ a b c. (shows (slot_of 0 a b c), if eqb (slot_of 0 a b c) 2 then 7 ∷ [] else []))
unfolding model calls served brings fit host_sends store
honest-first = refl

pub honest-second : each (λ a b c. seen (run closed (honestly b₁ b₂ a b c)))
    ≡ each (λ a b c. (shows (slot_of 1 a b c), if eqb (slot_of 1 a b c) 2 then 0 ∷ [] else []))
unfolding model calls served brings fit host_sends store
honest-second = refl

-- ---- saved and loaded before the second request

-- each run loads the form that it has saved itself
unfoldable pub resuming : State → List ℕ → List Call → List Call
resuming s form [] = []
resuming s form (c ∷ cs) =
    let d : Call = record { ask = loading form c.ask; memory = c.memory; words = c.words; buffer = c.buffer } in
    let r : State × Outcome = step s d in
    d ∷ resuming r.0 (saved_by d.ask r.1) cs

abbrev stopped : Ask → Ask → ℕ → ℕ → ℕ → List Call
stopped r₁ r₂ a b c = resuming closed [] (begins r₁ (call save 1000 [] 512 ∷ call (load []) 1000 [] 0 ∷ ending r₂) a b c)

abbrev stopped_list : Ask → Ask → List Lent
stopped_list r₁ r₂ = lent (outline r₁) 2 0 ∷ lent a_collect 0 1 ∷ list (lent a_save 0 512 ∷ lent a_load 0 0 ∷ ending_list (outline r₂)) (jobs 0 0 0)

-- what both are told: the save and the load are accepted, and all else is as it was; of the choices of draws, four
abbrev shows_stopped : ℕ → List (ℕ × ℕ × Command)
shows_stopped i = let os = shows i in take 13 os ++ ((0, 0, zeros) ∷ (0, 0, zeros) ∷ drop 13 os)

pub stopped-first : map (λ a. map told (run closed (stopped a₁ a₂ a 2 1))) (below 4) ≡ map (λ a. shows_stopped (slot_of 0 a 2 1)) (below 4)
unfolding model calls resuming saved_by
stopped-first = refl

pub stopped-second : map (λ a. map told (run closed (stopped b₁ b₂ a 2 1))) (below 4) ≡ map (λ a. shows_stopped (slot_of 1 a 2 1)) (below 4)
unfolding model calls resuming saved_by
stopped-second = refl

-- these lists are compared too, and their tapes are matched
pub stopped-compared : Compared two (stopped_list a₁ a₂) (stopped_list b₁ b₂)
stopped-compared =
    Claim.more (same (outline a₁) (outline b₁) 2 0 first_alike)
    (Claim.more (same a_collect a_collect 0 1 collects)
    (rest-compared _ _ (Claim.more (same a_save a_save 0 512 saves) (Claim.more (same a_load a_load 0 0 loads) (ends-compared (outline a₂) (outline b₂) second_alike))) (jobs 0 0 0)))

pub stopped-matching : Matching (Tape closed (first two 1000 2 0 ∷ stopped_list a₁ a₂)) (Tape closed (first two 1000 2 0 ∷ stopped_list b₁ b₂))
stopped-matching = (hidden.lists two refl 1000 2 0 (stopped_list a₁ a₂) (stopped_list b₁ b₂) stopped-compared closed closed).0

-- the runs are of these lists
resuming-lends : (cs : List Call) (s : State) (form : List ℕ) → Lends (map lent_of cs) (resuming s form cs)
unfolding resuming
resuming-lends [] s form = Claim.none
resuming-lends (c ∷ cs) s form = Claim.more (loading-outline form c.ask) refl (resuming-lends cs _ _)

resuming-loads : (cs : List Call) (s : State) (form : List ℕ) → Resumes form (resuming s form cs) (run s (resuming s form cs))
unfolding resuming run
resuming-loads [] s form = tt
resuming-loads (c ∷ cs) s form = (loading-last form c.ask, resuming-loads cs _ _)

pub stopped-tape : Tape closed (first two 1000 2 0 ∷ stopped_list a₁ a₂) (tape 3 2 1)
unfolding model calls list resuming saved_by used_by tape_of is_short is_turn
stopped-tape =
    let cs = begins a₁ (call save 1000 [] 512 ∷ call (load []) 1000 [] 0 ∷ ending a₂) 3 2 1 in
    (resuming closed [] cs, record { calls = resuming-lends cs closed []; short = short (resuming closed [] cs) refl; loads = resuming-loads cs closed []; tape = refl })
