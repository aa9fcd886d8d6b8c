-- Two compared lists with jobs of one partition that run together, between a look-up and another: some of their tapes, and what their runs show with an
-- honest host, computed.
-- Two partitions with two levels, two blocks, both of partition 0. Both lists make a request whose two jobs are for partitions 0 and 1, so that the
-- front one runs alone: it writes level 0 of partition 0. The second request reads one of its two slots, and both its jobs are for partition 0. When
-- the job of partition 1 has run, they run together, from counter 1 to 3: they read what is left of level 0, and write levels 1 and 0, for
-- which one turn draws an order of four slots and one of two. The third request reads a slot of either.
-- The first list writes block 0, and reads it twice. The second reads block 1, writes block 0, and reads block 1: its second request costs a dummy,
-- and two blocks are gathered, one from a slot and one that waits. The draw of the first order is 0 in the first list and 1 in the second, so
-- that both second requests read slot 1. Each pair of slots is then read with six of the 48 choices of the last draws. Both lists go on with
-- completions of slot 1 of level 0 and slot 2 of level 1, and a collect, which is accepted with those six choices. Computed are eight choices
-- of each list, one for each pair of slots.
use Rattle.std.specs.Prelude.{◌≡◌, refl, ◌&&◌, List, [], ◌∷◌, map, ℕ, ◌+◌, ◌*◌, length, get_or, eqb, if◌then◌else◌}
use Rattle.std.proofs.Common.{arith}
use Rattle.lists.specs.Search.{keep, below}
use Rattle.lists.specs.Tests.{between}
use Rattle.rules.specs.Questions.{Ask, opening, request, collect, Call}
use Rattle.rules.specs.Unfold.{model, shape, call}
use Rattle.rules.specs.State.{Command, cmd, read, write, closed}
use Rattle.rules.specs.Run.{Outcome, run}
use Rattle.rules.specs.Ranges.{is_kind, bytes_of}
use Rattle.rules.specs.Shape.{Shape}
use Rattle.rules.specs.Draws.{new_order}
use Rattle.array.specs.Claim.{store, sends as host_sends}
use Rattle.array.specs.Served.{fit, brings, served}
use Rattle.hiding.specs.Claim
use Rattle.hiding.specs.Claim.{Outline, a_collect, outline, Lent, first, Alike, well_formed, collects, Compared, Tape, is_turn, used_by, tape_of, told, Matching}
use Rattle.hiding.proofs.Example.{lent, Sends, sends, calls, list, well, same, rest-compared, join, lends, is_load, loadless, is_short, short, zeros, unknown}
use Rattle.hiding.proofs.Theorem.{hidden}

abbrev four : Shape
four = shape 2 2 2 1 2 2

-- ---- the lists

-- the first job, alone: an order with draw j
abbrev alone : ℕ → List Sends
alone j = sends write 0 0 0 (j ∷ []) ∷ sends write 0 0 1 [] ∷ []

-- the job of partition 1, and then those of partition 0 together: what is left to read, a turn that is answered 3, as 65,535 is passed over below 3,
-- and the writes, by orders with draws a, b, c and d
abbrev together : ℕ → ℕ → ℕ → ℕ → List Sends
together a b c d =
    sends write 1 0 0 (0 ∷ []) ∷ sends write 1 0 1 []
    ∷ sends read 0 0 0 []
    ∷ sends 0 0 0 0 (a ∷ 65535 ∷ 1 ∷ [])
    ∷ sends write 0 1 0 (a ∷ 65535 ∷ b ∷ c ∷ d ∷ []) ∷ sends write 0 1 1 [] ∷ sends write 0 1 2 [] ∷ sends write 0 1 3 []
    ∷ sends write 0 0 0 [] ∷ sends write 0 0 1 []
    ∷ []

-- a request, its evicted partition e, and these reads, completed as reads of these slots; it is collected
abbrev asks : Ask → ℕ → List Sends → List Call → List Call
asks r e xs cs = call r 1000 (0 ∷ e ∷ []) 0 ∷ calls (call collect 1000 [] 1 ∷ cs) xs

abbrev asks_list : Outline → List Sends → List Lent → List Lent
asks_list r xs as' = lent r 2 0 ∷ list (lent a_collect 0 1 ∷ as') xs

-- the reads of the second request and of the third
abbrev one : List Sends
one = sends read 0 0 1 [] ∷ []

abbrev both : List Sends
both = sends read 0 0 1 [] ∷ sends read 0 1 2 [] ∷ []

abbrev runs : Ask → Ask → Ask → ℕ → ℕ → ℕ → ℕ → ℕ → List Call
runs r₁ r₂ r₃ j a b c d =
    call (opening four) 1000 (0 ∷ 0 ∷ []) 0
    ∷ asks r₁ 1 [] (calls (asks r₂ 0 one (calls (asks r₃ 0 both []) (together a b c d))) (alone j))

abbrev later : Outline → Outline → Outline → List Lent
later r₁ r₂ r₃ = asks_list r₁ [] (list (asks_list r₂ one (list (asks_list r₃ both []) (together 0 0 0 0))) (alone 0))

abbrev a₁ : Ask
a₁ = request write 0 (7 ∷ [])

abbrev a₂ : Ask
a₂ = request read 0 []

abbrev b₁ : Ask
b₁ = request read 1 []

abbrev b₂ : Ask
b₂ = request write 0 (9 ∷ [])

-- ---- they are compared, so their tapes are matched

asks-compared : (r q : Outline) → Alike four r q → (xs : List Sends) (as' bs' : List Lent) → Compared four as' bs' → Compared four (asks_list r xs as') (asks_list q xs bs')
asks-compared r q k xs as' bs' c = Claim.more (same r q 2 0 k) (rest-compared _ _ (Claim.more (same a_collect a_collect 0 1 collects) c) xs)

first_alike : Alike four (outline a₁) (outline b₁)
unfolding is_kind between bytes_of
first_alike = well_formed (well four write 0 1 refl (omega arith) refl) (well four read 1 0 refl (omega arith) refl)

second_alike : Alike four (outline a₂) (outline b₂)
unfolding is_kind between bytes_of
second_alike = well_formed (well four read 0 0 refl (omega arith) refl) (well four write 0 1 refl (omega arith) refl)

third-alike : Alike four (outline a₂) (outline b₁)
unfolding is_kind between bytes_of
third-alike = well_formed (well four read 0 0 refl (omega arith) refl) (well four read 1 0 refl (omega arith) refl)

abbrev list_a : List Lent
list_a = first four 1000 2 0 ∷ later (outline a₁) (outline a₂) (outline a₂)

abbrev list_b : List Lent
list_b = first four 1000 2 0 ∷ later (outline b₁) (outline b₂) (outline b₁)

pub compared : Compared four (later (outline a₁) (outline a₂) (outline a₂)) (later (outline b₁) (outline b₂) (outline b₁))
compared =
    let third = asks-compared (outline a₂) (outline b₁) third-alike both [] [] Claim.none in
    let second = asks-compared (outline a₂) (outline b₂) second_alike one _ _ (rest-compared _ _ third (together 0 0 0 0)) in
    asks-compared (outline a₁) (outline b₁) first_alike [] _ _ (rest-compared _ _ second (alone 0))

pub matching : Matching (Tape closed list_a) (Tape closed list_b)
matching = (hidden.lists four refl 1000 2 0 _ _ compared closed closed).0

-- the words taken, and those lent to the turn answered 3
abbrev tape : ℕ → ℕ → ℕ → ℕ → ℕ → List ℕ
tape j a b c d = 0 ∷ 0 ∷ 0 ∷ 1 ∷ j ∷ 0 ∷ 0 ∷ 0 ∷ a ∷ 65535 ∷ 1 ∷ a ∷ 65535 ∷ b ∷ c ∷ d ∷ 0 ∷ 0 ∷ []

pub tapes : Tape closed list_a (tape 0 3 2 1 0) × Tape closed list_b (tape 1 3 2 1 0)
unfolding model calls list used_by tape_of is_short is_load is_turn
tapes =
    let cs = runs a₁ a₂ a₂ 0 3 2 1 0 in
    let ds = runs b₁ b₂ b₁ 1 3 2 1 0 in (
      (cs, record { calls = lends cs; short = short cs refl; loads = loadless cs refl [] (run closed cs); tape = refl }),
      (ds, record { calls = lends ds; short = short ds refl; loads = loadless ds refl [] (run closed ds); tape = refl }),
    )

-- ---- what their runs show

-- a completion of a slot that was read, or not
abbrev completes : ℕ → ℕ → ℕ × ℕ × Command
completes i j = if eqb i j then (0, 0, zeros) else (11, 0, zeros)

-- if the third request reads slot i of level 0 and slot k of level 1
abbrev shows : ℕ → ℕ → List (ℕ × ℕ × Command)
shows i k =
    (0, 2, zeros) ∷ (0, 2, zeros) ∷ (0, 0, zeros)
    ∷ (0, 1, cmd write 0 0 0) ∷ (0, 0, zeros) ∷ (0, 0, cmd write 0 0 1) ∷ (0, 0, zeros)
    ∷ (0, 2, zeros) ∷ (0, 0, cmd read 0 0 1) ∷ (0, 0, zeros) ∷ (0, 0, zeros)
    ∷ (0, 1, cmd write 1 0 0) ∷ (0, 0, zeros) ∷ (0, 0, cmd write 1 0 1) ∷ (0, 0, zeros)
    ∷ (0, 0, cmd read 0 0 0) ∷ (0, 0, zeros)
    ∷ (3, 0, zeros) ∷ (2, 0, zeros)
    ∷ (0, 5, cmd write 0 1 0) ∷ (0, 0, zeros) ∷ (0, 0, cmd write 0 1 1) ∷ (0, 0, zeros)
    ∷ (0, 0, cmd write 0 1 2) ∷ (0, 0, zeros) ∷ (0, 0, cmd write 0 1 3) ∷ (0, 0, zeros)
    ∷ (0, 0, cmd write 0 0 0) ∷ (0, 0, zeros) ∷ (0, 0, cmd write 0 0 1) ∷ (0, 0, zeros)
    ∷ (0, 2, zeros) ∷ (0, 0, cmd read 0 0 i) ∷ completes i 1 ∷ (0, 0, cmd read 0 1 k) ∷ completes k 2
    ∷ (if eqb i 1 && eqb k 2 then (0, 0, zeros) else (14, 0, zeros)) ∷ []

-- the slot of level 0's lowest dummy, of which there are two, and that of item k of level 1
abbrev slot_below : ℕ → ℕ
slot_below d = get_or (new_order 2 (d ∷ [])) 0 0

abbrev slot_above : ℕ → ℕ → ℕ → ℕ → ℕ
slot_above k a b c = get_or (new_order 4 (a ∷ b ∷ c ∷ [])) k 0

-- what is told, and what the last call, the third collect, hands out
abbrev seen : List Outcome → List (ℕ × ℕ × Command) × List ℕ
seen os = (map told os, get_or (map (λ (o : Outcome). o.bytes) os) 36 [])

-- draws a, b, c by which an item is in slots 0, 1, 2 and 3 of level 1; with each of them both draws d
abbrev Draws : Type 0
Draws = ℕ × ℕ × ℕ

abbrev eight : List Draws → (Draws → ℕ → List Call) → List (List (ℕ × ℕ × Command) × List ℕ)
eight xs f = join (map (λ d. map (λ x. seen (run closed (served unknown [] closed (f x d)))) xs) (below 2))

abbrev expected : List ℕ → List (List (ℕ × ℕ × Command) × List ℕ)
expected bs = join (map (λ d. map (λ k. (shows (slot_below d) k, if eqb (slot_below d) 1 && eqb k 2 then bs else [])) (below 4)) (below 2))

-- the first list's block is item 0 of level 1, and has what was written
abbrev zeroth : List Draws
zeroth = (3, 2, 1) ∷ (3, 2, 0) ∷ (3, 0, 1) ∷ (0, 2, 1) ∷ []

pub shown-first : eight zeroth (λ x d. runs a₁ a₂ a₂ 0 x.0 x.1 x.2 d) ≡ expected (7 ∷ [])
unfolding model calls served brings fit host_sends store
shown-first = refl

-- the second list's is item 1, and was never written
abbrev other : List Draws
other = (3, 2, 0) ∷ (3, 2, 1) ∷ (3, 1, 1) ∷ (1, 2, 1) ∷ []

pub shown-second : eight other (λ x d. runs b₁ b₂ b₁ 1 x.0 x.1 x.2 d) ≡ expected (0 ∷ [])
unfolding model calls served brings fit host_sends store
shown-second = refl

-- ---- each pair of slots is read as often

-- for each of the 48 choices of the last two orders' draws
abbrev each : {A : Type 0} → (ℕ → ℕ → ℕ → ℕ → A) → List A
each f = join (map (λ d. join (map (λ a. join (map (λ b. map (λ c. f a b c d) (below 2)) (below 3))) (below 4))) (below 2))

-- how often each slot of level 1 is read with either slot of level 0
abbrev counted : (ℕ → ℕ → ℕ → ℕ) → List ℕ
counted f = let xs = each (λ a b c d. 4 * slot_below d + f a b c) in map (λ i. length (keep (eqb i) xs)) (below 8)

pub as-often : (counted (slot_above 0) ≡ 6 ∷ 6 ∷ 6 ∷ 6 ∷ 6 ∷ 6 ∷ 6 ∷ 6 ∷ []) × (counted (slot_above 1) ≡ 6 ∷ 6 ∷ 6 ∷ 6 ∷ 6 ∷ 6 ∷ 6 ∷ 6 ∷ [])
unfolding model
as-often = (refl, refl)
