-- Document 01: "The first no decides." For each two neighbouring questions of a call that can both have the reply no, a call to which both do: the number
-- is that of the first. (A turn's 10 and 15 cannot: 15 asks of a write that is sent. There, 9 and 15.) And each bound of a shape that no edge has.
use Rattle.std.specs.Prelude.{◌≡◌, refl, List, [], ◌∷◌, ℕ, replicate, eqb, if◌then◌else◌}
use Rattle.rules.specs.Shape.{Shape, cell}
use Rattle.rules.specs.State.{State, cmd, read, write, closed}
use Rattle.rules.specs.Setters.{◌▷◌, set_queue, set_waiting, set_sent, set_outstanding, set_counter, set_holds}
use Rattle.rules.specs.Open.{fresh}
use Rattle.rules.specs.Questions.{opening, request, turn, completion, collect, number}
use Rattle.rules.specs.Run.{step}
use Rattle.rules.specs.Unfold.{model, shape, call}

-- ---- An open: lent no word, it answers 3 where shape and memory pass

opens : Shape → ℕ → ℕ
opens h memory = number closed (call (opening h) memory [] 0)

-- a shape with these N, P, B, E, W, and enough levels
bounds : ℕ → ℕ → ℕ → ℕ → ℕ → ℕ
bounds n p b e w = opens (shape n p 8 b e w) 100000000

pub shapes : List ℕ
shapes =
    bounds 4096 32 1 1 1 ∷ bounds 4097 64 1 1 1  -- N up to 4,096
    ∷ bounds 1 64 1 1 1 ∷ bounds 1 128 1 1 1 ∷ bounds 1 0 1 1 1  -- P up to 64
    ∷ bounds 1 1 0 1 1 ∷ bounds 1 1 512 1 1 ∷ bounds 1 1 513 1 1  -- B 1 to 512
    ∷ bounds 2 1 1 0 1 ∷ bounds 2 1 1 2 1 ∷ bounds 2 1 1 3 1  -- E 1 to N
    ∷ bounds 1 1 1 1 0 ∷ bounds 1 1 1 1 32 ∷ bounds 1 1 1 1 33  -- W 1 to 32
    ∷ opens (shape 1 1 0 1 1 1) 100000000 ∷ opens (shape 1 1 1 1 1 1) 100000000 ∷ []  -- L from 1 on

-- ---- The other four

-- two blocks, one partition, two levels, one place in the cache, one command outstanding at most
store : State
store = fresh (shape 2 1 2 1 1 1) (0 ∷ 0 ∷ [])

-- the same with a read of block 0 in hand; with a job, whose order is to be drawn; with a job that has sent the first of its writes
asked : State
asked = (step store (call (request read 0 []) 1000000 (0 ∷ 0 ∷ []) 0)).0

queued : State
queued = store ▷ set_queue (0 ∷ [])

writing : State
writing = queued ▷ set_sent 1 ▷ set_outstanding (cmd write 0 0 0 ∷ [])

-- a read of block 0 that two jobs hold
kept : State
kept = (step (store ▷ set_queue (0 ∷ 0 ∷ [])) (call (request read 0 []) 1000000 (0 ∷ 0 ∷ []) 0)).0

waits : State
waits = store ▷ set_waiting (1 ∷ [])

outstanding : State
outstanding = store ▷ set_outstanding (cmd read 0 1 0 ∷ [])

-- two blocks, two partitions of one level
pair : Shape
pair = shape 2 2 1 1 1 1

-- a level of two slots, both of which hold a block: its rebuild would gather two for a level that holds one. No call leaves such a state
crowded : State
crowded = fresh pair (0 ∷ 0 ∷ []) ▷ set_counter (λ q. 1) ▷ set_holds (λ c. if eqb c (cell pair 0 0 0) then 1 else (if eqb c (cell pair 0 0 1) then 2 else 0)) ▷ set_queue (0 ∷ [])

-- a read of a block, with so many bytes of contents, and no word
reads : State → ℕ → ℕ → ℕ → ℕ
reads s memory b bytes = number s (call (request read b (replicate bytes 0)) memory [] 0)

-- a turn with so many words and a buffer of so many bytes; a collect with a buffer of no byte
turns : State → ℕ → ℕ → ℕ → ℕ
turns s memory words buffer = number s (call turn memory (replicate words 0) buffer)

collects : State → ℕ → ℕ
collects s memory = number s (call collect memory [] 0)

-- the completion of a read, with no byte
completes : State → ℕ → ℕ
completes s memory = number s (call (completion (cmd read 0 0 0) []) memory [] 0)

pub numbers : List ℕ
numbers =
    opens (shape 1 128 1 1 1 1) 0 ∷ opens (shape 1 1 1 1 1 1) 0  -- 1 before 2; 2 before 3
    ∷ reads asked 0 2 1 ∷ reads asked 1000000 2 1 ∷ reads store 1000000 2 1  -- 2 before 4; 4 before 5; 5 before 6
    ∷ reads (store ▷ set_queue (replicate 63 0)) 1000000 0 1  -- 6 before 7
    ∷ reads (waits ▷ set_queue (replicate 63 0)) 1000000 0 0 ∷ reads waits 1000000 0 0 ∷ reads store 1000000 0 0  -- 7 before 8; 8 before 3; 3
    ∷ completes store 0 ∷ completes store 1000000 ∷ completes (store ▷ set_outstanding (cmd read 0 0 0 ∷ [])) 1000000  -- 2 before 11; 11 before 12; 12
    ∷ collects store 0 ∷ collects store 1000000  -- 2 before 13; 13 before 14 and 15
    ∷ collects kept 1000000 ∷ collects asked 1000000 ∷ []  -- 14 before 15; 15

pub turning : List ℕ
turning =
    turns outstanding 0 0 0 ∷ turns outstanding 1000000 0 0 ∷ turns writing 1000000 0 0 ∷ turns store 1000000 0 0  -- 2 before 9; 9 before 10; 9 before 15; 10
    ∷ turns queued 1000000 0 0 ∷ turns crowded 1000000 0 1 ∷ turns crowded 1000000 1 1 ∷ []  -- 15 before 3; 3 before the last 2; 2

pub bounds-hold : shapes ≡ 3 ∷ 1 ∷ 3 ∷ 1 ∷ 1 ∷ 1 ∷ 3 ∷ 1 ∷ 1 ∷ 3 ∷ 1 ∷ 1 ∷ 3 ∷ 1 ∷ 1 ∷ 3 ∷ []
unfolding model opens bounds shapes
bounds-hold = refl

pub first-no : numbers ≡ 1 ∷ 2 ∷ 2 ∷ 4 ∷ 5 ∷ 6 ∷ 7 ∷ 8 ∷ 3 ∷ 2 ∷ 11 ∷ 12 ∷ 2 ∷ 13 ∷ 14 ∷ 15 ∷ []
unfolding model opens store asked queued kept waits reads collects completes numbers
first-no = refl

pub first-no-turn : turning ≡ 2 ∷ 9 ∷ 9 ∷ 10 ∷ 15 ∷ 3 ∷ 2 ∷ []
unfolding model store queued writing outstanding pair crowded turns turning
first-no-turn = refl
