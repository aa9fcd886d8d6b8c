-- Document 01, "Edges": those marked *, as one table; and runs of several jobs, document 02, P7.
use Rattle.std.specs.Prelude.{◌≡◌, refl, List, [], ◌∷◌, ◌++◌, map, ℕ, length, replicate, eqb, ltb, if◌then◌else◌}
use Rattle.lists.specs.Search.{keep, below}
use Rattle.rules.specs.Shape.{Shape, slots}
use Rattle.rules.specs.State.{State, Command, cmd, read, write, closed}
use Rattle.rules.specs.Setters.{◌▷◌, set_counter, set_mark, set_queue, set_waiting}
use Rattle.rules.specs.Draws.{new_order, draws, order_bounds}
use Rattle.rules.specs.Levels.{joins, grown, top_level, source_levels, down, written_levels}
use Rattle.rules.specs.Jobs.{leave_queue, slot_count}
use Rattle.rules.specs.Open.{fresh}
use Rattle.rules.specs.Questions.{opening, request, turn, completion, Call, number}
use Rattle.rules.specs.Run.{Outcome, run, after, numbers_of}
use Rattle.rules.specs.Unfold.{model, shape, call}

-- ---- Single calls

-- the number of an open of N P L, lent enough memory and words
opens : ℕ → ℕ → ℕ → ℕ
opens n p l = number closed (call (opening (shape n p l 1 1 1)) 1000000 (replicate n 0) 0)

-- two blocks, one partition, two levels, one place in the cache
two : State
two = fresh (shape 2 1 2 1 1 1) (0 ∷ 0 ∷ [])

-- the number of a read of a block
reads : State → ℕ → ℕ
reads s b = number s (call (request read b []) 1000000 (0 ∷ 0 ∷ []) 0)

-- ---- Whole jobs, run by calls: one block, which is nowhere, one partition of L levels with this counter, whose levels are unread, and n jobs

resting : ℕ → ℕ → ℕ → State
resting l c n = fresh (shape 1 1 l 1 1 1) (0 ∷ []) ▷ set_counter (λ q. c) ▷ set_mark (λ x. 1) ▷ set_queue (replicate n 0)

-- a turn for each slot of a level, ascending, and the completion of the command that it should send, of this kind
sweep : ℕ → ℕ → List ℕ → List Call
sweep k ℓ [] = []
sweep k ℓ (i ∷ is) = call turn 1000000 (replicate 9 1) 1 ∷ call (completion (cmd k 0 ℓ i) (if eqb k read then (0 ∷ []) else [])) 1000000 [] 0 ∷ sweep k ℓ is

reading : ℕ → List Call
reading ℓ = sweep read ℓ (below (slots ℓ))

writing : ℕ → List Call
writing ℓ = sweep write ℓ (below (slots ℓ))

-- the levels of some commands
levels_in : List ℕ → List Command → List ℕ
levels_in ls cs = keep (λ ℓ. ltb 0 (length (keep (λ (c : Command). eqb c.level ℓ) cs))) ls

of_kind : ℕ → List Outcome → List Command
of_kind k os = keep (λ (c : Command). eqb c.kind k) (map (λ (o : Outcome). o.command) os)

-- of these calls: the levels of the reads that were sent, without repeats, the levels of the writes, highest first, and their number
reports : ℕ → List Outcome → List ℕ
reports l os = levels_in (below l) (of_kind read os) ++ (levels_in (down l) (of_kind write os) ++ (length (of_kind write os) ∷ []))

-- all this, the counter after them, and how many jobs are left
ran : ℕ → State → List Call → List ℕ
ran l s cs = reports l (run s cs) ++ ((after s cs).counter 0 ∷ length (after s cs).queue ∷ [])

-- of one job, with this counter
job : ℕ → ℕ → List Call → List ℕ
job l c cs = ran l (resting l c 1) cs

-- ---- The table

pub record Edge : Type 0 where
  pub got : List ℕ
  pub want : List ℕ

edge : List ℕ → List ℕ → Edge
edge g w = record { got = g; want = w }

three : Shape
three = shape 1 1 3 1 1 1

pub edges : List Edge
edges =
    edge (opens 0 1 1 ∷ opens 1 1 1 ∷ []) (1 ∷ 0 ∷ [])  -- "N = 0 gives 1, N = 1 may pass."
    ∷ edge (opens 1 3 1 ∷ []) (1 ∷ [])  -- "P = 3 gives 1."
    ∷ edge (opens 1 1 8 ∷ opens 1 1 9 ∷ []) (0 ∷ 1 ∷ [])  -- "L = 8 may pass, 9 gives 1."
    ∷ edge (opens 8 2 3 ∷ opens 9 2 3 ∷ []) (0 ∷ 1 ∷ [])  -- "P = 2, L = 3: N = 8 passes, 9 gives 1."
    ∷ edge (top_level three 3 1 ∷ slot_count (written_levels three 3 1) ∷ grown three 3 1 ∷ []) (2 ∷ 8 ∷ 4 ∷ [])  -- "L = 3, counter 3: target 2, 8 writes, counter 4."
    ∷ edge (job 3 3 (reading 0 ++ (reading 1 ++ writing 2))) (0 ∷ 1 ∷ 2 ∷ 8 ∷ 4 ∷ 0 ∷ [])  -- the same as a whole job: reads of levels 0 and 1, 8 writes to level 2, counter 4, no job left
    ∷ edge (source_levels (top_level three 7 1) 7 ++ (top_level three 7 1 ∷ grown three 7 1 ∷ [])) (0 ∷ 1 ∷ 2 ∷ 2 ∷ 4 ∷ [])  -- "L = 3, counter 7: sources 0 to 2, target 2, counter 4."
    ∷ edge (job 3 7 (reading 0 ++ (reading 1 ++ (reading 2 ++ writing 2)))) (0 ∷ 1 ∷ 2 ∷ 2 ∷ 8 ∷ 4 ∷ 0 ∷ [])  -- the same as a whole job
    ∷ edge (grown (shape 1 1 1 1 1 1) 1 1 ∷ job 1 1 (reading 0 ++ writing 0)) (1 ∷ 0 ∷ 0 ∷ 2 ∷ 1 ∷ 0 ∷ [])  -- "L = 1, counter 1: counter 1 again", with the whole job
    ∷ edge (new_order 4 (numbers_of (draws (order_bounds 4) (5 ∷ 1 ∷ 2 ∷ [])))) (2 ∷ 0 ∷ 3 ∷ 1 ∷ [])  -- "Words 5, 1, 2 over 4 slots put items 0 to 3 at slots 2, 0, 3, 1."
    ∷ edge (reads (two ▷ set_queue (replicate 62 0)) 0 ∷ reads (two ▷ set_queue (replicate 63 0)) 0 ∷ []) (0 ∷ 7 ∷ [])  -- "62 jobs: accepted; 63: 7."
    ∷ edge (reads (two ▷ set_waiting (0 ∷ [])) 1 ∷ reads (two ▷ set_waiting (0 ∷ [])) 0 ∷ []) (8 ∷ 0 ∷ [])  -- "E waiting: 8 for a block elsewhere, accepted for a waiting one."
    ∷ []

pub edges-hold : map (λ (e : Edge). e.got) edges ≡ map (λ (e : Edge). e.want) edges
unfolding model opens two reads resting sweep reading writing levels_in of_kind reports ran job edge three edges
edges-hold = refl

-- ---- Document 02, P7: runs of several jobs

pub joining : List Edge
joining =
    -- counter 2 and 3 jobs: t is 2, level 1 is read, levels 2 and 0 are written with 8 + 2 writes, and no job is left
    edge (joins three 2 3 ∷ top_level three 2 3 ∷ (source_levels (top_level three 2 3) 2 ++ written_levels three 2 3)) (3 ∷ 2 ∷ 1 ∷ 2 ∷ 0 ∷ [])
    ∷ edge (ran 3 (resting 3 2 3) (reading 1 ++ (writing 2 ++ writing 0))) (1 ∷ 2 ∷ 0 ∷ 10 ∷ 5 ∷ 0 ∷ [])
    -- counter 1 and 2 jobs: t is 1, level 0 is read, levels 1 and 0 are written
    ∷ edge (ran 3 (resting 3 1 2) (reading 0 ++ (writing 1 ++ writing 0))) (0 ∷ 1 ∷ 0 ∷ 6 ∷ 3 ∷ 0 ∷ [])
    -- "at most 2^L − 1 − counter": counter 5 and 4 jobs: 2 of them run, to counter 7; t is 1, level 0 is read and level 2 is not; 2 jobs are left
    ∷ edge (ran 3 (resting 3 5 4) (reading 0 ++ (writing 1 ++ writing 0))) (0 ∷ 1 ∷ 0 ∷ 6 ∷ 7 ∷ 2 ∷ [])
    -- "or just itself when all levels are filled": counter 7 and 3 jobs: one runs, and the counter falls to 4
    ∷ edge (ran 3 (resting 3 7 3) (reading 0 ++ (reading 1 ++ (reading 2 ++ writing 2)))) (0 ∷ 1 ∷ 2 ∷ 2 ∷ 8 ∷ 4 ∷ 2 ∷ [])
    -- "all j leave the queue", oldest first
    ∷ edge (leave_queue 0 2 (0 ∷ 3 ∷ 0 ∷ 1 ∷ 0 ∷ [])) (3 ∷ 1 ∷ 0 ∷ [])
    ∷ []

pub joining-holds : map (λ (e : Edge). e.got) joining ≡ map (λ (e : Edge). e.want) joining
unfolding model resting sweep reading writing levels_in of_kind reports ran edge three joining
joining-holds = refl
