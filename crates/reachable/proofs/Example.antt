-- Computed. How many blocks wait depends on the draws, and nothing but E bounds it: here all blocks wait though no partition stores one. Each next
-- partition drawn is 1 and each eviction partition 0, so that every job is for partition 0, for which nobody waits. And a look-up beside a run of two
-- jobs.
use Rattle.std.specs.Prelude.{◌≡◌, refl, Bool, true, false, List, [], ◌∷◌, ◌++◌, ℕ, zero, suc, replicate, eqb, if◌then◌else◌}
use Rattle.rules.specs.Blocks.{blocks_in}
use Rattle.rules.specs.Questions.{opening, request, turn, completion, collect, in_hand, Call}
use Rattle.rules.specs.Request.{held}
use Rattle.rules.specs.Run.{Outcome, step, after}
use Rattle.rules.specs.State.{State, Command, cmd, read, write, closed}
use Rattle.rules.specs.Unfold.{model, shape, call}
use Rattle.reachable.specs.Terms.{is_turn, own_reads, reads_by, reads_sent}

-- a turn, and the completion of its command with a zero, n times; an idle turn leaves the state
unfoldable pub turns : ℕ → State → State
turns zero s = s
turns (suc n) s =
    let r : State × Outcome = step s (call turn 1000 (replicate 3 0) 1) in
    let c : Command = r.1.command in
    turns n (step r.0 (call (completion c (if eqb c.kind read then (0 ∷ []) else [])) 1000 [] 0)).0

-- a look-up of a block with both its jobs
unfoldable pub looked : ℕ → State → State
looked b s =
    let t : State = turns 2 (step s (call (request read b []) 1000 (1 ∷ 0 ∷ []) 0)).0 in
    turns 20 (step t (call collect 1000 [] 1)).0

-- four blocks, all in partition 0 at first, looked up in turn
unfoldable pub last : State
last = looked 3 (looked 2 (looked 1 (looked 0 (step closed (call (opening (shape 4 2 2 1 4 1)) 1000 (0 ∷ 0 ∷ 0 ∷ 0 ∷ []) 0)).0)))

pub all-wait : (last.waiting ≡ 0 ∷ 1 ∷ 2 ∷ 3 ∷ []) × (last.queue ≡ []) × (blocks_in last 0 2 ≡ 0) × (blocks_in last 1 2 ≡ 0)
unfolding last looked turns model
all-wait = (refl, refl, refl, refl)

-- Document 02, P7, with P4 and P6: a look-up beside a run of two jobs. One partition, three levels; each look-up leaves two jobs for it. The first two
-- fill level 1; block 0 is looked up there, and a request for block 1 is held by the two jobs that this leaves
unfoldable pub turned : Call
turned = call turn 100000 (replicate 40 0) 1

unfoldable pub asked : ℕ → Call
asked b = call (request read b []) 100000 (replicate 4 0) 0

unfoldable pub collects : Call
collects = call collect 100000 [] 1

unfoldable pub done : ℕ → ℕ → ℕ → Call
done k ℓ i = call (completion (cmd k 0 ℓ i) (if eqb k read then (0 ∷ []) else [])) 100000 [] 0

unfoldable pub before : List Call
before =
    call (opening (shape 4 1 3 1 4 4)) 100000 (replicate 8 0) 0 ∷ asked 0 ∷ collects
    ∷ turned ∷ turned ∷ turned ∷ turned ∷ done write 1 0 ∷ done write 1 1 ∷ done write 1 2 ∷ done write 1 3
    ∷ asked 0 ∷ turned ∷ done read 1 1 ∷ collects ∷ asked 1 ∷ []

-- the run's first read begins it, with both jobs, and releases the request; its read of level 1, a source, is of the lowest item that is unread, and
-- the run goes over what is left; then the block is collected, and the run writes level 2
unfoldable pub beside : List Call
beside =
    turned ∷ turned ∷ done read 1 0 ∷ done read 1 2 ∷ done read 1 3 ∷ collects
    ∷ turned ∷ turned ∷ turned ∷ turned ∷ done write 2 0 ∷ done write 2 1 ∷ done write 2 2 ∷ done write 2 3
    ∷ turned ∷ turned ∷ turned ∷ turned ∷ done write 2 4 ∷ done write 2 5 ∷ done write 2 6 ∷ done write 2 7 ∷ []

-- of a state: the run's jobs, whether the request in hand is held, the queue, the counter
unfoldable pub seen : State → ℕ × Bool × List ℕ × ℕ
seen s = (s.begun, in_hand held s.request, s.queue, s.counter 0)

two-together : (seen (after closed before) ≡ (0, true, 0 ∷ 0 ∷ [], 2)) × (seen (after closed (before ++ (turned ∷ []))) ≡ (2, false, 0 ∷ 0 ∷ [], 2))
    × (seen (after closed (before ++ (turned ∷ beside))) ≡ (0, false, 0 ∷ 0 ∷ [], 4))
unfolding before beside turned asked collects done seen model
two-together = (refl, refl, refl)

-- the reads that turns send for the two requests
reads-seen : reads_sent closed (before ++ (turned ∷ beside)) ≡ (1, 1) ∷ (1, 2) ∷ []
unfolding before beside turned asked collects done model is_turn own_reads reads_by reads_sent
reads-seen = refl
