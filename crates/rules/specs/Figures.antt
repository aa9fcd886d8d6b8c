-- Document 02, P1, "A page on the state of the store": the figures of its lines.
use Rattle.std.specs.Prelude.{not, ◌&&◌, List, [], ◌∷◌, ℕ, length, eqb}
use Rattle.lists.specs.Search.{keep, below, member}
use Rattle.rules.specs.State.{State}
use Rattle.rules.specs.Jobs.{queued}
use Rattle.rules.specs.Blocks.{is_nowhere}

-- "Each figure of blocks counts them by their place", which is "nowhere, waiting in the cache, or in a level" (document 01): the blocks that are
-- nowhere, those that are stored in a level, and those that wait. A request in hand changes no place
unfoldable pub nowhere_blocks : State → List ℕ
nowhere_blocks s = keep (λ b. is_nowhere (s.place b) && not (member b s.waiting)) (below s.shape.N)

unfoldable pub stored_blocks : State → List ℕ
stored_blocks s = keep (λ b. not (is_nowhere (s.place b))) (below s.shape.N)

unfoldable pub waiting_blocks : State → List ℕ
waiting_blocks s = keep (λ b. is_nowhere (s.place b) && member b s.waiting) (below s.shape.N)

-- how many of these blocks are in partition q
unfoldable pub in_partition : State → ℕ → List ℕ → ℕ
in_partition s q bs = length (keep (λ b. eqb (s.partition b) q) bs)

-- "A begun job counts as queued": it is the front of the queue until its last write has completed
unfoldable pub jobs_for : State → ℕ → ℕ
jobs_for s q = queued s.queue q

-- "One line per partition: ..counter, stored blocks, waiting blocks and queued jobs"
unfoldable pub figures : State → ℕ → List ℕ
figures s q = s.counter q ∷ in_partition s q (stored_blocks s) ∷ in_partition s q (waiting_blocks s) ∷ jobs_for s q ∷ []

-- "A last such line: ..blocks nowhere, stored and waiting"
unfoldable pub all_figures : State → List ℕ
all_figures s = length (nowhere_blocks s) ∷ length (stored_blocks s) ∷ length (waiting_blocks s) ∷ []
