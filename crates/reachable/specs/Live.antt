-- Which levels are live: the filled ones, where a run whose orders are drawn counts as done.
use Rattle.std.specs.Prelude.{◌≡◌, Bool, ◌&&◌, List, [], ◌∷◌, ℕ, zero, suc, ◌+◌, ◌≤◌, ◌<◌, eqb, ltb, if◌then◌else◌}
use Rattle.std.proofs.Math.Bool.{true, false, not}
use Rattle.std.proofs.Math.Option.{Option, none, some}
use Rattle.lists.specs.Distinct.{Mem}
use Rattle.lists.specs.Lengths.{bit}
use Rattle.lists.specs.Search.{keep, below}
use Rattle.rules.specs.Jobs.{queued, begun_with, leave_queue}
use Rattle.rules.specs.Levels.{filled, joins, grown, top_level, written_levels}
use Rattle.rules.specs.Request.{is_front}
use Rattle.rules.specs.Shape.{Shape, slots}
use Rattle.rules.specs.State.{nowhere, stored, State, Request, Place}

-- the front job is for q, and its orders are drawn
unfoldable pub drawn : State → ℕ → Bool
drawn s q = is_front s.queue q && not (eqb s.sent 0)

-- the counter of q, with a drawn job counted already: its bits are the live levels
unfoldable pub counted : State → ℕ → ℕ
counted s q = if drawn s q then grown s.shape (s.counter q) s.begun else s.counter q

-- the jobs whose orders are not drawn: without the j jobs of the front one's run, once it has sent a write; n is the writes sent
unfoldable pub undrawn : List ℕ → ℕ → ℕ → List ℕ
undrawn qs j zero = qs
undrawn [] j (suc n) = []
undrawn (q ∷ qs) j (suc n) = leave_queue q j (q ∷ qs)

-- the request in hand is for q and has passed level ℓ
unfoldable pub passed_by : (ℕ → ℕ) → Option Request → ℕ → ℕ → Bool
passed_by partition none q ℓ = false
passed_by partition (some r) q ℓ = eqb (partition r.block) q && ltb ℓ r.level

-- the reads of level ℓ of q that no drawn job has followed: one for each job that is not drawn, and one of the request in hand
unfoldable pub pending : State → ℕ → ℕ → ℕ
pending s q ℓ = queued (undrawn s.queue s.begun s.sent) q + bit (passed_by s.partition s.request q ℓ)

-- level ℓ is a source of a run of j jobs that has begun, with counter c
abbrev pub Source : Shape → ℕ → ℕ → ℕ → Type 0
Source h c j ℓ = (j ≡ 0 → ⊥) × (ℓ ≤ top_level h c j) × (filled c ℓ ≡ true)

-- level ℓ of q is a source of the front job, which has begun and whose orders are not drawn
abbrev pub Gathers : State → ℕ → ℕ → Type 0
Gathers s q ℓ = (is_front s.queue q ≡ true) × (s.sent ≡ 0) × Source s.shape (s.counter q) s.begun ℓ

-- q's jobs are at the front of the queue, not drawn, and no job for q is queued but those that run together: before the front one begins, but itself
abbrev pub Alone : State → ℕ → Type 0
Alone s q = (is_front s.queue q ≡ true) × (queued s.queue q ≤ begun_with s.begun 1) × (s.sent ≡ 0)

-- a job that has begun is the front one, and runs for jobs that are queued and may join
abbrev pub Running : State → Type 0
Running s = (s.begun ≡ 0 → ⊥) → (q : ℕ) × (rest : List ℕ) × ((s.queue ≡ q ∷ rest) × (s.begun ≤ joins s.shape (s.counter q) (queued s.queue q)))

-- level ℓ of q is a written level of the front job, whose orders are drawn
abbrev pub Target : State → ℕ → ℕ → Type 0
Target s q ℓ = (is_front s.queue q ≡ true) × (s.sent ≡ 0 → ⊥) × Mem ℓ (written_levels s.shape (s.counter q) s.begun)

-- which write the one of slot i of level ℓ is, of those of these levels, counted from 0
unfoldable pub write_number : List ℕ → ℕ → ℕ → ℕ
write_number [] ℓ i = i
write_number (m ∷ ls) ℓ i = elim (eqb m ℓ) [ true ↦ i | false ↦ slots m + write_number ls ℓ i ]

-- the front job's write of slot i of level ℓ of q has been sent
abbrev pub Wrote : State → ℕ → ℕ → ℕ → Type 0
Wrote s q ℓ i = write_number (written_levels s.shape (s.counter q) s.begun) ℓ i < s.sent

-- the blocks of q whose place is in levels below `top`: in a state that calls left, the slots that hold a block are as many
unfoldable pub is_below : ℕ → Place → Bool
is_below top nowhere = false
is_below top (stored ℓ i) = ltb ℓ top

unfoldable pub stored_in : State → ℕ → ℕ → List ℕ
stored_in s q top = keep (λ b. eqb (s.partition b) q && is_below top (s.place b)) (below s.shape.N)
