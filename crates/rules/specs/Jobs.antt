-- Document 02, P7: the jobs that run together, and their writes.
use Rattle.std.specs.Prelude.{List, [], ◌∷◌, ◌++◌, ℕ, zero, suc, ◌+◌, ◌-◌, ◌^◌, length, ltb, eqb, if◌then◌else◌}
use Rattle.std.proofs.Math.Option.{Option, none, some}
use Rattle.lists.specs.Search.{keep, without_first}
use Rattle.rules.specs.Shape.{slots}
use Rattle.rules.specs.State.{State}
use Rattle.rules.specs.Draws.{order_bounds}
use Rattle.rules.specs.Levels.{joins, top_level, written_levels}

-- the queued jobs for q
unfoldable pub queued : List ℕ → ℕ → ℕ
queued qs q = length (keep (eqb q) qs)

-- "When a job begins, it takes with it the queued jobs for the same partition, oldest first, so that they are j in all": once it has begun, those
-- it began with; until then, those that it would begin with
unfoldable pub begun_with : ℕ → ℕ → ℕ
begun_with zero n = n
begun_with (suc j) n = suc j

-- j of the front job, for q: "at most 2^L − 1 − counter, or just itself when all levels are filled"
unfoldable pub joined : State → ℕ → ℕ
joined s q = joins s.shape (s.counter q) (begun_with s.begun (queued s.queue q))

-- t of the front job, and the levels that it writes
unfoldable pub top_of : State → ℕ → ℕ
top_of s q = top_level s.shape (s.counter q) (joined s q)

unfoldable pub levels_of : State → ℕ → List ℕ
levels_of s q = written_levels s.shape (s.counter q) (joined s q)

-- "All j leave the queue": the first j jobs for q
unfoldable pub leave_queue : ℕ → ℕ → List ℕ → List ℕ
leave_queue q j qs = without_first (eqb q) j qs

-- how many blocks these levels hold, "at most 2^ℓ" each
unfoldable pub capacity : List ℕ → ℕ
capacity [] = 0
capacity (ℓ ∷ ls) = 2 ^ ℓ + capacity ls

-- how many slots they have
unfoldable pub slot_count : List ℕ → ℕ
slot_count [] = 0
slot_count (ℓ ∷ ls) = slots ℓ + slot_count ls

-- level and slot of write number n of these levels: one level after the other, "slots ascending"
unfoldable pub write_at : List ℕ → ℕ → Option (ℕ × ℕ)
write_at [] n = none
write_at (ℓ ∷ ls) n = if ltb n (slots ℓ) then some (ℓ, n) else write_at ls (n - slots ℓ)

-- the bounds of the draws of their orders: "each with its own order, all drawn, highest first"
unfoldable pub orders_bounds : List ℕ → List ℕ
orders_bounds [] = []
orders_bounds (ℓ ∷ ls) = order_bounds (slots ℓ) ++ orders_bounds ls
