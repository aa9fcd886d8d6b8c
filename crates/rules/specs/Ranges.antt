-- Document 01, "State and ranges": the range of each number of a state.
use Rattle.std.specs.Prelude.{Bool, true, not, ◌&&◌, List, [], ◌∷◌, ℕ, ◌-◌, ◌^◌, length, ltb, leb, eqb, if◌then◌else◌}
use Rattle.std.proofs.Math.Option.{Option, none, some}
use Rattle.lists.specs.Tests.{every, between}
use Rattle.lists.specs.Search.{all, keep, below}
use Rattle.rules.specs.Shape.{Shape, within, slots, cell}
use Rattle.rules.specs.State.{Command, read, write, Place, nowhere, stored, Found, found_nowhere, found_cache, found_level, Request, State}

unfoldable pub is_kind : ℕ → Bool
is_kind k = between read write k

-- "Contents of B bytes for a write, 0 for a read"
unfoldable pub bytes_of : Shape → ℕ → ℕ
bytes_of h k = if eqb k write then h.B else 0

-- a place's level is below L, its slot below the level's 2^(ℓ+1)
unfoldable pub range_place : ℕ → Place → Bool
range_place levels nowhere = true
range_place levels (stored ℓ i) = ltb ℓ levels && ltb i (slots ℓ)

unfoldable pub range_command : Shape → Command → Bool
range_command h c = every (is_kind c.kind ∷ ltb c.partition h.P ∷ ltb c.level h.L ∷ ltb c.slot (slots c.level) ∷ [])

-- where a request's block was found, if anywhere: a level is below L
unfoldable pub range_found : ℕ → Option Found → Bool
range_found levels none = true
range_found levels (some found_nowhere) = true
range_found levels (some found_cache) = true
range_found levels (some (found_level ℓ)) = ltb ℓ levels

unfoldable pub range_request : Shape → Option Request → Bool
range_request h none = true
range_request h (some r) = every
    (is_kind r.kind
    ∷ ltb r.block h.N
    ∷ eqb (length r.bytes) (bytes_of h r.kind)
    ∷ ltb r.next h.P
    ∷ ltb r.evict h.P
    ∷ leb r.level h.L
    ∷ range_found h.L r.found
    ∷ leb r.awaits h.W ∷ [])

-- "A queue of at most 64 jobs"; "with one (a request in hand), at most 62 jobs"
unfoldable pub queue_fits : List ℕ → Option Request → Bool
queue_fits qs none = leb (length qs) 64
queue_fits qs (some r) = leb (length qs) 62

-- the blocks that wait besides b
unfoldable pub others : List ℕ → ℕ → List ℕ
others waiting b = keep (λ a. not (eqb a b)) waiting

-- "E places in the eviction cache"; "with one (a request in hand), fewer than E blocks waiting besides its own"
unfoldable pub cache_fits : ℕ → List ℕ → Option Request → Bool
cache_fits e xs none = leb (length xs) e
cache_fits e xs (some r) = leb (length xs) e && ltb (length (others xs r.block)) e

-- for each slot of each level of each partition
unfoldable pub each_cell : Shape → (ℕ → ℕ → Bool) → Bool
each_cell h p = all (λ q. all (λ ℓ. all (λ i. p ℓ (cell h q ℓ i)) (below (slots ℓ))) (below h.L)) (below h.P)

unfoldable pub ranges : State → List Bool
ranges s = let h = s.shape in
    (within h
    ∷ all (λ b. ltb (s.partition b) h.P) (below h.N)  -- "its partition, 0 to P−1"
    ∷ all (λ b. range_place h.L (s.place b)) (below h.N)
    ∷ all (λ q. ltb (s.counter q) (2 ^ h.L)) (below h.P)  -- "a counter, 0 to 2^L − 1"
    ∷ each_cell h (λ ℓ c. ltb (s.order c) (slots ℓ))
    ∷ each_cell h (λ ℓ c. leb (s.mark c) 1)
    ∷ each_cell h (λ ℓ c. leb (s.holds c) h.N)
    ∷ all (λ b. ltb b h.N) s.waiting
    ∷ all (λ q. ltb q h.P) s.queue
    ∷ all (range_command h) s.outstanding
    ∷ leb s.begun 64  -- jobs of a queue of at most 64
    ∷ leb s.cursor (slots h.L - 2)
    ∷ leb s.sent (slots h.L - 2)
    ∷ leb (length s.outstanding) h.W  -- "W commands outstanding at most"
    ∷ range_request h s.request
    ∷ queue_fits s.queue s.request
    ∷ cache_fits h.E s.waiting s.request ∷ [])

unfoldable pub in_range : State → Bool
in_range s = every (ranges s)
