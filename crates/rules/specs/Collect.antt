-- Document 01, "Collect hands out the contents before the request, for reads and writes."
use Rattle.std.specs.Prelude.{Bool, not, ◌&&◌, List, [], ◌∷◌, ◌++◌, ℕ, length, take, eqb, if◌then◌else◌}
use Rattle.std.proofs.Math.Option.{Option, none, some, get_or}
use Rattle.lists.specs.Search.{any}
use Rattle.lists.specs.Tables.{put}
use Rattle.rules.specs.Shape.{cell}
use Rattle.rules.specs.State.{write, Place, nowhere, stored, Found, found_nowhere, Request, State}
use Rattle.rules.specs.Setters.{◌▷◌, set_partition, set_place, set_bytes, set_waiting, set_holds, set_queue, set_request}
use Rattle.rules.specs.Ranges.{others}
use Rattle.rules.specs.Blocks.{contents}
use Rattle.rules.specs.Request.{held}
use Rattle.rules.specs.Reader.{levels_left}

-- "A request is finished when it isn't held and all its reads are sent and completed." P4: ".. only when every job read sent by that moment has
-- completed too": of the commands that it awaits none is outstanding
unfoldable pub finished : State → Request → Bool
finished s r = not (held r) && eqb (length (levels_left s r)) 0 && not (any (λ c. eqb c.partition (s.partition r.block)) (take r.awaits s.outstanding))

-- the slot that a block leaves holds nothing more; `at` has the cells of its partition. P4: "and the wanted block leaves the job", which gathers what
-- slots hold
unfoldable pub emptied : (ℕ → ℕ → ℕ) → Place → (ℕ → ℕ) → ℕ → ℕ
emptied at nowhere f = f
emptied at (stored ℓ i) f = put (at ℓ i) 0 f

-- "Collecting it moves the block, with new contents for a write, to the young end of the cache under its next partition, and queues jobs for p
-- and then for the eviction partition."
unfoldable pub finish : Request → State → State
finish r s = let b = r.block in
    s ▷ set_bytes (put b (if eqb r.kind write then r.bytes else contents s b) s.bytes)
    ▷ set_holds (emptied (cell s.shape (s.partition b)) (s.place b) s.holds)
    ▷ set_place (put b nowhere s.place)
    ▷ set_waiting (others s.waiting b ++ (b ∷ []))
    ▷ set_partition (put b r.next s.partition)
    ▷ set_queue (s.queue ++ (s.partition b ∷ r.evict ∷ []))
    ▷ set_request none

unfoldable pub collected : Option Request → State → State
collected none s = s
collected (some r) s = finish r s

-- what is handed out
unfoldable pub answer : State → Option Request → List ℕ
answer s none = []
answer s (some r) = contents s r.block

-- Document 02, P2: "collect hands it out with the contents"
unfoldable pub carried : Option Request → Found
carried none = found_nowhere
carried (some r) = get_or r.found found_nowhere
