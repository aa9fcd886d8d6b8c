-- Document 01's rules for a job, in its words: what a job does that runs for itself alone.
use Rattle.std.specs.Prelude.{Bool, true, false, ◌&&◌, ◌||◌, List, [], ◌∷◌, ℕ, zero, suc, ◌+◌, ◌-◌, ◌/◌, ◌%◌, ◌^◌, min, replicate, eqb, ltb, leb, if◌then◌else◌}
use Rattle.std.proofs.Math.Option.{Option, none, some}
use Rattle.lists.specs.Tables.{put_all}
use Rattle.lists.specs.Search.{member, find, keep, below, without}
use Rattle.rules.specs.Shape.{Shape, slots, cell, offset}
use Rattle.rules.specs.Setters.{◌▷◌, set_place, set_waiting, set_order, set_mark, set_holds, set_sent}
use Rattle.rules.specs.State.{State}
use Rattle.rules.specs.Blocks.{entries, blocks_in, is_unread}
use Rattle.rules.specs.Levels.{filled}
use Rattle.rules.specs.Turn.{rebuild}
use Rattle.rules.specs.Rebuild.{places, unread, chosen, gathered, new_place, new_holds, cleared}

-- the trailing ones among the lowest n bits of a counter
unfoldable pub trailing_ones : ℕ → ℕ → ℕ
trailing_ones zero c = 0
trailing_ones (suc n) c = elim (eqb (c % 2) 1) [ true ↦ suc (trailing_ones n (c / 2)) | false ↦ 0 ]

-- "Levels 0 to t−1 are the sources. If all L levels are filled, all levels are sources": the levels below this one
unfoldable pub sources : Shape → ℕ → ℕ
sources h c = trailing_ones h.L c

-- "The lowest empty level is the number of trailing ones in the counter, and it is the target t. If all L levels are filled, the target is L−1."
unfoldable pub target : Shape → ℕ → ℕ
target h c = min (sources h c) (h.L - 1)

-- "The counter grows by 1, or from 2^L − 1 falls to 2^(L−1)."
unfoldable pub grown_by_one : Shape → ℕ → ℕ
grown_by_one h c = if eqb c (2 ^ h.L - 1) then 2 ^ (h.L - 1) else c + 1

-- the slots that j jobs write one after the other from counter c on: "2^(t+1) writes" each
unfoldable pub written_apart : Shape → ℕ → ℕ → ℕ
written_apart h c zero = 0
written_apart h c (suc j) = slots (target h c) + written_apart h (grown_by_one h c) j

-- "It reads every unread slot of the sources": the next one from where it is
unfoldable pub unread_of : State → ℕ → Option (ℕ × ℕ)
unread_of s q = find (λ p. leb s.cursor (offset p.0 p.1) && is_unread s q p.0 p.1) (places (sources s.shape (s.counter q)))

-- "The block that has waited longest for q, if one waits and q stores fewer than 2^(L−1) blocks, else a dummy"
unfoldable pub chosen_one : State → ℕ → Option ℕ
chosen_one s q = if ltb (blocks_in s q s.shape.L) (2 ^ (s.shape.L - 1)) then find (λ b. eqb (s.partition b) q) s.waiting else none

-- the blocks that an option names
unfoldable pub listed : Option ℕ → List ℕ
listed none = []
listed (some b) = b ∷ []

unfoldable pub is_chosen : Option ℕ → ℕ → Bool
is_chosen none b = false
is_chosen (some a) b = eqb a b

-- "The gathered blocks", "by ascending number": the chosen one, and those that a slot of a source holds
unfoldable pub gathered_of : State → ℕ → List ℕ
gathered_of s q = keep (λ b. is_chosen (chosen_one s q) b || member (suc b) (entries s q (sources s.shape (s.counter q)))) (below s.shape.N)

-- the chosen block waits no longer
unfoldable pub leave_one : Option ℕ → List ℕ → List ℕ
leave_one none xs = xs
leave_one (some b) xs = without (eqb b) xs

-- The rebuild of q into its target t by an order o
unfoldable pub rebuild_into : ℕ → ℕ → List ℕ → State → State
rebuild_into q t o s =
    s ▷ set_place (new_place t (gathered_of s q) o s.place)
    ▷ set_waiting (leave_one (chosen_one s q) s.waiting)
    ▷ set_order (put_all (cell s.shape q t 0) o s.order)
    ▷ set_mark (put_all (cell s.shape q t 0) (replicate (slots t) 1) s.mark)
    ▷ set_holds (put_all (cell s.shape q t 0) (new_holds (slots t) (gathered_of s q) o) (cleared (cell s.shape q 0 0) (slots (sources s.shape (s.counter q)) - 2) s.holds))
    ▷ set_sent 1
