-- The machine in the middle: it knows which block is where, by level and by rank among the unread items, and no slot before it is shown.
use Rattle.std.specs.Prelude.{List, [], ◌∷◌, ◌++◌, map, Bool, ◌&&◌, ◌||◌, ℕ, zero, suc, ◌-◌, ◌^◌, min, length, get_or, replicate, take, drop, ltb, eqb, if◌then◌else◌}
use Rattle.std.proofs.Math.Option.{Option, none, some}
use Rattle.lists.specs.Tables.{put}
use Rattle.lists.specs.Places.{remove_at}
use Rattle.lists.specs.Distinct.{index}
use Rattle.lists.specs.Search.{keep, below, member}
use Rattle.rules.specs.Turn.{Step, idle, no_dummy, read_for_request, read_for_job, rebuild, write_next, do_step}
use Rattle.rules.specs.Jobs.{joined, top_of}
use Rattle.rules.specs.Setters.{◌▷◌, set_partition, set_place, set_waiting, set_queue, set_request, set_bytes, set_order, set_holds}
use Rattle.rules.specs.Request.{accept, release, is_source}
use Rattle.rules.specs.Rebuild.{Fill, leave, new_places}
use Rattle.rules.specs.Ranges.{others}
use Rattle.rules.specs.Shape.{Shape, slots}
use Rattle.rules.specs.State.{Place, nowhere, stored, Request, State}
use Rattle.rules.specs.Open.{fresh}
use Rattle.rules.specs.Draws.{Drew}
use Rattle.rules.specs.Completion.{complete}
use Rattle.matching.specs.Machine.{Machine}
use Rattle.matching.specs.Trades.{None}
use Rattle.matching.specs.Keyed.{Key, update}
use Rattle.reachable.specs.Live.{is_below, stored_in}
use Rattle.hiding.specs.Machines.Ideal.{Seen, nothing_sent, seen_shut, closes, seen_open, seen_if, legal_if, rebuild_p}
use Rattle.hiding.specs.Machines.Public.{Later, later-request, later-turn, later-completion, later-collect, later-save, later-reload, Entry, first, later, public_later, hide, unread_in, decide_p, number_p, number_open}

-- what is kept of a state: of a block's place the level, and no slot, no bytes
abbrev pub level_only : Place → Place
level_only nowhere = nowhere
level_only (stored ℓ i) = stored ℓ 0

abbrev pub forget : State → State
forget s =
    s ▷ set_place (λ b. level_only (s.place b))
    ▷ set_bytes (λ b. [])
    ▷ set_order (λ c. 0)
    ▷ set_holds (λ c. 0)

-- of a level's unread items, in item order, what they hold: 0 for a dummy, b + 1 for block b
abbrev pub Items : Type 0
Items = Key → List ℕ

-- the items of a level that is written with these blocks
unfoldable pub new_items : ℕ → List ℕ → List ℕ
new_items n blocks = map (λ k. get_or (map suc blocks) k 0) (below n)

-- the rank of the item that the request wants of these: its block's; else of a source's the lowest item's, and of another level's the lowest dummy's
unfoldable pub wanted : Bool → Option Request → List ℕ → ℕ
wanted source none its = 0
wanted source (some r) its = if member (suc r.block) its then index (suc r.block) its else (if source then 0 else index 0 its)

unfoldable pub clamp : ℕ → ℕ → ℕ
clamp n k = if ltb k n then k else 0

abbrev pub rank : State → List ℕ → Key → ℕ
rank s its k = clamp (length (unread_in s.shape s.mark k)) (wanted (is_source s k.0 k.1) s.request its)

-- ---- What a rebuild of q gathers, by the places: this machine has no slots to read. In a state that calls left it is what the rules gather

unfoldable pub chosen_m : State → ℕ → List ℕ
chosen_m s q = take (min (joined s q) (2 ^ (s.shape.L - 1) - length (stored_in s q s.shape.L))) (keep (λ b. eqb (s.partition b) q) s.waiting)

unfoldable pub gathered_m : State → ℕ → List ℕ
gathered_m s q = keep (λ b. member b (chosen_m s q) || (eqb (s.partition b) q && is_below (suc (top_of s q)) (s.place b))) (below s.shape.N)

-- the levels that are written and their blocks, with no order
unfoldable pub fills_m : List ℕ → List ℕ → List Fill
fills_m [] bs = []
fills_m (ℓ ∷ ls) bs = record { level = ℓ; order = []; blocks = take (2 ^ ℓ) bs } ∷ fills_m ls (drop (2 ^ ℓ) bs)

-- the items after these levels of q are written
unfoldable pub items_written : ℕ → List ℕ → List ℕ → Items → Items
items_written q [] bs it = it
items_written q (ℓ ∷ ls) bs it = items_written q ls (drop (2 ^ ℓ) bs) (update (q, ℓ) (new_items (slots ℓ) (take (2 ^ ℓ) bs)) it)

-- ---- The state after an accepted call

abbrev pub next_step_m : State → Step → List ℕ → State
next_step_m s idle e = s
next_step_m s no_dummy e = s
next_step_m s (read_for_request q ℓ x) e = do_step (read_for_request q ℓ (get_or e 0 0)) [] s
next_step_m s (read_for_job q ℓ x) e = do_step (read_for_job q ℓ x) [] s
next_step_m s (rebuild q ls) e = rebuild_p q ls (new_places (fills_m ls (gathered_m s q)) s.place) (leave (chosen_m s q) s.waiting) s
next_step_m s (write_next q t x) e = do_step (write_next q t x) [] s

unfoldable pub collected_m : Option Request → State → State
collected_m none s = s
collected_m (some r) s =
    s ▷ set_place (put r.block nowhere s.place)
    ▷ set_waiting (others s.waiting r.block ++ (r.block ∷ []))
    ▷ set_partition (put r.block r.next s.partition)
    ▷ set_queue (s.queue ++ (s.partition r.block ∷ r.evict ∷ []))
    ▷ set_request none

abbrev pub perform_m : State → Later → List ℕ → State
perform_m s (later-request k b bs) e = accept k b bs e s
perform_m s later-turn e = next_step_m s (decide_p (hide s)) e
perform_m s (later-completion c bs) e = complete c bs s
perform_m s later-collect e = collected_m s.request s
perform_m s later-save e = s
perform_m s (later-reload m n) e = s

abbrev pub next_m : ℕ → State → Later → List ℕ → State
next_m (suc n) s l e = s
next_m zero s l e = release (perform_m s l e)

abbrev pub items_step : State → Items → Step → List ℕ → Items
items_step s it idle e = it
items_step s it no_dummy e = it
items_step s it (read_for_request q ℓ x) e = update (q, ℓ) (remove_at (rank s (it (q, ℓ)) (q, ℓ)) (it (q, ℓ))) it
items_step s it (read_for_job q ℓ x) e = update (q, ℓ) (remove_at (get_or e 0 0) (it (q, ℓ))) it
items_step s it (rebuild q ls) e = items_written q ls (gathered_m s q) it
items_step s it (write_next q t x) e = it

abbrev pub items_m : ℕ → State → Items → Later → List ℕ → Items
items_m (suc n) s it l e = it
items_m zero s it (later-request k b bs) e = it
items_m zero s it later-turn e = items_step s it (decide_p (hide s)) e
items_m zero s it (later-completion c bs) e = it
items_m zero s it later-collect e = it
items_m zero s it later-save e = it
items_m zero s it (later-reload m n) e = it

-- ---- The machine

-- before the open; after a refused one, closed; after an accepted one; after a refused load, closed, with the state that was before
pub data Mid : Type 0 where
  unopened shut : Mid
  on : State → Items → Mid
  off : State → Items → Mid

-- the state after a call with this number
abbrev pub on_m : ℕ → State → Items → Later → List ℕ → Mid
on_m zero s it l e = on (next_m zero s l e) (items_m zero s it l e)
on_m (suc n) s it l e = if closes l then off s it else on s it

module _ (h : Shape) where
  abbrev pub open_m : ℕ → List ℕ → Mid
  open_m zero e = on (forget (fresh h e)) (λ k. [])
  open_m (suc n) e = shut

  -- the bounds of the draws of an open
  abbrev pub bounds_open : ℕ → List ℕ
  bounds_open zero = replicate h.N h.P
  bounds_open (suc n) = []

  abbrev pub mid-legal : Mid → Entry → List ℕ → Type 0
  mid-legal unopened (first m w) e = Drew (bounds_open (number_open h m w)) e
  mid-legal unopened (later l m w n) e = None e
  mid-legal shut c e = None e
  mid-legal (off s it) c e = None e
  mid-legal (on s it) (first m w) e = None e
  mid-legal (on s it) (later l m w n) e = legal_if (number_p (hide s) (public_later h l) m w n) (hide s) l e

  abbrev pub mid-next : Mid → Entry → List ℕ → Mid
  mid-next unopened (first m w) e = open_m (number_open h m w) e
  mid-next unopened (later l m w n) e = unopened
  mid-next shut c e = shut
  mid-next (off s it) c e = off s it
  mid-next (on s it) (first m w) e = on s it
  mid-next (on s it) (later l m w n) e = on_m (number_p (hide s) (public_later h l) m w n) s it l e

  abbrev pub mid-seen : Mid → Entry → List ℕ → Seen
  mid-seen unopened (first m w) e = seen_open h (number_open h m w)
  mid-seen unopened (later l m w n) e = (2, [], nothing_sent)
  mid-seen shut c e = seen_shut c
  mid-seen (off s it) c e = seen_shut c
  mid-seen (on s it) (first m w) e = (2, [], nothing_sent)
  mid-seen (on s it) (later l m w n) e = seen_if (number_p (hide s) (public_later h l) m w n) (hide s) l e

  abbrev pub mid : Machine Entry (List ℕ) Seen
  mid = record { State = Mid; Legal = mid-legal; next = mid-next; seen = mid-seen }
