-- The rules as a machine, and what the middle machine keeps of its state.
use Rattle.std.specs.Prelude.{List, [], map, ℕ, zero, suc, replicate, if◌then◌else◌}
use Rattle.lists.specs.Search.{below}
use Rattle.rules.specs.Open.{fresh}
use Rattle.rules.specs.Questions
use Rattle.rules.specs.Questions.{Call, bounds, number}
use Rattle.rules.specs.Run.{act, sent_command}
use Rattle.rules.specs.State.{State, closed}
use Rattle.rules.specs.Draws.{Drew}
use Rattle.rules.specs.Shape.{Shape, slots, cell}
use Rattle.matching.specs.Keyed.{Key}
use Rattle.matching.specs.Trades.{None}
use Rattle.matching.specs.Machine.{Machine}
use Rattle.hiding.specs.Machines.Public.{Later, Entry, first, later, ask, open_in}
use Rattle.hiding.specs.Machines.Ideal.{Seen, lacking, nothing_sent, seen_open, seen_shut, closes}
use Rattle.hiding.specs.Machines.Middle
use Rattle.hiding.specs.Machines.Middle.{Items, Mid, forget, bounds_open}

-- ---- The machine

abbrev pub called : State → Later → ℕ → ℕ → ℕ → Call
called s l m w n = record { ask = ask s l; memory = m; words = replicate w 0; buffer = n }

abbrev pub number_r : State → Later → ℕ → ℕ → ℕ → ℕ
number_r s l m w n = number s (called s l m w n)

abbrev pub open_call : Shape → ℕ → ℕ → Call
open_call h m w = record { ask = Questions.opening h; memory = m; words = replicate w 0; buffer = 0 }

abbrev pub bounds_r : ℕ → State → Later → List ℕ
bounds_r zero s l = bounds s (ask s l)
bounds_r (suc n) s l = []

abbrev pub next_r : ℕ → State → Later → List ℕ → State
next_r zero s l d = act s (ask s l) d
next_r (suc n) s l d = s

abbrev pub seen_r : ℕ → State → Later → Seen
seen_r zero s l = (0, bounds s (ask s l), sent_command s (ask s l))
seen_r (suc n) s l = (suc n, lacking (suc n) (bounds s (ask s l)), nothing_sent)

-- before the open; after a refused one, closed; after an accepted one; after a refused load, closed, with the state that was before
pub data Real : Type 0 where
  unopened shut : Real
  on : State → Real
  off : State → Real

-- the state after a call with this number
abbrev pub on_r : ℕ → State → Later → List ℕ → Real
on_r zero s l d = on (next_r zero s l d)
on_r (suc n) s l d = if closes l then off s else on s

module _ (h : Shape) where
  abbrev pub open_r : ℕ → List ℕ → Real
  open_r zero d = on (fresh h d)
  open_r (suc n) d = shut

  abbrev pub real-legal : Real → Entry → List ℕ → Type 0
  real-legal unopened (first m w) d = Drew (bounds_open h (number closed (open_call h m w))) d
  real-legal unopened (later l m w n) d = None d
  real-legal shut c d = None d
  real-legal (off s) c d = None d
  real-legal (on s) (first m w) d = None d
  real-legal (on s) (later l m w n) d = Drew (bounds_r (number_r s l m w n) s l) d

  abbrev pub real-next : Real → Entry → List ℕ → Real
  real-next unopened (first m w) d = open_r (number closed (open_call h m w)) d
  real-next unopened (later l m w n) d = unopened
  real-next shut c d = shut
  real-next (off s) c d = off s
  real-next (on s) (first m w) d = on s
  real-next (on s) (later l m w n) d = on_r (number_r s l m w n) s l d

  abbrev pub real-seen : Real → Entry → List ℕ → Seen
  real-seen unopened (first m w) d = seen_open h (number closed (open_call h m w))
  real-seen unopened (later l m w n) d = (2, [], nothing_sent)
  real-seen shut c d = seen_shut c
  real-seen (off s) c d = seen_shut c
  real-seen (on s) (first m w) d = (2, [], nothing_sent)
  real-seen (on s) (later l m w n) d = seen_r (number_r s l m w n) s l

  abbrev pub real : Machine Entry (List ℕ) Seen
  real = record { State = Real; Legal = real-legal; next = real-next; seen = real-seen }

-- ---- What the middle machine keeps of a state, and what is hidden from it

abbrev pub Orders : Type 0
Orders = Key → List ℕ

-- the slots of a level's unread items, in item order
unfoldable pub item_slots : Shape → (ℕ → ℕ) → Key → List ℕ
item_slots h order k = map (λ j. order (cell h k.0 k.1 j)) (below (slots k.1))

abbrev pub slots_in : Shape → (ℕ → ℕ) → (ℕ → ℕ) → Key → List ℕ
slots_in h mark order = open_in h mark (item_slots h order)

-- what they hold
unfoldable pub items_in : Shape → (ℕ → ℕ) → (ℕ → ℕ) → (ℕ → ℕ) → Key → List ℕ
items_in h mark order holds k = map (λ i. holds (cell h k.0 k.1 i)) (slots_in h mark order k)

abbrev pub orders_of : State → Orders
orders_of s = slots_in s.shape s.mark s.order

abbrev pub items_of : State → Items
items_of s = items_in s.shape s.mark s.order s.holds

abbrev pub view : Real → Mid × Orders
view unopened = (Middle.unopened, λ k. [])
view shut = (Middle.shut, λ k. [])
view (on s) = (Middle.on (forget s) (items_of s), orders_of s)
view (off s) = (Middle.off (forget s) (items_of s), orders_of s)
