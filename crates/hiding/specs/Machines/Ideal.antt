-- The ideal machine: it knows the public part of each call and of a state alone, and draws each slot and each partition when it is shown.
use Rattle.std.specs.Prelude.{List, [], ◌∷◌, ◌++◌, ℕ, zero, suc, length, get_or, replicate, take, drop, eqb, Bool, true, false, if◌then◌else◌}
use Rattle.std.proofs.Math.Option.{Option, none, some}
use Rattle.lists.specs.Tables.{put_all}
use Rattle.rules.specs.Completion.{complete}
use Rattle.rules.specs.Jobs.{joined}
use Rattle.rules.specs.Open.{fresh}
use Rattle.rules.specs.Request.{release}
use Rattle.rules.specs.Rebuild.{new_marks}
use Rattle.rules.specs.Setters.{◌▷◌, set_partition, set_place, set_waiting, set_mark, set_queue, set_begun, set_sent, set_request}
use Rattle.rules.specs.Turn.{Step, idle, no_dummy, read_for_request, read_for_job, rebuild, write_next, command, send, do_step}
use Rattle.rules.specs.State.{Command, cmd, write, Place, Request, State}
use Rattle.rules.specs.Draws.{Drew}
use Rattle.rules.specs.Shape.{Shape, slots, cell}
use Rattle.matching.specs.Trades.{None}
use Rattle.matching.specs.Machine.{Machine}
use Rattle.matching.specs.Reads.{Arranges, Pick}
use Rattle.hiding.specs.Machines.Public.{Later, later-request, later-turn, later-completion, later-collect, later-save, later-reload, Entry, first, later, hide, public_request, unread_in, decide_p, bounds_p, number_p, number_open}

-- ---- What is seen: the number, the bounds of the draws if the call is accepted or lacks words for them, the command

abbrev pub Seen : Type 0
Seen = ℕ × List ℕ × Command

unfoldable pub lacking : ℕ → List ℕ → List ℕ
lacking n ms = if eqb n 3 then ms else []

abbrev pub nothing_sent : Command
nothing_sent = cmd 0 0 0 0

-- the read of a request, at the slot drawn
abbrev pub slotted : Step → List ℕ → Step
slotted idle e = idle
slotted no_dummy e = no_dummy
slotted (read_for_request q ℓ x) e = read_for_request q ℓ (get_or e 0 0)
slotted (read_for_job q ℓ x) e = read_for_job q ℓ x
slotted (rebuild q ls) e = rebuild q ls
slotted (write_next q t x) e = write_next q t x

abbrev pub command_p : State → Later → List ℕ → Command
command_p i (later-request k b bs) e = nothing_sent
command_p i later-turn e = command (slotted (decide_p i) e)
command_p i (later-completion c bs) e = nothing_sent
command_p i later-collect e = nothing_sent
command_p i later-save e = nothing_sent
command_p i (later-reload m n) e = nothing_sent

abbrev pub seen_if : ℕ → State → Later → List ℕ → Seen
seen_if zero i l e = (0, bounds_p i l, command_p i l e)
seen_if (suc n) i l e = (suc n, lacking (suc n) (bounds_p i l), nothing_sent)

abbrev pub seen_open : Shape → ℕ → Seen
seen_open h zero = (0, replicate h.N h.P, nothing_sent)
seen_open h (suc n) = (suc n, lacking (suc n) (replicate h.N h.P), nothing_sent)

-- ---- What is drawn

-- as levels of q are written, one after the other: what is left of each one's old order
abbrev pub LegalWrites : Shape → ℕ → List ℕ → (ℕ → ℕ) → List ℕ → Type 0
LegalWrites h q [] mark e = None e
LegalWrites h q (ℓ ∷ ls) mark e =
    let n = length (unread_in h mark (q, ℓ)) in
    Arranges (unread_in h mark (q, ℓ)) (take n e) × LegalWrites h q ls (put_all (cell h q ℓ 0) (replicate (slots ℓ) 1) mark) (drop n e)

abbrev pub legal_step : State → Step → List ℕ → Type 0
legal_step i idle e = None e
legal_step i no_dummy e = None e
legal_step i (read_for_request q ℓ x) e = Pick (unread_in i.shape i.mark (q, ℓ)) e
legal_step i (read_for_job q ℓ x) e = Drew (length (unread_in i.shape i.mark (q, ℓ)) ∷ []) e  -- the place of slot x, which nobody sees
legal_step i (rebuild q ls) e = LegalWrites i.shape q ls i.mark e  -- nothing, if the written levels have no unread slots
legal_step i (write_next q t x) e = None e

abbrev pub legal_if : ℕ → State → Later → List ℕ → Type 0
legal_if (suc n) i l e = None e
legal_if zero i (later-request k b bs) e = Drew (i.shape.P ∷ i.shape.P ∷ []) e
legal_if zero i later-turn e = legal_step i (decide_p i) e
legal_if zero i (later-completion c bs) e = None e
legal_if zero i later-collect e = None e
legal_if zero i later-save e = None e
legal_if zero i (later-reload m n) e = None e

-- ---- The state after an accepted call, by its public part

unfoldable pub rebuild_p : ℕ → List ℕ → (ℕ → Place) → List ℕ → State → State
rebuild_p q ls place waiting s =
    s ▷ set_place place
    ▷ set_waiting waiting
    ▷ set_mark (new_marks s.shape q ls s.mark)
    ▷ set_begun (joined s q)
    ▷ set_sent 1
    ▷ send (cmd write q (get_or ls 0 0) 0)

abbrev pub next_step_i : State → Step → List ℕ → State
next_step_i i idle e = i
next_step_i i no_dummy e = i
next_step_i i (read_for_request q ℓ x) e = do_step (read_for_request q ℓ (get_or e 0 0)) [] i
next_step_i i (read_for_job q ℓ x) e = do_step (read_for_job q ℓ x) [] i
next_step_i i (rebuild q ls) e = rebuild_p q ls i.place i.waiting i
next_step_i i (write_next q t x) e = do_step (write_next q t x) [] i

unfoldable pub collected_i : Option Request → State → State
collected_i none i = i
collected_i (some r) i =
    i ▷ set_partition (λ b. 0)
    ▷ set_queue (i.queue ++ (i.partition r.block ∷ r.evict ∷ []))
    ▷ set_request none

abbrev pub perform_i : State → Later → List ℕ → State
perform_i i (later-request k b bs) e = i ▷ set_partition (λ b. get_or e 0 0) ▷ set_request (some (public_request (get_or e 1 0) 0 none 0))
perform_i i later-turn e = next_step_i i (decide_p i) e
perform_i i (later-completion c bs) e = complete c bs i
perform_i i later-collect e = collected_i i.request i
perform_i i later-save e = i
perform_i i (later-reload m n) e = i

abbrev pub next_i : ℕ → State → Later → List ℕ → State
next_i (suc n) i l e = i
next_i zero i l e = release (perform_i i l e)

-- what is seen of a closed state: a load of nothing has the number 17, any other call 2
abbrev pub seen_shut : Entry → Seen
seen_shut (first m w) = (2, [], nothing_sent)
seen_shut (later (later-request k b bs) m w n) = (2, [], nothing_sent)
seen_shut (later later-turn m w n) = (2, [], nothing_sent)
seen_shut (later (later-completion c bs) m w n) = (2, [], nothing_sent)
seen_shut (later later-collect m w n) = (2, [], nothing_sent)
seen_shut (later later-save m w n) = (2, [], nothing_sent)
seen_shut (later (later-reload m₀ n₀) m w n) = (17, [], nothing_sent)

-- a refused load closes the state, a refused call of another kind leaves it
abbrev pub closes : Later → Bool
closes (later-request k b bs) = false
closes later-turn = false
closes (later-completion c bs) = false
closes later-collect = false
closes later-save = false
closes (later-reload m n) = true

-- ---- The machine

-- before the open; after a refused one, closed; after an accepted one; after a refused load, closed, with the state that was before
pub data Ideal : Type 0 where
  unopened shut : Ideal
  on : State → Ideal
  off : State → Ideal

-- the state after a call with this number
abbrev pub on_i : ℕ → State → Later → List ℕ → Ideal
on_i zero i l e = on (next_i zero i l e)
on_i (suc n) i l e = if closes l then off i else on i

module _ (h : Shape) where
  abbrev pub open_i : ℕ → Ideal
  open_i zero = on (hide (fresh h []))
  open_i (suc n) = shut

  abbrev pub ideal-legal : Ideal → Entry → List ℕ → Type 0
  ideal-legal unopened c e = None e
  ideal-legal shut c e = None e
  ideal-legal (off i) c e = None e
  ideal-legal (on i) (first m w) e = None e
  ideal-legal (on i) (later l m w n) e = legal_if (number_p i l m w n) i l e

  abbrev pub ideal-next : Ideal → Entry → List ℕ → Ideal
  ideal-next unopened (first m w) e = open_i (number_open h m w)
  ideal-next unopened (later l m w n) e = unopened
  ideal-next shut c e = shut
  ideal-next (off i) c e = off i
  ideal-next (on i) (first m w) e = on i
  ideal-next (on i) (later l m w n) e = on_i (number_p i l m w n) i l e

  abbrev pub ideal-seen : Ideal → Entry → List ℕ → Seen
  ideal-seen unopened (first m w) e = seen_open h (number_open h m w)
  ideal-seen unopened (later l m w n) e = (2, [], nothing_sent)
  ideal-seen shut c e = seen_shut c
  ideal-seen (off i) c e = seen_shut c
  ideal-seen (on i) (first m w) e = (2, [], nothing_sent)
  ideal-seen (on i) (later l m w n) e = seen_if (number_p i l m w n) i l e

  abbrev pub ideal : Machine Entry (List ℕ) Seen
  ideal = record { State = Ideal; Legal = ideal-legal; next = ideal-next; seen = ideal-seen }
