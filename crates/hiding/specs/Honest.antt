-- Demands 2 and 3 together, with an honest host. Of two compared lists, with partners for tapes, both run with a host that completes each read
-- with the bytes last written there, and each run loads what it has saved itself: the host is told the same at each place, and each collect hands out
-- the contents of a plain array.
-- To believe it, read `Together` with crate `rules`, array/specs/Claim.antt and Claim.antt here: `together-from` has it from those two claims alone.
-- There are such runs for every tape, whatever the contents of the requests and whatever the host had before (`honest-given`), and any run is one
-- when the host's bytes are put into it (`honest-run`): array/specs/Served.antt.
use Rattle.std.specs.Prelude.{◌≡◌, List, ◌∷◌, map, ℕ}
use Rattle.rules.specs.Questions.{Call}
use Rattle.rules.specs.Run.{run}
use Rattle.rules.specs.Shape.{Shape}
use Rattle.rules.specs.State.{State}
use Rattle.array.specs.Claim.{Host, Expected, Honest, Plain}
use Rattle.hiding.specs.Claim.{Lent, first, Compared, Tape, Gives, Matching, told}

-- The matching comes first, then a tape; then words that give it and its partner, with bytes that an honest host brings in either run
abbrev pub Together : Type 0
Together = (h : Shape) → h.E ≡ h.N → (m w n : ℕ) (as' bs' : List Lent) → Compared h as' bs' → (s s' : State) →
    (p : Matching (Tape s (first h m w n ∷ as')) (Tape s' (first h m w n ∷ bs')))
    × ((t : List ℕ) (cs ds : List Call) →
    Gives s (first h m w n ∷ as') t cs → Gives s' (first h m w n ∷ bs') (p.f t) ds →
    (host host' : Host) → Honest host cs (run s cs) → Honest host' ds (run s' ds) → (x x' : Expected) →
    (map told (run s cs) ≡ map told (run s' ds)) × Plain x cs (run s cs) × Plain x' ds (run s' ds))
