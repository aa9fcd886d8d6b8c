-- Two hosts that the claim's premise covers: one takes a write's bytes when the turn sends it, one only when its completion is accepted.
use Rattle.std.specs.Prelude.{◌≡◌, List, [], ◌∷◌, eqb, if◌then◌else◌}
use Rattle.rules.specs.Questions.{Ask, opening, request, turn, completion, collect, save, load, Call}
use Rattle.rules.specs.Run.{Outcome}
use Rattle.rules.specs.State.{read}
use Rattle.array.specs.Claim.{Slots, sends, store}

-- an accepted completion of a read brings what the host has in its slot
abbrev pub Fetches : Slots → Ask → Type 0
Fetches x (opening h) = Unit {0}
Fetches x (request k b bs) = Unit {0}
Fetches x turn = Unit {0}
Fetches x (completion c bs) = c.kind ≡ read → bs ≡ x c.partition c.level c.slot
Fetches x collect = Unit {0}
Fetches x save = Unit {0}
Fetches x (load form) = Unit {0}

-- ---- It takes the bytes at once: its map is the bytes last sent

abbrev pub AtOnce : Slots → List Call → List Outcome → Type 0
AtOnce x [] os = Unit {0}
AtOnce x (c ∷ cs) [] = Unit {0}
AtOnce x (c ∷ cs) (o ∷ os) = (o.number ≡ 0 → Fetches x c.ask) × AtOnce (sends x o) cs os

-- ---- It takes them when the write's completion is accepted

unfoldable pub lands : Slots → Ask → Slots → Slots
lands last (opening h) x = x
lands last (request k b bs) x = x
lands last turn x = x
lands last (completion c bs) x = store c (last c.partition c.level c.slot) x
lands last collect x = x
lands last save x = x
lands last (load form) x = x

unfoldable pub landed : Slots → Ask → Outcome → Slots → Slots
landed last a o x = if eqb o.number 0 then lands last a x else x

abbrev pub AtCompletion : Slots → Slots → List Call → List Outcome → Type 0
AtCompletion last x [] os = Unit {0}
AtCompletion last x (c ∷ cs) [] = Unit {0}
AtCompletion last x (c ∷ cs) (o ∷ os) = (o.number ≡ 0 → Fetches x c.ask) × AtCompletion (sends last o) (landed last c.ask o x) cs os
