-- Calls that are chosen by what was told: a host that completes the commands it was sent names slots that depend on the tape, so its calls are no
-- list that is known beforehand. They may choose to save and to load: a load is of the run's own form. The tapes of two who choose alike are matched
-- as those of compared lists are: `chosen-from` has it from `Claim`, and from that what is told can be computed from a tape. With an honest host in both, demand 2 holds besides: `chosen-together`.
use Rattle.std.specs.Prelude.{◌≡◌, List, [], ◌∷◌, map, ℕ, suc, length, eqb, ltb, if◌then◌else◌}
use Rattle.rules.specs.Questions.{Call}
use Rattle.rules.specs.Resumes.{Resumes}
use Rattle.rules.specs.Run.{Outcome, run}
use Rattle.rules.specs.Shape.{Shape}
use Rattle.rules.specs.State.{State, Command, read}
use Rattle.array.specs.Claim.{Host, Expected, Honest, Plain}
use Rattle.hiding.specs.Claim.{a_completion, Lent, first, Same, Lends, Short, tape_of, Matching, told}

-- the tape of a run
abbrev pub tape_in : State → List Call → List ℕ
tape_in s cs = tape_of cs (run s cs)

-- what was told: number, count of words, command
abbrev pub Told : Type 0
Told = ℕ × ℕ × Command

-- the next call, by all that was told before it, the last first
abbrev pub Choice : Type 0
Choice = List Told → Lent

-- the first call is this one
abbrev pub opened : Lent → Choice → Choice
opened a σ [] = a
opened a σ (o ∷ os) = σ (o ∷ os)

-- each call of a run is the one chosen by what was told before it; with any words and any bytes, of the lengths that the choice says
abbrev pub Chosen : Choice → List Told → List Call → List Outcome → Type 0
Chosen σ before [] os = Unit {0}
Chosen σ before (c ∷ cs) [] = Unit {0}
Chosen σ before (c ∷ cs) (o ∷ os) = Lends (σ before ∷ []) (c ∷ []) × Chosen σ (told o ∷ before) cs os

-- a run of an open and k calls more, with words of 16 bits; each load is of what the call just before it has saved
pub record Plays (h : Shape) (m w n : ℕ) (σ : Choice) (k : ℕ) (s : State) (cs : List Call) : Type 0 where
  pub calls : length cs ≡ suc k
  pub short : Short cs
  pub loads : Resumes [] cs (run s cs)
  pub chosen : Chosen (opened (first h m w n) σ) [] cs (run s cs)

-- the tapes: the words that such a run uses up
abbrev pub Uses : Shape → ℕ → ℕ → ℕ → Choice → ℕ → State → List ℕ → Type 0
Uses h m w n σ k s t = (cs : List Call) × (Plays h m w n σ k s cs × (tape_in s cs ≡ t))

-- Two choices that have alike calls wherever the same was told: their tapes are matched, and runs with partners are told the same at each place
abbrev pub ChosenClaim : Type 0
ChosenClaim = (h : Shape) → h.E ≡ h.N → (m w n : ℕ) (σ τ : Choice) → ((os : List Told) → Same h (σ os) (τ os)) → (k : ℕ) (s s' : State) →
    (p : Matching (Uses h m w n σ k s) (Uses h m w n τ k s'))
    × ((cs ds : List Call) → Plays h m w n σ k s cs → Plays h m w n τ k s' ds → p.f (tape_in s cs) ≡ tape_in s' ds → map told (run s cs) ≡ map told (run s' ds))

-- .. and with an honest host in each of them, each collect hands out the contents of a plain array
abbrev pub ChosenTogether : Type 0
ChosenTogether = (h : Shape) → h.E ≡ h.N → (m w n : ℕ) (σ τ : Choice) → ((os : List Told) → Same h (σ os) (τ os)) → (k : ℕ) (s s' : State) →
    (p : Matching (Uses h m w n σ k s) (Uses h m w n τ k s'))
    × ((cs ds : List Call) → Plays h m w n σ k s cs → Plays h m w n τ k s' ds → p.f (tape_in s cs) ≡ tape_in s' ds →
    (host host' : Host) → Honest host cs (run s cs) → Honest host' ds (run s' ds) → (x x' : Expected) →
    (map told (run s cs) ≡ map told (run s' ds)) × Plain x cs (run s cs) × Plain x' ds (run s' ds))

-- A host that completes each command as soon as it is sent is such a choice: after a command comes its completion, with B bytes for a read. All
-- other calls are chosen by σ; m bytes of memory are lent to a completion
abbrev pub promptly : Shape → ℕ → Choice → Choice
promptly h m σ [] = σ []
promptly h m σ (o ∷ os) =
    if ltb 0 o.2.kind then record { ask = a_completion o.2 (if eqb o.2.kind read then h.B else 0); memory = m; words = 0; buffer = 0 } else σ (o ∷ os)
