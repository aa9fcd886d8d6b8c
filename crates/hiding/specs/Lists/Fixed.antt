-- Lists with their bytes, for the proof: what each call asks is given whole, but for the form of a load, which is the run's own; the words are not.
-- Which words of it are a tape is the claim's.
use Rattle.std.specs.Prelude.{◌≡◌, List, [], ◌∷◌, ℕ, length}
use Rattle.rules.specs.Questions.{Ask, opening, Call}
use Rattle.rules.specs.Run.{step, run}
use Rattle.rules.specs.Shape.{Shape}
use Rattle.rules.specs.State.{State}
use Rattle.hiding.specs.Claim.{Short, tape_of}
use Rattle.hiding.specs.Machines.Public
use Rattle.hiding.specs.Machines.Public.{Later}

-- a call, but for its words
pub record Fixed : Type 0 where
  pub ask : Ask
  pub memory : ℕ
  pub words : ℕ
  pub buffer : ℕ

abbrev pub lend : Fixed → List ℕ → Call
lend a ws = record { ask = a.ask; memory = a.memory; words = ws; buffer = a.buffer }

-- What a call of a list asks: an open, or one of the machine's later calls, whose loads know memory and buffer of the save just before them
pub data Listing : Type 0 where
  opens : Shape → Listing
  later : Later → Listing

pub record Listed : Type 0 where
  pub ask : Listing
  pub memory : ℕ
  pub words : ℕ
  pub buffer : ℕ

-- the call that it is in state s
abbrev pub ask_in : State → Listing → Ask
ask_in s (opens h) = opening h
ask_in s (later l) = Public.ask s l

abbrev pub at : State → Listed → Fixed
at s a = record { ask = ask_in s a.ask; memory = a.memory; words = a.words; buffer = a.buffer }

-- the calls of a list, each in the state that the last one left
pub data Lends : State → List Listed → List Call → Type 0 where
  none : {s : State} → Lends s [] []
  more : {s : State} {a : Listed} {ws : List ℕ} {as' : List Listed} {cs : List Call} → length ws ≡ a.words → Lends (step s (lend (at s a) ws)).0 as' cs
      → Lends s (a ∷ as') (lend (at s a) ws ∷ cs)

-- these calls are the list's, lent words of 16 bits, and their run has this tape
pub record Gives (s : State) (as' : List Listed) (t : List ℕ) (cs : List Call) : Type 0 where
  pub calls : Lends s as' cs
  pub short : Short cs
  pub tape : tape_of cs (run s cs) ≡ t

abbrev pub Tape : State → List Listed → List ℕ → Type 0
Tape s as' t = (cs : List Call) × Gives s as' t cs
