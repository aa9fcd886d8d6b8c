-- Document 02, P5: lists in which each load is of what the call just before it, a save, has put into its buffer: "if no call came between it and the
-- save of its form".
use Rattle.std.specs.Prelude.{◌≡◌, List, [], ◌∷◌, ℕ}
use Rattle.rules.specs.Questions.{Ask, opening, request, turn, completion, collect, save, load, Call}
use Rattle.rules.specs.Run.{Outcome}

-- what a save has put into its buffer: the form, or nothing if it was refused; and nothing of any other call
unfoldable pub saved_by : Ask → Outcome → List ℕ
saved_by (opening h) o = []
saved_by (request k b bs) o = []
saved_by turn o = []
saved_by (completion c bs) o = []
saved_by collect o = []
saved_by save o = o.bytes
saved_by (load form) o = []

-- a load is of what was just saved
abbrev pub OfLast : List ℕ → Ask → Type 0
OfLast x (opening h) = Unit {0}
OfLast x (request k b bs) = Unit {0}
OfLast x turn = Unit {0}
OfLast x (completion c bs) = Unit {0}
OfLast x collect = Unit {0}
OfLast x save = Unit {0}
OfLast x (load form) = form ≡ x

-- Each load of the list; x is what the call before the list has saved. A load of nothing is refused, as is one whose memory is too short
abbrev pub Resumes : List ℕ → List Call → List Outcome → Type 0
Resumes x [] os = Unit {0}
Resumes x (c ∷ cs) [] = Unit {0}
Resumes x (c ∷ cs) (o ∷ os) = OfLast x c.ask × Resumes (saved_by c.ask o) cs os

-- a call that is no load
abbrev pub NoLoad : Ask → Type 0
NoLoad (opening h) = Unit {0}
NoLoad (request k b bs) = Unit {0}
NoLoad turn = Unit {0}
NoLoad (completion c bs) = Unit {0}
NoLoad collect = Unit {0}
NoLoad save = Unit {0}
NoLoad (load form) = ⊥

-- a call that is no open
abbrev pub NoOpen : Ask → Type 0
NoOpen (opening h) = ⊥
NoOpen (request k b bs) = Unit {0}
NoOpen turn = Unit {0}
NoOpen (completion c bs) = Unit {0}
NoOpen collect = Unit {0}
NoOpen save = Unit {0}
NoOpen (load form) = Unit {0}
