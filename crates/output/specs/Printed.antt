-- All that an input prints, and which part of it the output's buffer holds.
use Rattle.std.specs.Prelude.{true, false, List, [], ◌∷◌, ◌++◌, ℕ, ◌≤◌, eqb}
use Rattle.session.specs.Session.{session}
use Rattle.output.specs.declared.Output.{Output}
use Rattle.output.specs.Output.{out_room, total, total_most, Holds}

-- The lines that bytes make; `had` are the bytes of the first line that were there before. Each line ends with a newline, and what is behind the last newline
-- is no line yet (`cut-joined`, crate `stream`)
unfoldable pub cut : List ℕ → List ℕ → List (List ℕ)
cut had [] = []
cut had (x ∷ xs) = elim (eqb x 10) [ true ↦ had ∷ cut [] xs | false ↦ cut (had ++ (x ∷ [])) xs ]

-- All that a session prints for an input; the host has these bytes at its start
unfoldable pub printed : List ℕ → List ℕ → List ℕ
printed host input = session host (cut [] input)

-- What the output's buffer holds may be handed to the writer: of all that an input prints, it is what follows the bytes that left. The code can count it
pub record Due (out : List ℕ) (o : Output) : Type 0 where
  pub room : o.at ≤ out_room
  pub count : total o ≤ total_most
  pub host : List ℕ
  pub input : List ℕ
  pub holds : Holds (printed host input) out o
