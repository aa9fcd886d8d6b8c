-- Document 02, P1, "A page on the state of the store".
use Rattle.std.specs.Prelude.{◌≡◌, Bool, List, [], ◌∷◌, ◌++◌, ℕ, zero, suc, length, drop, leb, if◌then◌else◌}
use Rattle.rules.specs.State.{State}
use Rattle.rules.specs.Figures.{figures, all_figures}
use Rattle.rules.specs.Questions.{ready, first_no}
use Rattle.printing.specs.Columns.{partition_line, last_line}

-- "One line per partition, 0 upward": those of the first n
unfoldable pub partition_lines : State → ℕ → List ℕ
partition_lines s zero = []
partition_lines s (suc q) = partition_lines s q ++ partition_line q (figures s q)

unfoldable pub page : State → List ℕ
page s = partition_lines s s.shape.P ++ last_line (all_figures s)

-- no page is longer: 65 lines (`page-le`)
abbrev pub page_room : ℕ
page_room = 1885

-- The page of a state for which so much memory is lent: none of one that is closed, or out of its ranges. "Without an accepted O it prints nothing":
-- then the state is closed (`page-opened`, crate `output`)
unfoldable pub shown : State → ℕ → List ℕ
shown s memory = if ready s memory then page s else []

-- What is asked before a page is written, each with the number of a no, as document 01's calls have it: memory long enough, each number of the state in
-- its range? 2. A buffer that the page fits in? 15. A longer one keeps its tail
unfoldable pub page_questions : State → ℕ → ℕ → List (Bool × ℕ)
page_questions s memory buffer = (ready s memory, 2) ∷ (leb (length (page s)) buffer, 15) ∷ []

unfoldable pub page_number : State → ℕ → ℕ → ℕ
page_number s memory buffer = first_no (page_questions s memory buffer)

-- What the function that writes a page says: the number, how many bytes are the page (0 if refused), and the buffer b before and b' after it
pub record Shows (s : State) (memory : ℕ) (b : List ℕ) (number size : ℕ) (b' : List ℕ) : Type 0 where
  pub asked : number ≡ page_number s memory (length b)
  pub accepted : number ≡ 0 → (size ≡ length (page s)) × (b' ≡ page s ++ drop size b)
  pub refused : (number ≡ 0 → ⊥) → (size ≡ 0) × (b' ≡ b)
