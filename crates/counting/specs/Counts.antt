-- What is counted for a page: a table of four rows, each with an entry for each partition and one for all.
use Rattle.std.specs.Prelude.{◌≡◌, Bool, not, ◌&&◌, List, ℕ, ◌+◌, ◌*◌, ◌<◌, length, get_or, set, eqb, if◌then◌else◌}
use Rattle.lists.specs.Search.{keep, below, member}
use Rattle.rules.specs.State.{State}
use Rattle.rules.specs.Blocks.{is_nowhere}
use Rattle.counting.specs.declared.Row.{Row}
use Rattle.counting.specs.declared.Row.TheVariants.{Nowhere, Stored, Waiting, Queued}
use Rattle.rules.specs.Figures.{nowhere_blocks, stored_blocks, waiting_blocks}

-- partitions are below this; the entry behind theirs is for all
abbrev pub most_partitions : ℕ
most_partitions = 64

-- four rows of 65 entries
abbrev pub table_room : ℕ
table_room = 260

-- where a row's entry lies
abbrev pub entry_at : ℕ → ℕ → ℕ
entry_at k q = k * 65 + q

-- Row k of a table counts the elements of a list: in entry q those of which f says q, and all in the last
pub record RowCounts (f : ℕ → ℕ) (xs : List ℕ) (k : ℕ) (table : List ℕ) : Type 0 where
  pub each : (q : ℕ) → q < most_partitions → get_or table (entry_at k q) 0 ≡ length (keep (λ x. eqb (f x) q) xs)
  pub all : get_or table (entry_at k most_partitions) 0 ≡ length xs

-- a table with one more at an entry
abbrev pub more : ℕ → List ℕ → List ℕ
more i table = set table i (get_or table i 0 + 1)

-- one more in row k: at entry q, and at the last
abbrev pub added : ℕ → ℕ → List ℕ → List ℕ
added k q table = more (entry_at k most_partitions) (more (entry_at k q) table)

-- The figures of a state: those that are nowhere, stored, and waiting, and the jobs, a row each
pub record Counted (s : State) (table : List ℕ) : Type 0 where
  pub nowhere : RowCounts s.partition (nowhere_blocks s) 0 table
  pub stored : RowCounts s.partition (stored_blocks s) 1 table
  pub waiting : RowCounts s.partition (waiting_blocks s) 2 table
  pub queued : RowCounts (λ j. j) s.queue 3 table

-- the number of a row
abbrev pub row_number : Row → ℕ
row_number Nowhere = 0
row_number Stored = 1
row_number Waiting = 2
row_number Queued = 3

-- the number of a block's row, by its place
unfoldable pub row_of : Bool → Bool → ℕ
row_of nowhere waits = if nowhere then (if waits then 2 else 0) else 1

-- the same three lists of the first n blocks
pub record CountedTo (s : State) (n : ℕ) (table : List ℕ) : Type 0 where
  pub nowhere : RowCounts s.partition (keep (λ b. is_nowhere (s.place b) && not (member b s.waiting)) (below n)) 0 table
  pub stored : RowCounts s.partition (keep (λ b. not (is_nowhere (s.place b))) (below n)) 1 table
  pub waiting : RowCounts s.partition (keep (λ b. is_nowhere (s.place b) && member b s.waiting) (below n)) 2 table
