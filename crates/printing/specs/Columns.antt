-- Document 02, P1, "A page on the state of the store": the text of a page's lines, by their figures.
use Rattle.std.specs.Prelude.{List, [], ◌∷◌, ◌++◌, ℕ, ◌-◌, length, replicate}
use Rattle.printing.specs.Text.{blank, newline, decimal}

-- "Right-aligned in base ten": a number in so many columns. A number below 100,000 has all its digits, and figures are
-- below 10,000 (`figures-fit`, crate `report`)
unfoldable pub column : ℕ → ℕ → List ℕ
column w n = replicate (w - length (decimal n)) blank ++ decimal n

-- "..in 6 each": numbers one behind the other, and what comes behind them
unfoldable pub columns : List ℕ → List ℕ → List ℕ
columns [] rest = rest
columns (n ∷ ns) rest = column 6 n ++ columns ns rest

-- "28 characters and a newline"
abbrev pub line_length : ℕ
line_length = 29

-- "28 characters and a newline: partition in 4 columns, then counter, stored blocks, waiting blocks and queued jobs in 6 each"
unfoldable pub partition_line : ℕ → List ℕ → List ℕ
partition_line q ns = column 4 q ++ columns ns (newline ∷ [])

-- "A last such line has "all" and a blank, then blocks nowhere, stored and waiting in 6 each, and 6 blanks"
unfoldable pub last_line : List ℕ → List ℕ
last_line ns = 97 ∷ 108 ∷ 108 ∷ blank ∷ columns ns (replicate 6 blank ++ (newline ∷ []))
