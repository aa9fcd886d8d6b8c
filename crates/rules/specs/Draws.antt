-- Document 01, "Draws", and document 02, "Even draws": numbers drawn from a tape of words, and the order of a level's items over its slots.
use Rattle.std.specs.Prelude.{true, false, List, [], ◌∷◌, ℕ, zero, suc, ◌-◌, ◌*◌, ◌/◌, ◌%◌, ◌<◌, get_or, set, ltb}
use Rattle.std.proofs.Math.Option.{Option, none, some}
use Rattle.lists.specs.Search.{below}

-- "The largest multiple of m that is at most 65,536": the words are of 16 bits
unfoldable pub limit : ℕ → ℕ
limit m = 65536 / m * m

-- the word taken "gives w mod m"
unfoldable pub draw : ℕ → ℕ → ℕ
draw m w = w % m

-- The numbers drawn; "each result says how many words it took"
pub record Drawn : Type 0 where
  pub numbers : List ℕ
  pub taken : ℕ

unfoldable pub drawn_first : ℕ → Option Drawn → Option Drawn
drawn_first j none = none
drawn_first j (some d) = some (record { numbers = j ∷ d.numbers; taken = suc d.taken })

-- "Passed words count as taken."
unfoldable pub pass_over : Option Drawn → Option Drawn
pass_over none = none
pass_over (some d) = some (record { numbers = d.numbers; taken = suc d.taken })

-- One draw below each of the bounds, in turn: it "passes over words at or above the largest multiple of m that is at most 65,536, and takes the
-- first word below it". None if the words end before the last draw is settled. All words go through this
unfoldable pub draws : List ℕ → List ℕ → Option Drawn
draws [] ws = some (record { numbers = []; taken = 0 })
draws (m ∷ ms) [] = none
draws (m ∷ ms) (w ∷ ws) = elim (ltb w (limit m)) [ true ↦ drawn_first (draw m w) (draws ms ws) | false ↦ pass_over (draws (m ∷ ms) ws) ]

-- The numbers that these draws may give: one for each, in turn, below its m, and no more
abbrev pub Drew : List ℕ → List ℕ → Type 0
Drew [] [] = Unit {0}
Drew [] (j ∷ js) = ⊥
Drew (m ∷ ms) [] = ⊥
Drew (m ∷ ms) (j ∷ js) = (j < m) × Drew ms js

-- An order is the list of the items' slots. "Exchange the slots of items i and j."
unfoldable pub exchange : List ℕ → ℕ → ℕ → List ℕ
exchange o i j = set (set o i (get_or o j 0)) j (get_or o i 0)

-- "For i from n−1 down to 1, draw j below i+1 and exchange the slots of items i and j", from the numbers drawn
unfoldable pub shuffle : ℕ → List ℕ → List ℕ → List ℕ
shuffle zero js o = o
shuffle (suc i) [] o = o
shuffle (suc i) (j ∷ js) o = shuffle i js (exchange o (suc i) j)

-- "An order of n slots starts with item i at slot i."
unfoldable pub new_order : ℕ → List ℕ → List ℕ
new_order n js = shuffle (n - 1) js (below n)

-- the bounds of its draws: n, n − 1, .., 2
unfoldable pub order_bounds : ℕ → List ℕ
order_bounds zero = []
order_bounds (suc zero) = []
order_bounds (suc (suc i)) = suc (suc i) ∷ order_bounds (suc i)
