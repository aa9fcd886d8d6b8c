-- Which words settle a call's draws, and how many it takes: document 02, "Even draws".
use Rattle.std.specs.Prelude.{◌≡◌, true, not, List, ℕ}
use Rattle.lists.specs.Search.{is_none}
use Rattle.rules.specs.Draws.{Drawn, draws}

abbrev pub drawn : List ℕ → ℕ → Drawn
drawn js n = record { numbers = js; taken = n }

-- the words lent are enough: they settle the draws
abbrev pub Enough : List ℕ → List ℕ → Type 0
Enough ms ws = not (is_none (draws ms ws)) ≡ true
