-- What a call draws from its words: draw by draw, from the word after the last one taken; and one word a draw where none is passed over.
use Rattle.std.proofs.Math.Path.{◌≡◌}
use Rattle.std.specs.Prelude.{length, get_or, drop}
use mathlib.Core.List.{List, ◌++◌}
use Rattle.std.proofs.Math.Option.{Option, none, some}
use Prim.Native.Nat.{ℕ, ◌+◌, ◌≤◌, ◌<◌}
use Rattle.lists.specs.All.{All}
use Rattle.rules.specs.Draws.{limit, Drawn, draws}
use Rattle.rules.specs.Laws.Draws.{Enough, drawn}
use Rattle.rules.specs.Run.{numbers_of, taken_of}

-- ---- Draw by draw

-- more draws before these: they gave the numbers js, and took n words
unfoldable pub ahead : ℕ → List ℕ → Option Drawn → Option Drawn
ahead n js none = none
ahead n js (some d) = some (drawn (js ++ d.numbers) (n + d.taken))

-- Word r settles a draw below m that goes over the words from k on; or they end, if there are no more than r
pub record SettledBy (m : ℕ) (ws : List ℕ) (k r : ℕ) : Type 0 where
  pub from : k ≤ r
  pub passed : (i : ℕ) → k ≤ i → i < r → (i < length ws) × (limit m ≤ get_or ws i 0)
  pub taken : r < length ws → get_or ws r 0 < limit m

-- The first draws took k words; those below ms' are left
pub record Reaches (ms ws ms' : List ℕ) (k : ℕ) : Type 0 where
  pub numbers : List ℕ
  pub drawn : draws ms ws ≡ ahead k numbers (draws ms' (drop k ws))

-- ---- One word a draw, where no word is passed over

-- no word of ws is passed over by a draw below one of ms
abbrev pub Straight : List ℕ → List ℕ → Type 0
Straight ms ws = All (λ m. 65536 ≤ limit m) ms × All (λ w. w < 65536) ws

-- Words that are enough for draws below ms and then below ns: the first draws take what they take alone, and the words behind that are enough for the others
pub record Behind (ms ns ws : List ℕ) : Type 0 where
  pub first : Enough ms ws
  pub long : length (numbers_of (draws ms ws)) ≡ length ms
  pub then : Enough ns (drop (taken_of (draws ms ws)) ws)
  pub numbers : numbers_of (draws (ms ++ ns) ws) ≡ numbers_of (draws ms ws) ++ numbers_of (draws ns (drop (taken_of (draws ms ws)) ws))
