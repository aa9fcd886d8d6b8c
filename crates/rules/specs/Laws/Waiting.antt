-- The blocks that wait fit the cache, with the request's own.
use Rattle.std.specs.Prelude.{List, ℕ, ◌≤◌, ◌<◌, length}
use Rattle.std.proofs.Math.Option.{Option, none, some}
use Rattle.rules.specs.Request
use Rattle.rules.specs.State.{Request}
use Rattle.rules.specs.Ranges.{others}

-- The blocks that wait fit a cache of e places, with the request's own
abbrev pub Waits : ℕ → List ℕ → Option Request → Type 0
Waits e xs none = length xs ≤ e
Waits e xs (some r) = (length xs ≤ e) × (length (others xs r.block) < e)
