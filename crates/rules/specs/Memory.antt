-- Document 01, "State and ranges": the memory that a shape needs, and the document's bound on it.
use Rattle.std.specs.Prelude.{ℕ, ◌+◌, ◌*◌}
use Rattle.rules.specs.Shape.{Shape, slots}

-- "The lengths needed follow a formula of N, P, L and B." Two bytes a number: 192 for the queue, the outstanding commands and the counters,
-- three for each block (its partition, its place, a place in the list of waiting blocks), three for each cell (order, mark, holds); then the
-- contents of each block, and those of a request
unfoldable pub needed : Shape → ℕ
needed h = 384 + 6 * h.N + 6 * (h.P * slots h.L) + (h.N + 1) * h.B
