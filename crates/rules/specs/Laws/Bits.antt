-- The bits of a counter: the levels that are filled in it, how many blocks and slots these have, and the writes of their slots.
use Rattle.std.specs.Prelude.{ℕ, ◌*◌, ◌/◌, ◌%◌, ◌^◌}
use Rattle.rules.specs.Shape.{slots}

-- ---- Write number n of the filled levels below k + 1: it is of level k, or one of those below

-- how many slots level k has, if it is filled
abbrev pub slots_at : ℕ → ℕ → ℕ
slots_at c k = (c / 2 ^ k % 2) * slots k
