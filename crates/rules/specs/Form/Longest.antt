-- Document 02, P5: "as long as the longest form of the shape would be were E equal to N, by a formula, whatever the state and E".
use Rattle.std.specs.Prelude.{ℕ, ◌+◌, ◌-◌, ◌*◌}
use Rattle.rules.specs.Shape.{Shape, slots}
use Rattle.rules.specs.Form.Numbers.{form_of, slot_width}
use Rattle.rules.specs.Form.Sums.{block_count}

-- All blocks wait, 64 jobs are queued, all levels are filled: 1 byte for the form, 12 for the shape, 2 for each counter, 2 and 128 for the
-- queue, 3 for each block's partition and place and 4 + B for its record, and for each slot that of an item and a mark
unfoldable pub longest_payload : Shape → ℕ
longest_payload h = 143 + 2 * h.P + (7 + h.B) * h.N + (slot_width (form_of h) + 1) * (h.P * (slots h.L - 2))

unfoldable pub longest : Shape → ℕ
longest h = block_count (longest_payload h) * 512
