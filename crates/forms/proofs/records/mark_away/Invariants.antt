use mathlib.Core.Path.{◌≡◌}
use Prim.Native.Nat.{◌+◌, ◌*◌, ◌≤◌}
use lib.ListN.{length}
use Rattle.rules.specs.Form.Sums.{out_of_blocks}
use Rattle.forms.specs.Blocks.{blocks_at, blocks_left}
use Rattle.forms.specs.Records.{away}
use Rattle.forms.proofs.records.mark_away.Given as goal

abbrev pub invariant-loop-b : goal.invariant-loop-b
invariant-loop-b l = (l.at ≤ l.from + l.b * 4) × (length l.seen ≡ length l.initial.seen) × (away l.seen l.b (blocks_left (out_of_blocks l.form.bytes.now) l.n l.b l.at) ≡ away l.initial.seen 0 (blocks_at (out_of_blocks l.form.bytes.now) l.n l.from))
