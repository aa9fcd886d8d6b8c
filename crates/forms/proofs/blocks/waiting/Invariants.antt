use mathlib.Core.Path.{◌≡◌}
use Prim.Native.Nat.{◌+◌, ◌*◌, ◌≤◌}
use Rattle.rules.specs.Form.Sums.{out_of_blocks}
use Rattle.forms.specs.At.{wait_count}
use Rattle.forms.specs.Blocks.{blocks_at, blocks_left}
use Rattle.forms.proofs.blocks.waiting.Given as goal

abbrev pub invariant-loop-b : goal.invariant-loop-b
invariant-loop-b l = (l.at ≤ l.from + l._b * 4) × (l.count ≤ l._b) × (l.count + wait_count (blocks_left (out_of_blocks l.form.bytes.now) l.n l._b l.at) ≡ wait_count (blocks_at (out_of_blocks l.form.bytes.now) l.n l.from))
