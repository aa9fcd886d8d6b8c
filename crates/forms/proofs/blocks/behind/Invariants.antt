use mathlib.Core.Path.{◌≡◌}
use Prim.Native.Nat.{◌+◌, ◌*◌, ◌≤◌}
use Rattle.lists.specs.Search.{below}
use Rattle.rules.specs.Form.Sums.{out_of_blocks}
use Rattle.forms.specs.At.{block_size, size_at}
use Rattle.forms.specs.Blocks.{size_left}
use Rattle.forms.proofs.blocks.behind.Given as goal

abbrev pub invariant-loop-b : goal.invariant-loop-b
invariant-loop-b l = (l.at ≤ l.from + l._b * 4) × (l.at + size_left (out_of_blocks l.form.bytes.now) l.n l._b l.at ≡ l.from + size_at (λ _. block_size (out_of_blocks l.form.bytes.now) 1) (below l.n) l.from)
