use mathlib.Core.Path.{◌≡◌}
use Prim.Native.Nat.{◌+◌, ◌*◌, ◌≤◌}
use lib.ListN.{length}
use Rattle.lists.specs.All.{All}
use Rattle.lists.specs.Search.{below}
use Rattle.rules.specs.Form.Sums.{out_of_blocks}
use Rattle.memory.specs.Fits.{shape_of}
use Rattle.memory.specs.Tables.{tables_of}
use Rattle.forms.specs.At.{block_size, size_at}
use Rattle.forms.specs.Blocks.{blocks_at, blocks_left, size_left, counter_in}
use Rattle.forms.specs.Cells.{PlacedIn}
use Rattle.loading.specs.Blocks.{put_blocks}
use Rattle.loading.proofs.blocks.blocks.Given as goal

abbrev pub invariant-loop-b : goal.invariant-loop-b
invariant-loop-b l = (length l.m ≡ length l.initial.m) × (l.at ≤ l.from + l.b * 4) × (l.at + size_left (out_of_blocks l.form.bytes.now) l.h.n l.b l.at ≡ l.from + size_at (λ _. block_size (out_of_blocks l.form.bytes.now) 1) (below l.h.n) l.from) × All (PlacedIn (shape_of l.h) (counter_in (out_of_blocks l.form.bytes.now) l.h.p)) (blocks_left (out_of_blocks l.form.bytes.now) l.h.n l.b l.at) × (put_blocks (shape_of l.h) l.b (blocks_left (out_of_blocks l.form.bytes.now) l.h.n l.b l.at) (tables_of (shape_of l.h) l.m) ≡ put_blocks (shape_of l.h) 0 (blocks_at (out_of_blocks l.form.bytes.now) l.h.n l.from) (tables_of (shape_of l.h) l.initial.m))
