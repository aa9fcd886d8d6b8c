use mathlib.Core.Path.{◌≡◌}
use Prim.Native.Nat.{◌+◌, ◌*◌, ◌≤◌}
use Rattle.rules.specs.Form.Sums.{out_of_blocks}
use Rattle.memory.specs.Fits.{shape_of}
use Rattle.forms.specs.Blocks.{blocks_at, blocks_left, counter_in, all_stand}
use Rattle.forms.specs.Cells.{cells_of}
use Rattle.forms.specs.Once.{mark_all}
use Rattle.forms.proofs.blocks.are_placed.Given as goal

abbrev pub invariant-loop-b : goal.invariant-loop-b
invariant-loop-b l =
    (l.at ≤ l.from + l._b * 4)
    × (all_stand (shape_of l.h) (counter_in (out_of_blocks l.form.bytes.now) l.h.p) l.seen (blocks_left (out_of_blocks l.form.bytes.now) l.h.n l._b l.at) ≡ all_stand (shape_of l.h) (counter_in (out_of_blocks l.form.bytes.now) l.h.p) l.initial.seen (blocks_at (out_of_blocks l.form.bytes.now) l.h.n l.from))
    × (mark_all l.seen (cells_of (shape_of l.h) (blocks_left (out_of_blocks l.form.bytes.now) l.h.n l._b l.at)) ≡ mark_all l.initial.seen (cells_of (shape_of l.h) (blocks_at (out_of_blocks l.form.bytes.now) l.h.n l.from)))
