use mathlib.Core.Path.{◌≡◌}
use Prim.Native.Nat.{◌+◌, ◌-◌, ◌*◌, ◌≤◌}
use Rattle.lists.specs.Search.{count, below}
use Rattle.rules.specs.Form.Numbers.{each}
use Rattle.rules.specs.Form.Sums.{out_of_blocks}
use Rattle.memory.specs.Fits.{shape_of}
use Rattle.forms.specs.Blocks.{counter_in}
use Rattle.forms.specs.Passes.{passed, keys_of}
use Rattle.forms.proofs.slots.behind.Given as goal

abbrev pub invariant-loop-q : goal.invariant-loop-q
invariant-loop-q l =
    (l.at ≤ l.from + l.q * 4096)
    × (passed (shape_of l.h) (out_of_blocks l.form.bytes.now) l.seen (each (keys_of l.h.l (counter_in (out_of_blocks l.form.bytes.now) l.h.p)) (count l.q (l.h.p - l.q))) l.at ≡ passed (shape_of l.h) (out_of_blocks l.form.bytes.now) l.seen (each (keys_of l.h.l (counter_in (out_of_blocks l.form.bytes.now) l.h.p)) (below l.h.p)) l.from)
