use mathlib.Core.Path.{◌≡◌}
use Prim.Native.Nat.{◌+◌, ◌-◌, ◌*◌, ◌≤◌}
use Rattle.lists.specs.Search.{count}
use Rattle.rules.specs.Form.Numbers.{each}
use Rattle.rules.specs.Form.Sums.{out_of_blocks}
use Rattle.memory.specs.Fits.{shape_of}
use Rattle.forms.specs.Blocks.{counter_in}
use Rattle.forms.specs.Passes.{passed, key_at, keys_of}
use Rattle.forms.proofs.slots.partition.Given as goal

abbrev pub invariant-loop-l : goal.invariant-loop-l
invariant-loop-l l =
    (l.at ≤ l.from + l.l * 512)
    × (passed (shape_of l.h) (out_of_blocks l.form.bytes.now) l.seen (each (key_at l.q l.c) (count l.l (l.h.l - l.l))) l.at ≡ passed (shape_of l.h) (out_of_blocks l.form.bytes.now) l.seen (keys_of l.h.l (counter_in (out_of_blocks l.form.bytes.now) l.h.p) l.q) l.from)
