use mathlib.Core.Path.{◌≡◌}
use Prim.Native.Nat.{◌+◌, ◌-◌, ◌*◌, ◌≤◌}
use lib.ListN.{length}
use Rattle.lists.specs.Search.{below, count}
use Rattle.rules.specs.Form.Numbers.{each}
use Rattle.rules.specs.Form.Sums.{out_of_blocks}
use Rattle.memory.specs.Fits.{shape_of}
use Rattle.memory.specs.Tables.{tables_of}
use Rattle.forms.specs.Blocks.{counter_in}
use Rattle.forms.specs.Passes.{keys_of}
use Rattle.loading.specs.Levels.{Leads}
use Rattle.loading.proofs.slots.partitions.Given as goal

abbrev pub invariant-loop-q : goal.invariant-loop-q
invariant-loop-q l = (length l.m ≡ length l.initial.m) × (l.at ≤ l.from + l.q * 4096) × Leads (shape_of l.h) (out_of_blocks l.form.bytes.now) (each (keys_of l.h.l (counter_in (out_of_blocks l.form.bytes.now) l.h.p)) (count l.q (l.h.p - l.q))) l.at (tables_of (shape_of l.h) l.m) (each (keys_of l.h.l (counter_in (out_of_blocks l.form.bytes.now) l.h.p)) (below l.h.p)) l.from (tables_of (shape_of l.h) l.initial.m)
