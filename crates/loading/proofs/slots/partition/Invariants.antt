use mathlib.Core.Path.{◌≡◌}
use Prim.Native.Nat.{◌+◌, ◌-◌, ◌*◌, ◌≤◌}
use lib.ListN.{length}
use Rattle.lists.specs.Search.{below, count}
use Rattle.rules.specs.Form.Numbers.{each}
use Rattle.rules.specs.Form.Sums.{out_of_blocks}
use Rattle.memory.specs.Fits.{shape_of}
use Rattle.memory.specs.Tables.{tables_of}
use Rattle.forms.specs.Passes.{key_at}
use Rattle.loading.specs.Levels.{Leads}
use Rattle.loading.proofs.slots.partition.Given as goal

abbrev pub invariant-loop-l : goal.invariant-loop-l
invariant-loop-l l = (length l.m ≡ length l.initial.m) × (l.at ≤ l.from + l.l * 512) × Leads (shape_of l.h) (out_of_blocks l.form.bytes.now) (each (key_at l.q l.c) (count l.l (l.h.l - l.l))) l.at (tables_of (shape_of l.h) l.m) (each (key_at l.q l.c) (below l.h.l)) l.from (tables_of (shape_of l.h) l.initial.m)
