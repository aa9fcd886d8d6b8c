use mathlib.Core.Path.{◌≡◌}
use Prim.Native.Nat.{◌+◌, ◌*◌}
use lib.ListN.{length}
use Rattle.lists.specs.All.{All}
use Rattle.rules.specs.Form.Sums.{out_of_blocks}
use Rattle.memory.specs.Fits.{shape_of}
use Rattle.memory.specs.Tables.{tables_of}
use Rattle.loading.specs.Records.{InStore, records_at, records_left, put_records}
use Rattle.loading.proofs.records.waiters.Given as goal

abbrev pub invariant-loop-i : goal.invariant-loop-i
invariant-loop-i l = (length l.m ≡ length l.initial.m) × (l.at ≡ l.from + l._i * (4 + l.h.b)) × All (InStore l.h.n) (records_left (out_of_blocks l.form.bytes.now) l.h.b l.n l._i l.at) × (put_records (records_left (out_of_blocks l.form.bytes.now) l.h.b l.n l._i l.at) (tables_of (shape_of l.h) l.m) ≡ put_records (records_at (out_of_blocks l.form.bytes.now) l.h.b l.n l.from) (tables_of (shape_of l.h) l.initial.m))
