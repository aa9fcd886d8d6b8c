use mathlib.Core.Path.{◌≡◌, refl, ap, ◌∙◌}
use Prim.Native.Nat.{◌+◌, ◌≤◌}
use native.Mathlib.Omega.{arith}
use Rattle.memory.specs.Tables.{tables_of, table_at}
use Rattle.memory.specs.Stored.{table-lt}
use Rattle.memory.specs.Closing.{closing-none, closing-more}
use Rattle.memory.specs.Fits.{shape_of, fit, fit-le}
use Rattle.memory.proofs.tables.close_up.Goals as goal

pub loop-i-init : goal.loop-i-init
loop-i-init c =
    let a = c.args in
    (omega arith, refl, closing-none (shape_of a.h) a.t a.bound a.from a.m.now)

pub set-requires : goal.set-requires
set-requires c =
    let v = c.fit-v in
    let l = c.loop-i in
    let a = c.args in
    let h = shape_of a.h in
    let e : v.result ≤ table_at a.t (tables_of h l.m) (l.i + 1) = rw (v.ensures, c.entry.ensures) (fit-le a.bound (table_at a.t (tables_of h l.m) (l.i + 1))) in
    omega (arith, table-lt h l.m a.t (l.i + 1) (omega arith))

pub loop-i-preserved : goal.loop-i-preserved
loop-i-preserved c =
    let v = c.fit-v in
    let l = c.loop-i in
    let a = c.args in
    let e : v.result ≡ fit a.bound (table_at a.t (tables_of (shape_of a.h) l.m) (l.i + 1)) = v.ensures ∙ ap (fit a.bound) c.entry.ensures in
    (omega arith, omega arith, closing-more (shape_of a.h) a.t a.bound a.from a.m.now l.m _ l.i v.result (omega arith) e c.set.ensures l.invariant.2)
