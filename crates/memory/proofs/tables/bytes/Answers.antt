use mathlib.Core.Path.{ap, sym, ◌∙◌}
use Prim.Native.Nat.{◌+◌}
use native.Mathlib.Omega.{arith}
use Rattle.memory.specs.Words.{word_at, numbers-by}
use Rattle.memory.specs.Stored.{get-table}
use Rattle.memory.specs.Fits.{shape_of}
use Rattle.memory.proofs.tables.bytes.Goals as goal

pub returns : goal.returns
returns c =
    let a = c.args in
    numbers-by _ a.n _ _ c.numbers.ensures (λ k l. sym (get-table (shape_of a.h) a.m.now a.t (a.i + k) (omega arith) ∙ ap (word_at a.m.now) (omega arith)))
