use mathlib.Core.Path.{◌≡◌, sym, ap, ◌∙◌}
use Prim.Native.Nat.{ℕ, ◌+◌, ◌-◌}
use native.Mathlib.Omega.{arith}
use lib.ListN.{take, drop}
use Rattle.memory.specs.Blocks.{block-is}
use Rattle.memory.specs.Tables.{tables_of}
use Rattle.memory.specs.Fits.{shape_of}
use Rattle.memory.proofs.blocks.load.Goals as goal

pub returns : goal.returns
unfolding tables_of
returns c =
    let s = c.start-a in
    let size = c.args.h.b in
    let m = c.args.m.now in
    let e : s.result + size - s.result ≡ size = omega arith in
    c.copy_from_slice.ensures.after
    ∙ ap (λ (k : ℕ). take k (drop s.result m)) e
    ∙ ap (λ (k : ℕ). take size (drop k m)) s.ensures
    ∙ sym (block-is (shape_of c.args.h) m c.args.b c.requires.1)
