use mathlib.Core.Path.{◌≡◌, ap, sym, ◌∙◌}
use Rattle.std.specs.Prelude.{Some}
use Rattle.rules.specs.Shape.{slots}
use mathlib.Core.Bool.{true, false}
use Prim.Native.Nat.{◌+◌}
use native.Mathlib.Omega.{arith}
use lib.Pow.{pow_mono}
use Rattle.rules.specs.Form.Sums.{out_of_blocks}
use Rattle.memory.specs.Fits.{shape_of}
use Rattle.forms.specs.At.{level_at}
use Rattle.forms.specs.Levels.{level_fits}
use Rattle.forms.specs.Passes.{passed, pass-none, pass-yes, pass-no, level-fits, key-none, key-some, cell_room}
use Rattle.forms.proofs.slots.level.Goals as goal

pub returns-then-not-filled : goal.returns-then-not-filled
returns-then-not-filled c =
    let a = c.args in
    (sym (ap (λ ks. passed (shape_of a.h) (out_of_blocks a.form.bytes.now) a.seen.now ks a.at) (key-none a.q a.c a.l (sym c.filled.ensures ∙ c.if-not-filled.true)) ∙ pass-none (shape_of a.h) (out_of_blocks a.form.bytes.now) a.seen.now a.at), omega arith)

pub is_level-requires : goal.is_level-requires
is_level-requires c =
    let a = c.args in
    let b = c.requires.0 in
    omega (arith, cell_room (shape_of a.h) a.q a.l (omega arith) (omega arith), c.cell.ensures.0, b.cells, b.levels)

pub returns-then-not-is_level : goal.returns-then-not-is_level
returns-then-not-is_level c =
    let a = c.args in
    let h = shape_of a.h in
    let p = out_of_blocks a.form.bytes.now in
    let s = a.seen.now in
    let e : level_fits h s (level_at p 1 (a.q, a.l) a.at) ≡ false = rw (level-fits h p s a.q a.l a.at, ← c.cell.ensures.0) (sym c.is_level.ensures ∙ c.if-not-is_level.true) in
    (sym (ap (λ ks. passed h p s ks a.at) (key-some a.q a.c a.l (sym c.filled.ensures ∙ c.if-not-filled.false)) ∙ pass-no h p s a.q a.l a.at e), omega arith)

pub returns : goal.returns
returns c =
    let a = c.args in
    let h = shape_of a.h in
    let p = out_of_blocks a.form.bytes.now in
    let s = a.seen.now in
    let b = c.requires.0 in
    let e : level_fits h s (level_at p 1 (a.q, a.l) a.at) ≡ true = rw (level-fits h p s a.q a.l a.at, ← c.cell.ensures.0) (sym c.is_level.ensures ∙ c.if-not-is_level.false) in
    let z = ap (λ ks. passed h p s ks a.at) (key-some a.q a.c a.l (sym c.filled.ensures ∙ c.if-not-filled.false)) ∙ pass-yes h p s a.q a.l a.at e in
    let e : a.at + c.pow2-n.result + c.pow2-n.result ≡ a.at + slots a.l + slots a.l = omega (arith, c.pow2-n.ensures.0) in
    (ap Some e ∙ sym z, omega (arith, c.pow2-n.ensures.0, b.levels, pow_mono {i = a.l + 1} {j = 8} (omega (arith, b.levels))))
