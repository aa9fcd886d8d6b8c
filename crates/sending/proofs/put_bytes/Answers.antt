use Rattle.memory.specs.Fits.{fit-lt}
use Prim.Native.Nat.{ℕ, ◌+◌, ◌<◌}
use mathlib.Core.Path.{ap, sym, ◌∙◌}
use lib.ListN.{replicate}
use Rattle.sending.specs.Sent.{slot-dummy, slot-block}
use native.Mathlib.Omega.{arith}
use Rattle.sending.proofs.put_bytes.Goals as goal

pub returns-then-b-eq0 : goal.returns-then-b-eq0
returns-then-b-eq0 c =
    let h = c.get-b in
    let x = c.cell-x in
    let r = c.args in
    let z = c.if-b-eq0.true in
    c.zeros.ensures ∙ ap (λ n. replicate {A = ℕ} n 0) c.requires.4 ∙ sym (slot-dummy r.c r.m.now r.q r.l r.i x.result x.ensures.0 (sym h.ensures ∙ z))

pub load-requires : goal.load-requires
load-requires c =
    let b = c.get-b in
    let h = c.args.c.shape in
    let l : b.result < h.n + 1 = rw b.ensures (fit-lt (h.n + 1) _ (omega arith)) in
    omega arith

pub returns : goal.returns
returns c =
    let h = c.get-b in
    let x = c.cell-x in
    let r = c.args in
    c.load.ensures ∙ sym (slot-block r.c r.m.now r.q r.l r.i x.result h.result x.ensures.0 h.ensures c.if-b-eq0.false)
