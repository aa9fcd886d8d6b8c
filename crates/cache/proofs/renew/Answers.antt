use mathlib.Core.Path.{◌≡◌, refl, ap, sym, ◌∙◌}
use Prim.Native.Nat.{◌+◌}
use native.Mathlib.Omega.{arith}
use Rattle.client.specs.Moves.{with_waiting}
use Rattle.cache.specs.Waiting.{blocks_in, First, first-before, waits-not, renewing-from, renewing-more, count-is, renewed}
use Rattle.cache.proofs.renew.Goals as goal
use Rattle.cache.proofs.renew.Goals.{then-waits, else-waits}

pub loop-i-init : goal.loop-i-init
loop-i-init c =
    let a = c.args in
    let none = waits-not a.c a.m.now a.b in
    let f : First (blocks_in a.c.shape a.m.now) a.c.waiting a.b c.if-waits.first = elim c.if-waits.branch [ then-waits w ↦ rw w.first-is w.place-first.ensures | else-waits w ↦ rw w.first-is (none (sym c.waits.ensures ∙ w.if-waits.false)) ] in
    let g = first-before _ _ _ _ f in
    rw c.unwrap_or-from.ensures (g.0, refl, renewing-from _ _ _ _ g.1)

pub loop-i-preserved : goal.loop-i-preserved
loop-i-preserved c =
    let l = c.loop-i in
    (omega arith, omega arith, renewing-more _ _ _ _ _ _ l.i _ (omega arith) c.join-k.ensures l.invariant.2)

pub set-requires : goal.set-requires
set-requires c =
    let l = c.loop-i in
    let a = c.args in
    omega (arith, count-is a.c a.b a.m.now l.m l.k l.i (omega arith) l.invariant.2)

pub returns : goal.returns
returns c =
    let l = c.loop-i in
    let a = c.args in
    let e : l.i ≡ a.c.waiting = omega arith in (
      c.with_waiting.ensures ∙ ap (λ k. with_waiting (k + 1) a.c) (count-is a.c a.b a.m.now l.m l.k l.i e l.invariant.2),
      rw c.with_waiting.ensures (renewed a.c a.b a.m.now l.m l.k l.i e l.invariant.2 _ (omega arith) (omega arith) c.set.ensures),
    )
