use mathlib.Core.Path.{sym, ◌∙◌}
use Prim.Native.Nat.{◌<◌}
use native.Mathlib.Omega.{arith}
use borrow.Author.Count.{below_more}
use borrow.Author.Tests.{eq-eqb, ne_eqb}
use Rattle.memory.specs.Fits.{fit-lt}
use Rattle.client.specs.View.{state_of}
use Rattle.cache.specs.Longest.{longest-none, longest-at}
use Rattle.cache.specs.Waiting.{waiting-is, partition-is}
use Rattle.cache.proofs.longest.Goals as goal

pub get-requires : goal.get-requires
get-requires c =
    let h = c.args.c.shape in
    let l : c.get-b.result < h.n = rw c.get-b.ensures (fit-lt h.n _ (omega arith)) in
    omega arith

pub returns-then-get-q : goal.returns-then-get-q
returns-then-get-q c =
    let l = c.loop-i in
    longest-at _ _ _ _ (waiting-is _ _) l.i (omega arith) l.invariant (eq-eqb _ _ (partition-is _ _ l.i _ _ c.get-b.ensures c.get.ensures ∙ c.if-get-q.true))

pub loop-i-preserved : goal.loop-i-preserved
loop-i-preserved c =
    let l = c.loop-i in
    below_more _ _ l.invariant (ne_eqb _ _ (λ e. c.if-get-q.false (sym (partition-is _ _ l.i _ _ c.get-b.ensures c.get.ensures) ∙ e)))

pub returns : goal.returns
returns c = let a = c.args in longest-none (state_of a.c a.m.now) _ _ _ (waiting-is a.c a.m.now) (λ x h. c.loop-i.invariant x (omega arith))
