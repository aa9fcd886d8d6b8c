use mathlib.Core.Path.{◌≡◌, sym, ◌∙◌}
use mathlib.Core.Bool.{false}
use Prim.Native.Nat.{ℕ, ◌<◌}
use native.Mathlib.Omega.{arith}
use Rattle.rules.specs.Request.{worn}
use Rattle.client.specs.View.{state_of}
use Rattle.reading.specs.Sources.{beneath}
use Rattle.reading.specs.Conditions.{some_below, none_below, worn-source}
use Rattle.reading.proofs.is_worn.Goals as goal
use Rattle.reading.proofs.is_worn.Goals.{After-sources-from}

-- the sources are not worn
gathered : (c : After-sources-from) → let a = c.args in (x : ℕ) → x < c.sources-from.result → worn (state_of a.c a.m.now) a.q x ≡ false
gathered c x l = let a = c.args in worn-source (state_of a.c a.m.now) a.q x (λ f. beneath _ _ _ _ x c.sources-from.ensures f l)

pub loop-l-init : goal.loop-l-init
loop-l-init c = gathered c

pub returns-then-wears : goal.returns-then-wears
returns-then-wears c =
    let a = c.args in
    let l = c.loop-l in
    sym (some_below (worn (state_of a.c a.m.now) a.q) a.c.shape.l l.l c.loop-l-test.true (sym c.wears.ensures ∙ c.if-wears.true))

pub returns : goal.returns
returns c =
    let a = c.args in
    sym (none_below (worn (state_of a.c a.m.now) a.q) a.c.shape.l (λ i u. c.loop-l.invariant i (omega arith)))
