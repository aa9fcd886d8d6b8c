use mathlib.Core.Path.{◌≡◌, refl, ap, sym, ◌∙◌}
use Prim.Native.Nat.{◌+◌}
use native.Mathlib.Omega.{arith}
use lib.ListN.{length}
use Rattle.client.specs.View.{view, state_of}
use Rattle.gather.specs.Gathered.{gathered_to}
use Rattle.gather.specs.Slots.{to_start, to-levels, to-all, gathers-here}
use Rattle.gather.proofs.gather.Goals as goal

pub loop-l-init : goal.loop-l-init
unfolding state_of view
loop-l-init c =
    (omega arith, refl, c.requires.7 ∙ sym (to_start (state_of c.args.c c.args.m.now) c.args.q))

pub returns-then-limit-k : goal.returns-then-limit-k
returns-then-limit-k c =
    let s = state_of c.args.c c.args.m.now in
    let l = c.loop-l in
    let u = to-levels s c.args.q (l.l + 1) (c.args.top + 1) (omega arith) in
    let e = to-all s c.args.q c.args.top c.requires.6 in
    record { all = λ h. absurd (omega (arith, c.if-limit-k.true)); more = λ h. omega (arith, c.gather_source-k.ensures.more h, u, ap length e) }

pub returns-else-limit-k : goal.returns-else-limit-k
returns-else-limit-k c =
    let s = state_of c.args.c c.args.m.now in
    let n : c.loop-l.l ≡ c.args.top = omega arith in
    gathers-here _ c.args.limit _ _ (c.gather_source-k.ensures.all (omega arith) ∙ ap (λ x. gathered_to s c.args.q (x + 1) 0) n ∙ to-all s c.args.q c.args.top c.requires.6) (omega arith)
