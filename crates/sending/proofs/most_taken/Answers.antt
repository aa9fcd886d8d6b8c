use mathlib.Core.Path.{◌≡◌, ap, ◌∙◌}
use mathlib.Core.Bool.{not}
use Prim.Native.Nat.{min, ◌-◌, ◌^◌, ◌≤◌}
use native.Mathlib.Omega.{arith}
use Rattle.rules.specs.Jobs.{joined}
use Rattle.rules.specs.Blocks.{blocks_in}
use Rattle.client.specs.View.{view, state_of}
use Rattle.sending.specs.Plans.{nobody-waits, full-taken, some-taken}
use Rattle.sending.proofs.most_taken.Goals as goal

pub returns-then-is_none : goal.returns-then-is_none
returns-then-is_none c = let r = c.args in (nobody-waits (state_of r.c r.m.now) r.q r.first (c.is_none.ensures ∙ ap not c.if-is_none.true) c.requires.2, omega arith)

pub returns-then-half-stored : goal.returns-then-half-stored
unfolding state_of view
returns-then-half-stored c =
    let r = c.args in
    let l : 2 ^ (r.c.shape.l - 1) ≤ blocks_in (state_of r.c r.m.now) r.q r.c.shape.l = omega (arith, c.if-half-stored.true, c.stored-stored.ensures.0, c.pow2-half.ensures.0) in
    (full-taken (state_of r.c r.m.now) r.q l, omega arith)

pub returns-then-room-joined : goal.returns-then-room-joined
unfolding state_of view
returns-then-room-joined c =
    let r = c.args in
    let s = state_of r.c r.m.now in
    let e : c.pow2-half.result - c.stored-stored.result ≡ min (joined s r.q) (2 ^ (r.c.shape.l - 1) - blocks_in s r.q r.c.shape.l) = omega (arith, c.if-room-joined.true, c.stored-stored.ensures.0, c.pow2-half.ensures.0, c.requires.3) in
    (some-taken s r.q _ e, omega arith)

pub returns-else-room-joined : goal.returns-else-room-joined
unfolding state_of view
returns-else-room-joined c =
    let r = c.args in
    let s = state_of r.c r.m.now in
    let e : r.joined ≡ min (joined s r.q) (2 ^ (r.c.shape.l - 1) - blocks_in s r.q r.c.shape.l) = omega (arith, c.if-room-joined.false, c.stored-stored.ensures.0, c.pow2-half.ensures.0, c.requires.3) in
    (some-taken s r.q _ e, omega arith)
