use mathlib.Core.Path.{◌≡◌, refl, ap}
use native.Mathlib.Omega.{arith}
use Prim.Native.Nat.{suc, ◌<◌}
use Rattle.lists.specs.All.{All}
use Rattle.lists.specs.Distinct.{NoDup}
use Rattle.lists.specs.Search.{keep}
use Rattle.rules.specs.Jobs.{orders_bounds}
use Rattle.rules.specs.Levels.{filled, down}
use Rattle.rules.specs.Laws.Draws.{Enough}
use Rattle.rules.proofs.Laws.Rebuilt.{gathered-in}
use Rattle.client.specs.declared.Client.{Client}
use Rattle.client.specs.View.{state_of, view}
use Rattle.tape.specs.Tape.{words_of}
use Rattle.sending.specs.Plans.{longest-stays, gathered-once}
use Rattle.sending.specs.Sent.{rebuilt-stands}
use Rattle.sending.proofs.write_levels.Goals as goal

pub rebuild_tables-requires : goal.rebuild_tables-requires
unfolding state_of view
rebuild_tables-requires c =
    let r = c.args in
    let s = state_of r.c r.m.now in
    let p = c.requires.2 in
    let once : NoDup r.list.now = rw c.requires.3 (gathered-once s r.q) in
    let blocks : All (λ b. b < s.shape.N) r.list.now = rw c.requires.3 (gathered-in s r.q) in
    let enough : Enough (orders_bounds (keep (filled r.p.next) (down (suc r.p.top)))) (words_of r.tape.now) = rw (← p.levels) c.requires.4 in
    (c.requires.0.room, c.requires.1, p.level, once, blocks, enough)

pub leave_first-d-requires : goal.leave_first-d-requires
leave_first-d-requires c =
    let r = c.args in
    let u = c.requires.0 in
    let b = c.rebuild_tables in
    ((rw b.auto.m u.room, omega (arith, u.counts.waiting, u.places)), longest-stays r.c r.m.now b.new.m r.q _ b.ensures.state refl refl r.p.first c.requires.2.first)

pub returns : goal.returns
returns c =
    let l = c.leave_first-d in
    let b = c.rebuild_tables in
    let r = c.args in
    let p = c.requires.2 in
    let shape : l.result.shape ≡ r.c.shape = ap (λ (x : Client). x.shape) l.ensures.0 in
    rw (c.with_sent.ensures, c.with_begun.ensures) (
      shape,
      ap (λ (x : Client). x.out) l.ensures.0,
      rebuilt-stands r.c l.result r.m.now _ _ r.q r.p (words_of r.tape.now) r.list.now p c.requires.3 shape b.ensures l.ensures.1,
      ap (λ (x : Client). x.request) l.ensures.0,
    )
