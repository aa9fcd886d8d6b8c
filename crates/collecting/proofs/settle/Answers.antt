use mathlib.Core.Path.{◌≡◌, ap}
use native.Mathlib.Omega.{arith}
use lib.ListN.{length}
use Rattle.rules.specs.State.{State}
use Rattle.client.specs.Moves.{Stands}
use Rattle.client.specs.View.{state_of}
use Rattle.collecting.specs.Collecting.{hand-kept, moved, moved-stand, settled}
use Rattle.collecting.proofs.settle.Goals as goal
use Rattle.collecting.proofs.settle.Goals.{After-set-2}

-- the memory once the block is nowhere, under its next partition
placed : (c : After-set-2) → Stands c.args.c c.args.m.now c.set-2.new.m (moved c.args.c.request.block c.args.c.request.next (state_of c.args.c c.args.m.now))
placed c =
    moved-stand c.args.c c.args.m.now _ c.args.c.request.block c.args.c.request.next _ c.requires.asked.next c.set.ensures c.set-2.ensures

pub renew-requires : goal.renew-requires
renew-requires c =
    let s = c.before.before.before.before.before.before.before in
    let l : length c.set-2.new.m ≡ length s.args.m.now = omega arith in
    let f = hand-kept s.args.c s.args.m.now c.set-2.new.m s.requires l (ap (λ (s : State). s.waiting) (placed (goal.at.renew-requires c).After-set-2).state) in
    ((f.room, f.waiting), f.asked.block, f.fewer)

pub returns : goal.returns
returns c =
    let r = c.renew in
    settled c.args.c _ c.args.m.now c.set-2.new.m _ (placed (goal.at.returns c).After-set-2) r.ensures.0 r.ensures.1
