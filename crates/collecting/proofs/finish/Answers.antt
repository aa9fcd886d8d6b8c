use mathlib.Core.Path.{◌≡◌, refl, ap, ◌∙◌}
use Prim.Native.Nat.{◌<◌}
use native.Mathlib.Omega.{arith}
use lib.ListN.{length}
use Rattle.rules.specs.State.{State}
use Rattle.memory.specs.Tables.{tables_of}
use Rattle.memory.specs.Fits.{shape_of, fit-lt}
use Rattle.client.specs.declared.Client.{Client}
use Rattle.client.specs.View.{state_of}
use Rattle.client.specs.Moves.{Stands}
use Rattle.client.specs.Readings.{hand_of, partition-is}
use Rattle.collecting.specs.Collecting.{Hand, hand-kept, new_bytes, empty_slot, moved, renewed, queued, finish-is, after}
use Rattle.collecting.proofs.finish.Goals as goal
use Rattle.collecting.proofs.finish.Goals.{After-empty_slot, After-m-1, After-m-2-1, After-m-3-1, After-get-p, After-settle-d}

-- the block's partition
below : (c : After-get-p) → c.get-p.result < c.args.c.shape.p
below c =
    let h = c.args.c.shape in
    omega (arith, c.get-p.ensures, fit-lt h.p ((tables_of (shape_of h) c.args.m.now).partition c.args.c.request.block) c.requires.0.room.some_partitions)

-- the lengths of the memory
length-1 : (c : After-m-1) → length c.set_contents.new.m ≡ length c.args.m.now
length-1 c = omega arith

length-2 : (c : After-m-2-1) → length c.empty_slot.new.m ≡ length c.set_contents.new.m
length-2 c = omega arith

length-3 : (c : After-m-3-1) → length c.settle-d.new.m ≡ length c.empty_slot.new.m
length-3 c = omega arith

-- the states, one after the other
state-2 : (c : After-empty_slot) → let a = c.args in
    Stands a.c a.m.now c.empty_slot.new.m (empty_slot a.c.request.block c.get-p.result (new_bytes (hand_of a.c a.m.now) a.buffer.now (state_of a.c a.m.now)))
state-2 c =
    let a = c.args in
    after (empty_slot a.c.request.block c.get-p.result) a.c a.c a.m.now _ _ _ refl c.set_contents.ensures c.empty_slot.ensures

state-3 : (c : After-settle-d) → let a = c.args in
    Stands c.settle-d.result a.m.now c.settle-d.new.m
    (renewed a.c.request.block (moved a.c.request.block a.c.request.next (empty_slot a.c.request.block c.get-p.result (new_bytes (hand_of a.c a.m.now) a.buffer.now (state_of a.c a.m.now)))))
state-3 c =
    let state-2' : let d = c.before.before.before.before in let a = d.args in Stands a.c a.m.now c.empty_slot.new.m (empty_slot a.c.request.block d.get-p.result (new_bytes (hand_of a.c a.m.now) a.buffer.now (state_of a.c a.m.now))) = let d = c in let a = d.args in after (empty_slot a.c.request.block d.get-p.result) a.c a.c a.m.now _ _ _ refl d.set_contents.ensures c.empty_slot.ensures in
    let a = c.args in
    after (λ s. renewed a.c.request.block (moved a.c.request.block a.c.request.next s)) a.c c.settle-d.result a.m.now _ _ _ (ap (λ (x : Client). x.shape) c.settle-d.ensures.client) (state-2') c.settle-d.ensures.stands

hand-1 : (c : After-m-1) → Hand c.args.c c.set_contents.new.m
hand-1 c =
    let s = c.before.before.before.before.before.before.before in
    hand-kept s.args.c s.args.m.now c.set_contents.new.m s.requires.0 (length-1 c) (ap (λ (s : State). s.waiting) c.set_contents.ensures.state)

pub empty_slot-requires : goal.empty_slot-requires
empty_slot-requires c = (hand-1 (goal.at.empty_slot-requires c).After-m-1, below (goal.at.empty_slot-requires c).After-get-p)

pub queue-requires : goal.queue-requires
queue-requires c =
    let l = length-3 (goal.at.queue-requires c).After-m-3-1 ∙ length-2 (goal.at.queue-requires c).After-m-2-1 ∙ length-1 (goal.at.queue-requires c).After-m-1 in
    rw (c.settle-d.ensures.client, l) (c.requires.0.room, c.requires.0.jobs, below (goal.at.queue-requires c).After-get-p, c.requires.0.asked.evict)

pub returns : goal.returns
returns c =
    let a = c.args in
    let all = after (queued c.get-p.result a.c.request.evict) c.settle-d.result _ a.m.now _ _ _ c.queue.ensures.shape (state-3 (goal.at.returns c).After-settle-d) c.queue.ensures.stands in (
      c.queue.ensures.request,
      record {
        state = all.state
            ∙ finish-is (hand_of a.c a.m.now) (state_of a.c a.m.now) c.get-p.result a.buffer.now (partition-is a.c a.m.now a.c.request.block c.get-p.result c.get-p.ensures) c.requires.2;
        tail = all.tail;
      },
    )
