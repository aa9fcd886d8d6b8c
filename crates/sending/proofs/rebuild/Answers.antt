use mathlib.Core.Path.{◌≡◌, refl, ap, sym, ◌∙◌}
use Prim.Native.Nat.{suc, ◌/◌, ◌≤◌, ◌<◌}
use native.Mathlib.Omega.{arith}
use lib.ListN.{get_or}
use lib.Seq.{length-take-le}
use Rattle.std.proofs.Math.Option.{none}
use Rattle.lists.specs.Search.{keep}
use Rattle.rules.specs.Draws.{draws}
use Rattle.rules.specs.Levels.{filled, down}
use Rattle.rules.specs.Jobs.{levels_of, capacity, slot_count, orders_bounds}
use Rattle.rules.specs.Run.{taken_of}
use Rattle.rules.specs.Laws.Draws.{Enough}
use Rattle.rules.specs.Turn.{rebuild as rebuild_of, command, step_bounds}
use Rattle.rules.specs.Questions.{sends}
use Rattle.memory.specs.Fits.{shape_of}
use Rattle.client.specs.View.{state_of}
use Rattle.tape.specs.Tape.{words_of}
use Rattle.jobs.specs.Runs.{levels-are, run-together}
use Rattle.sending.specs.Plans.{levels-hold, limit_is, room-no}
use Rattle.sending.specs.Sent.{refuses, other-buffer, few_words, no_room}
use Rattle.sending.proofs.rebuild.Goals as goal
use Rattle.sending.proofs.rebuild.Goals.{After-filled_slots-limit, After-grown-next, In-Some}

-- the levels that are written
levels : (c : After-grown-next) → let r = c.args in levels_of (state_of r.c r.m.now) r.q ≡ keep (filled c.grown-next.result) (down (suc c.running-run.result.top))
levels c =
    let r = c.args in
    levels-are r.c r.m.now r.q c.running-run.result c.grown-next.result c.running-run.ensures (c.grown-next.ensures.0 (shape_of r.c.shape) refl)

-- the words that their orders take were lent
settled : (c : In-Some) → let r = c.args in let ms = orders_bounds (levels_of (state_of r.c r.m.now) r.q) in Enough ms (words_of r.tape.now) × (c.in-Some.words ≡ taken_of (draws ms (words_of r.tape.now)))
settled c =
    let r = c.args in
    let e = levels-are r.c r.m.now r.q c.running-run.result c.grown-next.result c.running-run.ensures (c.grown-next.ensures.0 (shape_of r.c.shape) refl) in
    rw e (c.in-Some.ensures.0, sym c.in-Some.ensures.1)

-- what the written levels hold
held : (c : After-filled_slots-limit) → let r = c.args in c.filled_slots-limit.result / 2 ≡ capacity (levels_of (state_of r.c r.m.now) r.q)
held c =
    let levels' : let r = c.args in levels_of (state_of r.c r.m.now) r.q ≡ keep (filled c.grown-next.result) (down (suc c.running-run.result.top)) = let r = c.args in levels-are r.c r.m.now r.q c.running-run.result c.grown-next.result c.running-run.ensures (c.grown-next.ensures.0 (shape_of r.c.shape) refl) in
    let r = c.args in
    limit_is c.filled_slots-limit.result (levels_of (state_of r.c r.m.now) r.q) (c.filled_slots-limit.ensures ∙ ap slot_count (sym (levels')))

room : (c : After-filled_slots-limit) → let r = c.args in let n = capacity (levels_of (state_of r.c r.m.now) r.q) in (c.running-run.result.joined ≤ n) × (n < 192)
room c =
    let r = c.args in
    let f = c.running-run.ensures in
    levels-hold r.c r.m.now r.q c.running-run.result f (omega (arith, f.level)) (omega (arith, c.requires.usable.room.levels))

pub returns-then-buffer-c : goal.returns-then-buffer-c
unfolding command sends
returns-then-buffer-c c =
    let r = c.args in
    let ls = levels_of (state_of r.c r.m.now) r.q in
    refuses r.c r.m.now r.tape.now r.buffer.now (rebuild_of r.q ls) c.requires 15 (other-buffer r.c r.m.now r.tape.now r.buffer.now (rebuild_of r.q ls) c.requires r.q (get_or ls 0 0) 0 refl refl c.if-buffer-c.true) (λ e. omega arith)

pub grown-next-requires : goal.grown-next-requires
grown-next-requires c =
    let r = c.args in
    let f = c.running-run.ensures in
    (omega (arith, f.level), omega (arith, c.requires.usable.room.levels), run-together r.c r.m.now r.q c.running-run.result f)

pub returns-in_default : goal.returns-in_default
unfolding command sends step_bounds
returns-in_default c =
    let r = c.args in
    let ls = levels_of (state_of r.c r.m.now) r.q in
    let few : draws (orders_bounds ls) (words_of r.tape.now) ≡ none = rw (levels (goal.at.returns-in_default c).After-grown-next) c.in_default.ensures in
    refuses r.c r.m.now r.tape.now r.buffer.now (rebuild_of r.q ls) c.requires 3 (few_words r.c r.m.now r.tape.now r.buffer.now (rebuild_of r.q ls) c.requires r.q (get_or ls 0 0) 0 refl refl c.if-buffer-c.false few) (λ e. omega arith)

pub planned-p-requires : goal.planned-p-requires
planned-p-requires c = let p = c.requires in (p.usable, p.inside.0, c.running-run.ensures, levels (goal.at.planned-p-requires c).After-grown-next)

pub gathered-n-requires : goal.gathered-n-requires
gathered-n-requires c =
    let p = c.requires in
    let f = c.running-run.ensures in
    let k = c.planned-p.ensures in
    (p.usable, p.inside.0, f.counter, k, omega (arith, held (goal.at.gathered-n-requires c).After-filled_slots-limit, room (goal.at.gathered-n-requires c).After-filled_slots-limit, k.joined, f.joined), omega (arith, held (goal.at.gathered-n-requires c).After-filled_slots-limit, room (goal.at.gathered-n-requires c).After-filled_slots-limit))

pub returns-then-limit-n : goal.returns-then-limit-n
unfolding command sends step_bounds
returns-then-limit-n c =
    let r = c.args in
    let s = state_of r.c r.m.now in
    let ls = levels_of s r.q in
    let g = c.gathered-n in
    let no = room-no s r.q _ g.result _ g.ensures (held (goal.at.returns-then-limit-n c).After-filled_slots-limit) c.if-limit-n.true in
    refuses r.c r.m.now r.tape.now r.buffer.now (rebuild_of r.q ls) c.requires 2 (no_room r.c r.m.now r.tape.now r.buffer.now (rebuild_of r.q ls) c.requires r.q (get_or ls 0 0) 0 refl refl c.if-buffer-c.false (settled (goal.at.returns-then-limit-n c).In-Some).0 no) (λ e. omega arith)

pub slice_bounds-list-end : goal.slice_bounds-list-end
slice_bounds-list-end c = omega (arith, held (goal.at.slice_bounds-list-end c).After-filled_slots-limit, room (goal.at.slice_bounds-list-end c).After-filled_slots-limit, c.if-limit-n.false)

pub slice_bounds-send_rebuild-end : goal.slice_bounds-send_rebuild-end
slice_bounds-send_rebuild-end c = let g = c.gathered-n in sym (length-take-le g.result g.new.list (omega (arith, held (goal.at.slice_bounds-send_rebuild-end c).After-filled_slots-limit, room (goal.at.slice_bounds-send_rebuild-end c).After-filled_slots-limit, c.if-limit-n.false)))

pub send_rebuild-requires : goal.send_rebuild-requires
send_rebuild-requires c =
    let p = c.requires in
    let g = c.gathered-n in
    let all = g.ensures.all (omega (arith, c.if-limit-n.false)) in
    (p, c.planned-p.ensures, all, omega (arith, slice_bounds-send_rebuild-end c, held (goal.at.send_rebuild-requires c).After-filled_slots-limit, c.if-limit-n.false), (settled (goal.at.send_rebuild-requires c).In-Some).0, (settled (goal.at.send_rebuild-requires c).In-Some).1, omega (arith, c.if-buffer-c.false))
