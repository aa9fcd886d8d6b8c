use mathlib.Core.Path.{sym}
use native.Mathlib.Omega.{arith}
use Rattle.rules.proofs.Laws.Form.Numbers.{length-little}
use Rattle.lists.specs.Written.{followed, same_text}
use Rattle.saving.specs.Parts.{parts_of, payload-parts, head-length, parts-length}
use Rattle.saving.proofs.payload.write.Goals as goal

pub head-a-requires : goal.head-a-requires
head-a-requires c = omega (arith, parts-length c.args.c c.args.m.now, head-length c.args.c c.args.m.now, length-little 2 c.args.c.jobs)

pub counters-b-requires : goal.counters-b-requires
counters-b-requires c = (c.requires.0, omega (arith, parts-length c.args.c c.args.m.now, head-length c.args.c c.args.m.now, length-little 2 c.args.c.jobs, c.head-a.ensures.place, c.head-a.ensures.size))

pub number-d-requires : goal.number-d-requires
number-d-requires c = omega (arith, parts-length c.args.c c.args.m.now, head-length c.args.c c.args.m.now, length-little 2 c.args.c.jobs, c.head-a.ensures.place, c.head-a.ensures.size, c.counters-b.ensures.place, c.counters-b.ensures.size)

pub jobs-e-requires : goal.jobs-e-requires
jobs-e-requires c = (c.requires.0, c.requires.2, omega (arith, parts-length c.args.c c.args.m.now, head-length c.args.c c.args.m.now, length-little 2 c.args.c.jobs, c.head-a.ensures.place, c.head-a.ensures.size, c.counters-b.ensures.place, c.counters-b.ensures.size, c.number-d.ensures.place, c.number-d.ensures.size))

pub blocks-f-requires : goal.blocks-f-requires
blocks-f-requires c = (c.requires.0, c.requires.3, omega (arith, parts-length c.args.c c.args.m.now, head-length c.args.c c.args.m.now, length-little 2 c.args.c.jobs, c.head-a.ensures.place, c.head-a.ensures.size, c.counters-b.ensures.place, c.counters-b.ensures.size, c.number-d.ensures.place, c.number-d.ensures.size, c.jobs-e.ensures.place, c.jobs-e.ensures.size))

pub partitions-g-requires : goal.partitions-g-requires
partitions-g-requires c = (c.requires.0, omega (arith, parts-length c.args.c c.args.m.now, head-length c.args.c c.args.m.now, length-little 2 c.args.c.jobs, c.head-a.ensures.place, c.head-a.ensures.size, c.counters-b.ensures.place, c.counters-b.ensures.size, c.number-d.ensures.place, c.number-d.ensures.size, c.jobs-e.ensures.place, c.jobs-e.ensures.size, c.blocks-f.ensures.place, c.blocks-f.ensures.size))

pub waiters-requires : goal.waiters-requires
waiters-requires c = (c.requires.0, c.requires.1, omega (arith, parts-length c.args.c c.args.m.now, head-length c.args.c c.args.m.now, length-little 2 c.args.c.jobs, c.head-a.ensures.place, c.head-a.ensures.size, c.counters-b.ensures.place, c.counters-b.ensures.size, c.number-d.ensures.place, c.number-d.ensures.size, c.jobs-e.ensures.place, c.jobs-e.ensures.size, c.blocks-f.ensures.place, c.blocks-f.ensures.size, c.partitions-g.ensures.place, c.partitions-g.ensures.size))

pub returns : goal.returns
unfolding parts_of
returns c = same_text (sym (payload-parts c.args.c c.args.m.now)) (followed c.head-a.ensures (followed c.counters-b.ensures (followed c.number-d.ensures (followed c.jobs-e.ensures (followed c.blocks-f.ensures (followed c.partitions-g.ensures c.waiters.ensures))))))
