use Rattle.lists.specs.Search.{below, count}
use Rattle.rules.specs.Form.Numbers.{each}
use Rattle.lists.specs.Written.{nothing}
use Rattle.saving.specs.Parts.{room, grown}
use Rattle.saving.proofs.payload.put_each.Goals as goal

pub loop-i-init : goal.loop-i-init
unfolding each below count
loop-i-init g c = nothing _ _

pub put-k-requires : goal.put-k-requires
put-k-requires g c = c.requires.1.0.may c.loop-i.i _ c.loop-i.k c.loop-i-test.true (room g.part c.loop-i.i c.args.n c.loop-i.invariant c.loop-i-test.true c.requires.1.1)

pub loop-i-preserved : goal.loop-i-preserved
loop-i-preserved g c =
    let l = c.loop-i in
    grown g.part l.i c.args.n l.invariant (c.requires.1.0.does l.i _ l.k c.loop-i-test.true (room g.part l.i c.args.n l.invariant c.loop-i-test.true c.requires.1.1) c.put-k.result _ c.put-k.ensures)
