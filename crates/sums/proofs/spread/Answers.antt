use Rattle.std.proofs.Common.{◌≡◌, ◌+◌, ◌-◌, arith}
use Rattle.rules.specs.Form.Sums.{block_count}
use Rattle.rules.proofs.Laws.Form.Sums.{count-le}
use Rattle.sums.specs.Spread.{spread_none, spread-more, spread_at, spread-is}
use Rattle.sums.proofs.spread.Goals as goal

pub zeros-requires : goal.zeros-requires
unfolding block_count
zeros-requires c = omega (arith, count-le c.args.n)

pub loop-k-init : goal.loop-k-init
loop-k-init c = spread_none _ _

pub place-requires : goal.place-requires
unfolding block_count
place-requires c = omega (arith, c.loop-k.invariant.few, c.loop-k.invariant.size, c.zeros.ensures.size)

pub loop-k-preserved : goal.loop-k-preserved
unfolding block_count
loop-k-preserved c =
    let l = c.loop-k in
    let z = c.zeros in
    let e : l.k ≡ l.k - 1 + 1 = omega arith in
    spread-more _ _ (l.k - 1) l.buffer _ (omega (arith, z.ensures.size)) (spread_at e l.invariant) c.place.ensures

pub returns : goal.returns
unfolding block_count
returns c =
    let l = c.loop-k in
    let e : l.k ≡ 0 = omega arith in
    spread-is c.args.buffer.now _ l.buffer c.args.n _ c.requires.1 c.zeros.ensures (spread_at e l.invariant)
