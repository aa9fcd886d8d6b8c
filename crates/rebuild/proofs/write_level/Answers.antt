use Prim.Native.Nat.{◌+◌}
use native.Mathlib.Omega.{arith}
use lib.ListN.{take, drop}
use lib.Pow.{pow_pos}
use Rattle.rules.specs.Shape.{slots}
use Rattle.rules.proofs.Laws.Orders.{length-order}
use Rattle.tape.specs.Tape.{words_of}
use Rattle.rebuild.specs.Shuffle.{nodup-drawn}
use Rattle.rebuild.specs.Placing.{order-drawn, empty-drawn, writes-level}
use Rattle.rebuild.proofs.write_level.Goals as goal

pub put_items-requires : goal.put_items-requires
put_items-requires c =
    let x = c.args in
    let long = length-order (slots x.t) _ in
    let e = order-drawn x.c x.m.now c.mark_written.new.m c.draw_order-next.new.m x.q x.t _ long c.mark_written.ensures c.draw_order-next.ensures.0 in
    let z = empty-drawn x.c x.m.now c.mark_written.new.m c.draw_order-next.new.m x.q x.t _ long c.mark_written.ensures c.draw_order-next.ensures.0 c.requires.8 in
    (omega arith, c.requires.1, c.requires.2, c.requires.3, c.requires.4, c.requires.5, c.requires.6, rw e (nodup-drawn (slots x.t) (drop x.from (words_of x.tape.now)) (pow_pos (x.t + 1)) c.requires.7), z)

pub returns : goal.returns
returns c =
    let x = c.args in (
      writes-level x.c x.m.now c.mark_written.new.m c.draw_order-next.new.m x.q x.t _ (length-order (slots x.t) _) c.mark_written.ensures c.draw_order-next.ensures.0 c.put_items.new.m (take x.k x.list.now) c.put_items.ensures,
      c.draw_order-next.ensures.1,
    )
