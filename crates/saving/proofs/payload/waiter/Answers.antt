use mathlib.Core.Path.{◌≡◌, ap, sym, ◌∙◌}
use mathlib.Core.List.{◌++◌}
use Prim.Native.Nat.{◌+◌, ◌<◌}
use native.Mathlib.Omega.{arith}
use Rattle.rules.specs.Form.Numbers.{little}
use Rattle.rules.specs.Form.Payload.{waiter_bytes}
use Rattle.memory.specs.Tables.{tables_of}
use Rattle.memory.specs.Fits.{shape_of, fit-lt}
use Rattle.client.specs.View.{state_of}
use Rattle.client.specs.Readings.{bytes-as}
use Rattle.lists.specs.Written.{followed, same_text}
use Rattle.saving.specs.Parts.{waiting_in}
use Rattle.sums.specs.Puts.{lent_written}
use Rattle.saving.specs.Entries.{waiter-length}
use Rattle.saving.proofs.payload.waiter.Goals as goal
use Rattle.saving.proofs.payload.waiter.Goals.{After-get-b}

-- a waiting block is one of the store's
low : (c : After-get-b) → c.get-b.result < c.args.c.shape.n
low c = omega (arith, c.get-b.ensures, fit-lt c.args.c.shape.n ((tables_of (shape_of c.args.c.shape) c.args.m.now).waiting c.args.i) c.requires.0.some_blocks)

pub number-age-requires : goal.number-age-requires
number-age-requires c = omega (arith, waiter-length c.args.c c.args.m.now c.args.i c.requires.0)

pub number-a-requires : goal.number-a-requires
unfolding little
number-a-requires c = omega (arith, waiter-length c.args.c c.args.m.now c.args.i c.requires.0, c.number-age.ensures.place, c.number-age.ensures.size)

pub slice_bounds-load-end : goal.slice_bounds-load-end
unfolding little
slice_bounds-load-end c = omega (arith, waiter-length c.args.c c.args.m.now c.args.i c.requires.0, c.number-a.ensures.place, c.number-a.ensures.size, c.number-age.ensures.place, c.number-age.ensures.size)

pub load-requires : goal.load-requires
unfolding little
load-requires c =
    (c.requires.0, omega (arith, low (goal.at.load-requires c).After-get-b), omega (arith, waiter-length c.args.c c.args.m.now c.args.i c.requires.0, c.number-a.ensures.place, c.number-a.ensures.size, c.number-age.ensures.place, c.number-age.ensures.size))

pub returns : goal.returns
unfolding little waiter_bytes
returns c =
    let b = c.get-b in
    let n = c.number-a in
    let v = c.load.new.dst in
    let room = waiter-length c.args.c c.args.m.now c.args.i c.requires.0 in
    let bytes : v ≡ (state_of c.args.c c.args.m.now).bytes (waiting_in c.args.c c.args.m.now c.args.i) =
    c.load.ensures ∙ sym (bytes-as c.args.c c.args.m.now b.result (low (goal.at.returns c).After-get-b)) ∙ ap (state_of c.args.c c.args.m.now).bytes b.ensures in
    let put = lent_written n.new.buffer v n.result (n.result + c.args.c.shape.b) (omega arith) (omega (arith, room, n.ensures.place, n.ensures.size, c.number-age.ensures.place, c.number-age.ensures.size)) (omega arith) in
    same_text (λ k. little 2 (b.ensures k) ++ (little 2 c.args.i ++ bytes k)) (followed c.number-age.ensures (followed n.ensures put))
