use mathlib.Core.Path.{ap}
use Prim.Native.Nat.{◌-◌, ◌*◌}
use lib.Dec.{leb}
use mathlib.Core.Bool.{◌&&◌}
use Rattle.session.specs.Session.{most_blocks, host_room, serves}
use Rattle.session.proofs.serves.Goals as goal

pub returns : goal.returns
unfolding serves
returns c = let a = c.args in ap (λ n. leb a.h.n most_blocks && leb (a.h.p * (n - 2) * a.h.b) host_room) c.pow2-slots.ensures.0
