use Prim.Native.Nat.{◌≤◌}
use lib.Dec.{leb}
use borrow.Author.Tests.{leb-true}
use Rattle.lists.specs.Tests.{and_l, and_r}
use Rattle.contract.specs.Shapes.{power-is, power-none}
use Rattle.contract.proofs.is_power.Goals as goal
use Rattle.contract.proofs.is_power.Goals.{Else-not-p}

-- P is in the range that is tested first
in-range : (c : Else-not-p) → (1 ≤ c.args.p) × (c.args.p ≤ 64)
in-range c =
    let p = c.args.p in
    let t = c.if-not-p.false in
    (leb-true 1 p (and_l _ (leb p 64) t), leb-true p 64 (and_r (leb 1 p) _ t))

pub returns-then-not-p : goal.returns-then-not-p
returns-then-not-p c = power-none c.args.p (c.if-not-p.true)

pub returns : goal.returns
returns c = let r = in-range c in power-is c.args.p r.0 r.1
