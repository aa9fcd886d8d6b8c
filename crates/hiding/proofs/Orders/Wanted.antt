-- The item that a look-up wants: its block's, or else in no source the first dummy, and in a source the first of all. Rank.antt has where its slot stands.
use Rattle.std.proofs.Math.Path.{◌≡◌}
use Rattle.std.specs.Prelude.{Bool, List, ℕ, suc}
use Rattle.std.proofs.Math.Bool.{true, false}
use Rattle.std.proofs.Math.Option.{some}
use Rattle.lists.specs.Search.{member}
use Rattle.lists.specs.Distinct.{index}
use Rattle.rules.specs.State.{Request}
use Rattle.hiding.specs.Machines.Middle.{wanted}

pub wanted-block : (t : Bool) (r : Request) (its : List ℕ) → member (suc r.block) its ≡ true → wanted t (some r) its ≡ index (suc r.block) its
unfolding wanted
wanted-block t r its e = rw e

pub wanted-dummy : (t : Bool) (r : Request) (its : List ℕ) → t ≡ false → member (suc r.block) its ≡ false → wanted t (some r) its ≡ index 0 its
unfolding wanted
wanted-dummy t r its u e = rw (e, u)

pub wanted-item : (t : Bool) (r : Request) (its : List ℕ) → t ≡ true → member (suc r.block) its ≡ false → wanted t (some r) its ≡ 0
unfolding wanted
wanted-item t r its u e = rw (e, u)
