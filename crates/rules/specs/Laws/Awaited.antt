-- Documents 01 and 02 (P4): "A request is finished when it isn't held and all its reads are sent and completed"; ".. only when every job read sent by that
-- moment has completed too, wherever the block was." On every state.
use Rattle.std.specs.Prelude.{◌≡◌}
use Rattle.std.proofs.Math.Bool.{true}
use Rattle.std.proofs.Math.Option.{Option, some}
use Rattle.rules.specs.Request.{held}
use Rattle.rules.specs.State.{Request}

-- ---- The release

-- a request, if there is one, is held
abbrev pub Holds : Option Request → Type 0
Holds o = (r : Request) → o ≡ some r → held r ≡ true
