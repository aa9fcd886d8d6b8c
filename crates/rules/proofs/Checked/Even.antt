-- Document 02, "Even draws": its examples, computed.
use Rattle.std.specs.Prelude.{◌≡◌, refl, List, [], ◌∷◌, map}
use Rattle.std.proofs.Math.Option.{none, some}
use Rattle.rules.specs.Draws.{limit, draws}
use Rattle.rules.specs.State.{cmd, read, write, closed}
use Rattle.rules.specs.Questions.{opening, request, turn, completion, collect, Call}
use Rattle.rules.specs.Run.{run}
use Rattle.rules.specs.Laws.Draws.{drawn}
use Rattle.rules.specs.Unfold.{model, shape, call, out}

-- the largest multiple of m that is at most 65,536
pub limits : map limit (1 ∷ 2 ∷ 3 ∷ 5 ∷ 6 ∷ 64 ∷ 511 ∷ 512 ∷ []) ≡ 65536 ∷ 65536 ∷ 65535 ∷ 65535 ∷ 65532 ∷ 65536 ∷ 65408 ∷ 65536 ∷ []
unfolding model
limits = refl

-- "For m = 3 the word 65,535 is passed over. Passed words count as taken."
pub passed-three : (draws (3 ∷ []) (65535 ∷ 65534 ∷ 7 ∷ []) ≡ some (drawn (2 ∷ []) 2)) × (draws (3 ∷ []) (65535 ∷ 65535 ∷ []) ≡ none)
unfolding model
passed-three = (refl, refl)

-- no word of 16 bits is passed over below 2 or 4
pub passed_none : draws (2 ∷ 4 ∷ []) (65535 ∷ 65535 ∷ []) ≡ some (drawn (1 ∷ 3 ∷ []) 2)
unfolding model
passed_none = refl

-- One block, one partition, two levels: a request is collected, and its two jobs run together. The next turn draws an order of four slots, below
-- 4, 3 and 2
unfoldable pub early : List Call
early =
    call (opening (shape 1 1 2 1 1 1)) 1000 (0 ∷ []) 0
    ∷ call (request read 0 []) 1000 (65535 ∷ 65535 ∷ []) 0
    ∷ call collect 1000 [] 1
    ∷ call turn 1000 (8 ∷ 65535 ∷ 65535 ∷ 65535 ∷ []) 1  -- as many words as draws, and more: the draw below 3 is not settled
    ∷ call turn 1000 (8 ∷ 65535 ∷ 65535 ∷ 1 ∷ []) 1  -- the draw below 2 is not settled
    ∷ call turn 1000 (8 ∷ 65535 ∷ 65535 ∷ 1 ∷ 65535 ∷ []) 1  -- two words are passed over, and the last one lent settles the last draw
    ∷ []

-- "3 is now given when the lent words end before the call's last draw is settled, and takes none."
pub ended-early : run closed early ≡
    out 0 1 (cmd 0 0 0 0) []
    ∷ out 0 2 (cmd 0 0 0 0) []
    ∷ out 0 0 (cmd 0 0 0 0) (0 ∷ [])
    ∷ out 3 0 (cmd 0 0 0 0) []
    ∷ out 3 0 (cmd 0 0 0 0) []
    ∷ out 0 5 (cmd write 0 1 0) (0 ∷ [])
    ∷ []
unfolding model early
ended-early = refl
