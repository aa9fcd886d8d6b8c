-- Document 01's worked session.
use Rattle.std.specs.Prelude.{◌≡◌, refl, List, [], ◌∷◌}
use Rattle.rules.specs.State.{cmd, closed, found_level}
use Rattle.rules.specs.Questions.{opening, request, turn, completion, collect, Call}
use Rattle.rules.specs.Run.{Outcome, run}
use Rattle.rules.specs.Unfold.{model, shape, call, out, out_found}

unfoldable pub worked-calls : List Call
worked-calls =
    (call (opening (shape 1 1 1 1 1 1)) 1000000 (0 ∷ 0 ∷ 0 ∷ 1 ∷ 0 ∷ 0 ∷ 0 ∷ []) 0
    ∷ call (request 2 0 (7 ∷ [])) 1000000 (0 ∷ 0 ∷ 1 ∷ 0 ∷ 0 ∷ 0 ∷ []) 0
    ∷ call (collect) 1000000 [] 1
    ∷ call (turn) 1000000 (1 ∷ 0 ∷ 0 ∷ 0 ∷ []) 1
    ∷ call (completion (cmd 2 0 0 0) []) 1000000 [] 0
    ∷ call (turn) 1000000 (0 ∷ 0 ∷ 0 ∷ []) 1
    ∷ call (completion (cmd 2 0 0 1) []) 1000000 [] 0
    ∷ call (turn) 1000000 (0 ∷ 0 ∷ 0 ∷ []) 1
    ∷ call (completion (cmd 1 0 0 0) (7 ∷ [])) 1000000 [] 0
    ∷ call (turn) 1000000 (0 ∷ 0 ∷ 0 ∷ []) 1
    ∷ call (completion (cmd 1 0 0 1) (0 ∷ [])) 1000000 [] 0
    ∷ call (turn) 1000000 (0 ∷ 0 ∷ 0 ∷ []) 1
    ∷ call (completion (cmd 2 0 0 0) []) 1000000 [] 0
    ∷ call (turn) 1000000 (0 ∷ 0 ∷ []) 1
    ∷ call (completion (cmd 2 0 0 1) []) 1000000 [] 0
    ∷ call (request 1 0 []) 1000000 (0 ∷ 0 ∷ []) 0
    ∷ call (turn) 1000000 [] 1
    ∷ call (completion (cmd 1 0 0 1) (7 ∷ [])) 1000000 [] 0
    ∷ call (collect) 1000000 [] 1
    ∷ [])

unfoldable pub worked-outcomes : List Outcome
worked-outcomes =
    (out 0 1 (cmd 0 0 0 0) []
    ∷ out 0 2 (cmd 0 0 0 0) []
    ∷ out 0 0 (cmd 0 0 0 0) (0 ∷ [])
    ∷ out 0 1 (cmd 2 0 0 0) (7 ∷ [])
    ∷ out 0 0 (cmd 0 0 0 0) []
    ∷ out 0 0 (cmd 2 0 0 1) (0 ∷ [])
    ∷ out 0 0 (cmd 0 0 0 0) []
    ∷ out 0 0 (cmd 1 0 0 0) []
    ∷ out 0 0 (cmd 0 0 0 0) []
    ∷ out 0 0 (cmd 1 0 0 1) []
    ∷ out 0 0 (cmd 0 0 0 0) []
    ∷ out 0 1 (cmd 2 0 0 0) (0 ∷ [])
    ∷ out 0 0 (cmd 0 0 0 0) []
    ∷ out 0 0 (cmd 2 0 0 1) (7 ∷ [])
    ∷ out 0 0 (cmd 0 0 0 0) []
    ∷ out 0 2 (cmd 0 0 0 0) []
    ∷ out 0 0 (cmd 1 0 0 1) []
    ∷ out 0 0 (cmd 0 0 0 0) []
    ∷ out_found 0 0 (cmd 0 0 0 0) (7 ∷ []) (found_level 0)
    ∷ [])

pub worked : run closed worked-calls ≡ worked-outcomes
unfolding model worked-calls worked-outcomes
worked = refl
