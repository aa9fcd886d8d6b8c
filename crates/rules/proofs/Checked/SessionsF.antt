-- Random sessions, with the outcomes of an independent implementation. Written by plain/src/bin/sessions.rs.
use Rattle.std.specs.Prelude.{◌≡◌, refl, List, [], ◌∷◌}
use Rattle.rules.specs.State.{cmd, closed, found_cache, found_level}
use Rattle.rules.specs.Questions.{opening, request, turn, completion, collect, Call}
use Rattle.rules.specs.Run.{Outcome, run}
use Rattle.rules.specs.Unfold.{model, shape, call, out, out_found}

unfoldable pub session11-calls : List Call
session11-calls =
    (call (opening (shape 4 2 2 1 4 3)) 509 (6300 ∷ 20183 ∷ 65452 ∷ 6276 ∷ []) 0
    ∷ call (turn) 509 [] 1
    ∷ call (request 2 0 (234 ∷ [])) 509 (65535 ∷ 65533 ∷ []) 0
    ∷ call (collect) 509 [] 1
    ∷ call (turn) 509 [] 1
    ∷ call (request 2 2 (13 ∷ [])) 515 (65535 ∷ 65533 ∷ 39378 ∷ []) 0
    ∷ call (collect) 509 [] 1
    ∷ call (request 1 3 []) 509 (41096 ∷ 16923 ∷ 38070 ∷ []) 0
    ∷ call (turn) 509 (65535 ∷ 31036 ∷ 27406 ∷ []) 1
    ∷ call (completion (cmd 2 0 1 0) []) 509 [] 0
    ∷ call (turn) 509 [] 1
    ∷ call (collect) 517 [] 1
    ∷ call (turn) 509 [] 1
    ∷ call (turn) 509 [] 1
    ∷ call (completion (cmd 2 0 1 1) []) 509 [] 0
    ∷ call (collect) 512 [] 1
    ∷ call (collect) 515 [] 1
    ∷ call (completion (cmd 2 0 1 3) []) 509 [] 0
    ∷ call (completion (cmd 2 0 1 2) []) 509 [] 0
    ∷ call (turn) 509 [] 1
    ∷ call (turn) 509 (37842 ∷ 65535 ∷ 65534 ∷ 34085 ∷ []) 1
    ∷ call (turn) 515 [] 1
    ∷ call (collect) 510 [] 0
    ∷ call (completion (cmd 1 0 1 2) (0 ∷ [])) 509 [] 0
    ∷ call (completion (cmd 2 1 1 1) []) 509 [] 0
    ∷ call (completion (cmd 2 1 1 0) []) 509 [] 0
    ∷ call (collect) 509 [] 1
    ∷ call (request 2 3 (65 ∷ [])) 510 (17214 ∷ 53731 ∷ 7888 ∷ []) 0
    ∷ call (collect) 514 [] 1
    ∷ call (turn) 509 [] 1
    ∷ call (request 2 1 []) 509 (62296 ∷ 59865 ∷ []) 0
    ∷ call (turn) 509 [] 1
    ∷ call (completion (cmd 2 1 1 2) []) 509 [] 0
    ∷ call (collect) 509 [] 1
    ∷ call (completion (cmd 2 1 1 3) []) 509 [] 0
    ∷ call (turn) 509 [] 1
    ∷ call (turn) 509 (65406 ∷ []) 1
    ∷ call (request 2 0 []) 509 (65534 ∷ 44776 ∷ []) 0
    ∷ call (collect) 514 [] 1
    ∷ call (completion (cmd 1 0 1 0) (0 ∷ [])) 517 [] 0
    ∷ call (collect) 509 [] 1
    ∷ call (turn) 509 [] 1
    ∷ call (turn) 509 (65535 ∷ 37974 ∷ []) 1
    ∷ call (turn) 509 [] 1
    ∷ call (completion (cmd 2 0 0 1) []) 509 [] 0
    ∷ call (completion (cmd 2 0 0 0) []) 509 [] 0
    ∷ call (request 1 3 (104 ∷ [])) 516 (63766 ∷ 65535 ∷ []) 0
    ∷ call (turn) 509 (60797 ∷ 50209 ∷ []) 1
    ∷ call (turn) 509 (19573 ∷ []) 1
    ∷ call (turn) 509 (53683 ∷ 65535 ∷ 58276 ∷ 30727 ∷ 43388 ∷ 62288 ∷ 37242 ∷ []) 1
    ∷ call (completion (cmd 2 1 0 0) []) 509 [] 0
    ∷ call (completion (cmd 2 1 0 1) []) 509 [] 0
    ∷ call (turn) 510 [] 1
    ∷ call (request 1 3 []) 509 (16962 ∷ 50875 ∷ 53394 ∷ []) 0
    ∷ call (turn) 509 (49295 ∷ []) 1
    ∷ call (turn) 509 [] 1
    ∷ call (completion (cmd 1 0 1 1) (0 ∷ [])) 509 [] 0
    ∷ call (collect) 509 [] 1
    ∷ call (collect) 509 [] 1
    ∷ call (completion (cmd 1 0 0 1) (0 ∷ [])) 509 [] 0
    ∷ call (completion (cmd 1 0 0 0) (65 ∷ [])) 509 [] 0
    ∷ call (turn) 511 [] 1
    ∷ call (completion (cmd 1 0 1 3) (0 ∷ [])) 509 [] 0
    ∷ call (collect) 509 [] 1
    ∷ call (turn) 509 (55722 ∷ 65534 ∷ 42978 ∷ []) 1
    ∷ call (completion (cmd 2 0 1 0) []) 512 [] 0
    ∷ call (request 2 3 (9 ∷ [])) 516 (181 ∷ 33904 ∷ 25217 ∷ []) 0
    ∷ call (collect) 509 [] 1
    ∷ call (collect) 509 [] 1
    ∷ call (turn) 509 [] 1
    ∷ [])

session11-outcomes : List Outcome
session11-outcomes =
    (out 0 4 (cmd 0 0 0 0) []
    ∷ out 10 0 (cmd 0 0 0 0) []
    ∷ out 0 2 (cmd 0 0 0 0) []
    ∷ out 0 0 (cmd 0 0 0 0) (0 ∷ [])
    ∷ out 3 0 (cmd 0 0 0 0) []
    ∷ out 0 2 (cmd 0 0 0 0) []
    ∷ out 0 0 (cmd 0 0 0 0) (0 ∷ [])
    ∷ out 0 2 (cmd 0 0 0 0) []
    ∷ out 0 3 (cmd 2 0 1 0) (0 ∷ [])
    ∷ out 0 0 (cmd 0 0 0 0) []
    ∷ out 0 0 (cmd 2 0 1 1) (0 ∷ [])
    ∷ out 14 0 (cmd 0 0 0 0) []
    ∷ out 0 0 (cmd 2 0 1 2) (0 ∷ [])
    ∷ out 0 0 (cmd 2 0 1 3) (0 ∷ [])
    ∷ out 0 0 (cmd 0 0 0 0) []
    ∷ out 14 0 (cmd 0 0 0 0) []
    ∷ out 14 0 (cmd 0 0 0 0) []
    ∷ out 0 0 (cmd 0 0 0 0) []
    ∷ out 0 0 (cmd 0 0 0 0) []
    ∷ out 0 0 (cmd 1 0 1 2) []
    ∷ out 0 4 (cmd 2 1 1 0) (234 ∷ [])
    ∷ out 0 0 (cmd 2 1 1 1) (13 ∷ [])
    ∷ out 14 0 (cmd 0 0 0 0) []
    ∷ out 0 0 (cmd 0 0 0 0) []
    ∷ out 0 0 (cmd 0 0 0 0) []
    ∷ out 0 0 (cmd 0 0 0 0) []
    ∷ out 0 0 (cmd 0 0 0 0) (0 ∷ [])
    ∷ out 0 2 (cmd 0 0 0 0) []
    ∷ out 14 0 (cmd 0 0 0 0) []
    ∷ out 0 0 (cmd 2 1 1 2) (0 ∷ [])
    ∷ out 4 0 (cmd 0 0 0 0) []
    ∷ out 0 0 (cmd 2 1 1 3) (0 ∷ [])
    ∷ out 0 0 (cmd 0 0 0 0) []
    ∷ out 14 0 (cmd 0 0 0 0) []
    ∷ out 0 0 (cmd 0 0 0 0) []
    ∷ out 0 0 (cmd 1 0 1 0) []
    ∷ out 10 0 (cmd 0 0 0 0) []
    ∷ out 4 0 (cmd 0 0 0 0) []
    ∷ out 14 0 (cmd 0 0 0 0) []
    ∷ out 0 0 (cmd 0 0 0 0) []
    ∷ out_found 0 0 (cmd 0 0 0 0) (0 ∷ []) found_cache
    ∷ out 3 0 (cmd 0 0 0 0) []
    ∷ out 0 1 (cmd 2 0 0 0) (65 ∷ [])
    ∷ out 0 0 (cmd 2 0 0 1) (0 ∷ [])
    ∷ out 0 0 (cmd 0 0 0 0) []
    ∷ out 0 0 (cmd 0 0 0 0) []
    ∷ out 6 0 (cmd 0 0 0 0) []
    ∷ out 0 1 (cmd 2 1 0 0) (0 ∷ [])
    ∷ out 0 0 (cmd 2 1 0 1) (0 ∷ [])
    ∷ out 10 0 (cmd 0 0 0 0) []
    ∷ out 0 0 (cmd 0 0 0 0) []
    ∷ out 0 0 (cmd 0 0 0 0) []
    ∷ out 0 0 (cmd 1 0 0 0) []
    ∷ out 0 2 (cmd 0 0 0 0) []
    ∷ out 0 0 (cmd 1 0 0 1) []
    ∷ out 0 0 (cmd 1 0 1 1) []
    ∷ out 0 0 (cmd 0 0 0 0) []
    ∷ out 14 0 (cmd 0 0 0 0) []
    ∷ out 14 0 (cmd 0 0 0 0) []
    ∷ out 0 0 (cmd 0 0 0 0) []
    ∷ out 0 0 (cmd 0 0 0 0) []
    ∷ out 0 0 (cmd 1 0 1 3) []
    ∷ out 0 0 (cmd 0 0 0 0) []
    ∷ out_found 0 0 (cmd 0 0 0 0) (65 ∷ []) (found_level 0)
    ∷ out 0 3 (cmd 2 0 1 0) (0 ∷ [])
    ∷ out 0 0 (cmd 0 0 0 0) []
    ∷ out 0 2 (cmd 0 0 0 0) []
    ∷ out 14 0 (cmd 0 0 0 0) []
    ∷ out 14 0 (cmd 0 0 0 0) []
    ∷ out 0 0 (cmd 2 0 1 1) (65 ∷ [])
    ∷ [])

session11 : run closed session11-calls ≡ session11-outcomes
unfolding model session11-calls session11-outcomes
session11 = refl

unfoldable pub session12-calls : List Call
session12-calls =
    (call (opening (shape 2 2 2 1 2 2)) 502 (65334 ∷ 4929 ∷ 65533 ∷ []) 0
    ∷ call (request 2 1 (180 ∷ [])) 495 (40843 ∷ 27793 ∷ 61288 ∷ []) 0
    ∷ call (turn) 495 [] 1
    ∷ call (collect) 495 [] 1
    ∷ call (turn) 495 (39904 ∷ 15545 ∷ 723 ∷ []) 1
    ∷ call (completion (cmd 2 1 1 0) []) 495 [] 0
    ∷ call (turn) 495 (65515 ∷ []) 1
    ∷ call (turn) 495 (39497 ∷ []) 1
    ∷ call (completion (cmd 2 1 1 2) []) 495 [] 0
    ∷ call (turn) 496 [] 1
    ∷ call (completion (cmd 2 1 1 1) []) 495 [] 0
    ∷ call (completion (cmd 2 1 1 3) []) 495 [] 0
    ∷ call (request 2 1 (107 ∷ [])) 495 (65535 ∷ 23855 ∷ 37976 ∷ []) 0
    ∷ call (turn) 495 [] 1
    ∷ call (collect) 495 [] 1
    ∷ call (completion (cmd 1 1 1 3) (180 ∷ [])) 495 [] 0
    ∷ call (request 1 0 []) 495 [] 0
    ∷ call (collect) 495 [] 1
    ∷ call (turn) 495 (24887 ∷ 32207 ∷ []) 1
    ∷ call (completion (cmd 2 1 0 0) []) 495 [] 0
    ∷ call (turn) 495 (42595 ∷ []) 1
    ∷ call (completion (cmd 2 1 0 1) []) 495 [] 0
    ∷ call (turn) 499 [] 1
    ∷ call (completion (cmd 1 1 0 0) (107 ∷ [])) 495 [] 0
    ∷ call (turn) 495 [] 1
    ∷ call (request 2 1 (110 ∷ [])) 495 (22999 ∷ 38006 ∷ 1796 ∷ []) 0
    ∷ call (collect) 495 [] 1
    ∷ call (turn) 495 [] 1
    ∷ call (completion (cmd 1 1 0 1) (0 ∷ [])) 495 [] 0
    ∷ call (completion (cmd 1 1 1 1) (0 ∷ [])) 500 [] 0
    ∷ call (turn) 495 [] 1
    ∷ call (collect) 495 [] 1
    ∷ call (turn) 496 [] 1
    ∷ call (completion (cmd 1 1 1 2) (0 ∷ [])) 495 [] 0
    ∷ call (request 2 1 (250 ∷ [])) 500 (30406 ∷ 35074 ∷ 15152 ∷ []) 0
    ∷ call (completion (cmd 1 1 1 0) (0 ∷ [])) 495 [] 0
    ∷ call (turn) 495 (65293 ∷ 54303 ∷ 43406 ∷ []) 1
    ∷ call (collect) 495 [] 1
    ∷ call (turn) 503 [] 1
    ∷ call (completion (cmd 2 1 1 0) []) 495 [] 0
    ∷ call (turn) 495 [] 1
    ∷ call (completion (cmd 2 1 1 1) []) 495 [] 0
    ∷ call (completion (cmd 2 1 1 2) []) 495 [] 0
    ∷ call (turn) 495 (54806 ∷ []) 1
    ∷ call (completion (cmd 2 1 1 3) []) 495 [] 0
    ∷ call (turn) 495 [] 1
    ∷ call (completion (cmd 1 1 1 3) (110 ∷ [])) 495 [] 0
    ∷ call (turn) 495 [] 1
    ∷ call (turn) 495 [] 1
    ∷ call (collect) 495 [] 1
    ∷ call (turn) 499 (3201 ∷ []) 1
    ∷ call (turn) 495 (65534 ∷ []) 1
    ∷ call (request 2 1 (62 ∷ [])) 495 (960 ∷ 62429 ∷ []) 0
    ∷ call (completion (cmd 2 1 0 1) []) 499 [] 0
    ∷ call (completion (cmd 2 1 0 0) []) 495 [] 0
    ∷ call (turn) 495 (59570 ∷ 65534 ∷ 35573 ∷ []) 1
    ∷ [])

session12-outcomes : List Outcome
session12-outcomes =
    (out 0 2 (cmd 0 0 0 0) []
    ∷ out 0 2 (cmd 0 0 0 0) []
    ∷ out 10 0 (cmd 0 0 0 0) []
    ∷ out 0 0 (cmd 0 0 0 0) (0 ∷ [])
    ∷ out 0 3 (cmd 2 1 1 0) (0 ∷ [])
    ∷ out 0 0 (cmd 0 0 0 0) []
    ∷ out 0 0 (cmd 2 1 1 1) (0 ∷ [])
    ∷ out 0 0 (cmd 2 1 1 2) (0 ∷ [])
    ∷ out 0 0 (cmd 0 0 0 0) []
    ∷ out 0 0 (cmd 2 1 1 3) (180 ∷ [])
    ∷ out 0 0 (cmd 0 0 0 0) []
    ∷ out 0 0 (cmd 0 0 0 0) []
    ∷ out 0 2 (cmd 0 0 0 0) []
    ∷ out 0 0 (cmd 1 1 1 3) []
    ∷ out 14 0 (cmd 0 0 0 0) []
    ∷ out 0 0 (cmd 0 0 0 0) []
    ∷ out 4 0 (cmd 0 0 0 0) []
    ∷ out_found 0 0 (cmd 0 0 0 0) (180 ∷ []) (found_level 1)
    ∷ out 0 1 (cmd 2 1 0 0) (107 ∷ [])
    ∷ out 0 0 (cmd 0 0 0 0) []
    ∷ out 0 0 (cmd 2 1 0 1) (0 ∷ [])
    ∷ out 0 0 (cmd 0 0 0 0) []
    ∷ out 0 0 (cmd 1 1 0 0) []
    ∷ out 0 0 (cmd 0 0 0 0) []
    ∷ out 0 0 (cmd 1 1 0 1) []
    ∷ out 0 2 (cmd 0 0 0 0) []
    ∷ out 14 0 (cmd 0 0 0 0) []
    ∷ out 0 0 (cmd 1 1 1 1) []
    ∷ out 0 0 (cmd 0 0 0 0) []
    ∷ out 0 0 (cmd 0 0 0 0) []
    ∷ out 0 0 (cmd 1 1 1 0) []
    ∷ out_found 0 0 (cmd 0 0 0 0) (107 ∷ []) (found_level 0)
    ∷ out 0 0 (cmd 1 1 1 2) []
    ∷ out 0 0 (cmd 0 0 0 0) []
    ∷ out 0 2 (cmd 0 0 0 0) []
    ∷ out 0 0 (cmd 0 0 0 0) []
    ∷ out 0 3 (cmd 2 1 1 0) (0 ∷ [])
    ∷ out 14 0 (cmd 0 0 0 0) []
    ∷ out 0 0 (cmd 2 1 1 1) (0 ∷ [])
    ∷ out 0 0 (cmd 0 0 0 0) []
    ∷ out 0 0 (cmd 2 1 1 2) (0 ∷ [])
    ∷ out 0 0 (cmd 0 0 0 0) []
    ∷ out 0 0 (cmd 0 0 0 0) []
    ∷ out 0 0 (cmd 2 1 1 3) (110 ∷ [])
    ∷ out 0 0 (cmd 0 0 0 0) []
    ∷ out 0 0 (cmd 1 1 1 3) []
    ∷ out 0 0 (cmd 0 0 0 0) []
    ∷ out 10 0 (cmd 0 0 0 0) []
    ∷ out 10 0 (cmd 0 0 0 0) []
    ∷ out_found 0 0 (cmd 0 0 0 0) (110 ∷ []) (found_level 1)
    ∷ out 0 1 (cmd 2 1 0 0) (0 ∷ [])
    ∷ out 0 0 (cmd 2 1 0 1) (0 ∷ [])
    ∷ out 0 2 (cmd 0 0 0 0) []
    ∷ out 0 0 (cmd 0 0 0 0) []
    ∷ out 0 0 (cmd 0 0 0 0) []
    ∷ out 0 3 (cmd 2 0 1 0) (250 ∷ [])
    ∷ [])

session12 : run closed session12-calls ≡ session12-outcomes
unfolding model session12-calls session12-outcomes
session12 = refl
