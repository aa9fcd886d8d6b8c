-- Random sessions, with the outcomes of an independent implementation. Written by plain/src/bin/sessions.rs.
use Rattle.std.specs.Prelude.{◌≡◌, refl, List, [], ◌∷◌}
use Rattle.rules.specs.State.{cmd, closed, found_cache, found_level}
use Rattle.rules.specs.Questions.{opening, request, turn, completion, collect, Call}
use Rattle.rules.specs.Run.{Outcome, run}
use Rattle.rules.specs.Unfold.{model, shape, call, out, out_found}

unfoldable pub session3-calls : List Call
session3-calls =
    (call (opening (shape 4 2 2 1 4 2)) 509 (65535 ∷ 65479 ∷ 46511 ∷ 49280 ∷ []) 0
    ∷ call (request 1 2 []) 517 (1557 ∷ 62755 ∷ []) 0
    ∷ call (collect) 509 [] 1
    ∷ call (turn) 511 (20396 ∷ 40630 ∷ 25504 ∷ []) 1
    ∷ call (request 2 1 (246 ∷ [])) 509 (39159 ∷ 62396 ∷ 65228 ∷ []) 0
    ∷ call (turn) 509 [] 1
    ∷ call (completion (cmd 2 1 1 1) []) 509 [] 0
    ∷ call (turn) 509 [] 1
    ∷ call (completion (cmd 2 1 1 0) []) 509 [] 0
    ∷ call (request 0 0 (47 ∷ [])) 511 (44704 ∷ 196 ∷ []) 0
    ∷ call (turn) 509 [] 1
    ∷ call (completion (cmd 2 1 1 2) []) 509 [] 0
    ∷ call (turn) 509 (41367 ∷ 42859 ∷ 38752 ∷ 25317 ∷ 15845 ∷ 65287 ∷ 32905 ∷ []) 1
    ∷ call (completion (cmd 2 1 1 3) []) 509 [] 0
    ∷ call (turn) 509 [] 1
    ∷ call (completion (cmd 1 1 1 3) (0 ∷ [])) 509 [] 0
    ∷ call (collect) 509 [] 1
    ∷ call (request 2 3 (80 ∷ [])) 509 (42479 ∷ 13161 ∷ []) 0
    ∷ call (turn) 515 (59058 ∷ 26065 ∷ []) 1
    ∷ call (turn) 516 [] 1
    ∷ call (completion (cmd 2 1 0 1) []) 509 [] 0
    ∷ call (completion (cmd 2 1 0 0) []) 509 [] 0
    ∷ call (collect) 509 [] 1
    ∷ call (request 2 2 (119 ∷ [])) 509 (47049 ∷ 22630 ∷ 6938 ∷ []) 0
    ∷ call (turn) 509 (53746 ∷ 42331 ∷ []) 1
    ∷ call (turn) 509 (20914 ∷ 36536 ∷ 3995 ∷ []) 1
    ∷ call (completion (cmd 2 0 1 0) []) 512 [] 0
    ∷ call (turn) 509 (7422 ∷ []) 1
    ∷ call (turn) 509 [] 1
    ∷ call (completion (cmd 2 0 1 2) []) 509 [] 0
    ∷ call (turn) 509 (5693 ∷ []) 1
    ∷ call (completion (cmd 2 0 1 1) []) 515 [] 0
    ∷ call (completion (cmd 2 0 1 3) []) 516 [] 0
    ∷ call (turn) 509 (31888 ∷ []) 1
    ∷ call (completion (cmd 1 1 0 1) (246 ∷ [])) 509 [] 0
    ∷ call (turn) 515 [] 1
    ∷ call (completion (cmd 1 1 1 2) (0 ∷ [])) 509 [] 0
    ∷ call (turn) 509 [] 1
    ∷ call (completion (cmd 1 1 0 0) (0 ∷ [])) 509 [] 0
    ∷ call (collect) 509 [] 1
    ∷ call (request 1 2 []) 509 (65529 ∷ 8327 ∷ 65514 ∷ []) 0
    ∷ call (turn) 509 (31931 ∷ []) 1
    ∷ call (completion (cmd 1 1 1 0) (0 ∷ [])) 513 [] 0
    ∷ call (turn) 509 [] 1
    ∷ call (completion (cmd 1 1 1 1) (0 ∷ [])) 509 [] 0
    ∷ call (turn) 509 (12680 ∷ 65535 ∷ 65534 ∷ 20755 ∷ []) 1
    ∷ call (turn) 515 (26038 ∷ 18518 ∷ 44841 ∷ []) 2
    ∷ call (turn) 509 [] 1
    ∷ call (completion (cmd 2 1 1 1) []) 511 [] 0
    ∷ call (turn) 509 [] 1
    ∷ call (completion (cmd 2 1 1 2) []) 509 [] 0
    ∷ call (turn) 509 [] 1
    ∷ call (completion (cmd 2 1 1 3) []) 509 [] 0
    ∷ call (completion (cmd 2 1 1 0) []) 509 [] 0
    ∷ call (turn) 509 (65534 ∷ []) 1
    ∷ call (completion (cmd 1 1 1 2) (0 ∷ [])) 517 [] 0
    ∷ call (request 1 2 (248 ∷ [])) 509 (10366 ∷ 58723 ∷ []) 0
    ∷ call (collect) 509 [] 1
    ∷ call (request 2 0 (126 ∷ [])) 509 (36293 ∷ 64333 ∷ []) 0
    ∷ call (turn) 509 [] 1
    ∷ call (turn) 509 (49831 ∷ []) 1
    ∷ call (completion (cmd 2 1 0 0) []) 509 [] 0
    ∷ call (turn) 509 (65519 ∷ []) 1
    ∷ call (completion (cmd 2 1 0 1) []) 509 [] 0
    ∷ call (turn) 509 (4995 ∷ []) 1
    ∷ call (completion (cmd 2 0 0 0) []) 512 [] 0
    ∷ call (turn) 509 [] 1
    ∷ call (completion (cmd 2 0 0 1) []) 509 [] 0
    ∷ call (turn) 509 [] 1
    ∷ call (turn) 509 [] 1
    ∷ call (completion (cmd 1 1 0 0) []) 509 [] 0
    ∷ call (completion (cmd 1 1 0 0) (0 ∷ [])) 509 [] 0
    ∷ call (completion (cmd 1 1 0 1) (0 ∷ [])) 514 [] 0
    ∷ call (turn) 509 [] 1
    ∷ call (turn) 513 (62579 ∷ []) 1
    ∷ call (completion (cmd 1 1 1 1) (80 ∷ [])) 509 [] 0
    ∷ call (turn) 509 (59593 ∷ 19171 ∷ 10188 ∷ 65479 ∷ 62065 ∷ 58848 ∷ 61417 ∷ []) 1
    ∷ call (completion (cmd 1 1 1 0) (0 ∷ [])) 509 [] 0
    ∷ call (request 2 2 []) 509 (10297 ∷ 27417 ∷ []) 0
    ∷ call (completion (cmd 1 1 1 3) (246 ∷ [])) 509 [] 0
    ∷ [])

session3-outcomes : List Outcome
session3-outcomes =
    (out 0 4 (cmd 0 0 0 0) []
    ∷ out 0 2 (cmd 0 0 0 0) []
    ∷ out 0 0 (cmd 0 0 0 0) (0 ∷ [])
    ∷ out 0 3 (cmd 2 1 1 0) (0 ∷ [])
    ∷ out 0 2 (cmd 0 0 0 0) []
    ∷ out 0 0 (cmd 2 1 1 1) (0 ∷ [])
    ∷ out 0 0 (cmd 0 0 0 0) []
    ∷ out 0 0 (cmd 2 1 1 2) (0 ∷ [])
    ∷ out 0 0 (cmd 0 0 0 0) []
    ∷ out 2 0 (cmd 0 0 0 0) []
    ∷ out 0 0 (cmd 2 1 1 3) (0 ∷ [])
    ∷ out 0 0 (cmd 0 0 0 0) []
    ∷ out 10 0 (cmd 0 0 0 0) []
    ∷ out 0 0 (cmd 0 0 0 0) []
    ∷ out 0 0 (cmd 1 1 1 3) []
    ∷ out 0 0 (cmd 0 0 0 0) []
    ∷ out 0 0 (cmd 0 0 0 0) (0 ∷ [])
    ∷ out 0 2 (cmd 0 0 0 0) []
    ∷ out 0 1 (cmd 2 1 0 0) (0 ∷ [])
    ∷ out 0 0 (cmd 2 1 0 1) (246 ∷ [])
    ∷ out 0 0 (cmd 0 0 0 0) []
    ∷ out 0 0 (cmd 0 0 0 0) []
    ∷ out 0 0 (cmd 0 0 0 0) (0 ∷ [])
    ∷ out 0 2 (cmd 0 0 0 0) []
    ∷ out 3 0 (cmd 0 0 0 0) []
    ∷ out 0 3 (cmd 2 0 1 0) (0 ∷ [])
    ∷ out 0 0 (cmd 0 0 0 0) []
    ∷ out 0 0 (cmd 2 0 1 1) (0 ∷ [])
    ∷ out 0 0 (cmd 2 0 1 2) (0 ∷ [])
    ∷ out 0 0 (cmd 0 0 0 0) []
    ∷ out 0 0 (cmd 2 0 1 3) (0 ∷ [])
    ∷ out 0 0 (cmd 0 0 0 0) []
    ∷ out 0 0 (cmd 0 0 0 0) []
    ∷ out 0 0 (cmd 1 1 0 1) []
    ∷ out 0 0 (cmd 0 0 0 0) []
    ∷ out 0 0 (cmd 1 1 1 2) []
    ∷ out 0 0 (cmd 0 0 0 0) []
    ∷ out 0 0 (cmd 1 1 0 0) []
    ∷ out 0 0 (cmd 0 0 0 0) []
    ∷ out_found 0 0 (cmd 0 0 0 0) (0 ∷ []) (found_level 1)
    ∷ out 0 2 (cmd 0 0 0 0) []
    ∷ out 0 0 (cmd 1 1 1 0) []
    ∷ out 0 0 (cmd 0 0 0 0) []
    ∷ out 0 0 (cmd 1 1 1 1) []
    ∷ out 0 0 (cmd 0 0 0 0) []
    ∷ out 0 4 (cmd 2 1 1 0) (0 ∷ [])
    ∷ out 15 0 (cmd 0 0 0 0) []
    ∷ out 0 0 (cmd 2 1 1 1) (80 ∷ [])
    ∷ out 0 0 (cmd 0 0 0 0) []
    ∷ out 0 0 (cmd 2 1 1 2) (0 ∷ [])
    ∷ out 0 0 (cmd 0 0 0 0) []
    ∷ out 0 0 (cmd 2 1 1 3) (246 ∷ [])
    ∷ out 0 0 (cmd 0 0 0 0) []
    ∷ out 0 0 (cmd 0 0 0 0) []
    ∷ out 0 0 (cmd 1 1 1 2) []
    ∷ out 0 0 (cmd 0 0 0 0) []
    ∷ out 4 0 (cmd 0 0 0 0) []
    ∷ out_found 0 0 (cmd 0 0 0 0) (119 ∷ []) found_cache
    ∷ out 0 2 (cmd 0 0 0 0) []
    ∷ out 3 0 (cmd 0 0 0 0) []
    ∷ out 0 1 (cmd 2 1 0 0) (0 ∷ [])
    ∷ out 0 0 (cmd 0 0 0 0) []
    ∷ out 0 0 (cmd 2 1 0 1) (0 ∷ [])
    ∷ out 0 0 (cmd 0 0 0 0) []
    ∷ out 0 1 (cmd 2 0 0 0) (0 ∷ [])
    ∷ out 0 0 (cmd 0 0 0 0) []
    ∷ out 0 0 (cmd 2 0 0 1) (0 ∷ [])
    ∷ out 0 0 (cmd 0 0 0 0) []
    ∷ out 0 0 (cmd 1 1 0 0) []
    ∷ out 0 0 (cmd 1 1 0 1) []
    ∷ out 12 0 (cmd 0 0 0 0) []
    ∷ out 0 0 (cmd 0 0 0 0) []
    ∷ out 0 0 (cmd 0 0 0 0) []
    ∷ out 0 0 (cmd 1 1 1 0) []
    ∷ out 0 0 (cmd 1 1 1 1) []
    ∷ out 0 0 (cmd 0 0 0 0) []
    ∷ out 0 0 (cmd 1 1 1 3) []
    ∷ out 0 0 (cmd 0 0 0 0) []
    ∷ out 4 0 (cmd 0 0 0 0) []
    ∷ out 0 0 (cmd 0 0 0 0) []
    ∷ [])

session3 : run closed session3-calls ≡ session3-outcomes
unfolding model session3-calls session3-outcomes
session3 = refl

unfoldable pub session4-calls : List Call
session4-calls =
    (call (opening (shape 3 2 2 2 2 3)) 506 (31692 ∷ 65473 ∷ 48939 ∷ 33304 ∷ []) 0
    ∷ call (request 2 0 (131 ∷ 80 ∷ [])) 513 (30940 ∷ 8000 ∷ []) 0
    ∷ call (collect) 506 [] 2
    ∷ call (request 1 1 []) 509 (65034 ∷ 50207 ∷ 40850 ∷ []) 0
    ∷ call (turn) 509 (20047 ∷ 56074 ∷ 1070 ∷ []) 2
    ∷ call (turn) 512 [] 2
    ∷ call (turn) 506 (11107 ∷ []) 2
    ∷ call (completion (cmd 2 0 1 1) []) 506 [] 0
    ∷ call (turn) 506 [] 2
    ∷ call (collect) 508 [] 2
    ∷ call (completion (cmd 2 0 1 3) []) 506 [] 0
    ∷ call (completion (cmd 2 0 1 0) []) 514 [] 0
    ∷ call (request 1 1 []) 506 (8986 ∷ 62026 ∷ []) 0
    ∷ call (completion (cmd 2 0 1 2) []) 506 [] 0
    ∷ call (turn) 506 (65525 ∷ []) 2
    ∷ call (turn) 505 (42102 ∷ 43084 ∷ 17888 ∷ 54065 ∷ 32596 ∷ 65216 ∷ 53921 ∷ 543 ∷ []) 2
    ∷ call (turn) 506 (5854 ∷ 33740 ∷ []) 2
    ∷ call (completion (cmd 1 0 1 0) (0 ∷ 0 ∷ [])) 506 [] 0
    ∷ call (collect) 506 [] 2
    ∷ call (turn) 508 (26171 ∷ 65535 ∷ 38595 ∷ 11175 ∷ []) 2
    ∷ call (turn) 511 [] 2
    ∷ call (request 2 2 (211 ∷ 28 ∷ [])) 506 (13828 ∷ 13682 ∷ []) 0
    ∷ call (turn) 511 (65343 ∷ []) 2
    ∷ call (completion (cmd 2 1 1 2) []) 506 [] 0
    ∷ call (turn) 510 [] 2
    ∷ call (request 2 0 (245 ∷ 56 ∷ [])) 513 (36859 ∷ []) 0
    ∷ call (completion (cmd 2 1 1 3) []) 506 [] 0
    ∷ call (completion (cmd 2 1 1 1) []) 506 [] 0
    ∷ call (completion (cmd 2 1 1 0) []) 506 [] 0
    ∷ call (turn) 506 [] 2
    ∷ call (turn) 506 (55645 ∷ []) 2
    ∷ call (completion (cmd 2 0 0 0) []) 506 [] 0
    ∷ call (turn) 506 [] 2
    ∷ call (completion (cmd 0 1 1 2) []) 506 [] 0
    ∷ call (collect) 506 [] 2
    ∷ call (completion (cmd 1 1 1 2) (0 ∷ 0 ∷ [])) 506 [] 0
    ∷ call (completion (cmd 2 0 0 1) []) 506 [] 0
    ∷ call (turn) 506 [] 2
    ∷ call (collect) 506 [] 2
    ∷ call (turn) 506 [] 2
    ∷ call (request 1 0 []) 506 (63373 ∷ 1706 ∷ []) 0
    ∷ call (completion (cmd 1 0 0 1) (0 ∷ 0 ∷ [])) 506 [] 0
    ∷ call (turn) 511 [] 2
    ∷ call (completion (cmd 1 0 0 0) (0 ∷ 0 ∷ [])) 506 [] 0
    ∷ call (completion (cmd 1 0 1 1) (0 ∷ 0 ∷ [])) 506 [] 0
    ∷ call (turn) 506 [] 2
    ∷ call (turn) 506 (65535 ∷ []) 2
    ∷ call (completion (cmd 1 0 1 3) (0 ∷ 0 ∷ [])) 506 [] 0
    ∷ call (completion (cmd 1 0 1 2) (131 ∷ 80 ∷ [])) 506 [] 0
    ∷ call (turn) 506 (3241 ∷ 32374 ∷ 25788 ∷ 10752 ∷ []) 2
    ∷ call (turn) 506 (47015 ∷ []) 2
    ∷ call (completion (cmd 2 0 1 0) []) 506 [] 0
    ∷ call (completion (cmd 2 0 1 1) []) 506 [] 0
    ∷ call (turn) 506 [] 2
    ∷ call (turn) 506 [] 2
    ∷ call (completion (cmd 2 0 1 3) []) 506 [] 0
    ∷ call (completion (cmd 2 0 1 2) []) 506 [] 0
    ∷ call (turn) 506 [] 2
    ∷ call (turn) 506 (29338 ∷ []) 2
    ∷ call (turn) 506 (65513 ∷ []) 2
    ∷ call (request 1 0 []) 506 (65434 ∷ []) 0
    ∷ call (completion (cmd 2 1 0 1) []) 506 [] 0
    ∷ call (request 2 0 (119 ∷ 130 ∷ [])) 506 (62517 ∷ 65506 ∷ 41275 ∷ []) 0
    ∷ call (completion (cmd 2 1 0 0) []) 506 [] 0
    ∷ call (turn) 506 [] 2
    ∷ call (completion (cmd 1 0 1 2) (131 ∷ 80 ∷ [])) 506 [] 0
    ∷ call (turn) 506 (29431 ∷ 59135 ∷ 37200 ∷ 55593 ∷ 50474 ∷ 65528 ∷ 65535 ∷ []) 2
    ∷ call (collect) 506 [] 2
    ∷ call (request 0 2 (132 ∷ 150 ∷ [])) 506 (43674 ∷ 65535 ∷ []) 0
    ∷ call (request 1 2 []) 508 (29484 ∷ 5239 ∷ 65534 ∷ []) 0
    ∷ call (turn) 506 (35292 ∷ 51491 ∷ []) 2
    ∷ call (turn) 506 (61787 ∷ []) 2
    ∷ call (completion (cmd 2 0 0 0) []) 506 [] 0
    ∷ call (completion (cmd 2 0 0 1) []) 506 [] 0
    ∷ call (turn) 506 [] 2
    ∷ call (turn) 506 [] 2
    ∷ call (turn) 506 [] 2
    ∷ call (completion (cmd 1 0 0 1) (211 ∷ 28 ∷ [])) 506 [] 0
    ∷ call (completion (cmd 1 0 1 0) (0 ∷ 0 ∷ [])) 506 [] 0
    ∷ call (turn) 506 (56701 ∷ []) 2
    ∷ [])

session4-outcomes : List Outcome
session4-outcomes =
    (out 0 3 (cmd 0 0 0 0) []
    ∷ out 0 2 (cmd 0 0 0 0) []
    ∷ out 0 0 (cmd 0 0 0 0) (0 ∷ 0 ∷ [])
    ∷ out 0 2 (cmd 0 0 0 0) []
    ∷ out 0 3 (cmd 2 0 1 0) (0 ∷ 0 ∷ [])
    ∷ out 0 0 (cmd 2 0 1 1) (0 ∷ 0 ∷ [])
    ∷ out 0 0 (cmd 2 0 1 2) (131 ∷ 80 ∷ [])
    ∷ out 0 0 (cmd 0 0 0 0) []
    ∷ out 0 0 (cmd 2 0 1 3) (0 ∷ 0 ∷ [])
    ∷ out 0 0 (cmd 0 0 0 0) (0 ∷ 0 ∷ [])
    ∷ out 0 0 (cmd 0 0 0 0) []
    ∷ out 0 0 (cmd 0 0 0 0) []
    ∷ out 0 2 (cmd 0 0 0 0) []
    ∷ out 0 0 (cmd 0 0 0 0) []
    ∷ out 0 0 (cmd 1 0 1 0) []
    ∷ out 2 0 (cmd 0 0 0 0) []
    ∷ out 3 0 (cmd 0 0 0 0) []
    ∷ out 0 0 (cmd 0 0 0 0) []
    ∷ out_found 0 0 (cmd 0 0 0 0) (0 ∷ 0 ∷ []) found_cache
    ∷ out 0 4 (cmd 2 1 1 0) (0 ∷ 0 ∷ [])
    ∷ out 0 0 (cmd 2 1 1 1) (0 ∷ 0 ∷ [])
    ∷ out 0 2 (cmd 0 0 0 0) []
    ∷ out 0 0 (cmd 2 1 1 2) (0 ∷ 0 ∷ [])
    ∷ out 0 0 (cmd 0 0 0 0) []
    ∷ out 0 0 (cmd 2 1 1 3) (0 ∷ 0 ∷ [])
    ∷ out 4 0 (cmd 0 0 0 0) []
    ∷ out 0 0 (cmd 0 0 0 0) []
    ∷ out 0 0 (cmd 0 0 0 0) []
    ∷ out 0 0 (cmd 0 0 0 0) []
    ∷ out 0 0 (cmd 1 1 1 2) []
    ∷ out 0 1 (cmd 2 0 0 0) (0 ∷ 0 ∷ [])
    ∷ out 0 0 (cmd 0 0 0 0) []
    ∷ out 0 0 (cmd 2 0 0 1) (0 ∷ 0 ∷ [])
    ∷ out 2 0 (cmd 0 0 0 0) []
    ∷ out 14 0 (cmd 0 0 0 0) []
    ∷ out 0 0 (cmd 0 0 0 0) []
    ∷ out 0 0 (cmd 0 0 0 0) []
    ∷ out 0 0 (cmd 1 0 0 0) []
    ∷ out 0 0 (cmd 0 0 0 0) (0 ∷ 0 ∷ [])
    ∷ out 0 0 (cmd 1 0 0 1) []
    ∷ out 0 2 (cmd 0 0 0 0) []
    ∷ out 0 0 (cmd 0 0 0 0) []
    ∷ out 0 0 (cmd 1 0 1 1) []
    ∷ out 0 0 (cmd 0 0 0 0) []
    ∷ out 0 0 (cmd 0 0 0 0) []
    ∷ out 0 0 (cmd 1 0 1 2) []
    ∷ out 0 0 (cmd 1 0 1 3) []
    ∷ out 0 0 (cmd 0 0 0 0) []
    ∷ out 0 0 (cmd 0 0 0 0) []
    ∷ out 0 3 (cmd 2 0 1 0) (0 ∷ 0 ∷ [])
    ∷ out 0 0 (cmd 2 0 1 1) (0 ∷ 0 ∷ [])
    ∷ out 0 0 (cmd 0 0 0 0) []
    ∷ out 0 0 (cmd 0 0 0 0) []
    ∷ out 0 0 (cmd 2 0 1 2) (131 ∷ 80 ∷ [])
    ∷ out 0 0 (cmd 2 0 1 3) (0 ∷ 0 ∷ [])
    ∷ out 0 0 (cmd 0 0 0 0) []
    ∷ out 0 0 (cmd 0 0 0 0) []
    ∷ out 3 0 (cmd 0 0 0 0) []
    ∷ out 0 1 (cmd 2 1 0 0) (0 ∷ 0 ∷ [])
    ∷ out 0 0 (cmd 2 1 0 1) (0 ∷ 0 ∷ [])
    ∷ out 4 0 (cmd 0 0 0 0) []
    ∷ out 0 0 (cmd 0 0 0 0) []
    ∷ out 4 0 (cmd 0 0 0 0) []
    ∷ out 0 0 (cmd 0 0 0 0) []
    ∷ out 0 0 (cmd 1 0 1 2) []
    ∷ out 0 0 (cmd 0 0 0 0) []
    ∷ out 10 0 (cmd 0 0 0 0) []
    ∷ out_found 0 0 (cmd 0 0 0 0) (131 ∷ 80 ∷ []) (found_level 1)
    ∷ out 2 0 (cmd 0 0 0 0) []
    ∷ out 0 2 (cmd 0 0 0 0) []
    ∷ out 0 1 (cmd 2 0 0 0) (0 ∷ 0 ∷ [])
    ∷ out 0 0 (cmd 2 0 0 1) (211 ∷ 28 ∷ [])
    ∷ out 0 0 (cmd 0 0 0 0) []
    ∷ out 0 0 (cmd 0 0 0 0) []
    ∷ out 0 0 (cmd 1 0 0 0) []
    ∷ out 0 0 (cmd 1 0 0 1) []
    ∷ out 0 0 (cmd 1 0 1 0) []
    ∷ out 0 0 (cmd 0 0 0 0) []
    ∷ out 0 0 (cmd 0 0 0 0) []
    ∷ out 0 0 (cmd 1 0 1 1) []
    ∷ [])

session4 : run closed session4-calls ≡ session4-outcomes
unfolding model session4-calls session4-outcomes
session4 = refl
