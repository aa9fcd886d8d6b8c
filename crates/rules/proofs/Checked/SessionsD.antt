-- Random sessions, with the outcomes of an independent implementation. Written by plain/src/bin/sessions.rs.
use Rattle.std.specs.Prelude.{◌≡◌, refl, List, [], ◌∷◌}
use Rattle.rules.specs.State.{cmd, closed, found_cache, found_level}
use Rattle.rules.specs.Questions.{opening, request, turn, completion, collect, Call}
use Rattle.rules.specs.Run.{Outcome, run}
use Rattle.rules.specs.Unfold.{model, shape, call, out, out_found}

unfoldable pub session7-calls : List Call
session7-calls =
    (call (opening (shape 1 2 3 1 1 3)) 584 (5719 ∷ []) 0
    ∷ call (request 2 0 (211 ∷ [])) 584 (63269 ∷ 65248 ∷ []) 0
    ∷ call (collect) 586 [] 1
    ∷ call (turn) 584 (62878 ∷ 41657 ∷ []) 1
    ∷ call (turn) 584 (10207 ∷ []) 1
    ∷ call (request 2 0 (97 ∷ [])) 584 (44671 ∷ 32344 ∷ []) 0
    ∷ call (completion (cmd 2 1 0 0) []) 584 [] 0
    ∷ call (completion (cmd 2 1 0 1) []) 584 [] 0
    ∷ call (turn) 584 [] 1
    ∷ call (completion (cmd 1 1 0 1) (211 ∷ [])) 584 [] 0
    ∷ call (collect) 584 [] 1
    ∷ call (turn) 584 (38330 ∷ 54782 ∷ 13605 ∷ []) 1
    ∷ call (completion (cmd 2 0 1 0) []) 584 [] 0
    ∷ call (turn) 584 [] 1
    ∷ call (completion (cmd 2 0 1 1) []) 584 [] 0
    ∷ call (request 2 0 (91 ∷ [])) 584 (44517 ∷ 65535 ∷ []) 0
    ∷ call (turn) 584 (32018 ∷ []) 1
    ∷ call (completion (cmd 2 0 1 2) []) 584 [] 0
    ∷ call (turn) 584 (42063 ∷ []) 1
    ∷ call (completion (cmd 2 0 1 3) []) 584 [] 0
    ∷ call (turn) 584 [] 1
    ∷ call (collect) 591 [] 1
    ∷ call (completion (cmd 1 1 0 0) (0 ∷ [])) 584 [] 0
    ∷ call (collect) 584 [] 1
    ∷ call (request 1 0 []) 590 (39615 ∷ 12110 ∷ []) 0
    ∷ call (turn) 584 (65535 ∷ 65534 ∷ 65238 ∷ 38815 ∷ []) 1
    ∷ call (request 1 1 []) 584 (33616 ∷ 30383 ∷ []) 0
    ∷ call (collect) 588 [] 0
    ∷ call (completion (cmd 2 1 1 0) []) 584 [] 0
    ∷ call (turn) 584 [] 1
    ∷ call (completion (cmd 2 1 1 1) []) 589 [] 0
    ∷ call (turn) 584 [] 1
    ∷ call (turn) 588 [] 1
    ∷ call (completion (cmd 2 1 1 2) []) 588 [] 0
    ∷ call (completion (cmd 2 1 1 3) []) 584 [] 0
    ∷ call (turn) 584 [] 1
    ∷ call (collect) 584 [] 1
    ∷ call (completion (cmd 1 1 1 0) (0 ∷ [])) 584 [] 0
    ∷ call (turn) 584 [] 1
    ∷ call (completion (cmd 1 1 1 1) (91 ∷ [])) 584 [] 0
    ∷ call (collect) 584 [] 1
    ∷ call (turn) 584 (7492 ∷ []) 1
    ∷ call (completion (cmd 1 1 1 2) (0 ∷ [])) 590 [] 0
    ∷ call (collect) 584 [] 1
    ∷ call (request 1 0 []) 591 (44340 ∷ 30642 ∷ []) 0
    ∷ call (turn) 584 (56758 ∷ []) 1
    ∷ call (completion (cmd 1 1 1 3) (0 ∷ [])) 584 [] 0
    ∷ call (turn) 584 (26991 ∷ 243 ∷ 47479 ∷ 10936 ∷ 64499 ∷ 65535 ∷ 25257 ∷ []) 1
    ∷ call (turn) 584 (40449 ∷ 32387 ∷ 46026 ∷ 65535 ∷ 65535 ∷ 35264 ∷ 8621 ∷ 35223 ∷ 65535 ∷ []) 1
    ∷ call (turn) 589 (2385 ∷ []) 1
    ∷ call (completion (cmd 2 1 2 1) []) 586 [] 0
    ∷ call (turn) 584 (65494 ∷ []) 1
    ∷ call (turn) 584 (53374 ∷ []) 1
    ∷ call (completion (cmd 2 1 2 0) []) 584 [] 0
    ∷ call (completion (cmd 2 1 2 2) []) 584 [] 0
    ∷ call (turn) 584 (3983 ∷ []) 1
    ∷ call (turn) 587 [] 1
    ∷ call (turn) 584 (41531 ∷ 65489 ∷ 31957 ∷ 21332 ∷ 36508 ∷ 55350 ∷ 2111 ∷ []) 2
    ∷ call (completion (cmd 2 1 2 3) []) 584 [] 0
    ∷ call (turn) 584 (29112 ∷ []) 1
    ∷ call (completion (cmd 2 1 2 6) []) 590 [] 0
    ∷ call (turn) 584 [] 1
    ∷ call (completion (cmd 2 1 2 4) []) 584 [] 0
    ∷ call (completion (cmd 2 1 2 7) []) 584 [] 0
    ∷ call (completion (cmd 2 1 2 5) []) 584 [] 0
    ∷ call (turn) 584 (4318 ∷ []) 1
    ∷ call (completion (cmd 1 1 2 2) (91 ∷ [])) 584 [] 0
    ∷ call (collect) 584 [] 1
    ∷ [])

session7-outcomes : List Outcome
session7-outcomes =
    (out 0 1 (cmd 0 0 0 0) []
    ∷ out 0 2 (cmd 0 0 0 0) []
    ∷ out 0 0 (cmd 0 0 0 0) (0 ∷ [])
    ∷ out 0 1 (cmd 2 1 0 0) (0 ∷ [])
    ∷ out 0 0 (cmd 2 1 0 1) (211 ∷ [])
    ∷ out 0 2 (cmd 0 0 0 0) []
    ∷ out 0 0 (cmd 0 0 0 0) []
    ∷ out 0 0 (cmd 0 0 0 0) []
    ∷ out 0 0 (cmd 1 1 0 1) []
    ∷ out 0 0 (cmd 0 0 0 0) []
    ∷ out_found 0 0 (cmd 0 0 0 0) (211 ∷ []) (found_level 0)
    ∷ out 0 3 (cmd 2 0 1 0) (0 ∷ [])
    ∷ out 0 0 (cmd 0 0 0 0) []
    ∷ out 0 0 (cmd 2 0 1 1) (0 ∷ [])
    ∷ out 0 0 (cmd 0 0 0 0) []
    ∷ out 0 2 (cmd 0 0 0 0) []
    ∷ out 0 0 (cmd 2 0 1 2) (0 ∷ [])
    ∷ out 0 0 (cmd 0 0 0 0) []
    ∷ out 0 0 (cmd 2 0 1 3) (0 ∷ [])
    ∷ out 0 0 (cmd 0 0 0 0) []
    ∷ out 0 0 (cmd 1 1 0 0) []
    ∷ out 14 0 (cmd 0 0 0 0) []
    ∷ out 0 0 (cmd 0 0 0 0) []
    ∷ out_found 0 0 (cmd 0 0 0 0) (97 ∷ []) found_cache
    ∷ out 0 2 (cmd 0 0 0 0) []
    ∷ out 0 3 (cmd 2 1 1 0) (0 ∷ [])
    ∷ out 4 0 (cmd 0 0 0 0) []
    ∷ out 14 0 (cmd 0 0 0 0) []
    ∷ out 0 0 (cmd 0 0 0 0) []
    ∷ out 0 0 (cmd 2 1 1 1) (91 ∷ [])
    ∷ out 0 0 (cmd 0 0 0 0) []
    ∷ out 0 0 (cmd 2 1 1 2) (0 ∷ [])
    ∷ out 0 0 (cmd 2 1 1 3) (0 ∷ [])
    ∷ out 0 0 (cmd 0 0 0 0) []
    ∷ out 0 0 (cmd 0 0 0 0) []
    ∷ out 0 0 (cmd 1 1 1 0) []
    ∷ out 14 0 (cmd 0 0 0 0) []
    ∷ out 0 0 (cmd 0 0 0 0) []
    ∷ out 0 0 (cmd 1 1 1 1) []
    ∷ out 0 0 (cmd 0 0 0 0) []
    ∷ out_found 0 0 (cmd 0 0 0 0) (91 ∷ []) (found_level 1)
    ∷ out 0 0 (cmd 1 1 1 2) []
    ∷ out 0 0 (cmd 0 0 0 0) []
    ∷ out 13 0 (cmd 0 0 0 0) []
    ∷ out 0 2 (cmd 0 0 0 0) []
    ∷ out 0 0 (cmd 1 1 1 3) []
    ∷ out 0 0 (cmd 0 0 0 0) []
    ∷ out 3 0 (cmd 0 0 0 0) []
    ∷ out 0 9 (cmd 2 1 2 0) (0 ∷ [])
    ∷ out 0 0 (cmd 2 1 2 1) (0 ∷ [])
    ∷ out 0 0 (cmd 0 0 0 0) []
    ∷ out 0 0 (cmd 2 1 2 2) (91 ∷ [])
    ∷ out 0 0 (cmd 2 1 2 3) (0 ∷ [])
    ∷ out 0 0 (cmd 0 0 0 0) []
    ∷ out 0 0 (cmd 0 0 0 0) []
    ∷ out 0 0 (cmd 2 1 2 4) (0 ∷ [])
    ∷ out 0 0 (cmd 2 1 2 5) (0 ∷ [])
    ∷ out 9 0 (cmd 0 0 0 0) []
    ∷ out 0 0 (cmd 0 0 0 0) []
    ∷ out 0 0 (cmd 2 1 2 6) (0 ∷ [])
    ∷ out 0 0 (cmd 0 0 0 0) []
    ∷ out 0 0 (cmd 2 1 2 7) (0 ∷ [])
    ∷ out 0 0 (cmd 0 0 0 0) []
    ∷ out 0 0 (cmd 0 0 0 0) []
    ∷ out 0 0 (cmd 0 0 0 0) []
    ∷ out 0 0 (cmd 1 1 2 2) []
    ∷ out 0 0 (cmd 0 0 0 0) []
    ∷ out_found 0 0 (cmd 0 0 0 0) (91 ∷ []) (found_level 2)
    ∷ [])

session7 : run closed session7-calls ≡ session7-outcomes
unfolding model session7-calls session7-outcomes
session7 = refl

unfoldable pub session8-calls : List Call
session8-calls =
    (call (opening (shape 3 2 2 1 3 2)) 502 (45743 ∷ 65534 ∷ 65144 ∷ 48588 ∷ []) 0
    ∷ call (request 2 0 (178 ∷ [])) 502 (24419 ∷ 35665 ∷ []) 0
    ∷ call (collect) 508 [] 1
    ∷ call (turn) 502 (65535 ∷ 46765 ∷ 47240 ∷ []) 1
    ∷ call (completion (cmd 0 1 1 0) []) 502 [] 0
    ∷ call (completion (cmd 2 1 1 0) []) 502 [] 0
    ∷ call (request 1 1 []) 502 (65476 ∷ 9125 ∷ []) 0
    ∷ call (turn) 502 [] 1
    ∷ call (collect) 503 [] 1
    ∷ call (completion (cmd 2 1 1 1) []) 502 [] 0
    ∷ call (turn) 502 (49215 ∷ []) 1
    ∷ call (completion (cmd 2 1 1 2) []) 502 [] 0
    ∷ call (turn) 502 [] 1
    ∷ call (completion (cmd 2 1 1 3) []) 502 [] 0
    ∷ call (turn) 502 (37874 ∷ []) 1
    ∷ call (turn) 502 [] 1
    ∷ call (request 2 0 (139 ∷ [])) 502 (9163 ∷ 65535 ∷ 17515 ∷ []) 0
    ∷ call (completion (cmd 2 0 0 0) []) 502 [] 0
    ∷ call (request 3 1 (209 ∷ [])) 502 (65532 ∷ 18648 ∷ []) 0
    ∷ call (completion (cmd 2 0 0 1) []) 502 [] 0
    ∷ call (completion (cmd 1 1 1 4) (43 ∷ [])) 502 [] 0
    ∷ call (collect) 506 [] 0
    ∷ call (turn) 507 [] 1
    ∷ call (completion (cmd 1 1 1 2) (178 ∷ [])) 502 [] 0
    ∷ call (collect) 502 [] 1
    ∷ call (turn) 502 (1376 ∷ []) 1
    ∷ call (completion (cmd 2 1 0 0) []) 502 [] 0
    ∷ call (request 2 0 (145 ∷ [])) 502 (771 ∷ 36158 ∷ 60272 ∷ []) 0
    ∷ call (turn) 502 [] 1
    ∷ call (completion (cmd 2 1 0 1) []) 502 [] 0
    ∷ call (turn) 502 [] 1
    ∷ call (turn) 502 (2760 ∷ []) 1
    ∷ call (completion (cmd 1 1 0 1) (139 ∷ [])) 502 [] 0
    ∷ call (completion (cmd 1 1 0 0) (0 ∷ [])) 502 [] 0
    ∷ call (turn) 502 (50223 ∷ []) 1
    ∷ call (turn) 508 [] 1
    ∷ call (completion (cmd 1 1 1 1) (0 ∷ [])) 502 [] 0
    ∷ call (completion (cmd 1 1 1 0) (0 ∷ [])) 502 [] 0
    ∷ call (turn) 502 [] 1
    ∷ call (completion (cmd 1 1 1 3) (0 ∷ [])) 502 [] 0
    ∷ call (turn) 502 (2289 ∷ 65534 ∷ []) 1
    ∷ call (turn) 502 (27699 ∷ 41974 ∷ 65533 ∷ 48824 ∷ 65534 ∷ 65533 ∷ 12390 ∷ []) 1
    ∷ call (collect) 502 [] 0
    ∷ call (completion (cmd 2 1 1 0) []) 502 [] 0
    ∷ call (turn) 502 [] 1
    ∷ call (turn) 502 [] 1
    ∷ call (completion (cmd 2 1 1 2) []) 510 [] 0
    ∷ call (turn) 502 [] 1
    ∷ call (completion (cmd 2 1 1 1) []) 502 [] 0
    ∷ call (completion (cmd 2 1 1 3) []) 504 [] 0
    ∷ call (turn) 509 [] 1
    ∷ call (completion (cmd 1 1 1 0) (139 ∷ [])) 502 [] 0
    ∷ call (turn) 502 (65534 ∷ 46500 ∷ 65435 ∷ []) 2
    ∷ call (collect) 502 [] 1
    ∷ call (request 2 0 (90 ∷ [])) 502 (43609 ∷ 26003 ∷ []) 0
    ∷ call (turn) 502 (33441 ∷ []) 1
    ∷ call (turn) 502 (22025 ∷ []) 1
    ∷ call (completion (cmd 2 1 0 1) []) 502 [] 0
    ∷ call (completion (cmd 2 1 0 0) []) 502 [] 0
    ∷ call (turn) 502 [] 1
    ∷ call (turn) 502 (65534 ∷ []) 1
    ∷ call (completion (cmd 1 1 1 2) (0 ∷ [])) 502 [] 0
    ∷ call (turn) 502 [] 1
    ∷ call (collect) 502 [] 1
    ∷ call (completion (cmd 1 1 0 0) (145 ∷ [])) 502 [] 0
    ∷ call (completion (cmd 1 1 0 1) (84 ∷ [])) 502 [] 0
    ∷ call (collect) 502 [] 1
    ∷ call (request 2 0 (226 ∷ [])) 502 (65532 ∷ 45440 ∷ []) 0
    ∷ call (turn) 502 [] 1
    ∷ call (completion (cmd 1 1 1 1) (0 ∷ [])) 508 [] 0
    ∷ call (turn) 502 [] 1
    ∷ call (completion (cmd 1 1 1 3) (0 ∷ [])) 502 [] 0
    ∷ call (turn) 502 (31092 ∷ 8220 ∷ 13412 ∷ []) 1
    ∷ call (completion (cmd 2 1 1 0) []) 502 [] 0
    ∷ [])

session8-outcomes : List Outcome
session8-outcomes =
    (out 0 3 (cmd 0 0 0 0) []
    ∷ out 0 2 (cmd 0 0 0 0) []
    ∷ out 0 0 (cmd 0 0 0 0) (0 ∷ [])
    ∷ out 0 3 (cmd 2 1 1 0) (0 ∷ [])
    ∷ out 2 0 (cmd 0 0 0 0) []
    ∷ out 0 0 (cmd 0 0 0 0) []
    ∷ out 0 2 (cmd 0 0 0 0) []
    ∷ out 0 0 (cmd 2 1 1 1) (0 ∷ [])
    ∷ out 0 0 (cmd 0 0 0 0) (0 ∷ [])
    ∷ out 0 0 (cmd 0 0 0 0) []
    ∷ out 0 0 (cmd 2 1 1 2) (178 ∷ [])
    ∷ out 0 0 (cmd 0 0 0 0) []
    ∷ out 0 0 (cmd 2 1 1 3) (0 ∷ [])
    ∷ out 0 0 (cmd 0 0 0 0) []
    ∷ out 0 1 (cmd 2 0 0 0) (0 ∷ [])
    ∷ out 0 0 (cmd 2 0 0 1) (0 ∷ [])
    ∷ out 0 2 (cmd 0 0 0 0) []
    ∷ out 0 0 (cmd 0 0 0 0) []
    ∷ out 2 0 (cmd 0 0 0 0) []
    ∷ out 0 0 (cmd 0 0 0 0) []
    ∷ out 11 0 (cmd 0 0 0 0) []
    ∷ out 14 0 (cmd 0 0 0 0) []
    ∷ out 0 0 (cmd 1 1 1 2) []
    ∷ out 0 0 (cmd 0 0 0 0) []
    ∷ out_found 0 0 (cmd 0 0 0 0) (178 ∷ []) (found_level 1)
    ∷ out 0 1 (cmd 2 1 0 0) (0 ∷ [])
    ∷ out 0 0 (cmd 0 0 0 0) []
    ∷ out 0 2 (cmd 0 0 0 0) []
    ∷ out 0 0 (cmd 2 1 0 1) (139 ∷ [])
    ∷ out 0 0 (cmd 0 0 0 0) []
    ∷ out 0 0 (cmd 1 1 0 0) []
    ∷ out 0 0 (cmd 1 1 0 1) []
    ∷ out 0 0 (cmd 0 0 0 0) []
    ∷ out 0 0 (cmd 0 0 0 0) []
    ∷ out 0 0 (cmd 1 1 1 0) []
    ∷ out 0 0 (cmd 1 1 1 1) []
    ∷ out 0 0 (cmd 0 0 0 0) []
    ∷ out 0 0 (cmd 0 0 0 0) []
    ∷ out 0 0 (cmd 1 1 1 3) []
    ∷ out 0 0 (cmd 0 0 0 0) []
    ∷ out 3 0 (cmd 0 0 0 0) []
    ∷ out 0 3 (cmd 2 1 1 0) (139 ∷ [])
    ∷ out 14 0 (cmd 0 0 0 0) []
    ∷ out 0 0 (cmd 0 0 0 0) []
    ∷ out 0 0 (cmd 2 1 1 1) (0 ∷ [])
    ∷ out 0 0 (cmd 2 1 1 2) (0 ∷ [])
    ∷ out 0 0 (cmd 0 0 0 0) []
    ∷ out 0 0 (cmd 2 1 1 3) (0 ∷ [])
    ∷ out 0 0 (cmd 0 0 0 0) []
    ∷ out 0 0 (cmd 0 0 0 0) []
    ∷ out 0 0 (cmd 1 1 1 0) []
    ∷ out 0 0 (cmd 0 0 0 0) []
    ∷ out 10 0 (cmd 0 0 0 0) []
    ∷ out_found 0 0 (cmd 0 0 0 0) (139 ∷ []) (found_level 1)
    ∷ out 0 2 (cmd 0 0 0 0) []
    ∷ out 0 1 (cmd 2 1 0 0) (145 ∷ [])
    ∷ out 0 0 (cmd 2 1 0 1) (0 ∷ [])
    ∷ out 0 0 (cmd 0 0 0 0) []
    ∷ out 0 0 (cmd 0 0 0 0) []
    ∷ out 0 0 (cmd 1 1 0 0) []
    ∷ out 0 0 (cmd 1 1 1 2) []
    ∷ out 0 0 (cmd 0 0 0 0) []
    ∷ out 0 0 (cmd 1 1 0 1) []
    ∷ out 14 0 (cmd 0 0 0 0) []
    ∷ out 0 0 (cmd 0 0 0 0) []
    ∷ out 0 0 (cmd 0 0 0 0) []
    ∷ out_found 0 0 (cmd 0 0 0 0) (145 ∷ []) (found_level 0)
    ∷ out 0 2 (cmd 0 0 0 0) []
    ∷ out 0 0 (cmd 1 1 1 1) []
    ∷ out 0 0 (cmd 0 0 0 0) []
    ∷ out 0 0 (cmd 1 1 1 3) []
    ∷ out 0 0 (cmd 0 0 0 0) []
    ∷ out 0 3 (cmd 2 1 1 0) (0 ∷ [])
    ∷ out 0 0 (cmd 0 0 0 0) []
    ∷ [])

session8 : run closed session8-calls ≡ session8-outcomes
unfolding model session8-calls session8-outcomes
session8 = refl
