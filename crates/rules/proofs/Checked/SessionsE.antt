-- Random sessions, with the outcomes of an independent implementation. Written by plain/src/bin/sessions.rs.
use Rattle.std.specs.Prelude.{◌≡◌, refl, List, [], ◌∷◌}
use Rattle.rules.specs.State.{cmd, closed, found_cache, found_level}
use Rattle.rules.specs.Questions.{opening, request, turn, completion, collect, Call}
use Rattle.rules.specs.Run.{Outcome, run}
use Rattle.rules.specs.Unfold.{model, shape, call, out, out_found}

unfoldable pub session9-calls : List Call
session9-calls =
    (call (opening (shape 1 1 3 1 1 0)) 488 (13416 ∷ []) 0
    ∷ call (request 2 0 (48 ∷ [])) 489 (4911 ∷ 63313 ∷ 17102 ∷ []) 0
    ∷ call (opening (shape 1 1 3 1 1 3)) 488 [] 0
    ∷ call (opening (shape 1 1 3 1 1 3)) 487 (48083 ∷ []) 1
    ∷ call (collect) 488 [] 1
    ∷ call (opening (shape 1 1 3 1 1 3)) 488 (10995 ∷ 60434 ∷ []) 0
    ∷ call (request 1 0 []) 488 (50582 ∷ 65515 ∷ 34037 ∷ []) 0
    ∷ call (collect) 491 [] 1
    ∷ call (turn) 488 (29746 ∷ 65535 ∷ 65535 ∷ 48583 ∷ 11957 ∷ []) 1
    ∷ call (completion (cmd 2 0 1 0) []) 488 [] 0
    ∷ call (turn) 488 (65456 ∷ []) 1
    ∷ call (request 1 0 []) 488 (65463 ∷ 53519 ∷ []) 0
    ∷ call (turn) 495 [] 1
    ∷ call (request 1 0 []) 488 (44616 ∷ 30107 ∷ 12783 ∷ []) 0
    ∷ call (turn) 488 [] 1
    ∷ call (completion (cmd 2 0 1 1) []) 494 [] 0
    ∷ call (completion (cmd 2 0 1 2) []) 488 [] 0
    ∷ call (completion (cmd 2 0 1 3) []) 491 [] 0
    ∷ call (request 1 0 (238 ∷ [])) 488 (65446 ∷ 47095 ∷ []) 0
    ∷ call (turn) 488 [] 1
    ∷ call (completion (cmd 1 0 1 0) (0 ∷ [])) 488 [] 0
    ∷ call (collect) 488 [] 1
    ∷ call (turn) 488 [] 1
    ∷ call (request 1 0 []) 490 (34755 ∷ 30208 ∷ 10617 ∷ []) 0
    ∷ call (completion (cmd 1 0 1 1) (0 ∷ [])) 488 [] 0
    ∷ call (turn) 488 (25331 ∷ []) 1
    ∷ call (completion (cmd 1 0 1 3) (0 ∷ [])) 490 [] 0
    ∷ call (turn) 496 [] 1
    ∷ call (collect) 488 [] 1
    ∷ call (request 1 0 []) 488 (24120 ∷ 55964 ∷ 9634 ∷ []) 0
    ∷ call (completion (cmd 1 0 1 2) (0 ∷ [])) 488 [] 0
    ∷ call (completion (cmd 1 0 3 3) (72 ∷ [])) 488 [] 0
    ∷ call (turn) 488 (15022 ∷ 65534 ∷ 44059 ∷ 7664 ∷ 65535 ∷ 17293 ∷ 53395 ∷ 63131 ∷ []) 1
    ∷ call (turn) 488 (63503 ∷ 65534 ∷ 62109 ∷ 65532 ∷ 12722 ∷ 65535 ∷ 41912 ∷ 44469 ∷ 41202 ∷ 28410 ∷ []) 1
    ∷ call (turn) 488 [] 1
    ∷ call (turn) 488 [] 1
    ∷ call (completion (cmd 2 0 2 1) []) 488 [] 0
    ∷ call (turn) 490 [] 1
    ∷ call (request 1 2 []) 488 (32791 ∷ 25523 ∷ []) 0
    ∷ call (completion (cmd 2 0 2 0) []) 488 [] 0
    ∷ call (request 1 0 (9 ∷ [])) 488 (61039 ∷ 31735 ∷ []) 0
    ∷ call (turn) 488 [] 1
    ∷ call (completion (cmd 2 0 2 4) []) 488 [] 0
    ∷ call (request 3 0 (9 ∷ [])) 488 (65487 ∷ 19570 ∷ []) 0
    ∷ call (turn) 488 (64774 ∷ []) 1
    ∷ call (completion (cmd 2 0 2 5) []) 488 [] 0
    ∷ call (completion (cmd 2 0 2 2) []) 488 [] 0
    ∷ call (turn) 489 [] 1
    ∷ call (turn) 488 [] 1
    ∷ call (completion (cmd 2 0 2 6) []) 488 [] 0
    ∷ call (completion (cmd 2 0 2 3) []) 488 [] 0
    ∷ call (completion (cmd 2 0 2 7) []) 495 [] 0
    ∷ call (turn) 490 (64203 ∷ 866 ∷ 64581 ∷ 20150 ∷ []) 1
    ∷ call (completion (cmd 2 0 1 0) []) 493 [] 0
    ∷ call (turn) 490 [] 1
    ∷ call (turn) 488 [] 1
    ∷ [])

session9-outcomes : List Outcome
session9-outcomes =
    (out 1 0 (cmd 0 0 0 0) []
    ∷ out 2 0 (cmd 0 0 0 0) []
    ∷ out 3 0 (cmd 0 0 0 0) []
    ∷ out 2 0 (cmd 0 0 0 0) []
    ∷ out 2 0 (cmd 0 0 0 0) []
    ∷ out 0 1 (cmd 0 0 0 0) []
    ∷ out 0 2 (cmd 0 0 0 0) []
    ∷ out 0 0 (cmd 0 0 0 0) (0 ∷ [])
    ∷ out 0 5 (cmd 2 0 1 0) (0 ∷ [])
    ∷ out 0 0 (cmd 0 0 0 0) []
    ∷ out 0 0 (cmd 2 0 1 1) (0 ∷ [])
    ∷ out 0 2 (cmd 0 0 0 0) []
    ∷ out 0 0 (cmd 2 0 1 2) (0 ∷ [])
    ∷ out 4 0 (cmd 0 0 0 0) []
    ∷ out 0 0 (cmd 2 0 1 3) (0 ∷ [])
    ∷ out 0 0 (cmd 0 0 0 0) []
    ∷ out 0 0 (cmd 0 0 0 0) []
    ∷ out 0 0 (cmd 0 0 0 0) []
    ∷ out 4 0 (cmd 0 0 0 0) []
    ∷ out 0 0 (cmd 1 0 1 0) []
    ∷ out 0 0 (cmd 0 0 0 0) []
    ∷ out_found 0 0 (cmd 0 0 0 0) (0 ∷ []) (found_level 1)
    ∷ out 0 0 (cmd 1 0 1 1) []
    ∷ out 0 2 (cmd 0 0 0 0) []
    ∷ out 0 0 (cmd 0 0 0 0) []
    ∷ out 0 0 (cmd 1 0 1 3) []
    ∷ out 0 0 (cmd 0 0 0 0) []
    ∷ out 0 0 (cmd 1 0 1 2) []
    ∷ out_found 0 0 (cmd 0 0 0 0) (0 ∷ []) found_cache
    ∷ out 0 2 (cmd 0 0 0 0) []
    ∷ out 0 0 (cmd 0 0 0 0) []
    ∷ out 11 0 (cmd 0 0 0 0) []
    ∷ out 3 0 (cmd 0 0 0 0) []
    ∷ out 0 10 (cmd 2 0 2 0) (0 ∷ [])
    ∷ out 0 0 (cmd 2 0 2 1) (0 ∷ [])
    ∷ out 0 0 (cmd 2 0 2 2) (0 ∷ [])
    ∷ out 0 0 (cmd 0 0 0 0) []
    ∷ out 0 0 (cmd 2 0 2 3) (0 ∷ [])
    ∷ out 4 0 (cmd 0 0 0 0) []
    ∷ out 0 0 (cmd 0 0 0 0) []
    ∷ out 4 0 (cmd 0 0 0 0) []
    ∷ out 0 0 (cmd 2 0 2 4) (0 ∷ [])
    ∷ out 0 0 (cmd 0 0 0 0) []
    ∷ out 2 0 (cmd 0 0 0 0) []
    ∷ out 0 0 (cmd 2 0 2 5) (0 ∷ [])
    ∷ out 0 0 (cmd 0 0 0 0) []
    ∷ out 0 0 (cmd 0 0 0 0) []
    ∷ out 0 0 (cmd 2 0 2 6) (0 ∷ [])
    ∷ out 0 0 (cmd 2 0 2 7) (0 ∷ [])
    ∷ out 0 0 (cmd 0 0 0 0) []
    ∷ out 0 0 (cmd 0 0 0 0) []
    ∷ out 0 0 (cmd 0 0 0 0) []
    ∷ out 0 3 (cmd 2 0 1 0) (0 ∷ [])
    ∷ out 0 0 (cmd 0 0 0 0) []
    ∷ out 0 0 (cmd 2 0 1 1) (0 ∷ [])
    ∷ out 0 0 (cmd 2 0 1 2) (0 ∷ [])
    ∷ [])

session9 : run closed session9-calls ≡ session9-outcomes
unfolding model session9-calls session9-outcomes
session9 = refl

unfoldable pub session10-calls : List Call
session10-calls =
    (call (opening (shape 4 1 3 1 4 3)) 514 (7289 ∷ 65530 ∷ 28937 ∷ 56220 ∷ 8123 ∷ []) 0
    ∷ call (request 2 0 (97 ∷ [])) 509 (56896 ∷ 49135 ∷ 45335 ∷ []) 0
    ∷ call (collect) 509 [] 1
    ∷ call (request 1 0 []) 509 (40885 ∷ 37931 ∷ 27754 ∷ []) 0
    ∷ call (turn) 509 (20382 ∷ 39353 ∷ 20190 ∷ []) 1
    ∷ call (turn) 515 (13588 ∷ []) 1
    ∷ call (turn) 514 [] 1
    ∷ call (completion (cmd 2 0 1 1) []) 509 [] 0
    ∷ call (turn) 514 [] 1
    ∷ call (completion (cmd 2 0 1 3) []) 509 [] 0
    ∷ call (completion (cmd 2 0 1 0) []) 516 [] 0
    ∷ call (completion (cmd 2 0 1 2) []) 509 [] 0
    ∷ call (turn) 509 [] 1
    ∷ call (completion (cmd 1 0 1 1) (97 ∷ [])) 509 [] 0
    ∷ call (collect) 517 [] 1
    ∷ call (turn) 509 [] 1
    ∷ call (turn) 509 [] 1
    ∷ call (turn) 509 (52193 ∷ []) 1
    ∷ call (request 2 2 (138 ∷ [])) 509 (4142 ∷ 39714 ∷ 65344 ∷ []) 0
    ∷ call (collect) 509 [] 1
    ∷ call (completion (cmd 1 0 1 3) (0 ∷ [])) 514 [] 0
    ∷ call (collect) 509 [] 1
    ∷ call (completion (cmd 1 0 1 2) (0 ∷ [])) 509 [] 0
    ∷ call (completion (cmd 1 0 1 0) (0 ∷ [])) 509 [] 0
    ∷ call (turn) 515 [] 1
    ∷ call (collect) 509 [] 1
    ∷ call (turn) 509 (31395 ∷ 56350 ∷ 19104 ∷ 65534 ∷ 65535 ∷ 65534 ∷ 42446 ∷ []) 1
    ∷ call (completion (cmd 1 0 2 0) []) 509 [] 0
    ∷ call (completion (cmd 2 0 2 0) []) 509 [] 0
    ∷ call (turn) 509 (42458 ∷ []) 1
    ∷ call (completion (cmd 2 0 2 1) []) 517 [] 0
    ∷ call (turn) 509 [] 1
    ∷ call (turn) 511 [] 1
    ∷ call (request 2 2 (39 ∷ [])) 509 (18888 ∷ 33564 ∷ 65509 ∷ []) 0
    ∷ call (turn) 509 (44376 ∷ []) 1
    ∷ call (completion (cmd 2 0 2 4) []) 509 [] 0
    ∷ call (turn) 508 (39387 ∷ 63329 ∷ 64541 ∷ 65532 ∷ 30735 ∷ 22742 ∷ 37562 ∷ 9421 ∷ []) 1
    ∷ call (turn) 509 [] 1
    ∷ call (turn) 508 (6759 ∷ 10745 ∷ 65438 ∷ 38532 ∷ 20468 ∷ 38319 ∷ 31857 ∷ 65119 ∷ []) 1
    ∷ call (completion (cmd 2 0 2 3) []) 509 [] 0
    ∷ call (turn) 509 [] 1
    ∷ call (completion (cmd 2 0 2 6) []) 509 [] 0
    ∷ call (turn) 509 [] 1
    ∷ call (completion (cmd 2 0 2 7) []) 509 [] 0
    ∷ call (completion (cmd 2 0 2 2) []) 509 [] 0
    ∷ call (completion (cmd 2 0 2 5) []) 509 [] 0
    ∷ call (turn) 516 (56351 ∷ 40967 ∷ 53497 ∷ 50640 ∷ []) 1
    ∷ call (turn) 509 [] 1
    ∷ call (turn) 509 (39198 ∷ []) 1
    ∷ call (completion (cmd 2 0 1 2) []) 509 [] 0
    ∷ call (turn) 509 (57555 ∷ []) 1
    ∷ call (completion (cmd 2 0 1 1) []) 509 [] 0
    ∷ call (completion (cmd 2 0 1 3) []) 517 [] 0
    ∷ call (collect) 509 [] 1
    ∷ call (completion (cmd 2 0 1 0) []) 509 [] 0
    ∷ call (turn) 509 [] 1
    ∷ call (completion (cmd 1 0 1 0) (0 ∷ [])) 516 [] 0
    ∷ call (turn) 509 [] 1
    ∷ call (collect) 509 [] 0
    ∷ call (completion (cmd 1 0 2 5) (138 ∷ [])) 513 [] 0
    ∷ call (collect) 509 [] 1
    ∷ call (turn) 511 (65535 ∷ 42351 ∷ []) 1
    ∷ call (completion (cmd 1 0 0 0) []) 510 [] 0
    ∷ call (turn) 509 [] 1
    ∷ call (completion (cmd 2 0 0 0) []) 509 [] 0
    ∷ call (completion (cmd 2 0 0 1) []) 509 [] 0
    ∷ call (request 1 2 []) 509 (43485 ∷ 32330 ∷ []) 0
    ∷ call (turn) 509 (44459 ∷ []) 1
    ∷ call (turn) 516 [] 1
    ∷ call (completion (cmd 1 0 1 1) (0 ∷ [])) 509 [] 0
    ∷ call (completion (cmd 1 0 0 0) (39 ∷ [])) 509 [] 0
    ∷ call (collect) 509 [] 1
    ∷ call (turn) 509 [] 1
    ∷ call (turn) 509 [] 1
    ∷ call (completion (cmd 1 0 0 1) (0 ∷ [])) 517 [] 0
    ∷ call (request 2 0 (39 ∷ [])) 509 [] 0
    ∷ call (turn) 509 (56203 ∷ []) 1
    ∷ call (turn) 509 [] 1
    ∷ call (completion (cmd 1 0 1 3) (0 ∷ [])) 509 [] 0
    ∷ call (turn) 516 [] 1
    ∷ call (completion (cmd 1 0 2 1) (97 ∷ [])) 509 [] 0
    ∷ call (collect) 509 [] 1
    ∷ call (completion (cmd 1 0 1 2) (0 ∷ [])) 511 [] 0
    ∷ call (request 2 2 (201 ∷ [])) 509 (3951 ∷ 65533 ∷ 65214 ∷ []) 0
    ∷ [])

session10-outcomes : List Outcome
session10-outcomes =
    (out 0 4 (cmd 0 0 0 0) []
    ∷ out 0 2 (cmd 0 0 0 0) []
    ∷ out 0 0 (cmd 0 0 0 0) (0 ∷ [])
    ∷ out 0 2 (cmd 0 0 0 0) []
    ∷ out 0 3 (cmd 2 0 1 0) (0 ∷ [])
    ∷ out 0 0 (cmd 2 0 1 1) (97 ∷ [])
    ∷ out 0 0 (cmd 2 0 1 2) (0 ∷ [])
    ∷ out 0 0 (cmd 0 0 0 0) []
    ∷ out 0 0 (cmd 2 0 1 3) (0 ∷ [])
    ∷ out 0 0 (cmd 0 0 0 0) []
    ∷ out 0 0 (cmd 0 0 0 0) []
    ∷ out 0 0 (cmd 0 0 0 0) []
    ∷ out 0 0 (cmd 1 0 1 1) []
    ∷ out 0 0 (cmd 0 0 0 0) []
    ∷ out_found 0 0 (cmd 0 0 0 0) (97 ∷ []) (found_level 1)
    ∷ out 0 0 (cmd 1 0 1 0) []
    ∷ out 0 0 (cmd 1 0 1 2) []
    ∷ out 0 0 (cmd 1 0 1 3) []
    ∷ out 0 2 (cmd 0 0 0 0) []
    ∷ out 14 0 (cmd 0 0 0 0) []
    ∷ out 0 0 (cmd 0 0 0 0) []
    ∷ out 14 0 (cmd 0 0 0 0) []
    ∷ out 0 0 (cmd 0 0 0 0) []
    ∷ out 0 0 (cmd 0 0 0 0) []
    ∷ out 10 0 (cmd 0 0 0 0) []
    ∷ out 0 0 (cmd 0 0 0 0) (0 ∷ [])
    ∷ out 0 7 (cmd 2 0 2 0) (0 ∷ [])
    ∷ out 11 0 (cmd 0 0 0 0) []
    ∷ out 0 0 (cmd 0 0 0 0) []
    ∷ out 0 0 (cmd 2 0 2 1) (97 ∷ [])
    ∷ out 0 0 (cmd 0 0 0 0) []
    ∷ out 0 0 (cmd 2 0 2 2) (0 ∷ [])
    ∷ out 0 0 (cmd 2 0 2 3) (0 ∷ [])
    ∷ out 0 2 (cmd 0 0 0 0) []
    ∷ out 0 0 (cmd 2 0 2 4) (0 ∷ [])
    ∷ out 0 0 (cmd 0 0 0 0) []
    ∷ out 2 0 (cmd 0 0 0 0) []
    ∷ out 0 0 (cmd 2 0 2 5) (138 ∷ [])
    ∷ out 2 0 (cmd 0 0 0 0) []
    ∷ out 0 0 (cmd 0 0 0 0) []
    ∷ out 0 0 (cmd 2 0 2 6) (0 ∷ [])
    ∷ out 0 0 (cmd 0 0 0 0) []
    ∷ out 0 0 (cmd 2 0 2 7) (0 ∷ [])
    ∷ out 0 0 (cmd 0 0 0 0) []
    ∷ out 0 0 (cmd 0 0 0 0) []
    ∷ out 0 0 (cmd 0 0 0 0) []
    ∷ out 0 3 (cmd 2 0 1 0) (0 ∷ [])
    ∷ out 0 0 (cmd 2 0 1 1) (0 ∷ [])
    ∷ out 0 0 (cmd 2 0 1 2) (0 ∷ [])
    ∷ out 0 0 (cmd 0 0 0 0) []
    ∷ out 0 0 (cmd 2 0 1 3) (0 ∷ [])
    ∷ out 0 0 (cmd 0 0 0 0) []
    ∷ out 0 0 (cmd 0 0 0 0) []
    ∷ out 14 0 (cmd 0 0 0 0) []
    ∷ out 0 0 (cmd 0 0 0 0) []
    ∷ out 0 0 (cmd 1 0 1 0) []
    ∷ out 0 0 (cmd 0 0 0 0) []
    ∷ out 0 0 (cmd 1 0 2 5) []
    ∷ out 14 0 (cmd 0 0 0 0) []
    ∷ out 0 0 (cmd 0 0 0 0) []
    ∷ out_found 0 0 (cmd 0 0 0 0) (138 ∷ []) (found_level 2)
    ∷ out 0 1 (cmd 2 0 0 0) (39 ∷ [])
    ∷ out 11 0 (cmd 0 0 0 0) []
    ∷ out 0 0 (cmd 2 0 0 1) (0 ∷ [])
    ∷ out 0 0 (cmd 0 0 0 0) []
    ∷ out 0 0 (cmd 0 0 0 0) []
    ∷ out 0 2 (cmd 0 0 0 0) []
    ∷ out 0 0 (cmd 1 0 0 0) []
    ∷ out 0 0 (cmd 1 0 1 1) []
    ∷ out 0 0 (cmd 0 0 0 0) []
    ∷ out 0 0 (cmd 0 0 0 0) []
    ∷ out 14 0 (cmd 0 0 0 0) []
    ∷ out 0 0 (cmd 1 0 2 1) []
    ∷ out 0 0 (cmd 1 0 0 1) []
    ∷ out 0 0 (cmd 0 0 0 0) []
    ∷ out 4 0 (cmd 0 0 0 0) []
    ∷ out 0 0 (cmd 1 0 1 2) []
    ∷ out 0 0 (cmd 1 0 1 3) []
    ∷ out 0 0 (cmd 0 0 0 0) []
    ∷ out 0 0 (cmd 1 0 2 0) []
    ∷ out 0 0 (cmd 0 0 0 0) []
    ∷ out_found 0 0 (cmd 0 0 0 0) (39 ∷ []) (found_level 0)
    ∷ out 0 0 (cmd 0 0 0 0) []
    ∷ out 0 2 (cmd 0 0 0 0) []
    ∷ [])

session10 : run closed session10-calls ≡ session10-outcomes
unfolding model session10-calls session10-outcomes
session10 = refl
