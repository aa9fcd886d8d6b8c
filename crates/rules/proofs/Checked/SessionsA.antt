-- Random sessions, with the outcomes of an independent implementation. Written by plain/src/bin/sessions.rs.
use Rattle.std.specs.Prelude.{◌≡◌, refl, List, [], ◌∷◌}
use Rattle.rules.specs.State.{cmd, closed, found_cache, found_level}
use Rattle.rules.specs.Questions.{opening, request, turn, completion, collect, Call}
use Rattle.rules.specs.Run.{Outcome, run}
use Rattle.rules.specs.Unfold.{model, shape, call, out, out_found}

unfoldable pub session0-calls : List Call
session0-calls =
    (call (opening (shape 1 1 1 1 2 1)) 416 (17782 ∷ []) 0
    ∷ call (request 1 0 []) 416 (65461 ∷ 41340 ∷ 7175 ∷ []) 0
    ∷ call (opening (shape 1 1 1 1 1 1)) 416 [] 0
    ∷ call (opening (shape 1 1 1 1 1 1)) 415 (35931 ∷ []) 1
    ∷ call (collect) 416 [] 1
    ∷ call (opening (shape 1 1 1 1 1 1)) 416 (21943 ∷ []) 0
    ∷ call (request 2 0 (233 ∷ [])) 416 (21206 ∷ 19282 ∷ 22983 ∷ []) 0
    ∷ call (turn) 416 [] 1
    ∷ call (collect) 416 [] 1
    ∷ call (request 1 1 []) 416 (25311 ∷ 43931 ∷ []) 0
    ∷ call (turn) 416 (65535 ∷ 40464 ∷ []) 1
    ∷ call (request 1 0 []) 416 (6671 ∷ 58190 ∷ 10087 ∷ []) 0
    ∷ call (completion (cmd 2 0 0 0) []) 416 [] 0
    ∷ call (turn) 416 [] 1
    ∷ call (completion (cmd 2 0 0 1) []) 416 [] 0
    ∷ call (turn) 416 [] 1
    ∷ call (collect) 419 [] 1
    ∷ call (completion (cmd 1 0 0 0) (233 ∷ [])) 416 [] 0
    ∷ call (collect) 416 [] 1
    ∷ call (turn) 416 [] 1
    ∷ call (request 1 0 []) 416 (51387 ∷ 65101 ∷ []) 0
    ∷ call (completion (cmd 1 0 0 1) (0 ∷ [])) 416 [] 0
    ∷ call (turn) 418 [] 1
    ∷ call (turn) 421 [] 1
    ∷ call (turn) 422 [] 1
    ∷ call (turn) 416 (65470 ∷ []) 1
    ∷ call (completion (cmd 2 0 0 0) []) 416 [] 0
    ∷ call (turn) 416 (65535 ∷ []) 1
    ∷ call (completion (cmd 2 0 0 1) []) 416 [] 0
    ∷ call (turn) 416 [] 1
    ∷ call (completion (cmd 1 0 0 0) (0 ∷ [])) 416 [] 0
    ∷ call (turn) 416 [] 1
    ∷ call (completion (cmd 0 0 0 1) []) 423 [] 0
    ∷ call (completion (cmd 1 0 0 1) (233 ∷ [])) 421 [] 0
    ∷ call (turn) 416 (972 ∷ 65532 ∷ []) 1
    ∷ call (turn) 415 (18954 ∷ 26123 ∷ 20172 ∷ 27323 ∷ 1726 ∷ 21596 ∷ 65527 ∷ 65247 ∷ []) 1
    ∷ call (completion (cmd 2 0 0 0) []) 416 [] 0
    ∷ call (turn) 420 [] 1
    ∷ call (turn) 423 [] 1
    ∷ call (completion (cmd 2 0 0 1) []) 416 [] 0
    ∷ call (turn) 416 [] 1
    ∷ call (completion (cmd 1 0 0 1) (233 ∷ [])) 416 [] 0
    ∷ call (completion (cmd 2 0 1 1) (99 ∷ [])) 424 [] 0
    ∷ call (request 2 0 (131 ∷ [])) 416 (11097 ∷ 8069 ∷ []) 0
    ∷ [])

session0-outcomes : List Outcome
session0-outcomes =
    (out 1 0 (cmd 0 0 0 0) []
    ∷ out 2 0 (cmd 0 0 0 0) []
    ∷ out 3 0 (cmd 0 0 0 0) []
    ∷ out 2 0 (cmd 0 0 0 0) []
    ∷ out 2 0 (cmd 0 0 0 0) []
    ∷ out 0 1 (cmd 0 0 0 0) []
    ∷ out 0 2 (cmd 0 0 0 0) []
    ∷ out 10 0 (cmd 0 0 0 0) []
    ∷ out 0 0 (cmd 0 0 0 0) (0 ∷ [])
    ∷ out 5 0 (cmd 0 0 0 0) []
    ∷ out 0 1 (cmd 2 0 0 0) (233 ∷ [])
    ∷ out 0 2 (cmd 0 0 0 0) []
    ∷ out 0 0 (cmd 0 0 0 0) []
    ∷ out 0 0 (cmd 2 0 0 1) (0 ∷ [])
    ∷ out 0 0 (cmd 0 0 0 0) []
    ∷ out 0 0 (cmd 1 0 0 0) []
    ∷ out 14 0 (cmd 0 0 0 0) []
    ∷ out 0 0 (cmd 0 0 0 0) []
    ∷ out_found 0 0 (cmd 0 0 0 0) (233 ∷ []) (found_level 0)
    ∷ out 0 0 (cmd 1 0 0 1) []
    ∷ out 0 2 (cmd 0 0 0 0) []
    ∷ out 0 0 (cmd 0 0 0 0) []
    ∷ out 3 0 (cmd 0 0 0 0) []
    ∷ out 3 0 (cmd 0 0 0 0) []
    ∷ out 3 0 (cmd 0 0 0 0) []
    ∷ out 0 1 (cmd 2 0 0 0) (0 ∷ [])
    ∷ out 0 0 (cmd 0 0 0 0) []
    ∷ out 0 0 (cmd 2 0 0 1) (233 ∷ [])
    ∷ out 0 0 (cmd 0 0 0 0) []
    ∷ out 0 0 (cmd 1 0 0 0) []
    ∷ out 0 0 (cmd 0 0 0 0) []
    ∷ out 0 0 (cmd 1 0 0 1) []
    ∷ out 2 0 (cmd 0 0 0 0) []
    ∷ out 0 0 (cmd 0 0 0 0) []
    ∷ out 0 1 (cmd 2 0 0 0) (0 ∷ [])
    ∷ out 2 0 (cmd 0 0 0 0) []
    ∷ out 0 0 (cmd 0 0 0 0) []
    ∷ out 0 0 (cmd 2 0 0 1) (233 ∷ [])
    ∷ out 9 0 (cmd 0 0 0 0) []
    ∷ out 0 0 (cmd 0 0 0 0) []
    ∷ out 0 0 (cmd 1 0 0 1) []
    ∷ out 0 0 (cmd 0 0 0 0) []
    ∷ out 11 0 (cmd 0 0 0 0) []
    ∷ out 4 0 (cmd 0 0 0 0) []
    ∷ [])

session0 : run closed session0-calls ≡ session0-outcomes
unfolding model session0-calls session0-outcomes
session0 = refl

unfoldable pub session1-calls : List Call
session1-calls =
    (call (opening (shape 2 2 1 2 1 2)) 450 (39057 ∷ 36935 ∷ 65535 ∷ []) 0
    ∷ call (request 2 0 (188 ∷ 193 ∷ [])) 457 (25459 ∷ 64493 ∷ []) 0
    ∷ call (collect) 452 [] 2
    ∷ call (turn) 450 (34898 ∷ []) 2
    ∷ call (request 2 1 (156 ∷ 97 ∷ [])) 450 (15487 ∷ 2488 ∷ []) 0
    ∷ call (completion (cmd 2 1 0 0) []) 458 [] 0
    ∷ call (turn) 450 [] 2
    ∷ call (completion (cmd 2 1 0 1) []) 450 [] 0
    ∷ call (turn) 450 [] 2
    ∷ call (turn) 451 [] 2
    ∷ call (completion (cmd 0 1 0 1) []) 450 [] 0
    ∷ call (completion (cmd 1 1 0 0) (0 ∷ 0 ∷ [])) 450 [] 0
    ∷ call (collect) 451 [] 2
    ∷ call (completion (cmd 1 1 0 1) (188 ∷ 193 ∷ [])) 450 [] 0
    ∷ call (collect) 450 [] 2
    ∷ call (request 1 0 (230 ∷ [])) 450 (49069 ∷ 51563 ∷ []) 0
    ∷ call (request 1 1 []) 450 (4496 ∷ 49994 ∷ 1006 ∷ []) 0
    ∷ call (turn) 450 (56836 ∷ 18823 ∷ []) 2
    ∷ call (turn) 457 [] 2
    ∷ call (completion (cmd 2 1 0 0) []) 450 [] 0
    ∷ call (completion (cmd 2 1 0 1) []) 455 [] 0
    ∷ call (turn) 457 [] 2
    ∷ call (turn) 450 (58951 ∷ []) 2
    ∷ call (completion (cmd 1 1 0 1) (188 ∷ 193 ∷ [])) 450 [] 0
    ∷ call (collect) 450 [] 2
    ∷ call (request 2 0 (191 ∷ 36 ∷ [])) 450 (46085 ∷ 27330 ∷ 18777 ∷ []) 0
    ∷ call (completion (cmd 1 1 0 0) (0 ∷ 0 ∷ [])) 450 [] 0
    ∷ call (turn) 450 (2131 ∷ 63090 ∷ []) 2
    ∷ call (turn) 450 [] 2
    ∷ call (completion (cmd 2 1 0 0) []) 451 [] 0
    ∷ call (request 2 1 (51 ∷ 6 ∷ [])) 450 (21065 ∷ 8656 ∷ []) 0
    ∷ call (completion (cmd 2 1 0 1) []) 458 [] 0
    ∷ call (turn) 450 (63996 ∷ []) 2
    ∷ call (opening (shape 3 1 3 1 4 2)) 502 (15332 ∷ 14969 ∷ 2424 ∷ []) 0
    ∷ call (request 2 1 (250 ∷ [])) 502 (40078 ∷ 7133 ∷ 57766 ∷ []) 0
    ∷ call (opening (shape 3 1 3 1 3 2)) 502 (65470 ∷ 12081 ∷ []) 0
    ∷ call (opening (shape 3 1 3 1 3 2)) 501 (16967 ∷ 24866 ∷ 65486 ∷ []) 1
    ∷ call (collect) 509 [] 1
    ∷ call (opening (shape 3 1 3 1 3 2)) 510 (65532 ∷ 19043 ∷ 29735 ∷ []) 0
    ∷ call (request 1 0 []) 507 (65528 ∷ 65523 ∷ []) 0
    ∷ call (collect) 510 [] 1
    ∷ call (turn) 502 (58927 ∷ 65534 ∷ []) 1
    ∷ call (request 2 2 (143 ∷ [])) 502 (52068 ∷ 37105 ∷ 14948 ∷ []) 0
    ∷ call (turn) 510 (49180 ∷ 65535 ∷ 65535 ∷ 62575 ∷ 5444 ∷ 13115 ∷ []) 1
    ∷ call (request 1 0 []) 502 [] 0
    ∷ call (completion (cmd 2 0 1 0) []) 502 [] 0
    ∷ call (turn) 502 (22879 ∷ []) 1
    ∷ call (turn) 509 (65137 ∷ []) 1
    ∷ call (completion (cmd 2 0 1 2) []) 502 [] 0
    ∷ call (turn) 502 (65424 ∷ []) 1
    ∷ call (completion (cmd 2 0 1 3) []) 505 [] 0
    ∷ call (completion (cmd 2 0 1 1) []) 502 [] 0
    ∷ call (turn) 502 (65532 ∷ []) 1
    ∷ call (completion (cmd 1 0 1 3) (0 ∷ [])) 502 [] 0
    ∷ call (collect) 502 [] 1
    ∷ call (turn) 502 (36976 ∷ []) 1
    ∷ call (turn) 502 (34786 ∷ []) 1
    ∷ call (collect) 502 [] 0
    ∷ call (completion (cmd 1 0 1 0) (54 ∷ 90 ∷ 46 ∷ [])) 502 [] 0
    ∷ call (request 2 0 (102 ∷ [])) 502 (4625 ∷ 65520 ∷ []) 0
    ∷ call (completion (cmd 1 0 1 1) (0 ∷ [])) 508 [] 0
    ∷ call (completion (cmd 1 0 1 0) (0 ∷ [])) 506 [] 0
    ∷ call (turn) 502 [] 1
    ∷ call (completion (cmd 1 0 1 2) (0 ∷ [])) 502 [] 0
    ∷ call (collect) 502 [] 0
    ∷ call (collect) 502 [] 1
    ∷ [])

session1-outcomes : List Outcome
session1-outcomes =
    (out 0 2 (cmd 0 0 0 0) []
    ∷ out 0 2 (cmd 0 0 0 0) []
    ∷ out 0 0 (cmd 0 0 0 0) (0 ∷ 0 ∷ [])
    ∷ out 0 1 (cmd 2 1 0 0) (0 ∷ 0 ∷ [])
    ∷ out 0 2 (cmd 0 0 0 0) []
    ∷ out 0 0 (cmd 0 0 0 0) []
    ∷ out 0 0 (cmd 2 1 0 1) (188 ∷ 193 ∷ [])
    ∷ out 0 0 (cmd 0 0 0 0) []
    ∷ out 0 0 (cmd 1 1 0 1) []
    ∷ out 0 0 (cmd 1 1 0 0) []
    ∷ out 2 0 (cmd 0 0 0 0) []
    ∷ out 0 0 (cmd 0 0 0 0) []
    ∷ out 14 0 (cmd 0 0 0 0) []
    ∷ out 0 0 (cmd 0 0 0 0) []
    ∷ out 0 0 (cmd 0 0 0 0) (0 ∷ 0 ∷ [])
    ∷ out 6 0 (cmd 0 0 0 0) []
    ∷ out 0 2 (cmd 0 0 0 0) []
    ∷ out 0 1 (cmd 2 1 0 0) (0 ∷ 0 ∷ [])
    ∷ out 0 0 (cmd 2 1 0 1) (188 ∷ 193 ∷ [])
    ∷ out 0 0 (cmd 0 0 0 0) []
    ∷ out 0 0 (cmd 0 0 0 0) []
    ∷ out 0 0 (cmd 1 1 0 1) []
    ∷ out 0 0 (cmd 1 1 0 0) []
    ∷ out 0 0 (cmd 0 0 0 0) []
    ∷ out_found 0 0 (cmd 0 0 0 0) (156 ∷ 97 ∷ []) found_cache
    ∷ out 8 0 (cmd 0 0 0 0) []
    ∷ out 0 0 (cmd 0 0 0 0) []
    ∷ out 0 1 (cmd 2 1 0 0) (188 ∷ 193 ∷ [])
    ∷ out 0 0 (cmd 2 1 0 1) (0 ∷ 0 ∷ [])
    ∷ out 0 0 (cmd 0 0 0 0) []
    ∷ out 0 2 (cmd 0 0 0 0) []
    ∷ out 0 0 (cmd 0 0 0 0) []
    ∷ out 0 1 (cmd 2 0 0 0) (0 ∷ 0 ∷ [])
    ∷ out 1 0 (cmd 0 0 0 0) []
    ∷ out 2 0 (cmd 0 0 0 0) []
    ∷ out 3 0 (cmd 0 0 0 0) []
    ∷ out 2 0 (cmd 0 0 0 0) []
    ∷ out 2 0 (cmd 0 0 0 0) []
    ∷ out 0 3 (cmd 0 0 0 0) []
    ∷ out 0 2 (cmd 0 0 0 0) []
    ∷ out 0 0 (cmd 0 0 0 0) (0 ∷ [])
    ∷ out 3 0 (cmd 0 0 0 0) []
    ∷ out 0 2 (cmd 0 0 0 0) []
    ∷ out 0 5 (cmd 2 0 1 0) (0 ∷ [])
    ∷ out 4 0 (cmd 0 0 0 0) []
    ∷ out 0 0 (cmd 0 0 0 0) []
    ∷ out 0 0 (cmd 2 0 1 1) (0 ∷ [])
    ∷ out 0 0 (cmd 2 0 1 2) (0 ∷ [])
    ∷ out 0 0 (cmd 0 0 0 0) []
    ∷ out 0 0 (cmd 2 0 1 3) (0 ∷ [])
    ∷ out 0 0 (cmd 0 0 0 0) []
    ∷ out 0 0 (cmd 0 0 0 0) []
    ∷ out 0 0 (cmd 1 0 1 3) []
    ∷ out 0 0 (cmd 0 0 0 0) []
    ∷ out 0 0 (cmd 0 0 0 0) (0 ∷ [])
    ∷ out 0 0 (cmd 1 0 1 0) []
    ∷ out 0 0 (cmd 1 0 1 1) []
    ∷ out 13 0 (cmd 0 0 0 0) []
    ∷ out 12 0 (cmd 0 0 0 0) []
    ∷ out 0 2 (cmd 0 0 0 0) []
    ∷ out 0 0 (cmd 0 0 0 0) []
    ∷ out 0 0 (cmd 0 0 0 0) []
    ∷ out 0 0 (cmd 1 0 1 2) []
    ∷ out 0 0 (cmd 0 0 0 0) []
    ∷ out 15 0 (cmd 0 0 0 0) []
    ∷ out_found 0 0 (cmd 0 0 0 0) (0 ∷ []) (found_level 1)
    ∷ [])

session1 : run closed session1-calls ≡ session1-outcomes
unfolding model session1-calls session1-outcomes
session1 = refl

unfoldable pub session2-calls : List Call
session2-calls =
    (call (opening (shape 2 1 2 1 1 2)) 447 (65073 ∷ 49304 ∷ []) 0
    ∷ call (request 2 0 (66 ∷ [])) 447 (55530 ∷ 45327 ∷ 8558 ∷ []) 0
    ∷ call (completion (cmd 1 1 1 0) (133 ∷ [])) 449 [] 0
    ∷ call (collect) 447 [] 1
    ∷ call (request 2 0 (83 ∷ [])) 453 (65534 ∷ 65477 ∷ []) 0
    ∷ call (turn) 455 (4220 ∷ 58241 ∷ 65535 ∷ []) 1
    ∷ call (turn) 447 [] 1
    ∷ call (completion (cmd 2 0 1 1) []) 447 [] 0
    ∷ call (completion (cmd 2 0 1 0) []) 447 [] 0
    ∷ call (turn) 447 [] 1
    ∷ call (completion (cmd 2 0 1 2) []) 447 [] 0
    ∷ call (turn) 447 [] 1
    ∷ call (completion (cmd 2 0 1 3) []) 447 [] 0
    ∷ call (turn) 452 (61652 ∷ []) 1
    ∷ call (collect) 447 [] 1
    ∷ call (completion (cmd 1 0 1 3) (66 ∷ [])) 447 [] 0
    ∷ call (collect) 447 [] 1
    ∷ call (turn) 447 (32061 ∷ 63806 ∷ []) 1
    ∷ call (request 1 1 []) 447 (65518 ∷ 65535 ∷ 2467 ∷ []) 0
    ∷ call (turn) 446 (65532 ∷ 61190 ∷ 65521 ∷ 61127 ∷ 1035 ∷ 38422 ∷ 65535 ∷ 51661 ∷ []) 1
    ∷ call (turn) 452 (42436 ∷ []) 1
    ∷ call (completion (cmd 2 0 0 0) []) 447 [] 0
    ∷ call (request 2 0 (130 ∷ [])) 453 (7766 ∷ []) 0
    ∷ call (completion (cmd 2 0 0 1) []) 447 [] 0
    ∷ call (turn) 447 [] 1
    ∷ call (turn) 447 [] 1
    ∷ call (turn) 454 (65533 ∷ 29736 ∷ 42599 ∷ 11211 ∷ 55494 ∷ 32457 ∷ 26070 ∷ []) 1
    ∷ call (completion (cmd 1 0 1 1) (0 ∷ [])) 452 [] 0
    ∷ call (turn) 447 [] 1
    ∷ call (completion (cmd 1 0 0 0) (253 ∷ [])) 447 [] 0
    ∷ call (collect) 447 [] 0
    ∷ call (completion (cmd 1 0 0 1) (0 ∷ [])) 447 [] 0
    ∷ call (turn) 447 (49326 ∷ []) 1
    ∷ call (request 1 1 []) 447 (52097 ∷ 21571 ∷ []) 0
    ∷ call (collect) 447 [] 1
    ∷ call (turn) 447 [] 1
    ∷ call (request 1 0 []) 447 (46188 ∷ 65402 ∷ []) 0
    ∷ call (completion (cmd 1 0 1 2) (0 ∷ [])) 447 [] 0
    ∷ call (completion (cmd 1 0 1 0) (0 ∷ [])) 447 [] 0
    ∷ call (request 1 1 []) 447 (219 ∷ 65531 ∷ 2482 ∷ []) 0
    ∷ call (completion (cmd 1 0 1 4) (220 ∷ [])) 447 [] 0
    ∷ call (turn) 447 (44532 ∷ 32384 ∷ 40640 ∷ []) 1
    ∷ call (completion (cmd 2 0 1 0) []) 447 [] 0
    ∷ call (turn) 447 (65533 ∷ []) 1
    ∷ call (turn) 447 [] 1
    ∷ call (completion (cmd 2 0 1 2) []) 447 [] 0
    ∷ call (turn) 454 [] 1
    ∷ call (completion (cmd 2 0 1 3) []) 447 [] 0
    ∷ call (completion (cmd 2 0 1 1) []) 447 [] 0
    ∷ call (turn) 447 (25206 ∷ 43682 ∷ []) 1
    ∷ call (turn) 447 [] 1
    ∷ call (completion (cmd 2 0 0 0) []) 447 [] 0
    ∷ call (completion (cmd 2 0 0 1) []) 447 [] 0
    ∷ call (turn) 447 [] 1
    ∷ call (turn) 447 (51979 ∷ []) 1
    ∷ call (completion (cmd 1 0 1 3) (0 ∷ [])) 447 [] 0
    ∷ call (collect) 447 [] 1
    ∷ call (completion (cmd 1 0 0 1) (0 ∷ [])) 447 [] 0
    ∷ call (collect) 447 [] 1
    ∷ call (turn) 447 [] 1
    ∷ [])

session2-outcomes : List Outcome
session2-outcomes =
    (out 0 2 (cmd 0 0 0 0) []
    ∷ out 0 2 (cmd 0 0 0 0) []
    ∷ out 11 0 (cmd 0 0 0 0) []
    ∷ out 0 0 (cmd 0 0 0 0) (0 ∷ [])
    ∷ out 0 2 (cmd 0 0 0 0) []
    ∷ out 0 3 (cmd 2 0 1 0) (0 ∷ [])
    ∷ out 0 0 (cmd 2 0 1 1) (0 ∷ [])
    ∷ out 0 0 (cmd 0 0 0 0) []
    ∷ out 0 0 (cmd 0 0 0 0) []
    ∷ out 0 0 (cmd 2 0 1 2) (0 ∷ [])
    ∷ out 0 0 (cmd 0 0 0 0) []
    ∷ out 0 0 (cmd 2 0 1 3) (66 ∷ [])
    ∷ out 0 0 (cmd 0 0 0 0) []
    ∷ out 0 0 (cmd 1 0 1 3) []
    ∷ out 14 0 (cmd 0 0 0 0) []
    ∷ out 0 0 (cmd 0 0 0 0) []
    ∷ out_found 0 0 (cmd 0 0 0 0) (66 ∷ []) (found_level 1)
    ∷ out 0 1 (cmd 2 0 0 0) (83 ∷ [])
    ∷ out 0 2 (cmd 0 0 0 0) []
    ∷ out 2 0 (cmd 0 0 0 0) []
    ∷ out 0 0 (cmd 2 0 0 1) (0 ∷ [])
    ∷ out 0 0 (cmd 0 0 0 0) []
    ∷ out 4 0 (cmd 0 0 0 0) []
    ∷ out 0 0 (cmd 0 0 0 0) []
    ∷ out 0 0 (cmd 1 0 0 0) []
    ∷ out 0 0 (cmd 1 0 1 1) []
    ∷ out 9 0 (cmd 0 0 0 0) []
    ∷ out 0 0 (cmd 0 0 0 0) []
    ∷ out 0 0 (cmd 1 0 0 1) []
    ∷ out 0 0 (cmd 0 0 0 0) []
    ∷ out 15 0 (cmd 0 0 0 0) []
    ∷ out 0 0 (cmd 0 0 0 0) []
    ∷ out 0 0 (cmd 1 0 1 0) []
    ∷ out 4 0 (cmd 0 0 0 0) []
    ∷ out 0 0 (cmd 0 0 0 0) (0 ∷ [])
    ∷ out 0 0 (cmd 1 0 1 2) []
    ∷ out 8 0 (cmd 0 0 0 0) []
    ∷ out 0 0 (cmd 0 0 0 0) []
    ∷ out 0 0 (cmd 0 0 0 0) []
    ∷ out 0 2 (cmd 0 0 0 0) []
    ∷ out 11 0 (cmd 0 0 0 0) []
    ∷ out 0 3 (cmd 2 0 1 0) (0 ∷ [])
    ∷ out 0 0 (cmd 0 0 0 0) []
    ∷ out 0 0 (cmd 2 0 1 1) (253 ∷ [])
    ∷ out 0 0 (cmd 2 0 1 2) (0 ∷ [])
    ∷ out 0 0 (cmd 0 0 0 0) []
    ∷ out 0 0 (cmd 2 0 1 3) (0 ∷ [])
    ∷ out 0 0 (cmd 0 0 0 0) []
    ∷ out 0 0 (cmd 0 0 0 0) []
    ∷ out 0 1 (cmd 2 0 0 0) (0 ∷ [])
    ∷ out 0 0 (cmd 2 0 0 1) (0 ∷ [])
    ∷ out 0 0 (cmd 0 0 0 0) []
    ∷ out 0 0 (cmd 0 0 0 0) []
    ∷ out 0 0 (cmd 1 0 0 1) []
    ∷ out 0 0 (cmd 1 0 1 3) []
    ∷ out 0 0 (cmd 0 0 0 0) []
    ∷ out 14 0 (cmd 0 0 0 0) []
    ∷ out 0 0 (cmd 0 0 0 0) []
    ∷ out_found 0 0 (cmd 0 0 0 0) (0 ∷ []) (found_level 1)
    ∷ out 0 0 (cmd 1 0 0 0) []
    ∷ [])

session2 : run closed session2-calls ≡ session2-outcomes
unfolding model session2-calls session2-outcomes
session2 = refl
