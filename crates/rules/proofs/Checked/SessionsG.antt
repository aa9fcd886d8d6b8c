-- Random sessions, with the outcomes of an independent implementation. Written by plain/src/bin/sessions.rs.
use Rattle.std.specs.Prelude.{◌≡◌, refl, List, [], ◌∷◌}
use Rattle.rules.specs.State.{cmd, closed, found_cache, found_level}
use Rattle.rules.specs.Questions.{opening, request, turn, completion, collect, Call}
use Rattle.rules.specs.Run.{Outcome, run}
use Rattle.rules.specs.Unfold.{model, shape, call, out, out_found}

unfoldable pub session13-calls : List Call
session13-calls =
    (call (opening (shape 4 2 2 1 4 2)) 515 (53737 ∷ 34464 ∷ 65533 ∷ 9549 ∷ 65485 ∷ []) 0
    ∷ call (request 2 2 (30 ∷ [])) 509 (63536 ∷ 42829 ∷ []) 0
    ∷ call (collect) 509 [] 1
    ∷ call (collect) 513 [] 1
    ∷ call (request 0 3 (121 ∷ [])) 509 (50958 ∷ 4022 ∷ []) 0
    ∷ call (turn) 510 (61524 ∷ 65535 ∷ 4485 ∷ []) 1
    ∷ call (request 2 1 (66 ∷ [])) 510 (29194 ∷ 16565 ∷ []) 0
    ∷ call (collect) 509 [] 1
    ∷ call (request 2 3 (184 ∷ [])) 509 (16221 ∷ 28139 ∷ []) 0
    ∷ call (turn) 509 (24681 ∷ 7677 ∷ 46170 ∷ 37519 ∷ 32658 ∷ 48644 ∷ 62939 ∷ []) 1
    ∷ call (completion (cmd 2 1 1 0) []) 509 [] 0
    ∷ call (turn) 509 [] 1
    ∷ call (turn) 516 (22908 ∷ 65531 ∷ 13357 ∷ 65535 ∷ 11202 ∷ 30603 ∷ 65534 ∷ []) 1
    ∷ call (completion (cmd 2 1 1 1) []) 515 [] 0
    ∷ call (completion (cmd 2 1 1 2) []) 509 [] 0
    ∷ call (turn) 509 (27829 ∷ []) 1
    ∷ call (turn) 514 [] 1
    ∷ call (completion (cmd 2 1 1 3) []) 509 [] 0
    ∷ call (completion (cmd 2 1 0 0) []) 509 [] 0
    ∷ call (turn) 509 [] 1
    ∷ call (completion (cmd 2 1 0 1) []) 509 [] 0
    ∷ call (turn) 509 [] 1
    ∷ call (collect) 509 [] 1
    ∷ call (turn) 513 (47220 ∷ []) 1
    ∷ call (completion (cmd 1 1 1 3) (0 ∷ [])) 509 [] 0
    ∷ call (turn) 509 (49679 ∷ 34003 ∷ 44395 ∷ 32306 ∷ 64048 ∷ 51210 ∷ 65494 ∷ []) 1
    ∷ call (completion (cmd 2 0 0 0) []) 509 [] 0
    ∷ call (completion (cmd 1 1 0 0) (0 ∷ [])) 509 [] 0
    ∷ call (turn) 510 [] 1
    ∷ call (completion (cmd 2 0 0 1) []) 509 [] 0
    ∷ call (collect) 509 [] 1
    ∷ call (turn) 509 [] 1
    ∷ call (turn) 509 (18127 ∷ []) 1
    ∷ call (request 2 1 (126 ∷ [])) 517 (26869 ∷ 63712 ∷ []) 0
    ∷ call (request 2 2 (43 ∷ [])) 509 (65534 ∷ 11221 ∷ 26248 ∷ []) 0
    ∷ call (completion (cmd 1 1 0 1) (0 ∷ [])) 509 [] 0
    ∷ call (collect) 509 [] 0
    ∷ call (request 2 1 (126 ∷ [])) 509 (23767 ∷ 65534 ∷ []) 0
    ∷ call (turn) 509 (65497 ∷ []) 1
    ∷ call (completion (cmd 1 1 1 0) (0 ∷ [])) 509 [] 0
    ∷ call (completion (cmd 1 0 0 1) (0 ∷ [])) 509 [] 0
    ∷ call (turn) 509 [] 1
    ∷ call (collect) 509 [] 1
    ∷ call (completion (cmd 1 1 1 1) (0 ∷ [])) 509 [] 0
    ∷ call (request 1 0 (184 ∷ [])) 509 (16413 ∷ 18299 ∷ []) 0
    ∷ call (request 1 0 []) 513 (65534 ∷ 65301 ∷ 13743 ∷ []) 0
    ∷ call (completion (cmd 2 2 2 4) (131 ∷ [])) 509 [] 0
    ∷ call (turn) 509 [] 1
    ∷ call (completion (cmd 1 1 1 2) (0 ∷ [])) 509 [] 0
    ∷ call (turn) 509 (12744 ∷ 757 ∷ 20200 ∷ []) 1
    ∷ call (turn) 509 (61769 ∷ []) 1
    ∷ call (completion (cmd 2 1 1 1) []) 509 [] 0
    ∷ call (turn) 509 [] 1
    ∷ call (completion (cmd 2 1 1 2) []) 517 [] 0
    ∷ call (turn) 509 [] 1
    ∷ call (completion (cmd 2 1 1 0) []) 509 [] 0
    ∷ call (completion (cmd 2 1 1 3) []) 509 [] 0
    ∷ call (turn) 509 [] 1
    ∷ call (completion (cmd 1 1 1 3) (0 ∷ [])) 509 [] 0
    ∷ call (turn) 509 (11685 ∷ 51825 ∷ 3865 ∷ 50855 ∷ 28160 ∷ 51721 ∷ 39108 ∷ []) 1
    ∷ call (collect) 516 [] 1
    ∷ call (request 1 2 []) 509 (65474 ∷ 57471 ∷ 7165 ∷ []) 0
    ∷ call (turn) 509 (6141 ∷ 18424 ∷ []) 1
    ∷ call (turn) 509 (1644 ∷ []) 1
    ∷ call (completion (cmd 2 1 0 0) []) 509 [] 0
    ∷ call (completion (cmd 2 1 0 1) []) 509 [] 0
    ∷ call (turn) 517 [] 1
    ∷ call (request 2 2 (45 ∷ [])) 509 (39175 ∷ 65535 ∷ 65116 ∷ []) 0
    ∷ call (completion (cmd 1 0 0 0) (30 ∷ [])) 509 [] 0
    ∷ call (collect) 511 [] 1
    ∷ call (request 2 1 (51 ∷ [])) 509 (6144 ∷ 49243 ∷ 52661 ∷ []) 0
    ∷ call (turn) 510 (23276 ∷ 24921 ∷ 19689 ∷ 65024 ∷ []) 1
    ∷ call (turn) 509 [] 1
    ∷ call (completion (cmd 2 0 1 1) []) 509 [] 0
    ∷ call (turn) 509 [] 1
    ∷ call (request 2 3 (227 ∷ [])) 514 (49947 ∷ 65369 ∷ 21880 ∷ []) 0
    ∷ [])

session13-outcomes : List Outcome
session13-outcomes =
    (out 0 4 (cmd 0 0 0 0) []
    ∷ out 0 2 (cmd 0 0 0 0) []
    ∷ out 0 0 (cmd 0 0 0 0) (0 ∷ [])
    ∷ out 13 0 (cmd 0 0 0 0) []
    ∷ out 2 0 (cmd 0 0 0 0) []
    ∷ out 3 0 (cmd 0 0 0 0) []
    ∷ out 0 2 (cmd 0 0 0 0) []
    ∷ out 0 0 (cmd 0 0 0 0) (0 ∷ [])
    ∷ out 0 2 (cmd 0 0 0 0) []
    ∷ out 0 4 (cmd 2 1 1 0) (0 ∷ [])
    ∷ out 0 0 (cmd 0 0 0 0) []
    ∷ out 0 0 (cmd 2 1 1 1) (0 ∷ [])
    ∷ out 0 0 (cmd 2 1 1 2) (0 ∷ [])
    ∷ out 0 0 (cmd 0 0 0 0) []
    ∷ out 0 0 (cmd 0 0 0 0) []
    ∷ out 0 0 (cmd 2 1 1 3) (0 ∷ [])
    ∷ out 0 0 (cmd 2 1 0 0) (0 ∷ [])
    ∷ out 0 0 (cmd 0 0 0 0) []
    ∷ out 0 0 (cmd 0 0 0 0) []
    ∷ out 0 0 (cmd 2 1 0 1) (0 ∷ [])
    ∷ out 0 0 (cmd 0 0 0 0) []
    ∷ out 0 0 (cmd 1 1 0 0) []
    ∷ out 14 0 (cmd 0 0 0 0) []
    ∷ out 0 0 (cmd 1 1 1 3) []
    ∷ out 0 0 (cmd 0 0 0 0) []
    ∷ out 0 1 (cmd 2 0 0 0) (30 ∷ [])
    ∷ out 0 0 (cmd 0 0 0 0) []
    ∷ out 0 0 (cmd 0 0 0 0) []
    ∷ out 0 0 (cmd 2 0 0 1) (0 ∷ [])
    ∷ out 0 0 (cmd 0 0 0 0) []
    ∷ out 0 0 (cmd 0 0 0 0) (0 ∷ [])
    ∷ out 0 0 (cmd 1 1 0 1) []
    ∷ out 0 0 (cmd 1 1 1 0) []
    ∷ out 0 2 (cmd 0 0 0 0) []
    ∷ out 4 0 (cmd 0 0 0 0) []
    ∷ out 0 0 (cmd 0 0 0 0) []
    ∷ out 14 0 (cmd 0 0 0 0) []
    ∷ out 4 0 (cmd 0 0 0 0) []
    ∷ out 0 0 (cmd 1 0 0 1) []
    ∷ out 0 0 (cmd 0 0 0 0) []
    ∷ out 0 0 (cmd 0 0 0 0) []
    ∷ out 0 0 (cmd 1 1 1 1) []
    ∷ out_found 0 0 (cmd 0 0 0 0) (66 ∷ []) found_cache
    ∷ out 0 0 (cmd 0 0 0 0) []
    ∷ out 6 0 (cmd 0 0 0 0) []
    ∷ out 0 2 (cmd 0 0 0 0) []
    ∷ out 11 0 (cmd 0 0 0 0) []
    ∷ out 0 0 (cmd 1 1 1 2) []
    ∷ out 0 0 (cmd 0 0 0 0) []
    ∷ out 0 3 (cmd 2 1 1 0) (0 ∷ [])
    ∷ out 0 0 (cmd 2 1 1 1) (0 ∷ [])
    ∷ out 0 0 (cmd 0 0 0 0) []
    ∷ out 0 0 (cmd 2 1 1 2) (184 ∷ [])
    ∷ out 0 0 (cmd 0 0 0 0) []
    ∷ out 0 0 (cmd 2 1 1 3) (0 ∷ [])
    ∷ out 0 0 (cmd 0 0 0 0) []
    ∷ out 0 0 (cmd 0 0 0 0) []
    ∷ out 0 0 (cmd 1 1 1 3) []
    ∷ out 0 0 (cmd 0 0 0 0) []
    ∷ out 10 0 (cmd 0 0 0 0) []
    ∷ out 0 0 (cmd 0 0 0 0) (0 ∷ [])
    ∷ out 0 2 (cmd 0 0 0 0) []
    ∷ out 0 1 (cmd 2 1 0 0) (126 ∷ [])
    ∷ out 0 0 (cmd 2 1 0 1) (0 ∷ [])
    ∷ out 0 0 (cmd 0 0 0 0) []
    ∷ out 0 0 (cmd 0 0 0 0) []
    ∷ out 0 0 (cmd 1 0 0 0) []
    ∷ out 4 0 (cmd 0 0 0 0) []
    ∷ out 0 0 (cmd 0 0 0 0) []
    ∷ out_found 0 0 (cmd 0 0 0 0) (30 ∷ []) (found_level 0)
    ∷ out 0 2 (cmd 0 0 0 0) []
    ∷ out 0 4 (cmd 2 0 1 0) (0 ∷ [])
    ∷ out 0 0 (cmd 2 0 1 1) (30 ∷ [])
    ∷ out 0 0 (cmd 0 0 0 0) []
    ∷ out 0 0 (cmd 2 0 1 2) (0 ∷ [])
    ∷ out 4 0 (cmd 0 0 0 0) []
    ∷ [])

session13 : run closed session13-calls ≡ session13-outcomes
unfolding model session13-calls session13-outcomes
session13 = refl

unfoldable pub session14-calls : List Call
session14-calls =
    (call (opening (shape 8 2 3 1 8 3)) 633 (47282 ∷ 26569 ∷ 65535 ∷ 50917 ∷ 16029 ∷ 65299 ∷ 350 ∷ 65529 ∷ []) 0
    ∷ call (request 2 1 (34 ∷ [])) 633 (65534 ∷ 39306 ∷ 15946 ∷ []) 0
    ∷ call (collect) 633 [] 1
    ∷ call (request 2 3 (33 ∷ [])) 633 (8028 ∷ 34138 ∷ 63178 ∷ []) 0
    ∷ call (completion (cmd 2 1 1 3) (54 ∷ [])) 633 [] 0
    ∷ call (collect) 633 [] 1
    ∷ call (request 2 5 (158 ∷ [])) 633 (57558 ∷ 56468 ∷ []) 0
    ∷ call (turn) 633 (25369 ∷ 12550 ∷ 42202 ∷ []) 1
    ∷ call (turn) 633 [] 1
    ∷ call (request 2 4 []) 637 (6880 ∷ 11585 ∷ []) 0
    ∷ call (turn) 633 [] 1
    ∷ call (turn) 633 (13665 ∷ 47915 ∷ 56152 ∷ 9064 ∷ 33317 ∷ 3646 ∷ 51570 ∷ []) 2
    ∷ call (turn) 633 (65531 ∷ 47241 ∷ 44751 ∷ 65410 ∷ 63103 ∷ 42106 ∷ 65506 ∷ []) 2
    ∷ call (completion (cmd 2 1 1 0) []) 633 [] 0
    ∷ call (turn) 633 [] 1
    ∷ call (completion (cmd 2 1 1 3) []) 633 [] 0
    ∷ call (completion (cmd 2 1 1 2) []) 633 [] 0
    ∷ call (completion (cmd 2 1 1 1) []) 636 [] 0
    ∷ call (turn) 633 (55327 ∷ []) 1
    ∷ call (completion (cmd 1 1 1 2) (0 ∷ [])) 633 [] 0
    ∷ call (collect) 633 [] 1
    ∷ call (request 2 6 (123 ∷ [])) 633 (7086 ∷ 29848 ∷ []) 0
    ∷ call (turn) 633 (3090 ∷ 42783 ∷ 38926 ∷ 63787 ∷ 36090 ∷ []) 1
    ∷ call (turn) 633 (38197 ∷ []) 1
    ∷ call (completion (cmd 2 0 1 0) []) 633 [] 0
    ∷ call (turn) 636 [] 1
    ∷ call (turn) 633 [] 1
    ∷ call (completion (cmd 2 0 1 3) []) 633 [] 0
    ∷ call (turn) 633 [] 1
    ∷ call (completion (cmd 2 0 0 0) []) 635 [] 0
    ∷ call (completion (cmd 2 0 1 1) []) 633 [] 0
    ∷ call (turn) 633 (37769 ∷ 64302 ∷ 65420 ∷ 14204 ∷ 20913 ∷ 65427 ∷ 25297 ∷ []) 2
    ∷ call (completion (cmd 2 0 1 2) []) 633 [] 0
    ∷ call (turn) 633 (61998 ∷ []) 1
    ∷ call (completion (cmd 2 0 0 1) []) 633 [] 0
    ∷ call (turn) 635 [] 1
    ∷ call (collect) 633 [] 1
    ∷ call (turn) 633 (36254 ∷ []) 1
    ∷ call (completion (cmd 1 0 0 1) (0 ∷ [])) 633 [] 0
    ∷ call (completion (cmd 1 0 1 0) (0 ∷ [])) 635 [] 0
    ∷ call (collect) 635 [] 1
    ∷ call (request 2 2 (239 ∷ [])) 633 (65534 ∷ 32931 ∷ []) 0
    ∷ call (turn) 637 [] 1
    ∷ call (completion (cmd 1 1 1 0) (0 ∷ [])) 633 [] 0
    ∷ call (collect) 641 [] 1
    ∷ call (turn) 639 (10183 ∷ 65081 ∷ 6271 ∷ 3133 ∷ 4414 ∷ 26849 ∷ 4741 ∷ []) 2
    ∷ call (request 1 7 []) 633 (28718 ∷ 57874 ∷ 65534 ∷ []) 0
    ∷ call (collect) 633 [] 0
    ∷ call (completion (cmd 1 1 1 1) (0 ∷ [])) 640 [] 0
    ∷ call (turn) 633 [] 1
    ∷ call (collect) 633 [] 1
    ∷ call (completion (cmd 1 1 1 3) (0 ∷ [])) 633 [] 0
    ∷ call (collect) 633 [] 1
    ∷ call (turn) 640 (3843 ∷ 65534 ∷ 65534 ∷ 65534 ∷ 42597 ∷ 50641 ∷ 65535 ∷ 65535 ∷ 65535 ∷ 65534 ∷ 45987 ∷ 4610 ∷ 33816 ∷ 33247 ∷ 47992 ∷ []) 1
    ∷ call (turn) 633 [] 1
    ∷ call (request 2 0 (28 ∷ [])) 633 (65502 ∷ 52651 ∷ []) 0
    ∷ call (completion (cmd 1 0 1 0) (9 ∷ [])) 638 [] 0
    ∷ call (completion (cmd 2 1 2 1) []) 633 [] 0
    ∷ call (completion (cmd 2 1 2 0) []) 633 [] 0
    ∷ call (turn) 633 [] 1
    ∷ call (turn) 633 [] 1
    ∷ call (completion (cmd 2 1 2 3) []) 637 [] 0
    ∷ call (turn) 635 [] 1
    ∷ call (turn) 637 [] 1
    ∷ call (completion (cmd 2 1 2 2) []) 633 [] 0
    ∷ call (turn) 633 [] 1
    ∷ call (collect) 633 [] 1
    ∷ call (request 1 0 []) 633 [] 0
    ∷ call (completion (cmd 2 1 2 4) []) 633 [] 0
    ∷ call (completion (cmd 1 1 2 5) []) 633 [] 0
    ∷ call (completion (cmd 2 1 2 5) []) 633 [] 0
    ∷ call (turn) 636 [] 1
    ∷ call (completion (cmd 2 1 2 7) []) 633 [] 0
    ∷ call (turn) 633 [] 1
    ∷ call (completion (cmd 2 1 0 0) []) 633 [] 0
    ∷ call (turn) 633 (53605 ∷ []) 1
    ∷ call (completion (cmd 2 1 2 6) []) 633 [] 0
    ∷ call (completion (cmd 2 1 0 1) []) 633 [] 0
    ∷ call (turn) 633 [] 1
    ∷ call (completion (cmd 1 0 0 0) (158 ∷ [])) 633 [] 0
    ∷ call (turn) 633 [] 1
    ∷ call (collect) 633 [] 1
    ∷ call (completion (cmd 1 0 1 1) (34 ∷ [])) 633 [] 0
    ∷ call (turn) 633 (35713 ∷ []) 1
    ∷ call (turn) 641 [] 1
    ∷ call (completion (cmd 1 0 1 2) (0 ∷ [])) 633 [] 0
    ∷ call (request 1 8 []) 641 (16897 ∷ 50448 ∷ []) 0
    ∷ call (completion (cmd 1 0 1 3) (33 ∷ [])) 633 [] 0
    ∷ call (collect) 635 [] 1
    ∷ call (request 2 7 (247 ∷ [])) 633 (57708 ∷ 7874 ∷ []) 0
    ∷ call (completion (cmd 2 2 3 3) (51 ∷ [])) 633 [] 0
    ∷ call (turn) 633 (53581 ∷ 65534 ∷ 65533 ∷ 13591 ∷ 38749 ∷ 30715 ∷ 30138 ∷ 61490 ∷ 950 ∷ 57857 ∷ 22096 ∷ []) 1
    ∷ [])

session14-outcomes : List Outcome
session14-outcomes =
    (out 0 8 (cmd 0 0 0 0) []
    ∷ out 0 2 (cmd 0 0 0 0) []
    ∷ out 0 0 (cmd 0 0 0 0) (0 ∷ [])
    ∷ out 0 2 (cmd 0 0 0 0) []
    ∷ out 11 0 (cmd 0 0 0 0) []
    ∷ out 0 0 (cmd 0 0 0 0) (0 ∷ [])
    ∷ out 0 2 (cmd 0 0 0 0) []
    ∷ out 0 3 (cmd 2 1 1 0) (0 ∷ [])
    ∷ out 0 0 (cmd 2 1 1 1) (0 ∷ [])
    ∷ out 4 0 (cmd 0 0 0 0) []
    ∷ out 0 0 (cmd 2 1 1 2) (0 ∷ [])
    ∷ out 9 0 (cmd 0 0 0 0) []
    ∷ out 9 0 (cmd 0 0 0 0) []
    ∷ out 0 0 (cmd 0 0 0 0) []
    ∷ out 0 0 (cmd 2 1 1 3) (0 ∷ [])
    ∷ out 0 0 (cmd 0 0 0 0) []
    ∷ out 0 0 (cmd 0 0 0 0) []
    ∷ out 0 0 (cmd 0 0 0 0) []
    ∷ out 0 0 (cmd 1 1 1 2) []
    ∷ out 0 0 (cmd 0 0 0 0) []
    ∷ out 0 0 (cmd 0 0 0 0) (0 ∷ [])
    ∷ out 0 2 (cmd 0 0 0 0) []
    ∷ out 0 4 (cmd 2 0 1 0) (0 ∷ [])
    ∷ out 0 0 (cmd 2 0 1 1) (34 ∷ [])
    ∷ out 0 0 (cmd 0 0 0 0) []
    ∷ out 0 0 (cmd 2 0 1 2) (0 ∷ [])
    ∷ out 0 0 (cmd 2 0 1 3) (33 ∷ [])
    ∷ out 0 0 (cmd 0 0 0 0) []
    ∷ out 0 0 (cmd 2 0 0 0) (158 ∷ [])
    ∷ out 0 0 (cmd 0 0 0 0) []
    ∷ out 0 0 (cmd 0 0 0 0) []
    ∷ out 15 0 (cmd 0 0 0 0) []
    ∷ out 0 0 (cmd 0 0 0 0) []
    ∷ out 0 0 (cmd 2 0 0 1) (0 ∷ [])
    ∷ out 0 0 (cmd 0 0 0 0) []
    ∷ out 0 0 (cmd 1 0 0 1) []
    ∷ out 14 0 (cmd 0 0 0 0) []
    ∷ out 0 0 (cmd 1 0 1 0) []
    ∷ out 0 0 (cmd 0 0 0 0) []
    ∷ out 0 0 (cmd 0 0 0 0) []
    ∷ out 0 0 (cmd 0 0 0 0) (0 ∷ [])
    ∷ out 0 2 (cmd 0 0 0 0) []
    ∷ out 0 0 (cmd 1 1 1 0) []
    ∷ out 0 0 (cmd 0 0 0 0) []
    ∷ out 0 0 (cmd 0 0 0 0) (0 ∷ [])
    ∷ out 0 0 (cmd 1 1 1 1) []
    ∷ out 0 2 (cmd 0 0 0 0) []
    ∷ out 14 0 (cmd 0 0 0 0) []
    ∷ out 0 0 (cmd 0 0 0 0) []
    ∷ out 0 0 (cmd 1 1 1 3) []
    ∷ out 14 0 (cmd 0 0 0 0) []
    ∷ out 0 0 (cmd 0 0 0 0) []
    ∷ out 0 0 (cmd 0 0 0 0) (0 ∷ [])
    ∷ out 0 14 (cmd 2 1 2 0) (0 ∷ [])
    ∷ out 0 0 (cmd 2 1 2 1) (0 ∷ [])
    ∷ out 0 2 (cmd 0 0 0 0) []
    ∷ out 11 0 (cmd 0 0 0 0) []
    ∷ out 0 0 (cmd 0 0 0 0) []
    ∷ out 0 0 (cmd 0 0 0 0) []
    ∷ out 0 0 (cmd 2 1 2 2) (0 ∷ [])
    ∷ out 0 0 (cmd 2 1 2 3) (0 ∷ [])
    ∷ out 0 0 (cmd 0 0 0 0) []
    ∷ out 0 0 (cmd 2 1 2 4) (0 ∷ [])
    ∷ out 0 0 (cmd 2 1 2 5) (0 ∷ [])
    ∷ out 0 0 (cmd 0 0 0 0) []
    ∷ out 0 0 (cmd 2 1 2 6) (0 ∷ [])
    ∷ out 14 0 (cmd 0 0 0 0) []
    ∷ out 4 0 (cmd 0 0 0 0) []
    ∷ out 0 0 (cmd 0 0 0 0) []
    ∷ out 11 0 (cmd 0 0 0 0) []
    ∷ out 0 0 (cmd 0 0 0 0) []
    ∷ out 0 0 (cmd 2 1 2 7) (0 ∷ [])
    ∷ out 0 0 (cmd 0 0 0 0) []
    ∷ out 0 0 (cmd 2 1 0 0) (0 ∷ [])
    ∷ out 0 0 (cmd 0 0 0 0) []
    ∷ out 0 0 (cmd 2 1 0 1) (0 ∷ [])
    ∷ out 0 0 (cmd 0 0 0 0) []
    ∷ out 0 0 (cmd 0 0 0 0) []
    ∷ out 0 0 (cmd 1 0 0 0) []
    ∷ out 0 0 (cmd 0 0 0 0) []
    ∷ out 0 0 (cmd 1 0 1 1) []
    ∷ out 14 0 (cmd 0 0 0 0) []
    ∷ out 0 0 (cmd 0 0 0 0) []
    ∷ out 0 0 (cmd 1 0 1 2) []
    ∷ out 0 0 (cmd 1 0 1 3) []
    ∷ out 0 0 (cmd 0 0 0 0) []
    ∷ out 4 0 (cmd 0 0 0 0) []
    ∷ out 0 0 (cmd 0 0 0 0) []
    ∷ out 0 0 (cmd 0 0 0 0) (0 ∷ [])
    ∷ out 0 2 (cmd 0 0 0 0) []
    ∷ out 11 0 (cmd 0 0 0 0) []
    ∷ out 0 11 (cmd 2 0 2 0) (158 ∷ [])
    ∷ [])

session14 : run closed session14-calls ≡ session14-outcomes
unfolding model session14-calls session14-outcomes
session14 = refl
