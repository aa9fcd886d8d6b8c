-- Random sessions, with the outcomes of an independent implementation. Written by plain/src/bin/sessions.rs.
use Rattle.std.specs.Prelude.{◌≡◌, refl, List, [], ◌∷◌}
use Rattle.rules.specs.State.{cmd, closed, found_cache, found_level}
use Rattle.rules.specs.Questions.{opening, request, turn, completion, collect, Call}
use Rattle.rules.specs.Run.{Outcome, run}
use Rattle.rules.specs.Unfold.{model, shape, call, out, out_found}

unfoldable pub session5-calls : List Call
session5-calls =
    (call (opening (shape 5 1 3 1 3 3)) 509 (30722 ∷ 43975 ∷ 46843 ∷ 16313 ∷ []) 0
    ∷ call (request 2 2 (147 ∷ [])) 509 (7064 ∷ 1034 ∷ []) 0
    ∷ call (opening (shape 4 1 3 1 3 3)) 509 (65535 ∷ 16960 ∷ 65535 ∷ []) 0
    ∷ call (opening (shape 4 1 3 1 3 3)) 508 (35922 ∷ 65533 ∷ 3799 ∷ 65535 ∷ []) 1
    ∷ call (collect) 516 [] 1
    ∷ call (opening (shape 4 1 3 1 3 3)) 509 (33659 ∷ 65517 ∷ 46959 ∷ 35193 ∷ []) 0
    ∷ call (request 2 0 (9 ∷ [])) 509 (29158 ∷ 651 ∷ 609 ∷ []) 0
    ∷ call (collect) 516 [] 1
    ∷ call (turn) 509 (6944 ∷ 11728 ∷ []) 1
    ∷ call (request 2 0 (168 ∷ [])) 513 (43642 ∷ 37523 ∷ []) 0
    ∷ call (turn) 509 (17173 ∷ 42000 ∷ 19142 ∷ []) 1
    ∷ call (completion (cmd 2 0 1 0) []) 512 [] 0
    ∷ call (turn) 509 [] 1
    ∷ call (completion (cmd 2 0 1 1) []) 512 [] 0
    ∷ call (completion (cmd 2 0 3 3) (16 ∷ [])) 509 [] 0
    ∷ call (request 2 0 (58 ∷ [])) 509 [] 0
    ∷ call (turn) 513 (64223 ∷ []) 1
    ∷ call (turn) 515 (49456 ∷ []) 1
    ∷ call (completion (cmd 2 0 1 2) []) 510 [] 0
    ∷ call (completion (cmd 2 0 1 3) []) 509 [] 0
    ∷ call (turn) 509 [] 1
    ∷ call (completion (cmd 1 0 1 3) (9 ∷ [])) 509 [] 0
    ∷ call (completion (cmd 1 0 2 2) (176 ∷ [])) 512 [] 0
    ∷ call (collect) 509 [] 1
    ∷ call (turn) 509 (18791 ∷ []) 1
    ∷ call (request 1 5 []) 509 (45475 ∷ 4938 ∷ []) 0
    ∷ call (request 2 0 (23 ∷ [])) 509 (20164 ∷ 10769 ∷ []) 0
    ∷ call (completion (cmd 1 0 1 0) (0 ∷ [])) 509 [] 0
    ∷ call (turn) 509 (52034 ∷ []) 1
    ∷ call (completion (cmd 1 0 1 2) (0 ∷ [])) 509 [] 0
    ∷ call (turn) 509 (25238 ∷ []) 1
    ∷ call (turn) 509 (42833 ∷ 39515 ∷ 65535 ∷ 40787 ∷ 1424 ∷ 54962 ∷ 54765 ∷ 27694 ∷ 65531 ∷ 65444 ∷ 27789 ∷ 40243 ∷ 7087 ∷ 16885 ∷ 60646 ∷ []) 1
    ∷ call (completion (cmd 1 0 1 1) (0 ∷ [])) 509 [] 0
    ∷ call (collect) 514 [] 1
    ∷ call (request 2 0 (201 ∷ [])) 509 (23256 ∷ 65535 ∷ []) 0
    ∷ call (turn) 509 (22303 ∷ 2719 ∷ 60853 ∷ 5377 ∷ 60964 ∷ 9971 ∷ []) 1
    ∷ call (turn) 509 (58005 ∷ 47276 ∷ 65279 ∷ 61863 ∷ 65535 ∷ 47554 ∷ 11581 ∷ []) 1
    ∷ call (turn) 512 (39705 ∷ 37988 ∷ 29405 ∷ 64421 ∷ 22513 ∷ 54795 ∷ 65535 ∷ []) 2
    ∷ call (turn) 511 (59833 ∷ []) 1
    ∷ call (turn) 511 [] 1
    ∷ call (completion (cmd 2 0 2 1) []) 509 [] 0
    ∷ call (turn) 509 [] 1
    ∷ call (completion (cmd 2 0 2 0) []) 515 [] 0
    ∷ call (turn) 509 [] 1
    ∷ call (completion (cmd 2 0 2 3) []) 509 [] 0
    ∷ call (turn) 509 [] 1
    ∷ call (completion (cmd 2 0 2 4) []) 509 [] 0
    ∷ call (completion (cmd 2 0 2 2) []) 509 [] 0
    ∷ call (collect) 509 [] 0
    ∷ call (turn) 509 (7876 ∷ []) 1
    ∷ call (turn) 509 [] 1
    ∷ call (turn) 514 [] 1
    ∷ call (completion (cmd 2 0 2 6) []) 509 [] 0
    ∷ call (request 2 0 (88 ∷ [])) 509 (65526 ∷ []) 0
    ∷ call (completion (cmd 2 0 2 7) []) 509 [] 0
    ∷ call (completion (cmd 2 0 2 5) []) 509 [] 0
    ∷ call (turn) 509 (37620 ∷ 65000 ∷ 44269 ∷ []) 1
    ∷ call (turn) 509 [] 1
    ∷ call (request 2 0 (2 ∷ [])) 509 (43677 ∷ 24089 ∷ 15067 ∷ []) 0
    ∷ call (completion (cmd 2 0 1 0) []) 509 [] 0
    ∷ call (completion (cmd 2 0 1 1) []) 509 [] 0
    ∷ call (turn) 509 [] 1
    ∷ call (turn) 509 [] 1
    ∷ call (completion (cmd 2 0 1 2) []) 509 [] 0
    ∷ call (completion (cmd 2 0 1 3) []) 509 [] 0
    ∷ call (turn) 509 (22517 ∷ []) 1
    ∷ call (completion (cmd 1 0 1 3) (0 ∷ [])) 509 [] 0
    ∷ call (turn) 509 [] 1
    ∷ call (completion (cmd 1 0 2 0) (23 ∷ [])) 510 [] 0
    ∷ call (collect) 509 [] 1
    ∷ call (turn) 509 (46652 ∷ []) 1
    ∷ call (request 2 0 (66 ∷ [])) 509 (9951 ∷ 65520 ∷ 65417 ∷ []) 0
    ∷ call (turn) 509 [] 1
    ∷ call (completion (cmd 2 0 0 1) []) 509 [] 0
    ∷ call (completion (cmd 2 0 0 0) []) 509 [] 0
    ∷ call (turn) 509 [] 1
    ∷ call (completion (cmd 1 0 0 1) (201 ∷ [])) 509 [] 0
    ∷ call (request 1 1 []) 509 (46915 ∷ 43439 ∷ 49735 ∷ []) 0
    ∷ call (collect) 509 [] 1
    ∷ call (turn) 509 [] 1
    ∷ call (turn) 509 [] 1
    ∷ call (completion (cmd 1 0 2 2) (0 ∷ [])) 513 [] 0
    ∷ call (turn) 509 (34698 ∷ []) 1
    ∷ call (turn) 509 (42204 ∷ []) 1
    ∷ [])

session5-outcomes : List Outcome
session5-outcomes =
    (out 1 0 (cmd 0 0 0 0) []
    ∷ out 2 0 (cmd 0 0 0 0) []
    ∷ out 3 0 (cmd 0 0 0 0) []
    ∷ out 2 0 (cmd 0 0 0 0) []
    ∷ out 2 0 (cmd 0 0 0 0) []
    ∷ out 0 4 (cmd 0 0 0 0) []
    ∷ out 0 2 (cmd 0 0 0 0) []
    ∷ out 0 0 (cmd 0 0 0 0) (0 ∷ [])
    ∷ out 3 0 (cmd 0 0 0 0) []
    ∷ out 0 2 (cmd 0 0 0 0) []
    ∷ out 0 3 (cmd 2 0 1 0) (0 ∷ [])
    ∷ out 0 0 (cmd 0 0 0 0) []
    ∷ out 0 0 (cmd 2 0 1 1) (0 ∷ [])
    ∷ out 0 0 (cmd 0 0 0 0) []
    ∷ out 11 0 (cmd 0 0 0 0) []
    ∷ out 4 0 (cmd 0 0 0 0) []
    ∷ out 0 0 (cmd 2 0 1 2) (0 ∷ [])
    ∷ out 0 0 (cmd 2 0 1 3) (9 ∷ [])
    ∷ out 0 0 (cmd 0 0 0 0) []
    ∷ out 0 0 (cmd 0 0 0 0) []
    ∷ out 0 0 (cmd 1 0 1 3) []
    ∷ out 0 0 (cmd 0 0 0 0) []
    ∷ out 11 0 (cmd 0 0 0 0) []
    ∷ out_found 0 0 (cmd 0 0 0 0) (9 ∷ []) (found_level 1)
    ∷ out 0 0 (cmd 1 0 1 0) []
    ∷ out 5 0 (cmd 0 0 0 0) []
    ∷ out 0 2 (cmd 0 0 0 0) []
    ∷ out 0 0 (cmd 0 0 0 0) []
    ∷ out 0 0 (cmd 1 0 1 2) []
    ∷ out 0 0 (cmd 0 0 0 0) []
    ∷ out 0 0 (cmd 1 0 1 1) []
    ∷ out 10 0 (cmd 0 0 0 0) []
    ∷ out 0 0 (cmd 0 0 0 0) []
    ∷ out_found 0 0 (cmd 0 0 0 0) (168 ∷ []) found_cache
    ∷ out 0 2 (cmd 0 0 0 0) []
    ∷ out 3 0 (cmd 0 0 0 0) []
    ∷ out 0 7 (cmd 2 0 2 0) (23 ∷ [])
    ∷ out 15 0 (cmd 0 0 0 0) []
    ∷ out 0 0 (cmd 2 0 2 1) (0 ∷ [])
    ∷ out 0 0 (cmd 2 0 2 2) (0 ∷ [])
    ∷ out 0 0 (cmd 0 0 0 0) []
    ∷ out 0 0 (cmd 2 0 2 3) (0 ∷ [])
    ∷ out 0 0 (cmd 0 0 0 0) []
    ∷ out 0 0 (cmd 2 0 2 4) (0 ∷ [])
    ∷ out 0 0 (cmd 0 0 0 0) []
    ∷ out 0 0 (cmd 2 0 2 5) (0 ∷ [])
    ∷ out 0 0 (cmd 0 0 0 0) []
    ∷ out 0 0 (cmd 0 0 0 0) []
    ∷ out 14 0 (cmd 0 0 0 0) []
    ∷ out 0 0 (cmd 2 0 2 6) (0 ∷ [])
    ∷ out 0 0 (cmd 2 0 2 7) (0 ∷ [])
    ∷ out 9 0 (cmd 0 0 0 0) []
    ∷ out 0 0 (cmd 0 0 0 0) []
    ∷ out 4 0 (cmd 0 0 0 0) []
    ∷ out 0 0 (cmd 0 0 0 0) []
    ∷ out 0 0 (cmd 0 0 0 0) []
    ∷ out 0 3 (cmd 2 0 1 0) (0 ∷ [])
    ∷ out 0 0 (cmd 2 0 1 1) (0 ∷ [])
    ∷ out 4 0 (cmd 0 0 0 0) []
    ∷ out 0 0 (cmd 0 0 0 0) []
    ∷ out 0 0 (cmd 0 0 0 0) []
    ∷ out 0 0 (cmd 2 0 1 2) (0 ∷ [])
    ∷ out 0 0 (cmd 2 0 1 3) (0 ∷ [])
    ∷ out 0 0 (cmd 0 0 0 0) []
    ∷ out 0 0 (cmd 0 0 0 0) []
    ∷ out 0 0 (cmd 1 0 1 3) []
    ∷ out 0 0 (cmd 0 0 0 0) []
    ∷ out 0 0 (cmd 1 0 2 0) []
    ∷ out 0 0 (cmd 0 0 0 0) []
    ∷ out_found 0 0 (cmd 0 0 0 0) (23 ∷ []) (found_level 2)
    ∷ out 0 1 (cmd 2 0 0 0) (0 ∷ [])
    ∷ out 0 2 (cmd 0 0 0 0) []
    ∷ out 0 0 (cmd 2 0 0 1) (201 ∷ [])
    ∷ out 0 0 (cmd 0 0 0 0) []
    ∷ out 0 0 (cmd 0 0 0 0) []
    ∷ out 0 0 (cmd 1 0 0 1) []
    ∷ out 0 0 (cmd 0 0 0 0) []
    ∷ out 4 0 (cmd 0 0 0 0) []
    ∷ out 14 0 (cmd 0 0 0 0) []
    ∷ out 0 0 (cmd 1 0 1 1) []
    ∷ out 0 0 (cmd 1 0 2 2) []
    ∷ out 0 0 (cmd 0 0 0 0) []
    ∷ out 0 0 (cmd 1 0 0 0) []
    ∷ out 0 0 (cmd 1 0 1 0) []
    ∷ [])

session5 : run closed session5-calls ≡ session5-outcomes
unfolding model session5-calls session5-outcomes
session5 = refl

unfoldable pub session6-calls : List Call
session6-calls =
    (call (opening (shape 8 4 2 1 8 3)) 634 (847 ∷ 49152 ∷ 65534 ∷ 48252 ∷ 65531 ∷ 50298 ∷ 65418 ∷ 65534 ∷ []) 0
    ∷ call (request 1 6 []) 633 (7906 ∷ 42152 ∷ 52007 ∷ []) 0
    ∷ call (collect) 633 [] 1
    ∷ call (request 2 2 (134 ∷ [])) 638 (59050 ∷ 65534 ∷ []) 0
    ∷ call (turn) 633 (65442 ∷ 3724 ∷ 57874 ∷ 35841 ∷ 44879 ∷ 51816 ∷ 34468 ∷ []) 1
    ∷ call (collect) 633 [] 1
    ∷ call (turn) 641 (31723 ∷ 33652 ∷ 23499 ∷ 55043 ∷ 65515 ∷ []) 1
    ∷ call (turn) 633 [] 1
    ∷ call (turn) 633 [] 1
    ∷ call (completion (cmd 2 2 1 2) []) 638 [] 0
    ∷ call (turn) 633 (12605 ∷ []) 1
    ∷ call (request 2 7 []) 633 (28508 ∷ 2716 ∷ []) 0
    ∷ call (request 2 2 (149 ∷ [])) 634 (67 ∷ 40134 ∷ 65535 ∷ []) 0
    ∷ call (completion (cmd 2 2 1 0) []) 641 [] 0
    ∷ call (turn) 633 (24361 ∷ []) 1
    ∷ call (completion (cmd 2 2 1 1) []) 633 [] 0
    ∷ call (turn) 633 (16520 ∷ 44144 ∷ 65425 ∷ []) 2
    ∷ call (turn) 633 [] 1
    ∷ call (request 1 7 (13 ∷ [])) 633 (29041 ∷ 14482 ∷ []) 0
    ∷ call (turn) 633 (12681 ∷ 65535 ∷ 9060 ∷ 41697 ∷ 57622 ∷ 7179 ∷ 34871 ∷ []) 1
    ∷ call (request 2 2 (146 ∷ [])) 633 (65534 ∷ 65535 ∷ []) 0
    ∷ call (completion (cmd 2 2 0 1) []) 633 [] 0
    ∷ call (completion (cmd 2 2 1 3) []) 633 [] 0
    ∷ call (completion (cmd 2 2 0 0) []) 640 [] 0
    ∷ call (turn) 633 (39984 ∷ []) 1
    ∷ call (completion (cmd 1 2 0 0) (0 ∷ [])) 638 [] 0
    ∷ call (turn) 633 (65522 ∷ []) 1
    ∷ call (collect) 633 [] 1
    ∷ call (completion (cmd 1 2 1 0) (134 ∷ [])) 633 [] 0
    ∷ call (turn) 633 (15782 ∷ []) 1
    ∷ call (collect) 633 [] 1
    ∷ call (request 2 4 (40 ∷ [])) 633 (2482 ∷ 44436 ∷ []) 0
    ∷ call (turn) 633 [] 1
    ∷ call (collect) 633 [] 1
    ∷ call (completion (cmd 2 0 0 1) []) 633 [] 0
    ∷ call (request 2 5 (129 ∷ [])) 633 (3842 ∷ 65533 ∷ 18959 ∷ []) 0
    ∷ call (completion (cmd 2 0 0 0) []) 633 [] 0
    ∷ call (turn) 633 [] 1
    ∷ call (turn) 633 [] 1
    ∷ call (completion (cmd 1 2 0 1) (0 ∷ [])) 639 [] 0
    ∷ call (turn) 633 [] 1
    ∷ call (turn) 635 [] 1
    ∷ call (completion (cmd 1 2 1 2) (0 ∷ [])) 637 [] 0
    ∷ call (completion (cmd 1 2 1 3) (0 ∷ [])) 633 [] 0
    ∷ call (completion (cmd 1 2 1 1) (0 ∷ [])) 633 [] 0
    ∷ call (turn) 640 (9549 ∷ 14539 ∷ 1758 ∷ []) 1
    ∷ call (request 2 5 (31 ∷ [])) 633 (57806 ∷ 16724 ∷ 11194 ∷ []) 0
    ∷ call (completion (cmd 2 2 1 0) []) 633 [] 0
    ∷ call (turn) 640 (13827 ∷ []) 1
    ∷ call (completion (cmd 2 2 1 1) []) 637 [] 0
    ∷ call (turn) 633 [] 1
    ∷ call (completion (cmd 2 2 1 2) []) 633 [] 0
    ∷ call (request 1 9 []) 636 (65534 ∷ 13230 ∷ []) 0
    ∷ call (turn) 633 (41040 ∷ []) 1
    ∷ call (completion (cmd 2 2 1 3) []) 633 [] 0
    ∷ call (turn) 636 (65344 ∷ []) 1
    ∷ call (request 2 0 []) 633 (49820 ∷ 65164 ∷ []) 0
    ∷ call (completion (cmd 0 2 1 3) []) 633 [] 0
    ∷ call (completion (cmd 1 2 1 3) (0 ∷ [])) 638 [] 0
    ∷ call (collect) 633 [] 1
    ∷ call (request 2 5 (184 ∷ [])) 633 (39960 ∷ 29736 ∷ 58484 ∷ []) 0
    ∷ call (turn) 633 (30481 ∷ []) 1
    ∷ call (completion (cmd 2 2 0 0) []) 633 [] 0
    ∷ call (turn) 633 [] 1
    ∷ call (completion (cmd 2 2 0 1) []) 633 [] 0
    ∷ call (turn) 633 (6688 ∷ []) 1
    ∷ call (request 1 5 []) 635 (65535 ∷ 58211 ∷ []) 0
    ∷ call (turn) 633 [] 1
    ∷ call (completion (cmd 2 3 0 1) []) 633 [] 0
    ∷ call (completion (cmd 2 3 0 0) []) 633 [] 0
    ∷ [])

session6-outcomes : List Outcome
session6-outcomes =
    (out 0 8 (cmd 0 0 0 0) []
    ∷ out 0 2 (cmd 0 0 0 0) []
    ∷ out 0 0 (cmd 0 0 0 0) (0 ∷ [])
    ∷ out 0 2 (cmd 0 0 0 0) []
    ∷ out 10 0 (cmd 0 0 0 0) []
    ∷ out 0 0 (cmd 0 0 0 0) (0 ∷ [])
    ∷ out 0 4 (cmd 2 2 1 0) (134 ∷ [])
    ∷ out 0 0 (cmd 2 2 1 1) (0 ∷ [])
    ∷ out 0 0 (cmd 2 2 1 2) (0 ∷ [])
    ∷ out 0 0 (cmd 0 0 0 0) []
    ∷ out 0 0 (cmd 2 2 1 3) (0 ∷ [])
    ∷ out 6 0 (cmd 0 0 0 0) []
    ∷ out 0 2 (cmd 0 0 0 0) []
    ∷ out 0 0 (cmd 0 0 0 0) []
    ∷ out 0 0 (cmd 2 2 0 0) (0 ∷ [])
    ∷ out 0 0 (cmd 0 0 0 0) []
    ∷ out 15 0 (cmd 0 0 0 0) []
    ∷ out 0 0 (cmd 2 2 0 1) (0 ∷ [])
    ∷ out 4 0 (cmd 0 0 0 0) []
    ∷ out 9 0 (cmd 0 0 0 0) []
    ∷ out 4 0 (cmd 0 0 0 0) []
    ∷ out 0 0 (cmd 0 0 0 0) []
    ∷ out 0 0 (cmd 0 0 0 0) []
    ∷ out 0 0 (cmd 0 0 0 0) []
    ∷ out 0 0 (cmd 1 2 0 0) []
    ∷ out 0 0 (cmd 0 0 0 0) []
    ∷ out 0 0 (cmd 1 2 1 0) []
    ∷ out 14 0 (cmd 0 0 0 0) []
    ∷ out 0 0 (cmd 0 0 0 0) []
    ∷ out 0 1 (cmd 2 0 0 0) (0 ∷ [])
    ∷ out_found 0 0 (cmd 0 0 0 0) (134 ∷ []) (found_level 1)
    ∷ out 0 2 (cmd 0 0 0 0) []
    ∷ out 0 0 (cmd 2 0 0 1) (0 ∷ [])
    ∷ out 0 0 (cmd 0 0 0 0) (0 ∷ [])
    ∷ out 0 0 (cmd 0 0 0 0) []
    ∷ out 0 2 (cmd 0 0 0 0) []
    ∷ out 0 0 (cmd 0 0 0 0) []
    ∷ out 0 0 (cmd 1 2 0 1) []
    ∷ out 0 0 (cmd 1 2 1 1) []
    ∷ out 0 0 (cmd 0 0 0 0) []
    ∷ out 0 0 (cmd 1 2 1 2) []
    ∷ out 0 0 (cmd 1 2 1 3) []
    ∷ out 0 0 (cmd 0 0 0 0) []
    ∷ out 0 0 (cmd 0 0 0 0) []
    ∷ out 0 0 (cmd 0 0 0 0) []
    ∷ out 0 3 (cmd 2 2 1 0) (0 ∷ [])
    ∷ out 4 0 (cmd 0 0 0 0) []
    ∷ out 0 0 (cmd 0 0 0 0) []
    ∷ out 0 0 (cmd 2 2 1 1) (0 ∷ [])
    ∷ out 0 0 (cmd 0 0 0 0) []
    ∷ out 0 0 (cmd 2 2 1 2) (40 ∷ [])
    ∷ out 0 0 (cmd 0 0 0 0) []
    ∷ out 4 0 (cmd 0 0 0 0) []
    ∷ out 0 0 (cmd 2 2 1 3) (0 ∷ [])
    ∷ out 0 0 (cmd 0 0 0 0) []
    ∷ out 0 0 (cmd 1 2 1 3) []
    ∷ out 4 0 (cmd 0 0 0 0) []
    ∷ out 2 0 (cmd 0 0 0 0) []
    ∷ out 0 0 (cmd 0 0 0 0) []
    ∷ out 0 0 (cmd 0 0 0 0) (0 ∷ [])
    ∷ out 0 2 (cmd 0 0 0 0) []
    ∷ out 0 1 (cmd 2 2 0 0) (0 ∷ [])
    ∷ out 0 0 (cmd 0 0 0 0) []
    ∷ out 0 0 (cmd 2 2 0 1) (0 ∷ [])
    ∷ out 0 0 (cmd 0 0 0 0) []
    ∷ out 0 1 (cmd 2 3 0 0) (0 ∷ [])
    ∷ out 4 0 (cmd 0 0 0 0) []
    ∷ out 0 0 (cmd 2 3 0 1) (149 ∷ [])
    ∷ out 0 0 (cmd 0 0 0 0) []
    ∷ out 0 0 (cmd 0 0 0 0) []
    ∷ [])

session6 : run closed session6-calls ≡ session6-outcomes
unfolding model session6-calls session6-outcomes
session6 = refl
