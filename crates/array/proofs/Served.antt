-- Every run can be served: put into its completions of reads the bytes that the host has, and the host is honest. What the run is otherwise,
-- words, lengths and calls, is as it was.
use Rattle.std.specs.Prelude.{◌≡◌}
use Rattle.std.proofs.Math.Path.{refl}
use Rattle.std.proofs.Common.{ap, sym, ◌∙◌}
use mathlib.Core.List.{List, [], ◌∷◌}
use Prim.Native.Nat.{ℕ}
use Rattle.rules.proofs.Laws.Answers.{accepted-passed, step-number}
use Rattle.rules.specs.Questions.{Ask, opening, request, turn, completion, collect, save, load, Call}
use Rattle.rules.specs.Resumes.{saved_by, OfLast, Resumes}
use Rattle.rules.specs.Run.{step, run}
use Rattle.rules.specs.Shape.{Shape}
use Rattle.rules.specs.State.{State}
use Rattle.reachable.proofs.LastSaved.{step-last as saved-last}
use Rattle.array.specs.Claim.{Slots, sends}
use Rattle.array.specs.Hosts.{AtOnce}
use Rattle.array.specs.Served.{brings, serve, served}
use Rattle.array.proofs.ServedSlots.{open-slot, open-was, Ready, step-ready, fetches}

brings-last : (x : Slots) (y : List ℕ) (a : Ask) → OfLast y (brings x y a)
unfolding brings
brings-last x y (opening h) = tt
brings-last x y (request k b bs) = tt
brings-last x y turn = tt
brings-last x y (completion c bs) = tt
brings-last x y collect = tt
brings-last x y save = tt
brings-last x y (load form) = refl

served-ready : (cs : List Call) (s : State) (last : Slots) (y : List ℕ) → Ready s last y → AtOnce last (served last y s cs) (run s (served last y s cs))
unfolding served run
served-ready [] s last y k = tt
served-ready (c ∷ cs) s last y k =
    let d : Call = serve last y c in (
      (λ e. fetches s last y k c.memory c.words c.buffer c.ask (accepted-passed s d (sym (step-number s d) ∙ e))),
      served-ready cs (step s d).0 (sends last (step s d).1) (saved_by d.ask (step s d).1) (step-ready s last y d (brings-last last y c.ask) k),
    )

-- From an open on, whatever was before it: the run is that of an honest host
pub served-at-once : (s : State) (x : Slots) (y : List ℕ) (h : Shape) (c : Call) (cs : List Call) → c.ask ≡ opening h → AtOnce x (served x y s (c ∷ cs)) (run s (served x y s (c ∷ cs)))
unfolding served run
served-at-once s x y h c cs e =
    let d : Call = serve x y c in
    let b : brings x y c.ask ≡ opening h = ap (brings x y) e ∙ unfold brings in refl in (
      (λ z. rw b tt),
      served-ready cs (step s d).0 (sends x (step s d).1) (saved_by d.ask (step s d).1)
          (record { was = open-was s d h b; slot = open-slot s d h b (sends x (step s d).1); form = saved-last s d }),
    )

-- ..and of a caller who loads only what was just saved
pub served-resumes : (cs : List Call) (s : State) (x : Slots) (y : List ℕ) → Resumes y (served x y s cs) (run s (served x y s cs))
unfolding served run
served-resumes [] s x y = tt
served-resumes (c ∷ cs) s x y = let d : Call = serve x y c in (brings-last x y c.ask, served-resumes cs (step s d).0 (sends x (step s d).1) (saved_by d.ask (step s d).1))
