-- Where each load is of what the call just before it has saved, that is the form of the state.
use Rattle.std.specs.Prelude.{◌≡◌, refl, List, [], ℕ}
use Rattle.std.proofs.Common.{ap, sym, ◌∙◌, subst, arith}
use Rattle.std.proofs.Math.Decide.{ℕ_discrete}
use Rattle.rules.specs.Draws.{draws}
use Rattle.rules.specs.Form.Loading.{loaded_form}
use Rattle.rules.specs.Form.Payload.{saved_form}
use Rattle.rules.specs.Form.Sums.{summed}
use Rattle.rules.proofs.Laws.Answers.{accepted-passed, step-accepted, refused-load, refused-outcome}
use Rattle.rules.proofs.Laws.Form.Back.{contents_of, orders_in, saved-back}
use Rattle.rules.specs.Laws.Form.Saveable.{over, Saveable}
use Rattle.rules.proofs.Laws.Kept.{given-in}
use Rattle.rules.specs.Laws.Range.{InRange}
use Rattle.rules.proofs.Laws.Asked.{loaded-idle}
use Rattle.rules.proofs.Laws.Released.{release-none}
use Rattle.rules.specs.Questions.{Ask, opening, request, turn, completion, collect, save, load, Call, bounds, number, questions, first_no}
use Rattle.rules.specs.Resumes.{saved_by, OfLast}
use Rattle.rules.specs.Run
use Rattle.rules.specs.Run.{Outcome, act, step}
use Rattle.rules.specs.State.{State, cmd, closed}
use Rattle.reachable.specs.Invariant.{Reached}
use Rattle.reachable.proofs.Reached.{Was, live, shut, Brings, closed-out, save-passed, step-was}
use Rattle.reachable.proofs.Saved.{Rests, rest-facts, saveable, loaded-kept}

-- what a save has put into its buffer: nothing, if it was refused, or the form of the state, which is at rest
pub data OfState (s : State) (form : List ℕ) : Type 0 where
  nothing : form ≡ [] → OfState s form
  own : form ≡ saved_form s → InRange s → Rests s → OfState s form

-- an accepted save leaves the state
pub save-keeps : (s : State) (c : Call) → c.ask ≡ save → number s c ≡ 0 → (step s c).0 ≡ s
save-keeps s c e n = ap (λ (r : State × Outcome). r.0) (step-accepted s c n) ∙ keeps c.ask e
  where
    rests : Rests s
    rests = rest-facts s (save-passed s c.ask c.memory c.words c.buffer e (accepted-passed s c n)).1

    keeps : (a : Ask) → a ≡ save → (Run.accepted s a (draws (bounds s a) c.words)).0 ≡ s
    keeps a e = rw e (unfold Run.accepted act Run.perform in (release-none s rests.idle))

-- an accepted save puts the form into its buffer
pub save-writes : (s : State) (d : Call) → d.ask ≡ save → number s d ≡ 0 → (step s d).1.bytes ≡ saved_form s
save-writes s d e n = ap (λ (r : State × Outcome). r.1.bytes) (step-accepted s d n) ∙ writes d.ask e
  where
    writes : (a : Ask) → a ≡ save → (Run.accepted s a (draws (bounds s a) d.words)).1.bytes ≡ saved_form s
    writes a e = rw e (unfold Run.accepted Run.handed in refl)

-- an accepted load brings what the form has
pub load-brings : (u : State) (c : Call) (form : List ℕ) → c.ask ≡ load form → number u c ≡ 0 → (step u c).0 ≡ loaded_form form
load-brings u c form e n = ap (λ (r : State × Outcome). r.0) (step-accepted u c n) ∙ brings c.ask e
  where
    brings : (a : Ask) → a ≡ load form → (Run.accepted u a (draws (bounds u a) c.words)).0 ≡ loaded_form form
    brings a e = rw e (unfold Run.accepted act Run.perform in (release-none (loaded_form form) (loaded-idle form)))

save-last : (s : State) (c : Call) → c.ask ≡ save → Dec (number s c ≡ 0) → OfState (step s c).0 (step s c).1.bytes
save-last s c q (no n) = nothing (ap (λ (o : Outcome). o.bytes) (refused-outcome s c n) ∙ unfold Run.refused in refl)
save-last s c q (yes n) =
    let p = save-passed s c.ask c.memory c.words c.buffer q (accepted-passed s c n) in
    rw (save-keeps s c q n) (own (save-writes s c q n) (given-in s c.memory p.0) (rest-facts s p.1))

-- After any call
pub step-last : (s : State) (c : Call) → OfState (step s c).0 (saved_by c.ask (step s c).1)
unfolding saved_by
step-last s c = go c.ask refl
  where
    go : (a : Ask) → c.ask ≡ a → OfState (step s c).0 (saved_by a (step s c).1)
    go (opening h) q = nothing refl
    go (request k b bs) q = nothing refl
    go turn q = nothing refl
    go (completion d bs) q = nothing refl
    go collect q = nothing refl
    go save q = save-last s c q (ℕ_discrete (number s c) 0)
    go (load form) q = nothing refl

-- ---- A load of it

-- what it leaves: the state, but for what a form leaves out; or a closed one
pub data Brought (s t : State) : Type 0 where
  back : Reached s → Rests s → (y : ℕ → List ℕ) (o : ℕ → ℕ) → t ≡ over y o s → Brought s t
  gone : t ≡ closed → Brought s t

-- nothing is no form
nothing-refused : (s : State) (c : Call) → c.ask ≡ load [] → ¬ (number s c ≡ 0)
unfolding number questions first_no summed
nothing-refused s c e n = absurd (omega (arith, sym (ap (λ a. first_no (questions s a c.memory c.words c.buffer)) e) ∙ n))

pub load-leaves : (s : State) (c : Call) (form : List ℕ) → c.ask ≡ load form → OfState s form → Was s → Brought s (step s c).0 × Was (step s c).0
load-leaves s c form e (nothing w) l = let z = refused-load s c form e (nothing-refused s c (e ∙ ap load w)) in (gone z, shut z)
load-leaves s c form e (own w i r) (shut z) = absurd (closed-out (subst InRange z i))
load-leaves s c form e (own w i r) (live f) = go (ℕ_discrete (number s c) 0)
  where
    k : Saveable s
    k = saveable s f r

    go : Dec (number s c ≡ 0) → Brought s (step s c).0 × Was (step s c).0
    go (yes z) =
        let v : (step s c).0 ≡ over (contents_of s k) (orders_in s k) s = load-brings s c form e z ∙ ap loaded_form w ∙ saved-back s k in
        (back f r (contents_of s k) (orders_in s k) v, live (rw v (loaded-kept s f r)))
    go (no z) = let v = refused-load s c form e z in (gone v, shut v)

-- it sends nothing
pub load-silent : (s : State) (c : Call) (form : List ℕ) → c.ask ≡ load form → (step s c).1.command ≡ cmd 0 0 0 0
load-silent s c form e = go (ℕ_discrete (number s c) 0)
  where
    sent : (a : Ask) → a ≡ load form → (Run.accepted s a (draws (bounds s a) c.words)).1.command ≡ cmd 0 0 0 0
    sent a e = rw e (unfold Run.accepted Run.sent_command in refl)

    go : Dec (number s c ≡ 0) → (step s c).1.command ≡ cmd 0 0 0 0
    go (yes z) = ap (λ (r : State × Outcome). r.1.command) (step-accepted s c z) ∙ sent c.ask e
    go (no z) = ap (λ (o : Outcome). o.command) (refused-outcome s c z) ∙ (unfold Run.refused in refl)

-- Every call, whose load is of what was saved last, is given a state that calls may have left and leaves one
pub resumes-was : (s : State) (x : List ℕ) (c : Call) → OfLast x c.ask → OfState s x → Was s → Was (step s c).0
resumes-was s x c v y l = go c.ask refl v
  where
    plain : Brings c.ask → Was (step s c).0
    plain w = step-was s c w l

    go : (a : Ask) → c.ask ≡ a → OfLast x a → Was (step s c).0
    go (opening h) e v = plain (rw e tt)
    go (request k b bs) e v = plain (rw e tt)
    go turn e v = plain (rw e tt)
    go (completion d bs) e v = plain (rw e tt)
    go collect e v = plain (rw e tt)
    go save e v = plain (rw e tt)
    go (load form) e v = (load-leaves s c form e (rw v y) l).1
