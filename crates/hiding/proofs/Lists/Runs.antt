-- The claim: from the tapes of the machine that takes words to the rules' run. A run of a list is one of the list with the run's own bytes; whatever
-- these are, it is told what the list with zeros is told.
use Rattle.std.specs.Prelude.{◌≡◌, refl, Bool, true, false, List, [], ◌∷◌, ◌++◌, map, ℕ, length}
use Rattle.std.proofs.Common.{ap, ap₂, sym, ◌∙◌, subst, true≢false, arith}
use Rattle.lists.specs.All.{nil, cons}
use Rattle.rules.proofs.Laws.Answers.{open-first}
use Rattle.rules.specs.Questions.{Ask, opening, request, turn, completion, collect, save, load, Call}
use Rattle.rules.specs.Resumes.{saved_by, OfLast, Resumes}
use Rattle.rules.specs.Run.{Outcome, step, run}
use Rattle.rules.specs.Shape.{Shape}
use Rattle.rules.specs.State.{State, closed}
use Rattle.matching.proofs.Flat.{FlatTape, FlatWatch, flattened, flat-alone}
use Rattle.reachable.proofs.Reached.{Was, shut}
use Rattle.hiding.specs.Machines.Needs.{Reachable}
use Rattle.hiding.specs.Machines.Public
use Rattle.hiding.specs.Claim
use Rattle.hiding.specs.Claim.{Outline, an_open, a_request, a_turn, a_completion, a_collect, a_save, a_load, outline, Lent, lend, first, Lends, ShortWords, Short, tape_of, Gives, Tape, words_in, asks_in, told, Claim}
use Rattle.hiding.specs.Lists.Fixed
use Rattle.hiding.specs.Lists.Fixed.{Listing, opens, later, Listed, ask_in, at}
use Rattle.hiding.proofs.Lists.Saves.{saved-nothing, last_save, saved_in, step-saved}
use Rattle.hiding.proofs.Lists.Reloads.{call}
use Rattle.hiding.proofs.Lists.Bytes.{length-zeros}
use Rattle.hiding.proofs.Lists.Twins.{head_or, tail_of, bare_listing, Twins, twins-alike}
use Rattle.hiding.proofs.Lists.Tapes.{words, wants, keep, size, run-outcomes, run-watch, tape-flat, flat-tape}
use Rattle.hiding.proofs.Lists.Matched.{zeroed, zero_of, zeros, last_in, zeros-length, words-matched}

-- ---- What was before the open does not matter

is_an_open : Outline → Bool
is_an_open (an_open h) = true
is_an_open (a_request k b n) = false
is_an_open a_turn = false
is_an_open (a_completion c n) = false
is_an_open a_collect = false
is_an_open a_save = false
is_an_open a_load = false

open_of : Shape → Outline → Ask
open_of g (an_open h) = opening h
open_of g (a_request k b n) = opening g
open_of g a_turn = opening g
open_of g (a_completion c n) = opening g
open_of g a_collect = opening g
open_of g a_save = opening g
open_of g a_load = opening g

-- which asks are an open
pub open-ask : (h : Shape) (a : Ask) → outline a ≡ an_open h → a ≡ opening h
unfolding is_an_open open_of
open-ask h (opening g) e = ap (open_of h) e
open-ask h (request k b bs) e = absurd (true≢false (sym (ap is_an_open e)))
open-ask h turn e = absurd (true≢false (sym (ap is_an_open e)))
open-ask h (completion c bs) e = absurd (true≢false (sym (ap is_an_open e)))
open-ask h collect e = absurd (true≢false (sym (ap is_an_open e)))
open-ask h save e = absurd (true≢false (sym (ap is_an_open e)))
open-ask h (load form) e = absurd (true≢false (sym (ap is_an_open e)))

pub open-run : (h : Shape) (m w n : ℕ) (as' : List Lent) (cs : List Call) → Lends (first h m w n ∷ as') cs → (s s' : State) → run s cs ≡ run s' cs
unfolding run
open-run h m w n as' (c ∷ cs) (Claim.more o e l) s s' =
    let q = open-ask h c.ask o in
    ap (λ (r : State × Outcome). r.1 ∷ run r.0 cs) (open-first s c h q ∙ sym (open-first s' c h q))
open-run h m w n as' [] x' s s' = elim x' [ ]

pub gives-from : (h : Shape) (m w n : ℕ) (as' : List Lent) (s s' : State) (t : List ℕ) (cs : List Call) → Gives s (first h m w n ∷ as') t cs → Gives s' (first h m w n ∷ as') t cs
gives-from h m w n as' s s' t cs g =
    let e = open-run h m w n as' cs g.calls s s' in
    record { calls = g.calls; short = g.short; loads = rw (← e) g.loads; tape = rw (← e) g.tape }

-- ---- A run as one of the list with its own bytes

-- what is asked; p has memory and buffer of the save just before
abbrev pub listing : ℕ × ℕ → Ask → Listing
listing p (opening h) = opens h
listing p (request k b bs) = later (Public.later-request k b bs)
listing p turn = later Public.later-turn
listing p (completion c bs) = later (Public.later-completion c bs)
listing p collect = later Public.later-collect
listing p save = later Public.later-save
listing p (load form) = later (Public.later-reload p.0 p.1)

abbrev pub listed : ℕ × ℕ → Call → Listed
listed p c = record { ask = listing p c.ask; memory = c.memory; words = length c.words; buffer = c.buffer }

abbrev pub last_of : Call → ℕ × ℕ
last_of c = last_save (outline c.ask) c.memory c.buffer

abbrev pub own : ℕ × ℕ → List Call → List Listed
own p [] = []
own p (c ∷ cs) = listed p c ∷ own (last_of c) cs

-- a load is of what the save has written
own-ask : (s : State) (p : ℕ × ℕ) (y : List ℕ) → y ≡ saved_in s p → (k : Ask) → OfLast y k → ask_in s (listing p k) ≡ k
own-ask s p y e (opening h) v = refl
own-ask s p y e (request k b bs) v = refl
own-ask s p y e turn v = refl
own-ask s p y e (completion c bs) v = refl
own-ask s p y e collect v = refl
own-ask s p y e save v = refl
own-ask s p y e (load form) v = ap load (sym (v ∙ e))

pub own-lends : (cs : List Call) (s : State) (p : ℕ × ℕ) (y : List ℕ) → y ≡ saved_in s p → Resumes y cs (run s cs) → Fixed.Lends s (own p cs) cs
unfolding run
own-lends [] s p y e r = Fixed.none
own-lends (c ∷ cs) s p y e r =
    let q = own-ask s p y e c.ask r.0 in
    let l = own-lends cs (step s c).0 (last_of c) (saved_by c.ask (step s c).1) (step-saved s c) r.1 in
    let here : (k : Ask) → Call = λ k. call k c.memory c.words c.buffer in
    let l' : Fixed.Lends (step s (here (ask_in s (listing p c.ask)))).0 (own (last_of c) cs) cs = subst (λ k. Fixed.Lends (step s (here k)).0 (own (last_of c) cs) cs) (sym q) l in
    subst (λ k. Fixed.Lends s (listed p c ∷ own (last_of c) cs) (here k ∷ cs)) q (Fixed.more refl l')

-- from an open on
pub own_first : (cs : List Call) → Resumes [] cs (run closed cs) → Fixed.Lends closed (own (0, 0) cs) cs
own_first cs r = own-lends cs closed (0, 0) [] (sym (saved-nothing closed)) r

-- ---- Whatever bytes are brought

pub own_bare : (p : ℕ × ℕ) (k : Ask) → bare_listing (listing p k) ≡ bare_listing (zeroed p (outline k))
own_bare p (opening h) = refl
own_bare p (request k b bs) = rw (length-zeros bs)
own_bare p turn = refl
own_bare p (completion c bs) = rw (length-zeros bs)
own_bare p collect = refl
own_bare p save = refl
own_bare p (load form) = refl

-- a run's own bytes, and zeros
zero-twins : (as' : List Lent) (cs : List Call) → Lends as' cs → (p : ℕ × ℕ) → Twins (own p cs) (zeros p as')
zero-twins [] [] Claim.none p = Twins.none
zero-twins (a ∷ as') (c ∷ cs) (Claim.more {k = k} o e l) p =
    Twins.more (record { ask = own_bare p k ∙ ap (λ x. bare_listing (zeroed p x)) o; memory = refl; words = e; buffer = refl })
    (subst (λ q. Twins (own (last_of c) cs) (zeros q as')) (ap (λ x. last_save x a.memory a.buffer) o) (zero-twins as' cs l (last_of c)))
zero-twins [] (c ∷ cs) x'' p = elim x'' [ ]
zero-twins (a ∷ as') [] x3 p = elim x3 [ ]

-- .. and the bytes of another run
own-twins : (as' : List Lent) (cs ds : List Call) → Lends as' cs → Lends as' ds → (p : ℕ × ℕ) → Twins (own p cs) (own p ds)
own-twins [] [] [] Claim.none Claim.none p = Twins.none
own-twins (a ∷ as') (c ∷ cs) (d ∷ ds) (Claim.more {k = k} o e l) (Claim.more {k = k'} o' e' l') p =
    Twins.more (record { ask = own_bare p k ∙ ap (λ x. bare_listing (zeroed p x)) (o ∙ sym o') ∙ sym (own_bare p k'); memory = refl; words = e ∙ sym e'; buffer = refl })
    (subst (λ q. Twins (own (last_of c) cs) (own q ds)) (ap (λ x. last_save x a.memory a.buffer) (o ∙ sym o')) (own-twins as' cs ds l l' (last_of c)))
own-twins [] [] (d ∷ ds) _ x7 p = elim x7 [ ]
own-twins [] (c ∷ cs) ds x5 _ p = elim x5 [ ]
own-twins (a ∷ as') [] ds x5 _ p = elim x5 [ ]
own-twins (a ∷ as') (c ∷ cs) [] _ x9 p = elim x9 [ ]

-- the calls of a list with its bytes, lent the words of a run
abbrev pub follow : State → List Listed → List Call → List Call
follow s [] cs = []
follow s (a ∷ as') [] = []
follow s (a ∷ as') (c ∷ cs) = Fixed.lend (at s a) c.words ∷ follow (step s (Fixed.lend (at s a) c.words)).0 as' cs

pub record Follows (s : State) (as' : List Listed) (cs : List Call) : Type 0 where
  pub calls : Fixed.Lends s as' (follow s as' cs)
  pub same : words_in cs ≡ words_in (follow s as' cs)

-- it lends as many words to each call
abbrev pub Lengths : List Listed → List Call → Type 0
Lengths [] [] = Unit {0}
Lengths [] (c ∷ cs) = ⊥
Lengths (a ∷ as') [] = ⊥
Lengths (a ∷ as') (c ∷ cs) = (length c.words ≡ a.words) × Lengths as' cs

pub follows : (as' : List Listed) (cs : List Call) → Lengths as' cs → (s : State) → Follows s as' cs
follows [] [] l s = record { calls = Fixed.none; same = refl }
follows [] (c ∷ cs) l s = absurd l
follows (a ∷ as') [] l s = absurd l
follows (a ∷ as') (c ∷ cs) l s =
    let r = follows as' cs l.1 (step s (Fixed.lend (at s a) c.words)).0 in
    record { calls = Fixed.more l.0 r.calls; same = ap (λ xs. c.words ∷ xs) r.same }

zeros-lengths : (as' : List Lent) (cs : List Call) → Lends as' cs → (p : ℕ × ℕ) → Lengths (zeros p as') cs
zeros-lengths [] [] Claim.none p = tt
zeros-lengths (a ∷ as') (c ∷ cs) (Claim.more o e l) p = (e, zeros-lengths as' cs l (last_in a))
zeros-lengths [] (c ∷ cs) x'' p = elim x'' [ ]
zeros-lengths (a ∷ as') [] x3 p = elim x3 [ ]

pub own-lengths : (cs : List Call) (p : ℕ × ℕ) → Lengths (own p cs) cs
own-lengths [] p = tt
own-lengths (c ∷ cs) p = (refl, own-lengths cs (last_of c))

-- the same words
same-short : (ds cs : List Call) → words_in ds ≡ words_in cs → Short cs → Short ds
unfolding head_or tail_of
same-short [] [] e nil = nil
same-short [] (c ∷ cs) e p = nil
same-short (d ∷ ds) [] e nil = absurd (omega (arith, ap length e))
same-short (d ∷ ds) (c ∷ cs) e (cons p q) = cons (subst ShortWords (sym (ap (head_or []) e)) p) (same-short ds cs (ap tail_of e) q)

-- A run with any bytes, and the one with zeros for them
pub record Zeroed (as' : List Lent) (t : List ℕ) (cs : List Call) : Type 0 where
  pub calls : List Call
  pub gives : Fixed.Gives closed (zeros (0, 0) as') t calls
  pub tells : map told (run closed cs) ≡ map told (run closed calls)

pub gives-zeros : (as' : List Lent) (t : List ℕ) (cs : List Call) → Gives closed as' t cs → Zeroed as' t cs
gives-zeros as' t cs g =
    let f = follows (zeros (0, 0) as') cs (zeros-lengths as' cs g.calls (0, 0)) closed in
    let ds = follow closed (zeros (0, 0) as') cs in
    let r = twins-alike (own (0, 0) cs) (zeros (0, 0) as') (zero-twins as' cs g.calls (0, 0)) cs ds closed closed (own_first cs g.loads) f.calls f.same refl (shut refl) (shut refl) in
    record { calls = ds; gives = record { calls = f.calls; short = same-short ds cs (sym f.same) g.short; tape = sym r.1 ∙ g.tape }; tells = r.0 }

outline-zeroed : (s : State) (p : ℕ × ℕ) (o : Outline) → outline (ask_in s (zeroed p o)) ≡ o
outline-zeroed s p (an_open h) = refl
outline-zeroed s p (a_request k b n) = ap (a_request k b) (zeros-length n)
outline-zeroed s p a_turn = refl
outline-zeroed s p (a_completion c n) = ap (a_completion c) (zeros-length n)
outline-zeroed s p a_collect = refl
outline-zeroed s p a_save = refl
outline-zeroed s p a_load = refl

zeroed-last : (s : State) (p : ℕ × ℕ) (o : Outline) → OfLast (saved_in s p) (ask_in s (zeroed p o))
zeroed-last s p (an_open h) = tt
zeroed-last s p (a_request k b n) = tt
zeroed-last s p a_turn = tt
zeroed-last s p (a_completion c n) = tt
zeroed-last s p a_collect = tt
zeroed-last s p a_save = tt
zeroed-last s p a_load = refl

zeros-lends : (as' : List Lent) (cs : List Call) (s : State) (p : ℕ × ℕ) → Fixed.Lends s (zeros p as') cs → Lends as' cs × Resumes (saved_in s p) cs (run s cs)
unfolding run
zeros-lends [] [] s p Fixed.none = (Claim.none, tt)
zeros-lends (a ∷ as') (c ∷ cs) s p x = go s p c x (λ s' l. zeros-lends as' cs s' (last_in a) l)
  where
    go : (s : State) (p : ℕ × ℕ) (c : Call) → Fixed.Lends s (zeros p (a ∷ as')) (c ∷ cs)
        → ((s' : State) → Fixed.Lends s' (zeros (last_in a) as') cs → Lends as' cs × Resumes (saved_in s' (last_in a)) cs (run s' cs))
        → Lends (a ∷ as') (c ∷ cs) × Resumes (saved_in s p) (c ∷ cs) (run s (c ∷ cs))
    go s p c (Fixed.more {ws = ws} e l) rest =
        let d = Fixed.lend (at s (zero_of p a)) ws in
        let r = rest (step s d).0 l in
        let q : saved_by d.ask (step s d).1 ≡ saved_in (step s d).0 (last_in a) = step-saved s d ∙ ap (λ o. saved_in (step s d).0 (last_save o a.memory a.buffer)) (outline-zeroed s p a.ask) in
        (Claim.more (outline-zeroed s p a.ask) e r.0, (zeroed-last s p a.ask, subst (λ y. Resumes y cs (run (step s d).0 cs)) (sym q) r.1))
zeros-lends [] (c ∷ cs) s p x'' = elim x'' [ ]
zeros-lends (a ∷ as') [] s p x3 = elim x3 [ ]

pub zeros-tape : (as' : List Lent) (t : List ℕ) → Fixed.Tape closed (zeros (0, 0) as') t → Tape closed as' t
zeros-tape as' t p =
    let r = zeros-lends as' p.0 closed (0, 0) p.1.calls in
    (p.0, record { calls = r.0; short = p.1.short; loads = subst (λ y. Resumes y p.0 (run closed p.0)) (saved-nothing closed) r.1; tape = p.1.tape })

module _ (h : Shape) (m w n : ℕ) where
  -- the list with zeros for bytes
  abbrev list_with : List Lent → List Listed
  list_with as' = zeros (0, 0) (first h m w n ∷ as')

  closedly : (as' : List Lent) (s : State) (t : List ℕ) (cs : List Call) → Gives s (first h m w n ∷ as') t cs → Gives closed (first h m w n ∷ as') t cs
  closedly as' s t cs g = gives-from h m w n as' s closed t cs g

  -- the tapes of a list and of the machine
  of-list : (as' : List Lent) (s : State) (t : List ℕ) → Tape s (first h m w n ∷ as') t → FlatTape words wants closed (list_with as') t
  of-list as' s t p =
      let z = gives-zeros (first h m w n ∷ as') t p.0 (closedly as' s t p.0 p.1) in
      tape-flat (list_with as') closed (shut refl) t (z.calls, z.gives)

  list_of : (as' : List Lent) (s : State) (t : List ℕ) → FlatTape words wants closed (list_with as') t → Tape s (first h m w n ∷ as') t
  list_of as' s t p =
      let r = zeros-tape (first h m w n ∷ as') t (flat-tape (list_with as') closed t p) in
      (r.0, gives-from h m w n as' closed s t r.0 r.1)

  -- what is told of a run, whatever bytes it has
  pub shown : (as' : List Lent) (s : State) (t : List ℕ) (cs : List Call) → Gives s (first h m w n ∷ as') t cs → map told (run s cs) ≡ FlatWatch words wants closed (list_with as') t
  shown as' s t cs g =
      let z = gives-zeros (first h m w n ∷ as') t cs (closedly as' s t cs g) in
      ap (map told) (open-run h m w n as' cs g.calls s closed) ∙ z.tells ∙ run-watch (list_with as') closed (shut refl) t z.calls z.gives

  -- words that give a tape give it whatever bytes are brought
  pub given : (as' : List Lent) (s : State) (t : List ℕ) (cs : List Call) → Gives s (first h m w n ∷ as') t cs → (ds : List Call) → Lends (first h m w n ∷ as') ds →
      words_in ds ≡ words_in cs → Resumes [] ds (run s ds) → Gives s (first h m w n ∷ as') t ds
  given as' s t cs g ds l e r =
      let A = first h m w n ∷ as' in
      let c = open-run h m w n as' cs g.calls s closed in
      let d = open-run h m w n as' ds l s closed in
      let q = twins-alike (own (0, 0) ds) (own (0, 0) cs) (own-twins A ds cs l g.calls (0, 0)) ds cs closed closed (own_first ds (rw d at r)) (own_first cs (rw c at g.loads)) e refl (shut refl) (shut refl) in
      record { calls = l; short = same-short ds cs e g.short; loads = r; tape = ap (tape_of ds) d ∙ q.1 ∙ ap (tape_of cs) (sym c) ∙ g.tape }

  -- No tape begins with another
  pub alone : (as' : List Lent) (s : State) (t u x y : List ℕ) → Tape s (first h m w n ∷ as') t → Tape s (first h m w n ∷ as') u → t ++ x ≡ u ++ y → t ≡ u
  alone as' s t u x y p q e = flat-alone words wants Was keep size closed (list_with as') (shut refl) t u x y (of-list as' s t p) (of-list as' s u q) e

-- ---- With the bytes the tape decides the run

-- calls of a list that ask the same have the same list of their own
own_same : (as' : List Lent) (cs ds : List Call) → Lends as' cs → Lends as' ds → asks_in cs ≡ asks_in ds → (p : ℕ × ℕ) → own p cs ≡ own p ds
unfolding head_or tail_of
own_same [] [] [] Claim.none Claim.none e p = refl
own_same (a ∷ as') (c ∷ cs) (d ∷ ds) (Claim.more {k = k} o x l) (Claim.more {k = k'} o' y l') e p =
    let j : k ≡ k' = ap (head_or turn) e in
    ap₂ (λ (z : Listed) zs. z ∷ zs) (λ i. record { ask = listing p (j i); memory = a.memory; words = (x ∙ sym y) i; buffer = a.buffer })
    (own_same as' cs ds l l' (ap tail_of e) (last_of c) ∙ ap (λ (z : Ask). own (last_save (outline z) a.memory a.buffer) ds) j)
own_same [] [] (d ∷ ds) _ x10 e p = elim x10 [ ]
own_same [] (c ∷ cs) ds x7 _ e p = elim x7 [ ]
own_same (a ∷ as') [] ds x6 _ e p = elim x6 [ ]
own_same (a ∷ as') (c ∷ cs) [] _ x10 e p = elim x10 [ ]

pub decides : (h : Shape) (m w n : ℕ) (as' : List Lent) (s : State) (t : List ℕ) (cs ds : List Call) →
    Gives s (first h m w n ∷ as') t cs → Gives s (first h m w n ∷ as') t ds → asks_in cs ≡ asks_in ds → run s cs ≡ run s ds
decides h m w n as' s t cs ds g k e =
    let c = closedly h m w n as' s t cs g in
    let d = closedly h m w n as' s t ds k in
    let A = own (0, 0) cs in
    let l : Fixed.Lends closed A ds = subst (λ as'. Fixed.Lends closed as' ds) (sym (own_same (first h m w n ∷ as') cs ds g.calls k.calls e (0, 0))) (own_first ds d.loads) in
    open-run h m w n as' cs g.calls s closed
    ∙ run-outcomes A closed (shut refl) t cs (record { calls = own_first cs c.loads; short = c.short; tape = c.tape })
    ∙ sym (run-outcomes A closed (shut refl) t ds (record { calls = l; short = d.short; tape = d.tape }))
    ∙ open-run h m w n as' ds k.calls closed s

-- The claim, from what holds of every state that calls left
pub claim : ((h : Shape) → h.E ≡ h.N → Reachable h) → Claim
claim reach h q m w n as' bs' c s s' =
    let a = zero_of (0, 0) (first h m w n) in
    let k = flattened words wants Was keep size closed closed (a ∷ zeros (0, 0) as') (a ∷ zeros (0, 0) bs') (shut refl) (shut refl) (words-matched h (reach h q) m w n as' bs' c) in
    let tape = of-list h m w n in (
      record {
        f = k.f;
        g = k.g;
        f-ok = λ t p. list_of h m w n bs' s' (k.f t) (k.f-ok t (tape as' s t p));
        g-ok = λ t p. list_of h m w n as' s (k.g t) (k.g-ok t (tape bs' s' t p));
        g-f = λ t p. k.g-f t (tape as' s t p);
        f-g = λ t p. k.f-g t (tape bs' s' t p);
      },
      λ t cs ds x y. shown h m w n as' s t cs x ∙ k.same t (tape as' s t (cs, x)) ∙ sym (shown h m w n bs' s' (k.f t) ds y),
    )
