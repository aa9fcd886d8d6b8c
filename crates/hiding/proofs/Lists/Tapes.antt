-- The calls of a list as a machine that takes words: its tapes of chunks, one for each call, and the flat tapes of the claim.
use Rattle.std.specs.Prelude.{◌≡◌, refl, Bool, true, false, ◌&&◌, List, [], ◌∷◌, ◌++◌, map, ℕ, zero, suc, ◌+◌, ◌-◌, ◌%◌, ◌≤◌, ◌<◌, length, take, drop, replicate, eqb, if◌then◌else◌}
use Rattle.std.proofs.Common.{ap, ap₂, sym, ◌∙◌, subst, mod-lt, mod-eq_of_lt, arith, length-append}
use Rattle.std.proofs.lemmas.List.{length-replicate}
use Rattle.lists.specs.All.{nil, cons, all_append, all_replicate}
use Rattle.rules.specs.State.{State, Command}
use Rattle.rules.specs.Questions.{Call}
use Rattle.rules.specs.Run.{Outcome, step, run}
use Rattle.matching.specs.Machine.{Machine, Tape, Watch}
use Rattle.matching.proofs.TwoLists.{Any}
use Rattle.matching.proofs.Flat.{concat, cut, cut-flat, FlatTape, FlatWatch}
use Rattle.reachable.proofs.Reached.{Was}
use Rattle.hiding.specs.Lists.Fixed
use Rattle.hiding.specs.Claim.{ShortWords, Short, is_turn, used, used_by, tape_of, told}
use Rattle.hiding.specs.Lists.Fixed.{Fixed, lend, Listed, at, Lends, Gives}
use Rattle.hiding.proofs.Lists.Saves.{at-was}
use Rattle.hiding.proofs.Lists.Words.{uses, behind}

abbrev pub Told : Type 0
Told = ℕ × ℕ × Command

-- ---- The machine. A chunk of words is what a call uses up of it, if zeros are lent behind

abbrev pub padded : ℕ → List ℕ → List ℕ
padded w d = d ++ replicate (w - length d) 0

abbrev pub lent_on : Fixed → List ℕ → Call
lent_on a d = lend a (padded a.words d)

abbrev pub words-legal : State → Fixed → List ℕ → Type 0
words-legal s a d = (length d ≤ a.words) × (ShortWords d × (used (lent_on a d) (step s (lent_on a d)).1 ≡ d))

abbrev pub words : Machine Listed (List ℕ) Told
words = record {
  State = State;
  Legal = λ s a d. words-legal s (at s a) d;
  next = λ s a d. (step s (lent_on (at s a) d)).0;
  seen = λ s a d. told (step s (lent_on (at s a) d)).1;
}

pub padded-length : (w : ℕ) (d : List ℕ) → length d ≤ w → length (padded w d) ≡ w
padded-length w d l = simp (length-append, length-replicate) (omega arith)

pub padded-short : (w : ℕ) (d : List ℕ) → ShortWords d → ShortWords (padded w d)
padded-short w d p = all_append p (all_replicate (λ i. i < 65536) (w - length d) 0 (omega arith))

-- the next words of a tape; too short a tape goes on with zeros
unfoldable pub offer : ℕ → List ℕ → List ℕ
offer zero t = []
offer (suc w) [] = 0 ∷ offer w []
offer (suc w) (x ∷ t) = x % 65536 ∷ offer w t

offer-length : (w : ℕ) (t : List ℕ) → length (offer w t) ≡ w
unfolding offer
offer-length zero t = refl
offer-length (suc w) [] = ap suc (offer-length w [])
offer-length (suc w) (x ∷ t) = ap suc (offer-length w t)

offer-short : (w : ℕ) (t : List ℕ) → ShortWords (offer w t)
unfolding offer
offer-short zero t = nil
offer-short (suc w) [] = let here : 0 < 65536 = omega arith in cons here (offer-short w [])
offer-short (suc w) (x ∷ t) = cons (mod-lt x (omega arith)) (offer-short w t)

offer-front : (w : ℕ) (d t : List ℕ) → length d ≤ w → ShortWords d → offer w (d ++ t) ≡ d ++ offer (w - length d) t
unfolding offer
offer-front w [] t l p = let k : w ≡ w - 0 = omega arith in ap (λ n. offer n t) k
offer-front zero (x ∷ d) t l p = absurd (omega arith)
offer-front (suc w) (x ∷ d) t l (cons h p) =
    let k : w - length d ≡ suc w - suc (length d) = omega arith in
    ap₂ (λ y ys. y ∷ ys) (mod-eq_of_lt h) (offer-front w d t (omega arith) p ∙ ap (λ n. d ++ offer n t) k)

-- how many of the words to come a call uses up
abbrev pub wants : State → Listed → List ℕ → ℕ
wants s a t = length (used (lend (at s a) (offer a.words t)) (step s (lend (at s a) (offer a.words t))).1)

pub size : (s : State) (a : Listed) (d t : List ℕ) → Was s → words-legal s (at s a) d → wants s a (d ++ t) ≡ length d
size s a d t v p =
    let e = offer-front a.words d t p.0 p.1.0 in
    let w = a.words - length d in
    let b = behind s v (at s a) d (replicate w 0) (offer w t) (length-replicate w (zeroth d) ∙ sym (offer-length w t)) (padded-short a.words d p.1.0) (rw e at (offer-short a.words (d ++ t))) p.1.1 in
    ap (λ ws. length (uses s v (at s a) ws)) e ∙ ap length b.1
  where
    zeroth : List ℕ → ℕ
    zeroth d = 0

pub keep : (s : State) (a : Listed) (d : List ℕ) → Was s → words-legal s (at s a) d → Was (step s (lent_on (at s a) d)).0
keep s a d v p = at-was s a (padded a.words d) v

-- ---- A call with words has its chunk

-- what is used up stands in front
pub used-front : (c : Call) (o : Outcome) → used c o ++ drop (length (used c o)) c.words ≡ c.words
unfolding used_by
used-front c o = go (eqb o.number 0) (is_turn c.ask && eqb o.number 3)
  where
    go : (t u : Bool) → let d = if t then take o.taken c.words else (if u then c.words else []) in d ++ drop (length d) c.words ≡ c.words
    go true u = taken o.taken c.words
      where
        taken : (k : ℕ) (ws : List ℕ) → take k ws ++ drop (length (take k ws)) ws ≡ ws
        taken zero ws = refl
        taken (suc k) [] = refl
        taken (suc k) (w ∷ ws) = ap (λ xs. w ∷ xs) (taken k ws)
    go false true = all-used c.words
      where
        all-used : (ws : List ℕ) → ws ++ drop (length ws) ws ≡ ws
        all-used [] = refl
        all-used (w ∷ ws) = ap (λ xs. w ∷ xs) (all-used ws)
    go false false = refl

pub all-front : (xs ys : List ℕ) → ShortWords (xs ++ ys) → ShortWords xs
all-front [] ys p = nil
all-front (x ∷ xs) ys (cons h p) = cons h (all-front xs ys p)

pub record Chunk (s : State) (a : Fixed) (ws : List ℕ) : Type 0 where
  pub legal : words-legal s a (used (lend a ws) (step s (lend a ws)).1)
  pub same : step s (lent_on a (used (lend a ws) (step s (lend a ws)).1)) ≡ step s (lend a ws)

pub chunk : (s : State) → Was s → (a : Fixed) (ws : List ℕ) → length ws ≡ a.words → ShortWords ws → Chunk s a ws
chunk s v a ws e p = record { legal = (le, (short, b.1)); same = b.0 ∙ ap (λ xs. step s (lend a xs)) front }
  where
    d : List ℕ
    d = used (lend a ws) (step s (lend a ws)).1

    us : List ℕ
    us = drop (length d) ws

    front : d ++ us ≡ ws
    front = used-front (lend a ws) (step s (lend a ws)).1

    lengths : length d + length us ≡ a.words
    lengths = sym (length-append d us) ∙ ap length front ∙ e

    le : length d ≤ a.words
    le = omega (arith, lengths)

    short : ShortWords d
    short = all-front d us (rw front p)

    b : (step s (lent_on a d) ≡ step s (lend a (d ++ us))) × (uses s v a (padded a.words d) ≡ d)
    b = behind s v a d us (replicate (a.words - length d) 0) (omega (arith, lengths, length-replicate (a.words - length d) (zeroth d))) (rw front p) (padded-short a.words d short) (ap (uses s v a) front)
      where
        zeroth : List ℕ → ℕ
        zeroth d = 0

-- ---- Runs and tapes

-- the outcomes of a list by its chunks
abbrev pub outcomes : State → List Listed → List (List ℕ) → List Outcome
outcomes s [] ds = []
outcomes s (a ∷ as') [] = []
outcomes s (a ∷ as') (d ∷ ds) = (step s (lent_on (at s a) d)).1 ∷ outcomes (step s (lent_on (at s a) d)).0 as' ds

-- the chunks of a run are a tape of the machine, and decide the run
pub record Chunks (s : State) (as' : List Listed) (cs : List Call) : Type 0 where
  pub chunks : List (List ℕ)
  pub legal : Tape words Any s as' chunks
  pub flat : concat chunks ≡ tape_of cs (run s cs)
  pub runs : outcomes s as' chunks ≡ run s cs

pub run-chunks : (as' : List Listed) (cs : List Call) (s : State) → Lends s as' cs → Short cs → Was s → Chunks s as' cs
unfolding run tape_of
run-chunks [] [] s Fixed.none p v = record { chunks = []; legal = tt; flat = refl; runs = refl }
run-chunks (a ∷ as') (c ∷ cs) s l (cons p q) v = go s c l p v (λ s' l' v'. run-chunks as' cs s' l' q v')
  where
    go : (s : State) (c : Call) → Lends s (a ∷ as') (c ∷ cs) → ShortWords c.words → Was s → ((s' : State) → Lends s' as' cs → Was s' → Chunks s' as' cs)
        → Chunks s (a ∷ as') (c ∷ cs)
    go s c (Fixed.more {ws = ws} e l) p v rest =
        let d = used (lend (at s a) ws) (step s (lend (at s a) ws)).1 in
        let k = chunk s v (at s a) ws e p in
        let r = rest (step s (lend (at s a) ws)).0 l (at-was s a ws v) in
        let n : (step s (lent_on (at s a) d)).0 ≡ (step s (lend (at s a) ws)).0 = ap (λ (x : State × Outcome). x.0) k.same in
        record {
          chunks = d ∷ r.chunks;
          legal = (k.legal, subst (λ s'. Tape words Any s' as' r.chunks) (sym n) r.legal);
          flat = ap (λ xs. d ++ xs) r.flat;
          runs = ap₂ (λ o os. o ∷ os) (ap (λ (x : State × Outcome). x.1) k.same) (ap (λ s'. outcomes s' as' r.chunks) n ∙ r.runs);
        }
run-chunks [] (c ∷ cs) s x6 p v = elim x6 [ ]
run-chunks (a ∷ as') [] s x5 p v = elim x5 [ ]

-- and each tape of the machine is one of a run
pub chunks-run : (as' : List Listed) (s : State) (ds : List (List ℕ)) → Tape words Any s as' ds → (cs : List Call) × Gives s as' (concat ds) cs
unfolding run tape_of
chunks-run [] s [] p = ([], record { calls = Fixed.none; short = nil; tape = refl })
chunks-run [] s (d ∷ ds) p = absurd p
chunks-run (a ∷ as') s [] p = absurd p
chunks-run (a ∷ as') s (d ∷ ds) p =
    let r = chunks-run as' (step s (lent_on (at s a) d)).0 ds p.1 in (
      lent_on (at s a) d ∷ r.0,
      record {
        calls = Fixed.more (padded-length a.words d p.0.0) r.1.calls;
        short = cons (padded-short a.words d p.0.1.0) r.1.short;
        tape = ap₂ (λ x y. x ++ y) p.0.1.1 r.1.tape;
      },
    )

-- a run is known by its tape
pub run-outcomes : (as' : List Listed) (s : State) → Was s → (t : List ℕ) (cs : List Call) → Gives s as' t cs → run s cs ≡ outcomes s as' (cut words wants s as' t)
run-outcomes as' s v t cs g =
    let r = run-chunks as' cs s g.calls g.short v in
    sym r.runs ∙ ap (outcomes s as') (sym (cut-flat words wants Was keep size s as' v r.chunks r.legal) ∙ ap (cut words wants s as') (r.flat ∙ g.tape))

told-outcomes : (as' : List Listed) (s : State) (ds : List (List ℕ)) → map told (outcomes s as' ds) ≡ Watch words s as' ds
told-outcomes [] s ds = refl
told-outcomes (a ∷ as') s [] = refl
told-outcomes (a ∷ as') s (d ∷ ds) = ap (λ os. told (step s (lent_on (at s a) d)).1 ∷ os) (told-outcomes as' (step s (lent_on (at s a) d)).0 ds)

pub run-watch : (as' : List Listed) (s : State) → Was s → (t : List ℕ) (cs : List Call) → Gives s as' t cs → map told (run s cs) ≡ FlatWatch words wants s as' t
run-watch as' s v t cs g = ap (map told) (run-outcomes as' s v t cs g) ∙ told-outcomes as' s (cut words wants s as' t)

-- The flat tapes of the machine are the list's
pub tape-flat : (as' : List Listed) (s : State) → Was s → (t : List ℕ) → Fixed.Tape s as' t → FlatTape words wants s as' t
tape-flat as' s v t g =
    let r = run-chunks as' g.0 s g.1.calls g.1.short v in
    (r.chunks, (r.legal, r.flat ∙ g.1.tape))

pub flat-tape : (as' : List Listed) (s : State) (t : List ℕ) → FlatTape words wants s as' t → Fixed.Tape s as' t
flat-tape as' s t p =
    let r = chunks-run as' s p.0 p.1.0 in
    (r.0, record { calls = r.1.calls; short = r.1.short; tape = r.1.tape ∙ p.1.1 })
