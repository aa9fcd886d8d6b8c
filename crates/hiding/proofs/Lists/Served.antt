-- What a tape is to a caller who lends no word again that is the tape's: one flat tape serves the run; and how long a tape is.
use Rattle.std.specs.Prelude.{◌≡◌, refl, Bool, true, false, ◌&&◌, List, [], ◌∷◌, ◌++◌, map, ℕ, suc, ◌+◌, ◌≤◌, min, length, take, drop, eqb, if◌then◌else◌}
use Rattle.std.proofs.Common.{ap, ap₂, sym, ◌∙◌, append_assoc, arith, length-append, length-take, take-append-drop, drop_at, length-take-le}
use Rattle.std.proofs.lemmas.List.{length-map}
use Rattle.lists.specs.All.{nil, cons}
use Rattle.rules.specs.Questions.{Ask, opening, request, turn, completion, collect, save, load, Call}
use Rattle.rules.specs.Resumes.{saved_by, OfLast, Resumes}
use Rattle.rules.specs.Run.{Outcome, step, run}
use Rattle.rules.specs.Shape.{Shape}
use Rattle.rules.specs.State.{State, closed}
use Rattle.hiding.specs.Claim
use Rattle.hiding.specs.Claim.{Outline, outline, Lent, lend, first, Compared, Lends, ShortWords, Short, is_turn, used, used_by, tape_of, Gives, told, serve, loading, most, Tapes}
use Rattle.hiding.specs.Lists.Fixed.{ask_in}
use Rattle.hiding.proofs.Lists.Matched.{zeroed, zero_of, zeros, last_in, public_in, same-public}
use Rattle.hiding.proofs.Lists.Tapes.{Told, used-front, all-front}
use Rattle.hiding.proofs.Lists.Twins.{head_or, tail_of}
use Rattle.hiding.proofs.Lists.Runs.{given, decides, alone, shown}

all_back : (xs ys : List ℕ) → ShortWords (xs ++ ys) → ShortWords ys
all_back [] ys p = p
all_back (x ∷ xs) ys (cons h p) = all_back xs ys p

-- ---- One flat tape serves a list

-- what `Gives` says of a list in the midst of a run, in which `form` was just saved
record Held (s : State) (form : List ℕ) (as' : List Lent) (t : List ℕ) (cs : List Call) : Type 0 where
  calls : Lends as' cs
  short : Short cs
  loads : Resumes form cs (run s cs)
  tape : tape_of cs (run s cs) ≡ t

-- what it begins with is used up
abbrev Served : State → List ℕ → List Lent → List Ask → List ℕ → Type 0
Served s form as' ks x = (t : List ℕ) × ((y : List ℕ) × ((x ≡ t ++ y) × Held s form as' t (serve s form as' ks x)))

pub loading-outline : (form : List ℕ) (k : Ask) → outline (loading form k) ≡ outline k
loading-outline form (opening h) = refl
loading-outline form (request k b bs) = refl
loading-outline form turn = refl
loading-outline form (completion c bs) = refl
loading-outline form collect = refl
loading-outline form save = refl
loading-outline form (load x) = refl

pub loading-last : (form : List ℕ) (k : Ask) → OfLast form (loading form k)
loading-last form (opening h) = tt
loading-last form (request k b bs) = tt
loading-last form turn = tt
loading-last form (completion c bs) = tt
loading-last form collect = tt
loading-last form save = tt
loading-last form (load x) = refl

served : (as' : List Lent) (ks : List Ask) (s : State) (form x : List ℕ) → map outline ks ≡ map (λ (a : Lent). a.ask) as' → ShortWords x → most as' ≤ length x → Served s form as' ks x
unfolding serve tape_of run head_or tail_of
served [] ks s form x o p l = ([], (x, (refl, record { calls = Claim.none; short = nil; loads = tt; tape = refl })))
served (a ∷ as') [] s form x o p l = let z : ◌≡◌ {A = ℕ} 0 (suc (length as')) = ap length o ∙ ap suc (length-map as' (λ (a : Lent). a.ask)) in absurd (omega arith)
served (a ∷ as') (k ∷ ks) s form x o p l = joined (served as' ks (step s c).0 (saved_by c.ask (step s c).1) rest (ap tail_of o) short-rest long)
  where
    c : Call
    c = lend a (loading form k) (take a.words x)

    d : List ℕ
    d = used c (step s c).1

    rest : List ℕ
    rest = drop (length d) x

    us : List ℕ
    us = drop (length d) (take a.words x)

    front : d ++ (us ++ drop a.words x) ≡ x
    front = sym (append_assoc d us (drop a.words x)) ∙ ap (λ xs. xs ++ drop a.words x) (used-front c (step s c).1) ∙ take-append-drop a.words x

    rest-is : rest ≡ us ++ drop a.words x
    rest-is = ap (drop (length d)) (sym front) ∙ drop_at d (us ++ drop a.words x) (length d) refl

    whole : x ≡ d ++ rest
    whole = sym front ∙ ap (λ xs. d ++ xs) (sym rest-is)

    lent : length (take a.words x) ≡ a.words
    lent = length-take-le a.words x (omega arith)

    few : length d ≤ a.words
    few = omega (arith, length-append d us, ap length (used-front c (step s c).1), lent)

    long : most as' ≤ length rest
    long = omega (arith, few, length-append d rest, ap length whole)

    short-rest : ShortWords rest
    short-rest = all_back d rest (rw (← whole) p)

    joined : Served (step s c).0 (saved_by c.ask (step s c).1) as' ks rest → Served s form (a ∷ as') (k ∷ ks) x
    joined r = (
      d ++ r.0,
      (
        r.1.0,
        (
          whole ∙ ap (λ xs. d ++ xs) r.1.1.0 ∙ sym (append_assoc d r.0 r.1.0),
          record {
            calls = Claim.more (loading-outline form k ∙ ap (head_or (outline turn)) o) lent r.1.1.1.calls;
            short = cons (all-front (take a.words x) (drop a.words x) (rw (take-append-drop a.words x) p)) r.1.1.1.short;
            loads = (loading-last form k, r.1.1.1.loads);
            tape = ap (λ xs. d ++ xs) r.1.1.1.tape;
          },
        ),
      ),
    )

-- ---- How long a tape is, by what is told

abbrev counted : Bool → ℕ → Told → ℕ
counted t w o = if eqb o.0 0 then min o.1 w else (if t && eqb o.0 3 then w else 0)

abbrev counted_all : List (Bool × ℕ) → List Told → ℕ
counted_all [] os = 0
counted_all (q ∷ qs) [] = 0
counted_all (q ∷ qs) (o ∷ os) = counted q.0 q.1 o + counted_all qs os

used-length : (c : Call) (o : Outcome) → length (used c o) ≡ counted (is_turn c.ask) (length c.words) (told o)
unfolding used_by
used-length c o = go (eqb o.number 0) (is_turn c.ask && eqb o.number 3)
  where
    go : (t u : Bool) → length (if t then take o.taken c.words else (if u then c.words else [])) ≡ (if t then min o.taken (length c.words) else (if u then length c.words else 0))
    go true u = length-take o.taken c.words
    go false true = refl
    go false false = refl

turn-zeroed : (p : ℕ × ℕ) (k : Ask) → is_turn k ≡ is_turn (ask_in closed (zeroed p (outline k)))
unfolding is_turn
turn-zeroed p (opening h) = refl
turn-zeroed p (request k b bs) = refl
turn-zeroed p turn = refl
turn-zeroed p (completion c bs) = refl
turn-zeroed p collect = refl
turn-zeroed p save = refl
turn-zeroed p (load form) = refl

tape-length : (as' : List Lent) (cs : List Call) → Lends as' cs → (p : ℕ × ℕ) (os : List Outcome) → length (tape_of cs os) ≡ counted_all (map public_in (zeros p as')) (map told os)
unfolding tape_of
tape-length [] [] Claim.none p os = refl
tape-length (a ∷ as') (c ∷ cs) (Claim.more {k = k} {ws = ws} q e l) p [] = refl
tape-length (a ∷ as') (c ∷ cs) (Claim.more {k = k} {ws = ws} q e l) p (o ∷ os) =
    let turns : is_turn k ≡ is_turn (ask_in closed (zeroed p a.ask)) = turn-zeroed p k ∙ ap (λ (x : Outline). is_turn (ask_in closed (zeroed p x))) q in
    length-append (used (lend a k ws) o) (tape_of cs os)
    ∙ ap₂ (λ i j. i + j) (used-length (lend a k ws) o ∙ (λ i. counted (turns i) (e i) (told o))) (tape-length as' cs l (last_in a) os)
tape-length [] (c ∷ cs) x'' p os = elim x'' [ ]
tape-length (a ∷ as') [] x3 p os = elim x3 [ ]

long : (h : Shape) (m w n : ℕ) (as' bs' : List Lent) → Compared h as' bs' → (s s' : State) (t u : List ℕ) (cs ds : List Call) →
    Gives s (first h m w n ∷ as') t cs → Gives s' (first h m w n ∷ bs') u ds → map told (run s cs) ≡ map told (run s' ds) → length t ≡ length u
long h m w n as' bs' c s s' t u cs ds g k e =
    ap length (sym g.tape) ∙ tape-length (first h m w n ∷ as') cs g.calls (0, 0) (run s cs)
    ∙ ap₂ (λ (qs : List (Bool × ℕ)) (os : List Told). counted_all (public_in (zero_of (0, 0) (first h m w n)) ∷ qs) os) (same-public h as' bs' c (0, 0) (0, 0)) e
    ∙ sym (ap length (sym k.tape) ∙ tape-length (first h m w n ∷ bs') ds k.calls (0, 0) (run s' ds))

pub tapes : Tapes
tapes = record {
  served = λ s as' ks x o p l.
      let r = served as' ks s [] x o p l in
      let g = r.1.1.1 in
      (r.0, (r.1.0, (r.1.1.0, record { calls = g.calls; short = g.short; loads = g.loads; tape = g.tape })));
  given = given;
  alone = alone;
  tells = λ h m w n as' s t cs ds g k. shown h m w n as' s t cs g ∙ sym (shown h m w n as' s t ds k);
  decides = decides;
  long = long;
}
