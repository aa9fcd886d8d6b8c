-- Demands 2 and 3 together, with an honest host. Of two compared lists, with partners for tapes, both run with a host that completes each read
-- with the bytes last written there, and each run loads what it has saved itself: the host is told the same at each place, and each collect hands out
-- the contents of a plain array.
-- To believe it, read `Together` with crate `rules`, array/specs/Claim.antt and Claim.antt here: `together-from` has it from those two claims alone.
-- There are such runs for every tape, whatever the contents of the requests and whatever the host had before (`honest-given`), and any run is one
-- when the host's bytes are put into it (`honest-run`): array/specs/Served.antt.
use Rattle.std.specs.Prelude.{◌≡◌, refl, Bool, true, false, List, [], ◌∷◌, map, ℕ, length, eqb, if◌then◌else◌}
use Rattle.std.proofs.Common.{ap, ap₂, ◌∙◌, arith}
use Rattle.rules.specs.Questions.{Ask, opening, request, turn, completion, collect, Call, save, load}
use Rattle.rules.specs.Run.{run}
use Rattle.rules.specs.Shape.{Shape}
use Rattle.rules.specs.State.{State, read}
use Rattle.array.specs.Claim as Array
use Rattle.array.specs.Hosts.{AtOnce}
use Rattle.array.proofs.Hosts.{at_once}
use Rattle.array.specs.Served.{fit, brings, served}
use Rattle.array.proofs.Served.{served-at-once, served-resumes}
use Rattle.array.proofs.ServedSlots.{fit_length}
use Rattle.array.specs.Claim.{Slots, Host, Expected, Honest, Plain}
use Rattle.array.proofs.Theorem.{plain-array}
use Rattle.hiding.specs.Claim
use Rattle.hiding.specs.Claim.{a_turn, a_completion, outline, Lent, lend, first, Tape, Lends, Gives, words_in, told, Claim}
use Rattle.hiding.proofs.Lists.Runs.{open-ask}
use Rattle.hiding.proofs.Lists.Twins.{head_or, tail_of}
use Rattle.hiding.proofs.Theorem.{hidden}
use Rattle.rules.specs.Resumes.{Resumes}
use Rattle.hiding.specs.Honest.{Together}

-- ---- From the two claims

pub list-plain : Array.Claim → (h : Shape) (m w n : ℕ) (as' : List Lent) (s : State) (cs : List Call) → Lends (first h m w n ∷ as') cs → Resumes [] cs (run s cs) →
    (host : Host) → Honest host cs (run s cs) → (x : Expected) → Plain x cs (run s cs)
list-plain array h m w n as' s (c ∷ cs) (Claim.more e l k) r host y x = array s host x h c cs (open-ask h c.ask e) r y
list-plain array h m w n as' s [] x5 r host y x = elim x5 [ ]

pub together-from : Array.Claim → Claim → Together
together-from array lists h q m w n as' bs' c s s' =
    let y = lists h q m w n as' bs' c s s' in (
      y.0,
      λ t cs ds g g' host host' k k' x x'. (
        y.1 t cs ds g g',
        list-plain array h m w n as' s cs g.calls g.loads host k x,
        list-plain array h m w n bs' s' ds g'.calls g'.loads host' k' x',
      ),
    )

pub together : Together
together = together-from plain-array hidden.lists

-- ---- There are such runs

served-outline : (x : Slots) (y : List ℕ) (a : Ask) → outline (brings x y a) ≡ outline a
unfolding brings
served-outline x y (opening h) = refl
served-outline x y (request k b bs) = refl
served-outline x y turn = refl
served-outline x y (completion c bs) = go (eqb c.kind read)
  where
    go : (t : Bool) → a_completion c (length (if t then fit (length bs) (x c.partition c.level c.slot) else bs)) ≡ a_completion c (length bs)
    go true = ap (a_completion c) (fit_length (length bs) (x c.partition c.level c.slot))
    go false = refl
served-outline x y collect = refl
served-outline x y save = refl
served-outline x y (load form) = refl

served-lends : (as' : List Lent) (cs : List Call) → Lends as' cs → (x : Slots) (y : List ℕ) (s : State) → Lends as' (served x y s cs)
unfolding served
served-lends [] [] Claim.none x y s = Claim.none
served-lends (a ∷ as') (c ∷ cs) (Claim.more {k = k} o e l) x y s = Claim.more (served-outline x y k ∙ o) e (served-lends as' cs l _ _ _)
served-lends [] (c ∷ cs) x5 x y s = elim x5 [ ]
served-lends (a ∷ as') [] x6 x y s = elim x6 [ ]

served-words : (cs : List Call) (x : Slots) (y : List ℕ) (s : State) → words_in (served x y s cs) ≡ words_in cs
unfolding served
served-words [] x y s = refl
served-words (c ∷ cs) x y s = ap (λ xs. c.words ∷ xs) (served-words cs _ _ _)

-- calls of a list, with words that give a tape: put the host's bytes into them, and their own forms, and they give it, and the host is honest. x has
-- what the host has in each slot before
served-gives : (h : Shape) (m w n : ℕ) (as' : List Lent) (s : State) (t : List ℕ) (cs : List Call) → Gives s (first h m w n ∷ as') t cs →
    (ds : List Call) → Lends (first h m w n ∷ as') ds → words_in ds ≡ words_in cs → (x : Slots) →
    Gives s (first h m w n ∷ as') t (served x [] s ds) × Honest (record { last = x; has = x }) (served x [] s ds) (run s (served x [] s ds))
served-gives h m w n as' s t cs g ds l e x = (
  hidden.tapes.given h m w n as' s t cs g (served x [] s ds) (served-lends (first h m w n ∷ as') ds l x [] s) (served-words ds x [] s ∙ e) (served-resumes ds s x []),
  at_once (served x [] s ds) (run s (served x [] s ds)) x x (go ds l),
)
  where
    go : (ds : List Call) → Lends (first h m w n ∷ as') ds → AtOnce x (served x [] s ds) (run s (served x [] s ds))
    go (c ∷ ds) (Claim.more o e l) = served-at-once s x [] h c ds (open-ask h c.ask o)
    go [] x'' = elim x'' [ ]

-- Put the host's bytes into a run: its tape stays, what is told stays, and the host is honest
pub honest-run : (h : Shape) (m w n : ℕ) (as' : List Lent) (s : State) (t : List ℕ) (cs : List Call) → Gives s (first h m w n ∷ as') t cs → (x : Slots) →
    Gives s (first h m w n ∷ as') t (served x [] s cs)
    × (map told (run s (served x [] s cs)) ≡ map told (run s cs))
    × Honest (record { last = x; has = x }) (served x [] s cs) (run s (served x [] s cs))
honest-run h m w n as' s t cs g x =
    let r = served-gives h m w n as' s t cs g cs g.calls refl x in
    (r.0, hidden.tapes.tells h m w n as' s t (served x [] s cs) cs r.0 g, r.1)

-- the calls of a list that ask this, with these words lent
abbrev pub lending : List Lent → List Ask → List (List ℕ) → List Call
lending [] ks wss = []
lending (a ∷ as') [] wss = []
lending (a ∷ as') (k ∷ ks) [] = []
lending (a ∷ as') (k ∷ ks) (ws ∷ wss) = lend a k ws ∷ lending as' ks wss

pub lending-lends : (as' : List Lent) (ks : List Ask) (wss : List (List ℕ)) → map outline ks ≡ map (λ (a : Lent). a.ask) as' → map length wss ≡ map (λ (a : Lent). a.words) as' →
    Lends as' (lending as' ks wss) × (words_in (lending as' ks wss) ≡ wss)
unfolding head_or tail_of
lending-lends [] ks [] e l = (Claim.none, refl)
lending-lends [] ks (ws ∷ wss) e l = absurd (omega (arith, ap length l))
lending-lends (a ∷ as') [] wss e l = absurd (omega (arith, ap length e))
lending-lends (a ∷ as') (k ∷ ks) [] e l = absurd (omega (arith, ap length l))
lending-lends (a ∷ as') (k ∷ ks) (ws ∷ wss) e l =
    let r = lending-lends as' ks wss (ap tail_of e) (ap tail_of l) in
    (Claim.more (ap (head_or a_turn) e) (ap (head_or 0) l) r.0, ap (λ xs. ws ∷ xs) r.1)

words-lent : (as' : List Lent) (cs : List Call) → Lends as' cs → map length (words_in cs) ≡ map (λ (a : Lent). a.words) as'
words-lent [] [] Claim.none = refl
words-lent (a ∷ as') (c ∷ cs) (Claim.more o e l) = ap₂ (λ x xs. x ∷ xs) e (words-lent as' cs l)
words-lent [] (c ∷ cs) x'' = elim x'' [ ]
words-lent (a ∷ as') [] x3 = elim x3 [ ]

-- Every tape, whatever the contents of the requests and whatever the host had before: some words of 16 bits give it in a run with an honest host, in
-- which each load is of the run's own form
pub honest-given : (h : Shape) (m w n : ℕ) (as' : List Lent) (s : State) (t : List ℕ) → Tape s (first h m w n ∷ as') t →
    (ks : List Ask) → map outline ks ≡ map (λ (a : Lent). a.ask) (first h m w n ∷ as') → (x : Slots) →
    (wss : List (List ℕ)) × (let cs : List Call = served x [] s (lending (first h m w n ∷ as') ks wss) in
    Gives s (first h m w n ∷ as') t cs × Honest (record { last = x; has = x }) cs (run s cs))
honest-given h m w n as' s t a ks e x =
    let A = first h m w n ∷ as' in
    let wss = words_in a.0 in
    let l = lending-lends A ks wss e (words-lent A a.0 a.1.calls) in
    (wss, served-gives h m w n as' s t a.0 a.1 (lending A ks wss) l.0 l.1 x)
