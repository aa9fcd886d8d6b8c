-- Two compared lists: their tapes of words are matched, chunk by chunk. For each public part of the chunks this is the matching of the drawn
-- numbers.
use Rattle.std.specs.Prelude.{◌≡◌, refl, Bool, true, ◌↔◌, List, [], ◌∷◌, map, ℕ, length, replicate}
use Rattle.std.proofs.Common.{ap, ap₂, sym, ◌∙◌, subst, eq-eqb, lt-ltb}
use Rattle.std.proofs.Math.Path.{fun_ext}
use Rattle.std.proofs.Math.Logic.Iff
use Rattle.std.proofs.lemmas.List.{length-replicate}
use Rattle.rules.specs.Shape.{Shape}
use Rattle.rules.specs.State.{State, closed}
use Rattle.rules.specs.Run.{step}
use Rattle.matching.specs.Match.{Match}
use Rattle.matching.specs.Positions.{Positions, Zero}
use Rattle.matching.proofs.SlotReads.{nothing, none-arranges}
use Rattle.matching.specs.Machine.{Tape, Watch}
use Rattle.matching.specs.Keyed.{Key}
use Rattle.matching.proofs.TwoLists.{Any, matched}
use Rattle.matching.proofs.Coded.{Codes, asked_all, coded-matched}
use Rattle.hiding.specs.Machines.Ideal.{Ideal, ideal}
use Rattle.hiding.proofs.Orders.Stage.{Empty, Hidden₁, first-stage}
use Rattle.hiding.specs.Machines.Middle
use Rattle.hiding.specs.Machines.Middle.{Mid}
use Rattle.hiding.proofs.Orders.Trades.{HiddenOn}
use Rattle.hiding.proofs.Positions.Stage.{public_view, second-stage}
use Rattle.hiding.specs.Machines.Rules.{Real, unopened, shut, on, real, real-legal, real-next, real-seen, Orders, off}
use Rattle.hiding.specs.Machines.Public
use Rattle.hiding.specs.Machines.Public.{Entry, public_entry, formed}
use Rattle.reachable.proofs.Reached as Left
use Rattle.reachable.proofs.Reached.{Was}
use Rattle.hiding.specs.Machines.Needs.{Reachable}
use Rattle.hiding.specs.Claim
use Rattle.hiding.specs.Claim.{Outline, an_open, a_request, a_turn, a_completion, a_collect, a_save, a_load, Lent, first, is_turn, WellFormed, Alike, well_formed, any_other, turns, completions, collects, saves, loads, Same, Compared}
use Rattle.hiding.specs.Lists.Fixed
use Rattle.hiding.specs.Lists.Fixed.{Fixed, Listing, opens, Listed, ask_in, at}
use Rattle.hiding.proofs.Lists.Saves.{last_save, at-was}
use Rattle.hiding.proofs.Lists.Calls.{entry_of, lent, told_of, Is, Agrees, agrees, agrees-open}
use Rattle.hiding.proofs.Lists.Tapes.{words, padded, lent_on}
use Rattle.hiding.proofs.Lists.Codes
use Rattle.hiding.proofs.Lists.Codes.{Code, count, code, decode, public_of, FitOf, show, Coded, legal-coded, fit-coded, coded-legal, coded-fits, coded-code, coded-decode, coded-same, coded-next}

-- ---- Drawn numbers

module _ (h : Shape) (reach : Reachable h) where
  -- the orders that are left at the end, by the ideal state
  abbrev Rest : Ideal → Orders → Type 0
  Rest Ideal.unopened o = Empty o
  Rest Ideal.shut o = Empty o
  Rest (Ideal.on i) o = HiddenOn i o
  Rest (Ideal.off i) o = HiddenOn i o

  rest : (o : Orders) (m : Mid) → Hidden₁ h reach m o ↔ Rest (public_view h m).0 o
  rest o Middle.unopened = Iff.rfl
  rest o Middle.shut = Iff.rfl
  rest o (Middle.on s it) = Iff.rfl
  rest o (Middle.off s it) = Iff.rfl

  only₁ : (o : Orders) → Empty o → o ≡ (λ (k : Key). [])
  only₁ o a = fun_ext (λ k. none-arranges (o k) (a k))

  only₂ : (pos : Positions) → Zero pos → pos ≡ (λ (b : ℕ). 0)
  only₂ pos a = fun_ext a

  numbers-matched : (A B : List Entry) → map (public_entry h) A ≡ map (public_entry h) B →
      Match (Tape (real h) Any unopened A) (Tape (real h) Any unopened B) (Watch (real h) unopened A) (Watch (real h) unopened B)
  numbers-matched A B e =
      matched (public_entry h) (ideal h) (first-stage h reach) (second-stage h) Rest (λ o m q a. rw a.0 (rest o m))
      Middle.unopened (λ k. []) Ideal.unopened (λ b. 0) only₁ (refl, tt, λ b. refl) only₂ unopened unopened
      ((refl, tt), tt, λ k. nothing) ((refl, tt), tt, λ k. nothing) A B e

-- ---- Words

-- no later call is an open
abbrev pub IsLater : Listing → Type 0
IsLater (opens h) = ⊥
IsLater (Fixed.later l) = Unit {0}

abbrev pub Laters : List Listed → Type 0
Laters [] = Unit {0}
Laters (a ∷ as') = IsLater a.ask × Laters as'

-- the call of the machine with numbers for words
abbrev pub asked : Listed → Codes.Key → Entry
asked a k = entry_of a.ask a.memory k.0 a.buffer

abbrev pub public_in : Listed → Bool × ℕ
public_in a = public_of (at closed a)

-- whatever the state is
turn_in : (s s' : State) (x : Listing) → is_turn (ask_in s x) ≡ is_turn (ask_in s' x)
unfolding is_turn
turn_in s s' (opens h) = refl
turn_in s s' (Fixed.later (Public.later-request k b bs)) = refl
turn_in s s' (Fixed.later Public.later-turn) = refl
turn_in s s' (Fixed.later (Public.later-completion c bs)) = refl
turn_in s s' (Fixed.later Public.later-collect) = refl
turn_in s s' (Fixed.later Public.later-save) = refl
turn_in s s' (Fixed.later (Public.later-reload m n)) = refl

public-at : (s : State) (a : Listed) → public_of (at s a) ≡ public_in a
public-at s a i = (turn_in s closed a.ask i, a.words)

abbrev code_in : State → Listed → List ℕ → Code
code_in s a d = code s (at s a) d

abbrev decode_in : State → Listed → Code → List ℕ
decode_in s a y = decode s (at s a) y

module _ (h : Shape) where
  -- the two machines' states, and the calls to come
  abbrev Beside : State → Real → List Listed → Type 0
  Beside s unopened [] = ⊥
  Beside s unopened (a ∷ as') = (a.ask ≡ opens h) × Laters as'
  Beside s shut as' = (s ≡ closed) × Laters as'
  Beside s (on s') as' = (s ≡ s') × Laters as'
  Beside s (off s') as' = (s ≡ closed) × Laters as'

  abbrev Rel : State → Real → List Listed → Type 0
  Rel s r as' = Was s × Beside s r as'

  is-beside : (r : Real) (s : State) (as' : List Listed) → Is h r s → Laters as' → Beside s r as'
  is-beside unopened s as' i l = absurd i
  is-beside shut s as' i l = (i, l)
  is-beside (on s') s as' i l = (i, l)
  is-beside (off s') s as' i l = (i, l)

  codes-call : (s : State) (r : Real) (a : Listed) (as' : List Listed) → Was s → Laters as' → ((w : ℕ) → Agrees h (asked a (w, [])) r s (count w (at s a))) →
      Codes words (real h) asked public_in FitOf show code_in decode_in Rel s r a as'
  codes-call s r a as' v l g = record {
    code_ok = λ d p. fits (code s b d) (coded-fits s v b d (code s b d) (legal-coded s v b d p));
    decode-ok = λ y p. coded-legal s v b (decode s b y) y (coded y p);
    decode-code = λ d p. coded-decode s v b d (code s b d) (legal-coded s v b d p);
    code-decode = λ y p. coded-code s v b (decode s b y) y (coded y p);
    same = λ d p.
        coded-same s v b d (code s b d) (legal-coded s v b d p)
        ∙ (λ i. show (public-at s a i) (code s b d).0 (sym ((g (code s b d).0.0).tells (code s b d).1) i));
    next = λ d p. (
      at-was s a (padded a.words d) v,
      is-beside (real-next h r (asked a (code s b d).0) (code s b d).1) (step s (lent_on b d)).0 as' (rw (coded-next s v b d (code s b d) (legal-coded s v b d p)) ((g (code s b d).0.0).next (code s b d).1)) l,
    );
  }
    where
      b : Fixed
      b = at s a

      fits : (y : Code) → Codes.Fits s b y → real-legal h r (asked a y.0) y.1 × FitOf (public_in a) y.0 (real-seen h r (asked a y.0) y.1)
      fits y p = (((g y.0.0).legal y.1).1 p.0, rw ((g y.0.0).tells y.1) (subst (λ q. FitOf q y.0 (told_of s (count y.0.0 b))) (public-at s a) p.1))

      coded : (y : Code) → real-legal h r (asked a y.0) y.1 × FitOf (public_in a) y.0 (real-seen h r (asked a y.0) y.1) → Coded s v b (decode s b y) y
      coded y p = fit-coded s v b y (((g y.0.0).legal y.1).0 p.0, subst (λ q. FitOf q y.0 (told_of s (count y.0.0 b))) (sym (public-at s a)) (rw ((g y.0.0).tells y.1) at p.1))

  -- the open, and a later call
  agrees_first : (s : State) (a : Listed) → a.ask ≡ opens h → (w : ℕ) → Agrees h (asked a (w, [])) unopened s (count w (at s a))
  agrees_first s a e w =
      subst (λ (x : Listing). Agrees h (entry_of x a.memory w a.buffer) unopened s (lent (ask_in s x) a.memory w a.buffer)) (sym e) (agrees-open h s a.memory w a.buffer)

  agrees-next : (s : State) (r : Real) (a : Listed) → Is h r s → IsLater a.ask → (w : ℕ) → Agrees h (asked a (w, [])) r s (count w (at s a))
  agrees-next s r a i k w = go a.ask k
    where
      go : (x : Listing) → IsLater x → Agrees h (entry_of x a.memory w a.buffer) r s (lent (ask_in s x) a.memory w a.buffer)
      go (opens g) k = absurd k
      go (Fixed.later l) k = agrees h r s l a.memory w a.buffer i

  codes : (s : State) (r : Real) (a : Listed) (as' : List Listed) → Rel s r (a ∷ as') → Codes words (real h) asked public_in FitOf show code_in decode_in Rel s r a as'
  codes s unopened a as' k = codes-call s unopened a as' k.0 k.1.1 (λ w. agrees_first s a k.1.0 w)
  codes s shut a as' k = codes-call s shut a as' k.0 k.1.1.1 (agrees-next s shut a k.1.0 k.1.1.0)
  codes s (on s') a as' k = codes-call s (on s') a as' k.0 k.1.1.1 (agrees-next s (on s') a k.1.0 k.1.1.0)
  codes s (off s') a as' k = codes-call s (off s') a as' k.0 k.1.1.1 (agrees-next s (off s') a k.1.0 k.1.1.0)

-- ---- Compared lists, with zeros for bytes, have the same public parts

-- what is asked, with zeros for bytes; p has memory and buffer of the save just before
abbrev pub zeroed : ℕ × ℕ → Outline → Listing
zeroed p (an_open h) = opens h
zeroed p (a_request k b n) = Fixed.later (Public.later-request k b (replicate n 0))
zeroed p a_turn = Fixed.later Public.later-turn
zeroed p (a_completion c n) = Fixed.later (Public.later-completion c (replicate n 0))
zeroed p a_collect = Fixed.later Public.later-collect
zeroed p a_save = Fixed.later Public.later-save
zeroed p a_load = Fixed.later (Public.later-reload p.0 p.1)

abbrev pub zero_of : ℕ × ℕ → Lent → Listed
zero_of p a = record { ask = zeroed p a.ask; memory = a.memory; words = a.words; buffer = a.buffer }

abbrev pub last_in : Lent → ℕ × ℕ
last_in a = last_save a.ask a.memory a.buffer

-- a list, with zeros for bytes
abbrev pub zeros : ℕ × ℕ → List Lent → List Listed
zeros p [] = []
zeros p (a ∷ as') = zero_of p a ∷ zeros (last_in a) as'

pub zeros-length : (n : ℕ) → length {A = ℕ} (replicate n 0) ≡ n
zeros-length n = let z : ℕ = 0 in length-replicate n z

formed-well : (h : Shape) (k b n : ℕ) → WellFormed h k b n → formed h k b n ≡ true
unfolding formed
formed-well h k b n f = rw (f.kind, lt-ltb b h.N f.block, eq-eqb _ _ f.contents)

same-ask : (h : Shape) {a b : Outline} (p : ℕ × ℕ) (m w n : ℕ) → Alike h a b → public_entry h (entry_of (zeroed p a) m w n) ≡ public_entry h (entry_of (zeroed p b) m w n)
same-ask h p m w n (well_formed {k = k} {b = b} {n = z} {k' = k'} {b' = b'} {n' = z'} f g) = rw (zeros-length z, zeros-length z', formed-well h k b z f, formed-well h k' b' z' g)
same-ask h p m w n (any_other f) = refl
same-ask h p m w n turns = refl
same-ask h p m w n completions = refl
same-ask h p m w n collects = refl
same-ask h p m w n saves = refl
same-ask h p m w n loads = refl

same_asked : (h : Shape) (a b : Lent) → Same h a b → (p : ℕ × ℕ) (k : Codes.Key) → public_entry h (asked (zero_of p a) k) ≡ public_entry h (asked (zero_of p b) k)
same_asked h a b s p k = rw (s.memory, s.buffer) (same-ask h p b.memory k.0 b.buffer s.ask)

same-save : (h : Shape) {a b : Outline} (m n : ℕ) → Alike h a b → last_save a m n ≡ last_save b m n
same-save h m n (well_formed f g) = refl
same-save h m n (any_other f) = refl
same-save h m n turns = refl
same-save h m n completions = refl
same-save h m n collects = refl
same-save h m n saves = refl
same-save h m n loads = refl

same-last : (h : Shape) (a b : Lent) → Same h a b → last_in a ≡ last_in b
same-last h a b s = rw (s.memory, s.buffer) (same-save h b.memory b.buffer s.ask)

same-list : (h : Shape) (as' bs' : List Lent) → Compared h as' bs' → (p : ℕ × ℕ) (ks : List Codes.Key) →
    map (public_entry h) (asked_all asked (zeros p as') ks) ≡ map (public_entry h) (asked_all asked (zeros p bs') ks)
same-list h [] [] Claim.none p ks = refl
same-list h (a ∷ as') (b ∷ bs') (Claim.more s c) p [] = refl
same-list h (a ∷ as') (b ∷ bs') (Claim.more s c) p (k ∷ ks) =
    ap₂ (λ x xs. x ∷ xs) (same_asked h a b s p k) (same-list h as' bs' c (last_in a) ks ∙ ap (λ q. map (public_entry h) (asked_all asked (zeros q bs') ks)) (same-last h a b s))
same-list h [] (b ∷ bs') x'' p ks = elim x'' [ ]
same-list h (a ∷ as') [] x3 p ks = elim x3 [ ]

same_turn : (h : Shape) {a b : Outline} (p q : ℕ × ℕ) → Alike h a b → is_turn (ask_in closed (zeroed p a)) ≡ is_turn (ask_in closed (zeroed q b))
unfolding is_turn
same_turn h p q (well_formed f g) = refl
same_turn h p q (any_other f) = refl
same_turn h p q turns = refl
same_turn h p q completions = refl
same_turn h p q collects = refl
same_turn h p q saves = refl
same_turn h p q loads = refl

pub same-public : (h : Shape) (as' bs' : List Lent) → Compared h as' bs' → (p q : ℕ × ℕ) → map public_in (zeros p as') ≡ map public_in (zeros q bs')
same-public h [] [] Claim.none p q = refl
same-public h (a ∷ as') (b ∷ bs') (Claim.more s c) p q = ap₂ (λ (x : Bool × ℕ) xs. x ∷ xs) (λ i. (same_turn h p q s.ask i, s.words i)) (same-public h as' bs' c (last_in a) (last_in b))
same-public h [] (b ∷ bs') x'' p q = elim x'' [ ]
same-public h (a ∷ as') [] x3 p q = elim x3 [ ]

no-open : (h : Shape) {a b : Outline} (p : ℕ × ℕ) → Alike h a b → IsLater (zeroed p a) × IsLater (zeroed p b)
no-open h p (well_formed f g) = (tt, tt)
no-open h p (any_other f) = (tt, tt)
no-open h p turns = (tt, tt)
no-open h p completions = (tt, tt)
no-open h p collects = (tt, tt)
no-open h p saves = (tt, tt)
no-open h p loads = (tt, tt)

no-opens : (h : Shape) (as' bs' : List Lent) → Compared h as' bs' → (p q : ℕ × ℕ) → Laters (zeros p as') × Laters (zeros q bs')
no-opens h [] [] Claim.none p q = (tt, tt)
no-opens h (a ∷ as') (b ∷ bs') (Claim.more s c) p q =
    let y = no-opens h as' bs' c (last_in a) (last_in b) in
    (((no-open h p s.ask).0, y.0), ((no-open h q s.ask).1, y.1))
no-opens h [] (b ∷ bs') x'' p q = elim x'' [ ]
no-opens h (a ∷ as') [] x3 p q = elim x3 [ ]

-- The tapes of words of two compared lists, chunk by chunk
pub words-matched : (h : Shape) → Reachable h → (m w n : ℕ) (as' bs' : List Lent) → Compared h as' bs' →
    let A = zeros (0, 0) (first h m w n ∷ as') in
    let B = zeros (0, 0) (first h m w n ∷ bs') in
    Match (Tape words Any closed A) (Tape words Any closed B) (Watch words closed A) (Watch words closed B)
words-matched h reach m w n as' bs' c =
    let o = no-opens h as' bs' c (0, 0) (0, 0) in
    coded-matched words (real h) asked public_in FitOf show code_in decode_in (Rel h) (codes h) closed closed unopened unopened
    (a ∷ zeros (0, 0) as') (a ∷ zeros (0, 0) bs') (Left.shut refl, (refl, o.0)) (Left.shut refl, (refl, o.1))
    (ap (λ (qs : List (Bool × ℕ)). public_in a ∷ qs) (same-public h as' bs' c (0, 0) (0, 0)))
    (λ ks. numbers-matched h reach (asked_all asked (a ∷ zeros (0, 0) as') ks) (asked_all asked (a ∷ zeros (0, 0) bs') ks) (same_first ks))
  where
    a : Listed
    a = zero_of (0, 0) (first h m w n)

    same_first : (ks : List Codes.Key) →
        map (public_entry h) (asked_all asked (a ∷ zeros (0, 0) as') ks) ≡ map (public_entry h) (asked_all asked (a ∷ zeros (0, 0) bs') ks)
    same_first [] = refl
    same_first (k ∷ ks) = ap (λ (xs : List Entry). public_entry h (asked a k) ∷ xs) (same-list h as' bs' c (0, 0) ks)
