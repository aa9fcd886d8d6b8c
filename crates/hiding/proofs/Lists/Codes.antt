-- The words that a call uses up are numbers and a public part: whether they settle its draws, which are passed over, and the quotients of the
-- others. Of words that end before the last draw is settled all is public. For a given public part the call is one with numbers for words.
use Rattle.std.specs.Prelude.{◌≡◌, Bool, ℕ, ◌-◌, ◌≤◌, ◌<◌, replicate, eqb, if◌then◌else◌}
use Rattle.std.proofs.Math.Path.{refl, ap, sym}
use Rattle.std.proofs.Common.{◌∙◌, subst, true≢false, arith, eq-eqb, le-leb, leb-false}
use Rattle.std.proofs.Math.Bool.{true, false, not}
use mathlib.Core.List.{List, [], ◌∷◌, ◌++◌, append-nil}
use Rattle.std.proofs.Math.Option.{Option, none, some}
use Rattle.std.proofs.Math.ListN.{length}
use Rattle.std.proofs.Math.Seq
use Rattle.std.proofs.Math.Dec.{leb}
use Rattle.std.proofs.lemmas.Bool.{lt-leb}
use Rattle.lists.specs.All.{All, nil, all_map}
use Rattle.lists.specs.Search.{is_none}
use Rattle.rules.specs.State.{State}
use Rattle.rules.specs.Draws.{Drawn, draws, Drew}
use Rattle.rules.specs.Questions.{bounds, number}
use Rattle.rules.specs.Run.{Outcome, refuse, refused, accepted, numbers_of, taken_of, sent_command, step}
use Rattle.rules.proofs.Laws.Draws
use Rattle.rules.specs.Laws.Draws.{drawn}
use Rattle.rules.proofs.Laws.Draws.{Settles, settles-draws, settles-drew, enough}
use Rattle.rules.proofs.Laws.Bounds.{Few, enough-zeros}
use Rattle.matching.proofs.Trades.{none-drew}
use Rattle.reachable.proofs.Reached.{Was}
use Rattle.hiding.specs.Claim.{ShortWords, is_turn, used, used_by, told}
use Rattle.hiding.specs.Lists.Fixed.{Fixed, lend}
use Rattle.hiding.specs.Machines.Ideal.{Seen, lacking, nothing_sent}
use Rattle.hiding.proofs.Lists.Quotients.{renumber, renumber-settles, renumber-own, renumber-twice, renumber-length, renumber-short, settles-le, zeros, zeros-drew}
use Rattle.hiding.proofs.Lists.Calls.{number_of, bounds_of, next_of, told_of}
use Rattle.hiding.proofs.Lists.Asks.{settled}
use Rattle.hiding.proofs.Lists.Words.{none_of, Does, drawing, refusing, does, uses, uses-settled, uses-ended, uses-none, drawn_or3}
use Rattle.hiding.proofs.Lists.Tapes.{Told, padded, lent_on, words-legal, padded-length, padded-short}

-- ---- The code

-- how many words are lent to the call with numbers for words; the words used up, with numbers 0 if they settle the draws
abbrev pub Key : Type 0
Key = ℕ × List ℕ

abbrev pub Code : Type 0
Code = Key × List ℕ

-- the call, lent as many words
abbrev pub count : ℕ → Fixed → Fixed
count w a = record { ask = a.ask; memory = a.memory; words = w; buffer = a.buffer }

abbrev pub code_by : List ℕ → Bool → List ℕ → Code
code_by ms true d = ((length d, renumber ms d (zeros ms)), numbers_of (draws ms d))
code_by ms false d = ((0, d), [])

abbrev pub decode_by : List ℕ → Bool → Code → List ℕ
decode_by ms true y = renumber ms y.0.1 y.1
decode_by ms false y = y.0.1

abbrev pub code : State → Fixed → List ℕ → Code
code s a d = code_by (bounds s a.ask) (eqb (number s (lent_on a d)) 0) d

abbrev pub decode : State → Fixed → Code → List ℕ
decode s a y = decode_by (bounds s a.ask) (eqb (number_of s (count y.0.0 a)) 0) y

-- which public parts there are for a call that is a turn (t) and is lent w words, by its number and the bounds of its draws
pub data Fit (t : Bool) (w : ℕ) (k : Key) (n : ℕ) (ms : List ℕ) : Type 0 where
  fit-settled : n ≡ 0 → k.0 ≡ length k.1 → length k.1 ≤ w → ShortWords k.1 → Settles ms k.1 (zeros ms) → Fit t w k n ms
  fit-ended : n ≡ 3 → t ≡ true → k.0 ≡ 0 → length k.1 ≡ w → ShortWords k.1 → draws ms k.1 ≡ none → Fit t w k n ms
  fit-few : n ≡ 3 → t ≡ false → k.0 ≡ 0 → k.1 ≡ [] → w < length ms → Fit t w k n ms
  fit_refused : eqb n 0 ≡ false → eqb n 3 ≡ false → k.0 ≡ 0 → k.1 ≡ [] → Fit t w k n ms

abbrev pub public_of : Fixed → Bool × ℕ
public_of a = (is_turn a.ask, a.words)

abbrev pub FitOf : Bool × ℕ → Key → Seen → Type 0
FitOf q k o = Fit q.0 q.1 k o.0 o.1

abbrev pub show : Bool × ℕ → Key → Seen → Told
show q k o = (o.0, (if eqb o.0 0 then length k.1 else 0), o.2)

-- the code of a chunk of this call
abbrev pub Fits : State → Fixed → Code → Type 0
Fits s a y = Drew (bounds_of s (count y.0.0 a)) y.1 × FitOf (public_of a) y.0 (told_of s (count y.0.0 a))

-- ---- One call

numbers_of_lem : (o : Option Drawn) (js : List ℕ) (n : ℕ) → o ≡ some (drawn js n) → numbers_of o ≡ js
unfolding numbers_of
numbers_of_lem o js n e = ap numbers_of e

settled-zero : (o : Option Drawn) (d : Drawn) → o ≡ some d → ◌≡◌ {A = ℕ} (if not (is_none o) then 0 else 3) 0
unfolding is_none
settled-zero o d e = rw e

ended-three : (o : Option Drawn) → o ≡ none → ◌≡◌ {A = ℕ} (if not (is_none o) then 0 else 3) 3
unfolding is_none
ended-three o e = rw e

-- words that do not settle draws: no words do not
ended-none : (ms ws : List ℕ) → draws ms ws ≡ none → draws ms [] ≡ none
unfolding draws
ended-none [] ws e = e
ended-none (m ∷ ms) ws e = refl

lacking-three : (ms : List ℕ) → lacking 3 ms ≡ ms
unfolding lacking
lacking-three ms = refl

module _ (s : State) (v : Was s) (a : Fixed) where
  abbrev ms : List ℕ
  ms = bounds s a.ask

  -- a chunk d and its code y
  pub data Coded (d : List ℕ) (y : Code) : Type 0 where
    by-numbers : number s (lent_on a d) ≡ 0 → number_of s (count y.0.0 a) ≡ 0 → Settles ms d y.1 → Settles ms y.0.1 (zeros ms) →
        y.0.0 ≡ length y.0.1 → length y.0.1 ≡ length d → length d ≤ a.words → ShortWords d → ShortWords y.0.1 →
        y.0.1 ≡ renumber ms d (zeros ms) → d ≡ renumber ms y.0.1 y.1 → Drew ms y.1 →
        step s (lent_on a d) ≡ accepted s a.ask (some (drawn y.1 (length d))) → Coded d y
    whole : (j : ℕ) → eqb j 0 ≡ false → number s (lent_on a d) ≡ j → number_of s (count y.0.0 a) ≡ j → y.0.0 ≡ 0 → d ≡ y.0.1 → y.1 ≡ [] →
        words-legal s a d → Fit (is_turn a.ask) a.words y.0 j (lacking j ms) → step s (lent_on a d) ≡ (refuse s a.ask, refused j) → Coded d y

  -- ---- what it says

  pub coded-legal : (d : List ℕ) (y : Code) → Coded d y → words-legal s a d
  unfolding used_by accepted taken_of
  coded-legal d y (whole j f n z c e i p x st) = p
  coded-legal d y (by-numbers n z k k' c l le sd sp e g b st) =
      (le, (sd, ap (λ (r : State × Outcome). used (lent_on a d) r.1) st ∙ taken y.1))
    where
      taken : (js : List ℕ) → used (lent_on a d) (accepted s a.ask (some (drawn js (length d)))).1 ≡ d
      taken js = Seq.take_at d (replicate (a.words - length d) 0) (length d) refl

  pub coded-fits : (d : List ℕ) (y : Code) → Coded d y → Fits s a y
  unfolding bounds_of told_of
  coded-fits d y (whole j f n z c e i p x st) = rw (z, f) (rw i tt, x)
  coded-fits d y (by-numbers n z k k' c l le sd sp e g b st) = rw z (b, fit-settled refl c (omega arith) sp k')

  pub coded-code : (d : List ℕ) (y : Code) → Coded d y → code s a d ≡ y
  coded-code d y (whole j f n z c e i p x st) = rw (n, f) (λ t. ((sym c t, e t), sym i t))
  coded-code d y (by-numbers n z k k' c l le sd sp e g b st) =
      rw n (λ t. ((sym (c ∙ l) t, sym e t), numbers_of_lem (draws ms d) y.1 (length d) (ap (draws ms) (sym (append-nil d)) ∙ settles-draws k []) t))

  pub coded-decode : (d : List ℕ) (y : Code) → Coded d y → decode s a y ≡ d
  coded-decode d y (whole j f n z c e i p x st) = rw (z, f) (sym e)
  coded-decode d y (by-numbers n z k k' c l le sd sp e g b st) = rw z (sym g)

  pub coded-same : (d : List ℕ) (y : Code) → Coded d y → told (step s (lent_on a d)).1 ≡ show (public_of a) y.0 (told_of s (count y.0.0 a))
  unfolding told_of accepted refused taken_of
  coded-same d y (whole j f n z c e i p x st) = ap (λ (r : State × Outcome). told r.1) st ∙ sym (ap (show (public_of a) y.0) seen ∙ shown)
    where
      seen : told_of s (count y.0.0 a) ≡ (j, lacking j ms, nothing_sent)
      seen = rw (z, f)

      shown : show (public_of a) y.0 (j, lacking j ms, nothing_sent) ≡ (j, 0, nothing_sent)
      shown = rw f
  coded-same d y (by-numbers n z k k' c l le sd sp e g b st) = ap (λ (r : State × Outcome). told r.1) st ∙ (rw z (λ t. (0, sym l t, sent_command s a.ask)))

  pub coded-next : (d : List ℕ) (y : Code) → Coded d y → (step s (lent_on a d)).0 ≡ next_of s (count y.0.0 a) y.1
  unfolding next_of accepted numbers_of
  coded-next d y (whole j f n z c e i p x st) = ap (λ (r : State × Outcome). r.0) st ∙ (rw (z, f))
  coded-next d y (by-numbers n z k k' c l le sd sp e g b st) = ap (λ (r : State × Outcome). r.0) st ∙ (rw z)

  -- ---- each chunk has its code

  abbrev few-pos : All Few ms → All (λ m. 0 < m) ms
  few-pos f = all_map (λ m k. k.0) f

  module _ (few : All Few ms) (n : (ws : List ℕ) → number s (lend a ws) ≡ (if settled ms ws then 0 else 3))
      (st : (ws : List ℕ) → step s (lend a ws) ≡ drawn_or3 s a.ask (draws ms ws))
    where
      -- words that settle the draws, with their public part
      pair : (d p js : List ℕ) → Settles ms d js → Settles ms p (zeros ms) → length p ≡ length d → length d ≤ a.words → ShortWords d → ShortWords p →
          p ≡ renumber ms d (zeros ms) → d ≡ renumber ms p js → Coded d ((length p, p), js)
      pair d p js k k' l le sd sp e g =
          by-numbers (n (padded a.words d) ∙ settled-zero _ _ x) (zero_number) k k' refl l le sd sp e g (settles-drew (few-pos few) k)
          (st (padded a.words d) ∙ ap (drawn_or3 s a.ask) x)
        where
          x : draws ms (padded a.words d) ≡ some (drawn js (length d))
          x = settles-draws k (replicate (a.words - length d) 0)

          yes-zeros : settled ms (replicate (length p) 0) ≡ true
          yes-zeros = enough-zeros ms few (length p) ∙ le-leb (length ms) (length p) (settles-le k')

          zero_number : number_of s (count (length p) a) ≡ 0
          zero_number = unfold number_of in (n (replicate (length p) 0) ∙ ap (λ (b : Bool). if b then 0 else 3) yes-zeros)

      -- words that end too early
      early : (d : List ℕ) → words-legal s a d → draws ms (padded a.words d) ≡ none → Fit (is_turn a.ask) a.words (0, d) 3 ms → Coded d ((0, d), [])
      early d p z x =
          whole 3 refl (n (padded a.words d) ∙ ended-three _ z) (unfold number_of in (n [] ∙ ended-three _ (ended-none ms (padded a.words d) z))) refl refl refl p
          (rw (lacking-three ms) x) (st (padded a.words d) ∙ ap (drawn_or3 s a.ask) z)

  pub legal-coded : (d : List ℕ) → words-legal s a d → Coded d (code s a d)
  legal-coded d p = go (does s v a)
    where
      as_code : (y : Code) → Coded d y → Coded d (code s a d)
      as_code y c = subst (λ x. Coded d x) (sym (coded-code d y c)) c

      go : Does s a → Coded d (code s a d)
      go (refusing j f g n st) =
          let e : d ≡ [] = sym p.1.1 ∙ uses-none s v a j f g st (padded a.words d) in
          as_code ((0, d), []) (whole j f (n (padded a.words d)) (unfold number_of in (n [])) refl refl refl p (fit_refused f g refl e) (st (padded a.words d)))
      go (drawing few even n st) = by (Draws.lent ms (padded a.words d))
        where
          fits : (t : Bool) → is_turn a.ask ≡ t → draws ms (padded a.words d) ≡ none → Fit (is_turn a.ask) a.words (0, d) 3 ms
          fits true q z =
              let same : padded a.words d ≡ d = sym (uses-ended s v a st (padded a.words d) true q z) ∙ p.1.1 in
              fit-ended refl q refl (sym (ap length same) ∙ padded-length a.words d p.0) p.1.0 (ap (draws ms) (sym same) ∙ z)
          fits false q z =
              let e : d ≡ [] = sym p.1.1 ∙ uses-ended s v a st (padded a.words d) false q z in
              let l = enough 65536 ms (padded a.words d) (even q) (padded-short a.words d p.1.0) in
              let no : leb (length ms) a.words ≡ false = ap (leb (length ms)) (sym (padded-length a.words d p.0)) ∙ sym l ∙ ap (λ (o : Option Drawn). not (is_none o)) z ∙ (unfold is_none in refl) in
              fit-few refl q refl e (leb-false (length ms) a.words no)

          by : Draws.Lent ms (padded a.words d) → Coded d (code s a d)
          by (Draws.ended z) = as_code ((0, d), []) (early few n st d p z (fits (is_turn a.ask) refl z))
          by (Draws.settled es ys js r k) =
              let x : es ≡ d = sym (ap (uses s v a) r ∙ uses-settled s v a st es js ys k) ∙ p.1.1 in
              let k' : Settles ms d js = subst (λ xs. Settles ms xs js) x k in
              let o = zeros-drew ms few in
              let w = renumber ms d (zeros ms) in
              as_code ((length w, w), js) (pair few n st d w js k' (renumber-settles k' (zeros ms) o) (renumber-length k' (zeros ms) o) p.0 p.1.0
              (renumber-short k' (zeros ms) o p.1.0) refl (sym (renumber-twice k' (zeros ms) js o (settles-drew (few-pos few) k') ∙ renumber-own k')))

  -- ---- and each code that fits its chunk

  pub fit-coded : (y : Code) → Fits s a y → Coded (decode s a y) y
  unfolding bounds_of told_of
  fit-coded y bx = go (does s v a)
    where
      b : Drew (bounds_of s (count y.0.0 a)) y.1
      b = bx.0

      x : FitOf (public_of a) y.0 (told_of s (count y.0.0 a))
      x = bx.1

      w : ℕ
      w = y.0.0

      p : List ℕ
      p = y.0.1

      as-chunk : (d : List ℕ) → Coded d y → Coded (decode s a y) y
      as-chunk d c = subst (λ z. Coded z y) (sym (coded-decode d y c)) c

      -- a refused call has no numbers
      no-numbers : (j : ℕ) → number_of s (count w a) ≡ j → eqb j 0 ≡ false → y.1 ≡ []
      no-numbers j z f = (none-drew y.1).0 (rw (z, f) at b)

      its-fit : (j : ℕ) → number_of s (count w a) ≡ j → eqb j 0 ≡ false → Fit (is_turn a.ask) a.words y.0 j (lacking j ms)
      its-fit j z f = rw (z, f) at x

      go : Does s a → Coded (decode s a y) y
      go (refusing j f g n st) = by (its-fit j number-j f)
        where
          number-j : number_of s (count w a) ≡ j
          number-j = unfold number_of in (n (replicate w 0))

          by : Fit (is_turn a.ask) a.words y.0 j (lacking j ms) → Coded (decode s a y) y
          by (fit-settled e c l sp k) = absurd (true≢false (sym (eq-eqb j 0 e) ∙ f))
          by (fit-ended e q c l sp z) = absurd (true≢false (sym (eq-eqb j 3 e) ∙ g))
          by (fit-few e q c i l) = absurd (true≢false (sym (eq-eqb j 3 e) ∙ g))
          by (fit_refused f' g' c i) =
              let legal : words-legal s a p = (omega (arith, ap length i), (rw i nil, uses-none s v a j f g st (padded a.words p) ∙ sym i)) in
              as-chunk p (whole j f (n (padded a.words p)) number-j c refl (no-numbers j number-j f) legal (fit_refused f' g' c i) (st (padded a.words p)))
      go (drawing few even n st) = split (settled ms (replicate w 0)) refl
        where
          number_by_lem : (t : Bool) → settled ms (replicate w 0) ≡ t → number_of s (count w a) ≡ (if t then 0 else 3)
          number_by_lem t e = unfold number_of in (n (replicate w 0) ∙ ap (λ (c : Bool). if c then 0 else 3) e)

          -- the numbers are drawn
          drew : number_of s (count w a) ≡ 0 → Fit (is_turn a.ask) a.words y.0 0 ms → Drew ms y.1 → Coded (decode s a y) y
          drew z (fit-settled e c l sp k) h =
              let d = renumber ms p y.1 in
              let o = zeros-drew ms few in
              let len = renumber-length k y.1 h in
              let back = sym (renumber-twice k y.1 (zeros ms) h o ∙ renumber-own k) in
              let r : Coded d ((length p, p), y.1) = pair few n st d p y.1 (renumber-settles k y.1 h) k (sym len) (omega (arith, len)) (renumber-short k y.1 h sp) sp back refl in
              as-chunk d (subst (λ (i : ℕ). Coded d ((i, p), y.1)) (sym c) r)
          drew z (fit-ended e q c l sp i) h = absurd (omega arith)
          drew z (fit-few e q c i l) h = absurd (omega arith)
          drew z (fit_refused f g c i) h = absurd (true≢false f)

          -- the words end too early
          ended : number_of s (count w a) ≡ 3 → y.1 ≡ [] → Fit (is_turn a.ask) a.words y.0 3 ms → Coded (decode s a y) y
          ended z h x = as-chunk p (subst (λ (u : Code). Coded p u) (λ t. ((sym (its-count x) t, p), sym h t)) (chunk_of x))
            where
              its-count : Fit (is_turn a.ask) a.words y.0 3 ms → w ≡ 0
              its-count (fit-settled e c l sp k) = absurd (omega arith)
              its-count (fit-ended e q c l sp i) = c
              its-count (fit-few e q c i l) = c
              its-count (fit_refused f g c i) = c

              chunk_of : Fit (is_turn a.ask) a.words y.0 3 ms → Coded p ((0, p), [])
              chunk_of (fit-settled e c l sp k) = absurd (omega arith)
              chunk_of (fit-ended e q c l sp i) =
                  let same : padded a.words p ≡ p = ap (λ k. p ++ replicate k 0) (none_left l) ∙ append-nil p in
                  let z' : draws ms (padded a.words p) ≡ none = ap (draws ms) same ∙ i in
                  early few n st p (omega (arith, l), (sp, uses-ended s v a st (padded a.words p) true q z' ∙ same)) z' (fit-ended refl q refl l sp i)
                where
                  none_left : length p ≡ a.words → a.words - length p ≡ 0
                  none_left l = omega arith
              chunk_of (fit-few e q c i l) =
                  let le : length p ≤ a.words = omega (arith, ap length i) in
                  let sp : ShortWords p = rw i nil in
                  let no : settled ms (padded a.words p) ≡ false = enough 65536 ms (padded a.words p) (even q) (padded-short a.words p sp) ∙ ap (leb (length ms)) (padded-length a.words p le) ∙ lt-leb (length ms) a.words l in
                  let z' = none_of (draws ms (padded a.words p)) no in
                  early few n st p (le, (sp, uses-ended s v a st (padded a.words p) false q z' ∙ sym i)) z' (fit-few refl q refl i l)
              chunk_of (fit_refused f g c i) = absurd (true≢false g)

          split : (t : Bool) → settled ms (replicate w 0) ≡ t → Coded (decode s a y) y
          split true e = let z = number_by_lem true e in drew z (rw z at x) (rw z at b)
          split false e = let z = number_by_lem false e in ended z (no-numbers 3 z refl) (rw (lacking-three ms) at (its-fit 3 z refl))
