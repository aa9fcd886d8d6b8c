-- What a call draws from its words: draw by draw, from the word after the last one taken; and one word a draw where none is passed over.
use Rattle.std.proofs.Math.Path.{◌≡◌, refl, ap}
use Rattle.std.proofs.Common.{sym, ◌∙◌, true≢false, add-one, length-append, drop-cons, get_or-take, length-take-le, le-leb}
use Rattle.std.specs.Prelude.{true, not, length, get_or, take, drop, replicate, leb}
use mathlib.Core.List.{List, [], ◌∷◌, ◌++◌, append_assoc}
use Rattle.std.proofs.Math.Option.{Option, none, some}
use Prim.Native.Nat.{ℕ, zero, suc, ◌+◌, ◌-◌, ◌%◌, ◌≤◌, ◌<◌}
use native.Mathlib.Omega.{arith}
use Rattle.std.proofs.Math.Decide.{dec_lt}
use Rattle.std.proofs.Math.ListN.{drop_of_length-le}
use Rattle.std.proofs.Math.Seq.{drop_at}
use Rattle.lists.specs.Search.{is_none}
use Rattle.lists.specs.All.{All, cons, all_take, all_replicate}
use Rattle.rules.specs.Shape.{Shape, within}
use Rattle.rules.specs.Draws.{limit, draw, Drawn, drawn_first, pass_over, draws}
use Rattle.rules.specs.Laws.Draws.{Enough, drawn}
use Rattle.rules.proofs.Laws.Draws.{Settles, done, takes, passes, draws-takes, draws-passes, Lent, settled, ended, lent, settles-draws, enough, settles-length, settles-numbers, partitions-even}
use Rattle.rules.proofs.Laws.Answers.{settled-taken}
use Rattle.rules.specs.Run.{numbers_of, taken_of}
use Rattle.rules.specs.Laws.Drawn.{Behind, Reaches, SettledBy, Straight, ahead}

ahead-ahead : (n k : ℕ) (is js : List ℕ) (o : Option Drawn) → ahead n is (ahead k js o) ≡ ahead (n + k) (is ++ js) o
unfolding ahead
ahead-ahead n k is js none = refl
ahead-ahead n k is js (some d) =
    let e : n + (k + d.taken) ≡ n + k + d.taken = omega arith in
    rw (e, append_assoc is js d.numbers)

none_ahead : (o : Option Drawn) → o ≡ ahead 0 [] o
unfolding ahead
none_ahead none = refl
none_ahead (some d) = let e : d.taken ≡ 0 + d.taken = omega arith in ap (λ n. some (drawn d.numbers n)) e

first-ahead : (j : ℕ) (o : Option Drawn) → drawn_first j o ≡ ahead 1 (j ∷ []) o
unfolding drawn_first ahead
first-ahead j none = refl
first-ahead j (some d) = let e : suc d.taken ≡ 1 + d.taken = omega arith in ap (λ n. some (drawn (j ∷ d.numbers) n)) e

pass-ahead : (n : ℕ) (js : List ℕ) (o : Option Drawn) → pass_over (ahead n js o) ≡ ahead (suc n) js o
unfolding pass_over ahead
pass-ahead n js none = refl
pass-ahead n js (some d) = let e : suc (n + d.taken) ≡ suc n + d.taken = omega arith in ap (λ k. some (drawn (js ++ d.numbers) k)) e

module _ (m : ℕ) (ms ws : List ℕ) (r : ℕ) where
  -- the draws from word k on, if j words are passed over before r
  next : (j k : ℕ) → k + j ≡ r → SettledBy m ws k r → r < length ws → draws (m ∷ ms) (drop k ws) ≡ ahead (suc j) (draw m (get_or ws r 0) ∷ []) (draws ms (drop (suc r) ws))
  next zero k e x l =
      let d : k ≡ r = omega arith in
      rw (d, drop-cons ws r 0 l) (draws-takes m (get_or ws r 0) ms (drop (suc r) ws) (x.taken l) ∙ first-ahead _ _)
  next (suc j) k e x l =
      let p = x.passed k (omega arith) (omega arith) in
      rw (drop-cons ws k 0 p.0) (
      draws-passes m (get_or ws k 0) ms (drop (suc k) ws) p.1
      ∙ ap pass_over (next j (suc k) (omega arith) (record { from = omega arith; passed = λ i a b. x.passed i (omega arith) b; taken = x.taken }) l)
      ∙ pass-ahead _ _ _)

  -- the draws from word k on, if all words are passed over
  none_left : (j k : ℕ) → k + j ≡ r → SettledBy m ws k r → length ws ≤ r → draws (m ∷ ms) (drop k ws) ≡ none
  unfolding pass_over
  none_left zero k e x l =
      let d : k ≡ r = omega arith in
      rw (d, drop_of_length-le ws {i = r} l) (unfold draws in refl)
  none_left (suc j) k e x l =
      let p = x.passed k (omega arith) (omega arith) in
      rw (drop-cons ws k 0 p.0) (
      draws-passes m (get_or ws k 0) ms (drop (suc k) ws) p.1
      ∙ ap pass_over (none_left j (suc k) (omega arith) (record { from = omega arith; passed = λ i a b. x.passed i (omega arith) b; taken = x.taken }) l))

-- One draw: the word that settles it, and the words after it for the other draws
pub draws-next : (m : ℕ) (ms ws : List ℕ) (k r : ℕ) → SettledBy m ws k r → r < length ws
    → draws (m ∷ ms) (drop k ws) ≡ ahead (suc (r - k)) (draw m (get_or ws r 0) ∷ []) (draws ms (drop (suc r) ws))
draws-next m ms ws k r x l = next m ms ws r (r - k) k (omega (arith, x.from)) x l

pub draws-end : (m : ℕ) (ms ws : List ℕ) (k r : ℕ) → SettledBy m ws k r → length ws ≤ r → draws (m ∷ ms) (drop k ws) ≡ none
draws-end m ms ws k r x l = none_left m ms ws r (r - k) k (omega (arith, x.from)) x l

-- If the words from k on are enough, one of them settles the first draw, and those after it are enough for the others
pub settle-next : (m : ℕ) (ms ws : List ℕ) (k r : ℕ) → SettledBy m ws k r → Enough (m ∷ ms) (drop k ws)
    → (r < length ws) × Enough ms (drop (r + 1) ws) × (numbers_of (draws (m ∷ ms) (drop k ws)) ≡ get_or ws r 0 % m ∷ numbers_of (draws ms (drop (r + 1) ws)))
unfolding draw
settle-next m ms ws k r x e = go (dec_lt r (length ws))
  where
    after : (o : Option Drawn) (n j : ℕ) → not (is_none (ahead n (j ∷ []) o)) ≡ true → (not (is_none o) ≡ true) × (numbers_of (ahead n (j ∷ []) o) ≡ j ∷ numbers_of o)
    after none n j h = absurd (true≢false (sym (unfold ahead is_none in h)))
    after (some d) n j h = (unfold is_none in refl, unfold ahead numbers_of in refl)

    go : Dec (r < length ws) → (r < length ws) × Enough ms (drop (r + 1) ws) × (numbers_of (draws (m ∷ ms) (drop k ws)) ≡ get_or ws r 0 % m ∷ numbers_of (draws ms (drop (r + 1) ws)))
    go (no l) = absurd (true≢false (sym e ∙ ap (λ (o : Option Drawn). not (is_none o)) (draws-end m ms ws k r x (omega arith)) ∙ unfold is_none in refl))
    go (yes l) =
        let d = draws-next m ms ws k r x l in
        let y = after (draws ms (drop (suc r) ws)) (suc (r - k)) (draw m (get_or ws r 0)) (rw (← d) e) in
        (l, rw (add-one r) y.0, rw (add-one r, d) y.1)

pub reaches-start : (ms ws : List ℕ) → Reaches ms ws ms 0
reaches-start ms ws = record { numbers = []; drawn = none_ahead (draws ms ws) }

pub reaches-next : (ms ws : List ℕ) (m : ℕ) (ms' : List ℕ) (k r : ℕ) → Reaches ms ws (m ∷ ms') k → SettledBy m ws k r → r < length ws → Reaches ms ws ms' (suc r)
reaches-next ms ws m ms' k r x y l =
    let e : k + suc (r - k) ≡ suc r = omega (arith, y.from) in
    let js : List ℕ = x.numbers ++ (draw m (get_or ws r 0) ∷ []) in
    record {
      numbers = js;
      drawn = x.drawn ∙ ap (ahead k x.numbers) (draws-next m ms' ws k r y l) ∙ ahead-ahead k (suc (r - k)) x.numbers _ _ ∙ ap (λ n. ahead n js (draws ms' (drop (suc r) ws))) e;
    }

pub reaches-none : (ms ws ms' : List ℕ) (k : ℕ) → Reaches ms ws ms' k → draws ms' (drop k ws) ≡ none → draws ms ws ≡ none
unfolding ahead
reaches-none ms ws ms' k x e = x.drawn ∙ ap (ahead k x.numbers) e

pub reaches_end : (ms ws : List ℕ) (k : ℕ) → Reaches ms ws [] k → Enough ms ws × (taken_of (draws ms ws) ≡ k)
unfolding ahead draws is_none taken_of
reaches_end ms ws k x = let e : k + 0 ≡ k = omega arith in rw (x.drawn, e) (refl, refl)

-- the words taken were lent
pub taken-lent : (ms ws : List ℕ) → taken_of (draws ms ws) ≤ length ws
unfolding taken_of
taken-lent ms ws = go (lent ms ws)
  where
    go : Lent ms ws → taken_of (draws ms ws) ≤ length ws
    go (ended n) = rw n (omega arith)
    go (settled ds us js p k) = rw (p, settles-draws k us) (omega (arith, length-append ds us))

-- P is a power of two: so it is with words of 16 bits for the draws of an open and of a request
pub straight-partitions : (h : Shape) → within h ≡ true → (n : ℕ) (ws : List ℕ) → All (λ w. w < 65536) ws → Straight (replicate n h.P) ws
straight-partitions h e n ws f = let l : 65536 ≤ limit h.P = omega (arith, partitions-even h e) in (all_replicate (λ m. 65536 ≤ limit m) n h.P l, f)

-- there are enough words exactly where there are as many as bounds
pub draws-enough : (ms ws : List ℕ) → Straight ms ws → not (is_none (draws ms ws)) ≡ leb (length ms) (length ws)
draws-enough ms ws h = enough 65536 ms ws h.0 h.1

settles-number : {ms ds js : List ℕ} → Straight ms ds → Settles ms ds js → (i : ℕ) → i < length ms → get_or js i 0 ≡ get_or ds i 0 % get_or ms i 0
unfolding draw
settles-number h done i l = absurd (omega arith)
settles-number h (takes p k) zero l = refl
settles-number (cons a f, cons b g) (takes p k) (suc i) l = settles-number (f, g) k i (omega arith)
settles-number (cons a f, cons b g) (passes p k) i l = absurd (omega arith)

module _ (ms ws : List ℕ) (h : Straight ms ws) (l : length ms ≤ length ws) where
  settled-all : Settles ms (take (taken_of (draws ms ws)) ws) (numbers_of (draws ms ws))
  settled-all = settled-taken ms ws (draws-enough ms ws h ∙ le-leb (length ms) (length ws) l)

  pub taken-all : taken_of (draws ms ws) ≡ length ms
  taken-all =
      let e = settles-length 65536 h.0 (all_take (taken_of (draws ms ws)) h.1) settled-all in
      omega (arith, length-take-le (taken_of (draws ms ws)) ws (taken-lent ms ws))

  pub length-numbers : length (numbers_of (draws ms ws)) ≡ length ms
  length-numbers = settles-numbers settled-all

  -- number i is word i modulo bound i
  pub draws-number : (i : ℕ) → i < length ms → get_or (numbers_of (draws ms ws)) i 0 ≡ get_or ws i 0 % get_or ms i 0
  draws-number i k =
      settles-number (h.0, all_take (taken_of (draws ms ws)) h.1) settled-all i k
      ∙ ap (λ w. w % get_or ms i 0) (get_or-take (taken_of (draws ms ws)) ws i 0 (omega (arith, taken-all)))

-- ---- Draws one behind the other

-- the word that settles a draw is followed by those of the others
pub settle-taken : (m : ℕ) (ms ws : List ℕ) (k r : ℕ) → SettledBy m ws k r → Enough (m ∷ ms) (drop k ws)
    → r + 1 + taken_of (draws ms (drop (r + 1) ws)) ≡ k + taken_of (draws (m ∷ ms) (drop k ws))
settle-taken m ms ws k r x e =
    let n = settle-next m ms ws k r x e in
    rw (add-one r, draws-next m ms ws k r x n.0) (go (draws ms (drop (suc r) ws)) (rw (add-one r) at n.1))
  where
    go : (o : Option Drawn) → not (is_none o) ≡ true → suc r + taken_of o ≡ k + taken_of (ahead (suc (r - k)) (draw m (get_or ws r 0) ∷ []) o)
    go none h = absurd (true≢false (sym (unfold is_none in h)))
    go (some d) h = unfold ahead taken_of in (omega (arith, x.from))

settles-more : {ms ds js : List ℕ} → Settles ms ds js → (ns us : List ℕ) → draws (ms ++ ns) (ds ++ us) ≡ ahead (length ds) js (draws ns us)
settles-more done ns us = none_ahead (draws ns us)
settles-more (takes {m = m} {w = w} {ms = ms} {ws = ws} {js = js} l k) ns us =
    let e : 1 + length ws ≡ suc (length ws) = omega arith in
    draws-takes m w (ms ++ ns) (ws ++ us) l ∙ first-ahead _ _ ∙ ap (ahead 1 (draw m w ∷ [])) (settles-more k ns us) ∙ ahead-ahead 1 (length ws) (draw m w ∷ []) js (draws ns us)
    ∙ ap (λ n. ahead n (draw m w ∷ js) (draws ns us)) e
settles-more (passes {m = m} {w = w} {ms = ms} {ws = ws} {js = js} l k) ns us = draws-passes m w (ms ++ ns) (ws ++ us) l ∙ ap pass_over (settles-more k ns us) ∙ pass-ahead _ _ _

none_more : (ms ns ws : List ℕ) → draws ms ws ≡ none → draws (ms ++ ns) ws ≡ none
none_more [] ns ws e = absurd (never (unfold draws in e))
  where
    never : some (drawn [] 0) ≡ none → ⊥
    never z = let y : ◌≡◌ {A = ℕ} 0 1 = cc in omega arith
none_more (m ∷ ms) ns [] e = unfold draws in refl
none_more (m ∷ ms) ns (w ∷ ws) e = go (dec_lt w (limit m)) (none_more ms ns ws) (none_more (m ∷ ms) ns ws)
  where
    first-none : (j : ℕ) (o : Option Drawn) → drawn_first j o ≡ none → o ≡ none
    first-none j none z = refl
    first-none j (some d) z = absurd (let y : ◌≡◌ {A = ℕ} 0 1 = unfold drawn_first in (cc z) in omega arith)

    pass-none : (o : Option Drawn) → pass_over o ≡ none → o ≡ none
    pass-none none z = refl
    pass-none (some d) z = absurd (let y : ◌≡◌ {A = ℕ} 0 1 = unfold pass_over in (cc z) in omega arith)

    go : Dec (w < limit m) → (draws ms ws ≡ none → draws (ms ++ ns) ws ≡ none) → (draws (m ∷ ms) ws ≡ none → draws (m ∷ (ms ++ ns)) ws ≡ none) → draws (m ∷ (ms ++ ns)) (w ∷ ws) ≡ none
    go (yes l) a b =
        let n = a (first-none (draw m w) (draws ms ws) (sym (draws-takes m w ms ws l) ∙ e)) in
        draws-takes m w (ms ++ ns) ws l ∙ ap (drawn_first (draw m w)) n ∙ unfold drawn_first in refl
    go (no l) a b =
        let n = b (pass-none (draws (m ∷ ms) ws) (sym (draws-passes m w ms ws (omega arith)) ∙ e)) in
        draws-passes m w (ms ++ ns) ws (omega arith) ∙ ap pass_over n ∙ unfold pass_over in refl

pub draws-behind : (ms ns ws : List ℕ) → Enough (ms ++ ns) ws → Behind ms ns ws
unfolding taken_of is_none numbers_of
draws-behind ms ns ws e = go (lent ms ws)
  where
    go : Lent ms ws → Behind ms ns ws
    go (ended n) = absurd (true≢false (sym e ∙ ap (λ (o : Option Drawn). not (is_none o)) (none_more ms ns ws n) ∙ unfold is_none in refl))
    go (settled ds us js p k) = rw p (record {
      first = rw one (unfold is_none in refl);
      long = rw one (unfold numbers_of in (settles-numbers k));
      then = rw (one, taken_of, drop_at ds us (length ds) refl) (some-behind (draws ns us) (rw (← more) (rw p at e))).0;
      numbers = rw (one, taken_of, numbers_of, drop_at ds us (length ds) refl, more) (some-behind (draws ns us) (rw (← more) (rw p at e))).1;
    })
      where
        one : draws ms (ds ++ us) ≡ some (drawn js (length ds))
        one = settles-draws k us

        more : draws (ms ++ ns) (ds ++ us) ≡ ahead (length ds) js (draws ns us)
        more = settles-more k ns us

        some-behind : (o : Option Drawn) → not (is_none (ahead (length ds) js o)) ≡ true → (not (is_none o) ≡ true) × (numbers_of (ahead (length ds) js o) ≡ js ++ numbers_of o)
        some-behind none h = absurd (true≢false (sym (unfold ahead is_none in h)))
        some-behind (some d) h = (unfold is_none in refl, unfold ahead numbers_of in refl)
