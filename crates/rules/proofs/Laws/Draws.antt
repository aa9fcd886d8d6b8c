-- Which words settle a call's draws, and how many it takes: document 02, "Even draws".
use Rattle.std.specs.Prelude.{◌≡◌, Bool, true, not, List, [], ◌∷◌, ◌++◌, ℕ, suc, ◌+◌, ◌/◌, ◌%◌, ◌≤◌, ◌<◌, length, ltb, leb, eqb}
use Rattle.std.proofs.Math.Path.{refl, ap, sym}
use Rattle.std.proofs.Common.{◌∙◌, div-add-mod', mod-lt, div-mul-le_self, le-div_iff_mul-le, mul-le-mul_right, arith, ltb-true, ltb-false, lt-ltb, le-ltb, eqb-true}
use Rattle.std.proofs.Math.Bool.{false}
use Rattle.std.proofs.Math.Option.{Option, none, some}
use Rattle.std.proofs.Math.Dec.{leb-zero, leb-suc-zero, leb-suc-suc}
use Rattle.lists.specs.Search.{is_none, all}
use Rattle.lists.specs.Tests.{every-yes}
use Rattle.lists.specs.Members.{all-mem, member-mem}
use Rattle.lists.specs.All.{All, cons, all_yes}
use Rattle.rules.specs.Shape.{Shape, within}
use Rattle.rules.specs.Draws.{limit, draw, Drawn, drawn_first, pass_over, draws, Drew}
use Rattle.rules.specs.Laws.Draws.{drawn}

-- ---- One word

pub draws-takes : (m w : ℕ) (ms ws : List ℕ) → w < limit m → draws (m ∷ ms) (w ∷ ws) ≡ drawn_first (draw m w) (draws ms ws)
unfolding draws
draws-takes m w ms ws l = rw (lt-ltb w (limit m) l, draws)

pub draws-passes : (m w : ℕ) (ms ws : List ℕ) → limit m ≤ w → draws (m ∷ ms) (w ∷ ws) ≡ pass_over (draws (m ∷ ms) ws)
unfolding draws
draws-passes m w ms ws l = rw (le-ltb w (limit m) l, draws)

-- ---- Words that settle these draws, the last of them the last draw; and the numbers that they give

pub data Settles : List ℕ → List ℕ → List ℕ → Type 0 where
  done : Settles [] [] []
  takes : {m w : ℕ} {ms ws js : List ℕ} → w < limit m → Settles ms ws js → Settles (m ∷ ms) (w ∷ ws) (draw m w ∷ js)
  passes : {m w : ℕ} {ms ws js : List ℕ} → limit m ≤ w → Settles (m ∷ ms) ws js → Settles (m ∷ ms) (w ∷ ws) js

-- such words are what the draws take, whatever words are lent behind them
pub settles-draws : {ms ds js : List ℕ} → Settles ms ds js → (us : List ℕ) → draws ms (ds ++ us) ≡ some (drawn js (length ds))
unfolding drawn_first pass_over
settles-draws done us = unfold draws in refl
settles-draws (takes {m = m} {w = w} {ms = ms} {ws = ws} {js = js} l k) us = draws-takes m w ms (ws ++ us) l ∙ ap (drawn_first (draw m w)) (settles-draws k us)
settles-draws (passes {m = m} {w = w} {ms = ms} {ws = ws} {js = js} l k) us = draws-passes m w ms (ws ++ us) l ∙ ap pass_over (settles-draws k us)

-- The words lent settle the draws, the first of them, or they end before
pub data Lent (ms ws : List ℕ) : Type 0 where
  settled : (ds us js : List ℕ) → ws ≡ ds ++ us → Settles ms ds js → Lent ms ws
  ended : draws ms ws ≡ none → Lent ms ws

pub lent : (ms ws : List ℕ) → Lent ms ws
lent [] ws = settled [] ws [] refl done
lent (m ∷ ms) [] = ended (unfold draws in refl)
lent (m ∷ ms) (w ∷ ws) = go (ltb w (limit m)) refl (lent ms ws) (lent (m ∷ ms) ws)
  where
    go : (t : Bool) → ltb w (limit m) ≡ t → Lent ms ws → Lent (m ∷ ms) ws → Lent (m ∷ ms) (w ∷ ws)
    go true e (settled ds us js p k) x = settled (w ∷ ds) us (draw m w ∷ js) (ap (λ xs. w ∷ xs) p) (takes (ltb-true w (limit m) e) k)
    go true e (ended n) x = ended (draws-takes m w ms ws (ltb-true w (limit m) e) ∙ ap (drawn_first (draw m w)) n ∙ unfold drawn_first in refl)
    go false e x (settled ds us js p k) = settled (w ∷ ds) us js (ap (λ xs. w ∷ xs) p) (passes (ltb-false w (limit m) e) k)
    go false e x (ended n) = ended (draws-passes m w ms ws (ltb-false w (limit m) e) ∙ ap pass_over n ∙ unfold pass_over in refl)

-- one number for each draw
pub settles-numbers : {ms ds js : List ℕ} → Settles ms ds js → length js ≡ length ms
settles-numbers done = refl
settles-numbers (takes l k) = ap suc (settles-numbers k)
settles-numbers (passes l k) = settles-numbers k

-- each number is below its bound
pub settles-drew : {ms ds js : List ℕ} → All (λ m. 0 < m) ms → Settles ms ds js → Drew ms js
unfolding draw
settles-drew h done = tt
settles-drew (cons h t) (takes {w = w} l k) = (mod-lt w h, settles-drew t k)
settles-drew h (passes l k) = settles-drew h k

-- ---- Enough words: where no word is passed over, one for each draw

pub enough : (b : ℕ) (ms ws : List ℕ) → All (λ m. b ≤ limit m) ms → All (λ w. w < b) ws → not (is_none (draws ms ws)) ≡ leb (length ms) (length ws)
unfolding is_none
enough b [] ws f g = unfold draws in (sym (leb-zero (length ws)))
enough b (m ∷ ms) [] f g = unfold draws in (sym (leb-suc-zero (length ms)))
enough b (m ∷ ms) (w ∷ ws) (cons h f) (cons k g) = rw (draws-takes m w ms ws (omega arith)) (go (draws ms ws) (enough b ms ws f g))
  where
    go : (o : Option Drawn) → not (is_none o) ≡ leb (length ms) (length ws) → not (is_none (drawn_first (draw m w) o)) ≡ leb (suc (length ms)) (suc (length ws))
    go none e = unfold drawn_first is_none in (e ∙ sym (leb-suc-suc (length ms) (length ws)))
    go (some d) e = unfold drawn_first is_none in (e ∙ sym (leb-suc-suc (length ms) (length ws)))

-- and the draws take as many
pub settles-length : (b : ℕ) {ms ds js : List ℕ} → All (λ m. b ≤ limit m) ms → All (λ w. w < b) ds → Settles ms ds js → length ds ≡ length ms
settles-length b f g done = refl
settles-length b (cons h f) (cons k g) (takes l p) = ap suc (settles-length b f g p)
settles-length b (cons h f) (cons k g) (passes l p) = absurd (omega arith)

-- ---- The bounds

pub limit-le : (m : ℕ) → limit m ≤ 65536
unfolding limit
limit-le m = div-mul-le_self 65536 m

-- it is above 65,536 less m: no larger multiple fits
pub limit-above : (m : ℕ) → 0 < m → 65536 < limit m + m
unfolding limit
limit-above m p = omega (arith, div-add-mod' 65536 m, mod-lt 65536 p)

-- a bound of at most 16 bits takes the word 0
pub limit-pos : (m : ℕ) → 0 < m → m ≤ 65536 → 1 ≤ limit m
unfolding limit
limit-pos m p l =
    let q : 1 ≤ 65536 / m = (le-div_iff_mul-le p).1 (omega arith) in
    omega (arith, mul-le-mul_right m q)

-- Where m divides 65,536 no word of 16 bits is passed over
pub limit-divides : (m : ℕ) → 65536 % m ≡ 0 → limit m ≡ 65536
unfolding limit
limit-divides m e = omega (arith, div-add-mod' 65536 m)

-- The bounds of an open and of a request are such
pub partitions-even : (h : Shape) → within h ≡ true → limit h.P ≡ 65536
unfolding within all
partitions-even h e = limit-divides h.P (eqb-true _ _ (all-mem (all_yes (λ p. eqb (65536 % p) 0) sizes refl) h.P (member-mem h.P sizes (every-yes _ e).1.0)))
  where
    sizes : List ℕ
    sizes = 1 ∷ 2 ∷ 4 ∷ 8 ∷ 16 ∷ 32 ∷ 64 ∷ []
