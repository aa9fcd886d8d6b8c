-- The records of a form, gone through in turn: numbers that lie a step apart; and the blocks that do not wait.
use Rattle.std.specs.Prelude.{◌≡◌, true, false, List, [], ◌∷◌, eqb, length, get_or, set, drop}
use Rattle.std.proofs.Math.Path.{refl, ap}
use Rattle.std.proofs.Common.{sym, ◌∙◌, length-set, drop-cons, get_or-set_same, get_or-set_other, eq-eqb, ne_eqb}
use Prim.Native.Nat.{ℕ, zero, suc, ◌+◌, ◌-◌, ◌≤◌, ◌<◌}
use native.Mathlib.Omega.{arith}
use Rattle.std.proofs.Math.Seq.{drop-length}
use Rattle.lists.specs.Lengths.{bit}
use Rattle.lists.specs.Search.{all, below, count}
use Rattle.rules.specs.Form.Reading.{Spot, is_waiting}
use Rattle.forms.specs.At.{number_at, waiter_at, each_at}
use Rattle.forms.specs.Facts.{ages_of, names_of}

-- n numbers, the first at byte a
unfoldable pub numbers_by : List ℕ → ℕ → ℕ → ℕ → List ℕ
numbers_by p step zero a = []
numbers_by p step (suc n) a = number_at p 2 a ∷ numbers_by p step n (a + step)

module _ (p : List ℕ) (step : ℕ) where
  pub by_left : (n a i : ℕ) → i < n → numbers_by p step (n - i) a ≡ number_at p 2 a ∷ numbers_by p step (n - (i + 1)) (a + step)
  unfolding numbers_by
  by_left n a i l = let e : n - i ≡ suc (n - (i + 1)) = omega arith in ap (λ k. numbers_by p step k a) e

  pub by-none : (n a i : ℕ) → n ≤ i → numbers_by p step (n - i) a ≡ []
  unfolding numbers_by
  by-none n a i l = let e : n - i ≡ 0 = omega arith in ap (λ k. numbers_by p step k a) e

  pub by_all : (n a : ℕ) → numbers_by p step (n - 0) a ≡ numbers_by p step n a
  by_all n a = let e : n - 0 ≡ n = omega arith in ap (λ k. numbers_by p step k a) e

module _ (p : List ℕ) (B : ℕ) where
  names-from : (b n a : ℕ) → names_of (each_at (λ _. waiter_at p B) (λ _ _. 4 + B) (count b n) a) ≡ numbers_by p (4 + B) n a
  unfolding each_at count numbers_by waiter_at
  names-from b zero a = refl
  names-from b (suc n) a = ap (λ xs. number_at p 2 a ∷ xs) (names-from (suc b) n (a + (4 + B)))

  ages-from : (b n a : ℕ) → ages_of (each_at (λ _. waiter_at p B) (λ _ _. 4 + B) (count b n) a) ≡ numbers_by p (4 + B) n (a + 2)
  unfolding each_at count numbers_by waiter_at
  ages-from b zero a = refl
  ages-from b (suc n) a =
      let e : a + (4 + B) + 2 ≡ a + 2 + (4 + B) = omega arith in
      ap (λ xs. number_at p 2 (a + 2) ∷ xs) (ages-from (suc b) n (a + (4 + B)) ∙ ap (numbers_by p (4 + B) n) e)

  pub names-are : (n a : ℕ) → names_of (each_at (λ _. waiter_at p B) (λ _ _. 4 + B) (below n) a) ≡ numbers_by p (4 + B) n a
  unfolding below
  names-are n a = names-from 0 n a

  pub ages-are : (n a : ℕ) → ages_of (each_at (λ _. waiter_at p B) (λ _ _. 4 + B) (below n) a) ≡ numbers_by p (4 + B) n (a + 2)
  unfolding below
  ages-are n a = ages-from 0 n a

-- ---- The blocks that do not wait

-- 1 for each block that does not, from number b on
unfoldable pub away : List ℕ → ℕ → List (ℕ × Spot) → List ℕ
away seen b [] = seen
away seen b (x ∷ xs) = away (set seen b (1 - bit (is_waiting x))) (b + 1) xs

pub away-more : (seen : List ℕ) (b : ℕ) (x : ℕ × Spot) (xs : List (ℕ × Spot)) → away seen b (x ∷ xs) ≡ away (set seen b (1 - bit (is_waiting x))) (b + 1) xs
unfolding away
away-more seen b x xs = refl

pub away-none : (seen : List ℕ) (b : ℕ) → away seen b [] ≡ seen
unfolding away
away-none seen b = refl

pub length-away : (seen : List ℕ) (b : ℕ) (xs : List (ℕ × Spot)) → length (away seen b xs) ≡ length seen
unfolding away
length-away seen b [] = refl
length-away seen b (x ∷ xs) = length-away (set seen b (1 - bit (is_waiting x))) (b + 1) xs ∙ length-set seen b (1 - bit (is_waiting x))

away-under : (seen : List ℕ) (b : ℕ) (xs : List (ℕ × Spot)) (k : ℕ) → k < b → get_or (away seen b xs) k 0 ≡ get_or seen k 0
unfolding away
away-under seen b [] k l = refl
away-under seen b (x ∷ xs) k l = away-under (set seen b (1 - bit (is_waiting x))) (b + 1) xs k (omega arith) ∙ get_or-set_other seen b k (1 - bit (is_waiting x)) 0 (λ e. omega arith)

pub away-at : (seen : List ℕ) (b : ℕ) (xs : List (ℕ × Spot)) (d : ℕ × Spot) (k : ℕ) → b + length xs ≤ length seen → k < length xs → get_or (away seen b xs) (b + k) 0 ≡ 1 - bit (is_waiting (get_or xs k d))
unfolding away
away-at seen b [] d k l u = absurd (omega arith)
away-at seen b (x ∷ xs) d zero l u =
    let e : b + 0 ≡ b = omega arith in
    ap (λ j. get_or (away (set seen b (1 - bit (is_waiting x))) (b + 1) xs) j 0) e ∙ away-under (set seen b (1 - bit (is_waiting x))) (b + 1) xs b (omega arith) ∙ get_or-set_same seen b (1 - bit (is_waiting x)) 0 (omega arith)
away-at seen b (x ∷ xs) d (suc k) l u =
    let e : b + suc k ≡ b + 1 + k = omega arith in
    ap (λ j. get_or (away (set seen b (1 - bit (is_waiting x))) (b + 1) xs) j 0) e ∙ away-at (set seen b (1 - bit (is_waiting x))) (b + 1) xs d k (omega (arith, length-set seen b (1 - bit (is_waiting x)))) (omega arith)

-- ---- Zeros to the end

pub zeros-more : (p : List ℕ) (k : ℕ) → k < length p → get_or p k 0 ≡ 0 → all (eqb 0) (drop (k + 1) p) ≡ all (eqb 0) (drop k p)
unfolding all
zeros-more p k l e =
    let d : suc k ≡ k + 1 = omega arith in
    sym (ap (all (eqb 0)) (drop-cons p k 0 l) ∙ rw (eq-eqb 0 (get_or p k 0) (sym e)) (ap (λ j. all (eqb 0) (drop j p)) d))

pub zeros-not : (p : List ℕ) (k : ℕ) → k < length p → ¬ (get_or p k 0 ≡ 0) → all (eqb 0) (drop k p) ≡ false
unfolding all
zeros-not p k l e = ap (all (eqb 0)) (drop-cons p k 0 l) ∙ rw (ne_eqb 0 (get_or p k 0) (λ z. e (sym z)))

pub zeros-end : (p : List ℕ) (k : ℕ) → k ≡ length p → all (eqb 0) (drop k p) ≡ true
unfolding all
zeros-end p k e = ap (λ j. all (eqb 0) (drop j p)) e ∙ ap (all (eqb 0)) (drop-length p)
