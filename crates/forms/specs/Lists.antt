-- A payload's lists as loops go through them: what is left of one, from a number and a place on.
use Rattle.std.specs.Prelude.{◌≡◌, length}
use Rattle.std.proofs.Math.Path.{refl, ap}
use Rattle.std.proofs.Common.{◌∙◌, subst}
use mathlib.Core.List.{List, [], ◌∷◌, ◌++◌, map}
use Prim.Native.Nat.{ℕ, zero, suc, ◌+◌, ◌-◌, ◌*◌, ◌≤◌, ◌<◌}
use native.Mathlib.Omega.{arith}
use Rattle.std.proofs.Math.ListN.{get_or}
use Rattle.lists.specs.All.{All, nil, cons}
use Rattle.lists.specs.Lengths.{length-below}
use Rattle.lists.specs.Search.{below, count}
use Rattle.rules.specs.Shape.{slots}
use Rattle.rules.specs.Form.Reading.{shape_of}
use Rattle.forms.specs.At.{bytes_at, number_at, numbers_at, level_at, level_size, each_at, size_at, wait_count, shape_in, counters_in, keys_in, blocks_in, form_at}
use Rattle.forms.specs.Facts.{key_of, Sized, Made}

module _ (p : List ℕ) where
  pub length-numbers : (w n a : ℕ) → length (numbers_at p w n a) ≡ n
  unfolding numbers_at
  length-numbers w zero a = refl
  length-numbers w (suc n) a = ap suc (length-numbers w n (a + w))

  pub length-bytes : (n a : ℕ) → length (bytes_at p n a) ≡ n
  unfolding bytes_at
  length-bytes zero a = refl
  length-bytes (suc n) a = ap suc (length-bytes n (suc a))

  pub numbers-at : (w n a k : ℕ) → k < n → get_or (numbers_at p w n a) k 0 ≡ number_at p w (a + k * w)
  unfolding numbers_at
  numbers-at w zero a k l = absurd (omega arith)
  numbers-at w (suc n) a zero l = let e : a ≡ a + 0 * w = omega arith in ap (number_at p w) e
  numbers-at w (suc n) a (suc k) l = let e : a + w + k * w ≡ a + suc k * w = omega arith in numbers-at w n (a + w) k (omega arith) ∙ ap (number_at p w) e

  -- one number more
  pub numbers-left : (w n a i : ℕ) → i < n → numbers_at p w (n - i) (a + i * w) ≡ number_at p w (a + i * w) ∷ numbers_at p w (n - (i + 1)) (a + (i + 1) * w)
  unfolding numbers_at
  numbers-left w n a i l =
      let e : n - i ≡ suc (n - (i + 1)) = omega arith in
      let d : a + i * w + w ≡ a + (i + 1) * w = omega arith in
      ap (λ k. numbers_at p w k (a + i * w)) e ∙ ap (λ k. number_at p w (a + i * w) ∷ numbers_at p w (n - (i + 1)) k) d

  pub numbers-none : (w n a i : ℕ) → n ≤ i → numbers_at p w (n - i) a ≡ []
  unfolding numbers_at
  numbers-none w n a i l = let e : n - i ≡ 0 = omega arith in ap (λ k. numbers_at p w k a) e

  pub bytes-at : (n a k : ℕ) → k < n → get_or (bytes_at p n a) k 0 ≡ get_or p (a + k) 0
  unfolding bytes_at
  bytes-at zero a k l = absurd (omega arith)
  bytes-at (suc n) a zero l = let e : a ≡ a + 0 = omega arith in ap (λ j. get_or p j 0) e
  bytes-at (suc n) a (suc k) l = let e : suc a + k ≡ a + suc k = omega arith in bytes-at n (suc a) k (omega arith) ∙ ap (λ j. get_or p j 0) e

  -- some bytes, and those behind them
  pub bytes-append : (n m a : ℕ) → bytes_at p n a ++ bytes_at p m (a + n) ≡ bytes_at p (n + m) a
  unfolding bytes_at
  bytes-append zero m a =
      let e : a + 0 ≡ a = omega arith in
      let d : m ≡ 0 + m = omega arith in
      ap (bytes_at p m) e ∙ ap (λ k. bytes_at p k a) d
  bytes-append (suc n) m a =
      let e : a + suc n ≡ suc a + n = omega arith in
      let d : suc (n + m) ≡ suc n + m = omega arith in
      ap (λ xs. get_or p a 0 ∷ xs) (ap (λ k. bytes_at p n (suc a) ++ bytes_at p m k) e ∙ bytes-append n m (suc a)) ∙ ap (λ k. bytes_at p k a) d

-- one key more
pub count_left : (n b : ℕ) → b < n → count b (n - b) ≡ b ∷ count (b + 1) (n - (b + 1))
unfolding count
count_left n b l =
    let e : n - b ≡ suc (n - (b + 1)) = omega arith in
    let d : suc b ≡ b + 1 = omega arith in
    ap (count b) e ∙ ap (λ k. b ∷ count k (n - (b + 1))) d

pub count_none : (n b : ℕ) → n ≤ b → count b (n - b) ≡ []
unfolding count
count_none n b l = let e : n - b ≡ 0 = omega arith in ap (count b) e

-- ---- As many as are read

module _ {K A : Type 0} (v : K → ℕ → A) (z : K → ℕ → ℕ) where
  pub length-each : (ks : List K) (a : ℕ) → length (each_at v z ks a) ≡ length ks
  unfolding each_at
  length-each [] a = refl
  length-each (k ∷ ks) a = ap suc (length-each ks (a + z k a))

module _ (p : List ℕ) where
  level-keys : (w : ℕ) (ks : List (ℕ × ℕ)) (a : ℕ) → map key_of (each_at (level_at p w) (level_size w) ks a) ≡ ks
  unfolding each_at level_at
  level-keys w [] a = refl
  level-keys w (k ∷ ks) a = ap (λ l. k ∷ l) (level-keys w ks (a + level_size w k a))

  level-sizes : (w : ℕ) (ks : List (ℕ × ℕ)) (a : ℕ) → All Sized (each_at (level_at p w) (level_size w) ks a)
  unfolding each_at level_at
  level-sizes w [] a = nil
  level-sizes w (k ∷ ks) a = cons (length-numbers p w (slots k.1) a, length-bytes p (slots k.1) (a + slots k.1 * w)) (level-sizes w ks (a + level_size w k a))

  pub made_at : Made (form_at p)
  unfolding form_at counters_in blocks_in keys_in
  made_at = record {
    counters = length-numbers p 2 (shape_in p).P 13;
    blocks = length-each _ _ (below (shape_in p).N) _ ∙ length-below (shape_in p).N;
    keys = level-keys _ (keys_in p) _;
    sizes = level-sizes _ (keys_in p) _;
    waiters = length-each _ _ (below (wait_count (blocks_in p))) _ ∙ length-below (wait_count (blocks_in p));
  }

pub shape-in : (p : List ℕ) → shape_in p ≡ record { N = number_at p 2 1; P = number_at p 2 3; L = number_at p 2 5; B = number_at p 2 7; E = number_at p 2 9; W = number_at p 2 11 }
unfolding shape_in shape_of numbers_at
shape-in p = refl

-- one thing after the other: some, and those behind them
module _ {K : Type 0} (z : K → ℕ → ℕ) where
  pub size-append : (ks js : List K) (a : ℕ) → size_at z (ks ++ js) a ≡ size_at z ks a + size_at z js (a + size_at z ks a)
  unfolding size_at
  size-append [] js a = let e : a ≡ a + 0 = omega arith in ap (size_at z js) e ∙ omega arith
  size-append (k ∷ ks) js a =
      let e : a + z k a + size_at z ks (a + z k a) ≡ a + (z k a + size_at z ks (a + z k a)) = omega arith in
      omega (arith, size-append ks js (a + z k a), ap (size_at z js) e)

  pub each_append : {A : Type 0} (v : K → ℕ → A) (ks js : List K) (a : ℕ) → each_at v z (ks ++ js) a ≡ each_at v z ks a ++ each_at v z js (a + size_at z ks a)
  unfolding each_at size_at
  each_append v [] js a = let e : a ≡ a + 0 = omega arith in ap (each_at v z js) e
  each_append v (k ∷ ks) js a =
      let e : a + z k a + size_at z ks (a + z k a) ≡ a + (z k a + size_at z ks (a + z k a)) = omega arith in
      ap (λ xs. v k a ∷ xs) (each_append v ks js (a + z k a) ∙ ap (λ b. each_at v z ks (a + z k a) ++ each_at v z js b) e)

-- what all have: the first, and the others
pub all-next : {A : Type 0} {P : A → Type 0} {ys : List A} (x : A) (xs : List A) → ys ≡ x ∷ xs → All P ys → P x × All P xs
all-next {P = P} x xs e k = first (subst (All P) e k)
  where
    first : All P (x ∷ xs) → P x × All P xs
    first (cons h t) = (h, t)
