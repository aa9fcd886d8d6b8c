-- A list that lies in a table: pushing an entry, taking one out.
use Rattle.std.specs.Prelude.{◌≡◌, Bool, length, get_or, take, drop, if◌then◌else◌}
use Rattle.std.proofs.Math.Path.{refl, ap, sym, fun_ext}
use Rattle.std.proofs.Common.{◌∙◌, arith}
use Rattle.std.proofs.Math.Bool.{true, false}
use mathlib.Core.List.{List, [], ◌∷◌, ◌++◌, map, append-nil, map-append}
use Rattle.std.proofs.Math.Option.{none, some}
use Prim.Native.Nat.{ℕ, zero, suc, ◌+◌, ◌-◌, ◌≤◌, ◌<◌}
use Rattle.std.proofs.Math.Decide.{ℕ_discrete, dec_lt}
use Rattle.std.proofs.Math.ListN.{length-map}
use Rattle.std.proofs.Math.Dec.{ltb}
use borrow.Author.Tests.{lt-ltb, le-ltb}
use Rattle.lists.specs.Tests.{or_left, or_right}
use Rattle.lists.specs.Search.{find, any, keep, without, first_left, below, count, find-yes, find-no, without-yes, without-no, first_left-yes, first_left-no, keep-yes, keep-no}
use Rattle.lists.specs.Lengths.{length-below, below_last}
use Rattle.lists.specs.Tables.{put, put_same, put_other}
use Rattle.client.specs.View.{rows}

-- a table with one entry changed, read entry by entry
pub put_map : {A B : Type 0} (g : ℕ → A → B) (i : ℕ) (v : A) (f : ℕ → A) → ◌≡◌ {A = ℕ → B} (λ x. g x (put i v f x)) (put i (g i v) (λ x. g x (f x)))
put_map g i v f = fun_ext (λ x. go x (ℕ_discrete x i))
  where
    go : (x : ℕ) → Dec (x ≡ i) → g x (put i v f x) ≡ put i (g i v) (λ x. g x (f x)) x
    go x (yes e) = rw e (ap (g i) (put_same i v f) ∙ sym (put_same i (g i v) (λ x. g x (f x))))
    go x (no n) = ap (g x) (put_other i v f x n) ∙ sym (put_other i (g i v) (λ x. g x (f x)) x n)

module _ {A : Type 0} where
  map-count : (g k : ℕ → A) (a n : ℕ) → ((i : ℕ) → a ≤ i → i < a + n → g i ≡ k i) → map g (count a n) ≡ map k (count a n)
  unfolding count
  map-count g k a zero h = refl
  map-count g k a (suc n) h = rw (h a (omega arith) (omega arith), map-count g k (suc a) n (λ i l u. h i (omega arith) (omega arith)))

  -- equal entries below n
  pub rows_same : (g k : ℕ → A) (n : ℕ) → ((i : ℕ) → i < n → g i ≡ k i) → rows g n ≡ rows k n
  unfolding rows below
  rows_same g k n h = map-count g k 0 n (λ i l u. h i (omega arith))

  pub length-rows : (g : ℕ → A) (n : ℕ) → length (rows g n) ≡ n
  unfolding rows
  length-rows g n = simp length-map (length-below n)

  -- one entry more
  pub rows_snoc : (g : ℕ → A) (n : ℕ) → rows g (n + 1) ≡ rows g n ++ (g n ∷ [])
  unfolding rows
  rows_snoc g n = ap (map g) (below_last n) ∙ map-append g (below n) (n ∷ [])

  map-shift : (g : ℕ → A) (a n : ℕ) → map g (count (suc a) n) ≡ map (λ i. g (suc i)) (count a n)
  unfolding count
  map-shift g a zero = refl
  map-shift g a (suc n) = ap (λ r. g (suc a) ∷ r) (map-shift g (suc a) n)

  -- the first entry, and the others one place lower
  pub rows-cons : (g : ℕ → A) (n : ℕ) → rows g (suc n) ≡ g 0 ∷ rows (λ i. g (suc i)) n
  unfolding rows below count
  rows-cons g n = ap (λ r. g 0 ∷ r) (map-shift g 0 n)

  -- the first k entries, and those behind them
  pub rows_take : (g : ℕ → A) (n k : ℕ) → k ≤ n → take k (rows g n) ≡ rows g k
  unfolding rows below count
  rows_take g n zero l = refl
  rows_take g zero (suc k) l = absurd (omega arith)
  rows_take g (suc n) (suc k) l = ap (take (suc k)) (rows-cons g n) ∙ ap (λ r. g 0 ∷ r) (rows_take (λ i. g (suc i)) n k (omega arith)) ∙ sym (rows-cons g k)

  pub rows_drop : (g : ℕ → A) (n k : ℕ) → k ≤ n → drop k (rows g n) ≡ rows (λ i. g (k + i)) (n - k)
  rows_drop g n zero l = let e : n - 0 ≡ n = omega arith in rw e (rows_same g (λ i. g (0 + i)) n (λ i u. let z : i ≡ 0 + i = omega arith in ap g z))
  rows_drop g zero (suc k) l = absurd (omega arith)
  rows_drop g (suc n) (suc k) l =
      let e : suc n - suc k ≡ n - k = omega arith in
      ap (drop (suc k)) (rows-cons g n) ∙ rows_drop (λ i. g (suc i)) n k (omega arith)
      ∙ rw e (rows_same (λ i. g (suc (k + i))) (λ i. g (suc k + i)) (n - k) (λ i u. let z : suc (k + i) ≡ suc k + i = omega arith in ap g z))

-- without the element at place j
module _ {A : Type 0} where
  abbrev pub drop_at : ℕ → List A → List A
  drop_at j [] = []
  drop_at zero (x ∷ xs) = xs
  drop_at (suc j) (x ∷ xs) = x ∷ drop_at j xs

-- ---- Searches by place
module _ {A : Type 0} where
  pub rows_none : (g : ℕ → A) → rows g 0 ≡ []
  unfolding rows below count
  rows_none g = refl

  -- one entry more, at the end
  pub rows-push : (g : ℕ → A) (n : ℕ) (v : A) → rows (put n v g) (n + 1) ≡ rows g n ++ (v ∷ [])
  rows-push g n v = rows_snoc (put n v g) n ∙ (λ k. rows_same (put n v g) g n (λ i l. put_other n v g i (λ e. omega arith)) k ++ (put_same n v g k ∷ []))

  pub get_d_rows : (g : ℕ → A) (n j : ℕ) (d : A) → j < n → get_or (rows g n) j d ≡ g j
  get_d_rows g zero j d l = absurd (omega arith)
  get_d_rows g (suc n) zero d l = ap (λ r. get_or r 0 d) (rows-cons g n)
  get_d_rows g (suc n) (suc j) d l = ap (λ r. get_or r (suc j) d) (rows-cons g n) ∙ get_d_rows (λ i. g (suc i)) n j d (omega arith)

  pub rows-front : (g : ℕ → A) (n : ℕ) → 1 ≤ n → rows g n ≡ g 0 ∷ drop_at 0 (rows g n)
  rows-front g zero l = absurd (omega arith)
  rows-front g (suc n) l = rw rows-cons

module _ {A : Type 0} (p : A → Bool) where
  pub any-hit : (g : ℕ → A) (n j : ℕ) → j < n → p (g j) ≡ true → any p (rows g n) ≡ true
  unfolding any
  any-hit g zero j l h = absurd (omega arith)
  any-hit g (suc n) zero l h = ap (any p) (rows-cons g n) ∙ or_left (p (g 0)) _ h
  any-hit g (suc n) (suc j) l h = ap (any p) (rows-cons g n) ∙ or_right (p (g 0)) _ (any-hit (λ i. g (suc i)) n j (omega arith) h)

  pub any-miss : (g : ℕ → A) (n : ℕ) → ((i : ℕ) → i < n → p (g i) ≡ false) → any p (rows g n) ≡ false
  unfolding any
  any-miss g zero h = ap (any p) (rows_none g)
  any-miss g (suc n) h = ap (any p) (rows-cons g n) ∙ rw (h 0 (omega arith)) (any-miss (λ i. g (suc i)) n (λ i l. h (suc i) (omega arith)))

  -- of the first k entries; of those from k on
  module _ (g : ℕ → A) (n k : ℕ) (l : k ≤ n) where
    pub hit-in : (j : ℕ) → j < k → p (g j) ≡ true → any p (take k (rows g n)) ≡ true
    hit-in j h e = ap (any p) (rows_take g n k l) ∙ any-hit g k j h e

    pub miss-in : ((i : ℕ) → i < k → p (g i) ≡ false) → any p (take k (rows g n)) ≡ false
    miss-in h = ap (any p) (rows_take g n k l) ∙ any-miss g k h

    pub hit-from : (j : ℕ) → k ≤ j → j < n → p (g j) ≡ true → any p (drop k (rows g n)) ≡ true
    hit-from j a b e = ap (any p) (rows_drop g n k l) ∙ any-hit (λ i. g (k + i)) (n - k) (j - k) (omega arith) (let z : k + (j - k) ≡ j = omega arith in ap (λ x. p (g x)) z ∙ e)

    pub miss-from : ((i : ℕ) → k ≤ i → i < n → p (g i) ≡ false) → any p (drop k (rows g n)) ≡ false
    miss-from h = ap (any p) (rows_drop g n k l) ∙ any-miss (λ i. g (k + i)) (n - k) (λ i u. h (k + i) (omega arith) (omega arith))

  pub find-miss : (g : ℕ → A) (n : ℕ) → ((i : ℕ) → i < n → p (g i) ≡ false) → find p (rows g n) ≡ none
  unfolding find
  find-miss g zero h = ap (find p) (rows_none g)
  find-miss g (suc n) h = ap (find p) (rows-cons g n) ∙ find-no p (g 0) (rows (λ i. g (suc i)) n) (h 0 (omega arith)) ∙ find-miss (λ i. g (suc i)) n (λ i l. h (suc i) (omega arith))

  -- entry j is the first that passes
  pub find_first : (g : ℕ → A) (n j : ℕ) → j < n → p (g j) ≡ true → ((i : ℕ) → i < j → p (g i) ≡ false) → find p (rows g n) ≡ some (g j)
  find_first g zero j l h b = absurd (omega arith)
  find_first g (suc n) zero l h b = ap (find p) (rows-cons g n) ∙ find-yes p _ _ h
  find_first g (suc n) (suc j) l h b = ap (find p) (rows-cons g n) ∙ find-no p _ _ (b 0 (omega arith)) ∙ find_first (λ i. g (suc i)) n j (omega arith) h (λ i l. b (suc i) (omega arith))

  pub without-first : (g : ℕ → A) (n j : ℕ) → j < n → p (g j) ≡ true → ((i : ℕ) → i < j → p (g i) ≡ false) → without p (rows g n) ≡ drop_at j (rows g n)
  without-first g zero j l h b = absurd (omega arith)
  without-first g (suc n) zero l h b = rw rows-cons (without-yes p _ _ h)
  without-first g (suc n) (suc j) l h b = rw rows-cons (without-no p _ _ (b 0 (omega arith)) ∙ ap (λ r. g 0 ∷ r) (without-first (λ i. g (suc i)) n j (omega arith) h (λ i l. b (suc i) (omega arith))))

  -- of the first k entries one is gone if entry j was among them
  pub left-first : (g : ℕ → A) (n j k : ℕ) → j < n → p (g j) ≡ true → ((i : ℕ) → i < j → p (g i) ≡ false) → first_left p k (rows g n) ≡ (if ltb j k then k - 1 else k)
  unfolding first_left
  left-first g n j zero l h b = rw (le-ltb j 0 (omega arith))
  left-first g zero j (suc k) l h b = absurd (omega arith)
  left-first g (suc n) zero (suc k) l h b = ap (first_left p (suc k)) (rows-cons g n) ∙ first_left-yes p (g 0) _ k h ∙ rw (lt-ltb 0 (suc k) (omega arith)) (omega arith)
  left-first g (suc n) (suc j) (suc k) l h b =
      ap (first_left p (suc k)) (rows-cons g n) ∙ first_left-no p (g 0) _ k (b 0 (omega arith))
      ∙ ap suc (left-first (λ i. g (suc i)) n j k (omega arith) h (λ i l. b (suc i) (omega arith))) ∙ go (dec_lt j k)
    where
      go : Dec (j < k) → suc (if ltb j k then k - 1 else k) ≡ (if ltb (suc j) (suc k) then suc k - 1 else suc k)
      go (yes u) = rw (lt-ltb j k u, lt-ltb (suc j) (suc k) (omega arith)) (omega arith)
      go (no u) = rw (le-ltb j k (omega arith), le-ltb (suc j) (suc k) (omega arith)) refl

-- ---- Closing up: of the entries from place j on, those below i are as the ones behind them were
pub record Shifted {A : Type 0} (g k : ℕ → A) (j i : ℕ) : Type 0 where
  pub low : (x : ℕ) → x < j → k x ≡ g x
  pub moved : (x : ℕ) → j ≤ x → x < i → k x ≡ g (x + 1)
  pub rest : (x : ℕ) → i ≤ x → k x ≡ g x

module _ {A : Type 0} where
  pub shifted_none : (g : ℕ → A) (j : ℕ) → Shifted g g j j
  shifted_none g j = record { low = λ x l. refl; moved = λ x l u. absurd (omega arith); rest = λ x l. refl }

  pub shifted-more : (g k : ℕ → A) (j i : ℕ) → j ≤ i → Shifted g k j i → Shifted g (put i (k (i + 1)) k) j (i + 1)
  shifted-more g k j i l s = record {
    low = λ x u. put_other i (k (i + 1)) k x (λ e. omega arith) ∙ s.low x u;
    moved = λ x u w. go x u w (ℕ_discrete x i);
    rest = λ x u. put_other i (k (i + 1)) k x (λ e. omega arith) ∙ s.rest x (omega arith);
  }
    where
      go : (x : ℕ) → j ≤ x → x < i + 1 → Dec (x ≡ i) → put i (k (i + 1)) k x ≡ g (x + 1)
      go x u w (yes e) = rw e (put_same i (k (i + 1)) k ∙ s.rest (i + 1) (omega arith))
      go x u w (no e) = put_other i (k (i + 1)) k x e ∙ s.moved x u (omega arith)

  closed : (g k : ℕ → A) (j n : ℕ) → j ≤ n → ((x : ℕ) → x < j → k x ≡ g x) → ((x : ℕ) → j ≤ x → x < n → k x ≡ g (suc x)) → rows k n ≡ drop_at j (rows g (suc n))
  closed g k zero n l a b = rows_same k (λ i. g (suc i)) n (λ x u. b x (omega arith) u) ∙ ap (drop_at 0) (sym (rows-cons g n))
  closed g k (suc j) zero l a b = absurd (omega arith)
  closed g k (suc j) (suc n) l a b = rows-cons k n
      ∙ (λ z. a 0 (omega arith) z ∷ closed (λ i. g (suc i)) (λ i. k (suc i)) j n (omega arith) (λ x u. a (suc x) (omega arith)) (λ x u w. b (suc x) (omega arith) (omega arith)) z)
      ∙ ap (drop_at (suc j)) (sym (rows-cons g (suc n)))

  pub shifted-all : (g k : ℕ → A) (j i n : ℕ) → j < n → n ≤ i + 1 → Shifted g k j i → rows k (n - 1) ≡ drop_at j (rows g n)
  shifted-all g k j i zero l u s = absurd (omega arith)
  shifted-all g k j i (suc n) l u s =
      let e : suc n - 1 ≡ n = omega arith in
      rw e (closed g k j n (omega arith) s.low (λ x a b. s.moved x a (omega arith) ∙ ap g (omega arith)))

-- ---- Keeping some: the first k entries are those of the first i that pass
pub record Kept {A : Type 0} (p : A → Bool) (g f : ℕ → A) (k i : ℕ) : Type 0 where
  pub le : k ≤ i
  pub kept : rows f k ≡ keep p (rows g i)
  pub rest : (x : ℕ) → i ≤ x → f x ≡ g x

module _ {A : Type 0} (p : A → Bool) where
  keep_snoc : (xs : List A) (x : A) → keep p (xs ++ (x ∷ [])) ≡ keep p xs ++ keep p (x ∷ [])
  unfolding keep
  keep_snoc [] x = refl
  keep_snoc (y ∷ ys) x = go (p y) refl (keep_snoc ys x)
    where
      go : (t : Bool) → p y ≡ t → keep p (ys ++ (x ∷ [])) ≡ keep p ys ++ keep p (x ∷ []) → keep p (y ∷ (ys ++ (x ∷ []))) ≡ keep p (y ∷ ys) ++ keep p (x ∷ [])
      go true e ih = keep-yes p y (ys ++ (x ∷ [])) e ∙ ap (λ r. y ∷ r) ih ∙ ap (λ r. r ++ keep p (x ∷ [])) (sym (keep-yes p y ys e))
      go false e ih = keep-no p y (ys ++ (x ∷ [])) e ∙ ih ∙ ap (λ r. r ++ keep p (x ∷ [])) (sym (keep-no p y ys e))

  pub kept-none : (g : ℕ → A) → Kept p g g 0 0
  unfolding keep
  kept-none g = record { le = omega arith; kept = rows_none g ∙ ap (keep p) (sym (rows_none g)); rest = λ x l. refl }

  pub kept-yes : (g f : ℕ → A) (k i : ℕ) → p (f i) ≡ true → Kept p g f k i → Kept p g (put k (f i) f) (k + 1) (i + 1)
  unfolding keep
  kept-yes g f k i e s =
      let q : f i ≡ g i = s.rest i (omega arith) in
      record {
        le = omega arith;
        kept = rows-push f k (f i)
            ∙ (λ z. s.kept z ++ (q z ∷ []))
            ∙ ap (λ r. keep p (rows g i) ++ r) (sym (keep-yes p (g i) [] (rw q at e)))
            ∙ sym (keep_snoc (rows g i) (g i))
            ∙ ap (keep p) (sym (rows_snoc g i));
        rest = λ x l. put_other k (f i) f x (λ e. omega (arith, s.le)) ∙ s.rest x (omega arith);
      }

  pub kept-no : (g f : ℕ → A) (k i : ℕ) → p (f i) ≡ false → Kept p g f k i → Kept p g f k (i + 1)
  unfolding keep
  kept-no g f k i e s =
      let q : f i ≡ g i = s.rest i (omega arith) in
      record {
        le = omega arith;
        kept = s.kept ∙ sym (ap (keep p) (rows_snoc g i) ∙ keep_snoc (rows g i) (g i) ∙ ap (λ r. keep p (rows g i) ++ r) (keep-no p (g i) [] (rw q at e)) ∙ append-nil (keep p (rows g i)));
        rest = λ x l. s.rest x (omega arith);
      }
