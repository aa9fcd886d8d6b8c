-- Properties of every element of a list, of what is found, and of the numbers below n.
use Rattle.std.proofs.Math.Path.{◌≡◌, refl, sym}
use Rattle.std.proofs.Common.{ap, ◌∙◌, true≢false, arith, drop_of_length-le}
use Rattle.std.specs.Prelude.{Bool, ◌||◌, ◌⊎◌, get_or, set, take, replicate, drop}
use Rattle.std.proofs.Math.Bool.{true, false}
use Rattle.std.proofs.Math.Logic.{inl, inr, ⊎_elim}
use mathlib.Core.List.{List, [], ◌∷◌, ◌++◌, map}
use Rattle.std.proofs.Math.Option.{Option, none, some}
use Prim.Native.Nat.{ℕ, zero, suc, ◌+◌, ◌≤◌, ◌<◌}
use Rattle.std.proofs.Math.Dec.{eqb}
use borrow.Author.Tests.{eqb-true, eqb-false}
use Rattle.lists.specs.Tests.{and_l, and_r, and-true, or-true, or_left, or_right}
use Rattle.lists.specs.Search.{find, keep, any, all, without, first_left, below, count, keep-yes, keep-no, first_left-yes, first_left-no, without-yes, without-no, find-yes, find-no}

-- each element has a property
pub data All {A : Type 0} (P : A → Type 0) : List A → Type 0 where
  nil : All P []
  cons : {x : A} {xs : List A} → P x → All P xs → All P (x ∷ xs)

-- what is found has a property
abbrev pub IfSome : {A : Type 0} → (A → Type 0) → Option A → Type 0
IfSome P none = Unit {0}
IfSome P (some x) = P x

module _ {A : Type 0} where
  pub all_yes : (p : A → Bool) (xs : List A) → all p xs ≡ true → All (λ x. p x ≡ true) xs
  unfolding all
  all_yes p [] h = nil
  all_yes p (x ∷ xs) h = cons (and_l (p x) (all p xs) h) (all_yes p xs (and_r (p x) (all p xs) h))

  pub yes-all : {p : A → Bool} {xs : List A} → All (λ x. p x ≡ true) xs → all p xs ≡ true
  unfolding all
  yes-all nil = refl
  yes-all (cons h t) = and-true h (yes-all t)

module _ {A : Type 0} {P : A → Type 0} where
  pub all_map : {Q : A → Type 0} {xs : List A} → ((x : A) → P x → Q x) → All P xs → All Q xs
  all_map f nil = nil
  all_map f (cons {x = x} h t) = cons (f x h) (all_map f t)

  pub all_append : {xs ys : List A} → All P xs → All P ys → All P (xs ++ ys)
  all_append nil k = k
  all_append (cons h t) k = cons h (all_append t k)

  pub all_keep : (q : A → Bool) {xs : List A} → All P xs → All P (keep q xs)
  unfolding keep
  all_keep q nil = nil
  all_keep q (cons {x = x} {xs = xs} h t) = go (q x) refl (all_keep q t)
    where
      go : (b : Bool) → q x ≡ b → All P (keep q xs) → All P (keep q (x ∷ xs))
      go true e k = rw (keep-yes q x xs e) (cons h k)
      go false e k = rw (keep-no q x xs e) k

  pub all_without : (q : A → Bool) {xs : List A} → All P xs → All P (without q xs)
  unfolding without
  all_without q nil = nil
  all_without q (cons {x = x} {xs = xs} h t) = go (q x) refl (all_without q t)
    where
      go : (b : Bool) → q x ≡ b → All P (without q xs) → All P (without q (x ∷ xs))
      go true e k = rw (without-yes q x xs e) t
      go false e k = rw (without-no q x xs e) (cons h k)

  pub find-all : (q : A → Bool) {xs : List A} → All P xs → IfSome P (find q xs)
  unfolding find
  find-all q nil = tt
  find-all q (cons {x = x} {xs = xs} h t) = go (q x) refl (find-all q t)
    where
      go : (b : Bool) → q x ≡ b → IfSome P (find q xs) → IfSome P (find q (x ∷ xs))
      go true e k = rw (find-yes q x xs e) h
      go false e k = rw (find-no q x xs e) k

  pub all_get_d : {xs : List A} (i : ℕ) {d : A} → All P xs → P d → P (get_or xs i d)
  all_get_d i nil k = k
  all_get_d zero (cons h t) k = h
  all_get_d (suc i) (cons h t) k = all_get_d i t k

  pub all_set : {xs : List A} (i : ℕ) {y : A} → All P xs → P y → All P (set xs i y)
  all_set i nil k = nil
  all_set zero (cons h t) k = cons k t
  all_set (suc i) (cons h t) k = cons h (all_set i t k)

module _ {A : Type 0} where
  pub all_both : {P Q : A → Type 0} {xs : List A} → All P xs → All Q xs → All (λ x. P x × Q x) xs
  all_both nil k = nil
  all_both (cons h t) (cons k u) = cons (h, k) (all_both t u)

  pub keep-passes : (p : A → Bool) (xs : List A) → All (λ x. p x ≡ true) (keep p xs)
  unfolding keep
  keep-passes p [] = nil
  keep-passes p (x ∷ xs) = go (p x) refl (keep-passes p xs)
    where
      go : (t : Bool) → p x ≡ t → All (λ x. p x ≡ true) (keep p xs) → All (λ x. p x ≡ true) (keep p (x ∷ xs))
      go true e k = rw (keep-yes p x xs e) (cons e k)
      go false e k = rw (keep-no p x xs e) k

  pub find-passes : (p : A → Bool) (xs : List A) → IfSome (λ x. p x ≡ true) (find p xs)
  unfolding find
  find-passes p [] = tt
  find-passes p (x ∷ xs) = go (p x) refl (find-passes p xs)
    where
      go : (t : Bool) → p x ≡ t → IfSome (λ x. p x ≡ true) (find p xs) → IfSome (λ x. p x ≡ true) (find p (x ∷ xs))
      go true e k = rw (find-yes p x xs e) e
      go false e k = rw (find-no p x xs e) k

  pub find-both : {P : A → Type 0} (p : A → Bool) {xs : List A} → All P xs → IfSome (λ x. (p x ≡ true) × P x) (find p xs)
  unfolding find
  find-both p nil = tt
  find-both {P = P} p (cons {x = x} {xs = xs} h t) = go (p x) refl (find-both p t)
    where
      go : (b : Bool) → p x ≡ b → IfSome (λ x. (p x ≡ true) × P x) (find p xs) → IfSome (λ x. (p x ≡ true) × P x) (find p (x ∷ xs))
      go true e k = rw (find-yes p x xs e) (e, h)
      go false e k = rw (find-no p x xs e) k

  pub find_none : (p : A → Bool) (xs : List A) → find p xs ≡ none → All (λ x. p x ≡ false) xs
  unfolding find
  find_none p [] h = nil
  find_none p (x ∷ xs) h = go (p x) refl (find_none p xs)
    where
      go : (t : Bool) → p x ≡ t → (find p xs ≡ none → All (λ x. p x ≡ false) xs) → All (λ x. p x ≡ false) (x ∷ xs)
      go true e k = let z : some x ≡ none = sym (find-yes p x xs e) ∙ h in let w : ◌≡◌ {A = ℕ} 0 1 = cc in absurd (omega arith)
      go false e k = cons e (k (sym (find-no p x xs e) ∙ h))

  pub any_none : (p : A → Bool) (xs : List A) → any p xs ≡ false → All (λ x. p x ≡ false) xs
  unfolding any
  any_none p [] h = nil
  any_none p (x ∷ xs) h = go (p x) refl h (any_none p xs)
    where
      go : (t : Bool) → p x ≡ t → (t || any p xs) ≡ false → (any p xs ≡ false → All (λ x. p x ≡ false) xs) → All (λ x. p x ≡ false) (x ∷ xs)
      go true e k ih = absurd (true≢false k)
      go false e k ih = cons e (ih k)

module _ {A : Type 0} {P : A → Type 0} where
  pub all_left : (xs ys : List A) → All P (xs ++ ys) → All P xs
  all_left [] ys h = nil
  all_left (x ∷ xs) ys (cons h t) = cons h (all_left xs ys t)

  pub all_right : (xs ys : List A) → All P (xs ++ ys) → All P ys
  all_right [] ys h = h
  all_right (x ∷ xs) ys (cons h t) = all_right xs ys t

  pub all_take : (n : ℕ) {xs : List A} → All P xs → All P (take n xs)
  all_take zero h = nil
  all_take (suc n) nil = nil
  all_take (suc n) (cons h t) = cons h (all_take n t)

  pub all_drop : (n : ℕ) {xs : List A} → All P xs → All P (drop n xs)
  all_drop zero h = h
  all_drop (suc n) nil = nil
  all_drop (suc n) (cons h t) = all_drop n t

pub all_replicate : (P : ℕ → Type 0) (n x : ℕ) → P x → All P (replicate n x)
all_replicate P zero x h = nil
all_replicate P (suc n) x h = cons h (all_replicate P n x h)

-- all numbers below n
module _ (p : ℕ → Bool) where
  pub all-count : (a n : ℕ) → all p (count a n) ≡ true → (i : ℕ) → a ≤ i → i < a + n → p i ≡ true
  unfolding all count
  all-count a zero h i l u = absurd (omega arith)
  all-count a (suc n) h i l u = go (eqb i a) refl (λ k. all-count (suc a) n (and_r (p a) (all p (count (suc a) n)) h) i k (omega arith))
    where
      go : (t : Bool) → eqb i a ≡ t → (suc a ≤ i → p i ≡ true) → p i ≡ true
      go true e k = rw (eqb-true i a e) (and_l (p a) (all p (count (suc a) n)) h)
      go false e k = let ne = eqb-false i a e in k (omega arith)

  pub count-all : (a n : ℕ) → ((i : ℕ) → a ≤ i → i < a + n → p i ≡ true) → all p (count a n) ≡ true
  unfolding all count
  count-all a zero h = refl
  count-all a (suc n) h = and-true (h a (omega arith) (omega arith)) (count-all (suc a) n (λ i l u. h i (omega arith) (omega arith)))

  pub all-below : (n : ℕ) → all p (below n) ≡ true → (i : ℕ) → i < n → p i ≡ true
  unfolding below
  all-below n h i k = all-count 0 n h i (omega arith) (omega arith)

  pub below_all : (n : ℕ) → ((i : ℕ) → i < n → p i ≡ true) → all p (below n) ≡ true
  unfolding below
  below_all n h = count-all 0 n (λ i l u. h i (omega arith))

-- Lists of numbers below a bound
pub count-below : (a n : ℕ) → All (λ x. x < a + n) (count a n)
unfolding count
count-below a zero = nil
count-below a (suc n) = let first : a < a + suc n = omega arith in cons first (all_map (λ x h. omega arith) (count-below (suc a) n))

pub below-below : (n : ℕ) → All (λ x. x < n) (below n)
unfolding below
below-below n = all_map (λ x h. omega arith) (count-below 0 n)

pub map_below : (P : ℕ → Type 0) (f : ℕ → ℕ) (n : ℕ) → ((i : ℕ) → i < n → P (f i)) → All P (map f (below n))
map_below P f n h = go (below n) (below-below n)
  where
    go : (xs : List ℕ) → All (λ x. x < n) xs → All P (map f xs)
    go [] nil = nil
    go (x ∷ xs) (cons k t) = cons (h x k) (go xs t)

-- An element that passes
module _ {A : Type 0} (p : A → Bool) where
  pub any-more : (xs ys : List A) → any p xs ≡ true → any p (xs ++ ys) ≡ true
  unfolding any
  any-more [] ys e = absurd (true≢false (sym e))
  any-more (x ∷ xs) ys e = ⊎_elim (or_left (p x) (any p (xs ++ ys))) (λ k. or_right (p x) (any p (xs ++ ys)) (any-more xs ys k)) (or-true (p x) (any p xs) e)

  pub any_last : (xs : List A) (y : A) → p y ≡ true → any p (xs ++ (y ∷ [])) ≡ true
  unfolding any
  any_last [] y e = or_left (p y) false e
  any_last (x ∷ xs) y e = or_right (p x) (any p (xs ++ (y ∷ []))) (any_last xs y e)

  pub any_snoc : (xs : List A) (y : A) → any p (xs ++ (y ∷ [])) ≡ true → (any p xs ≡ true) ⊎ (p y ≡ true)
  unfolding any
  any_snoc [] y e = ⊎_elim inr (λ k. absurd (true≢false (sym k))) (or-true (p y) false e)
  any_snoc (x ∷ xs) y e = ⊎_elim (λ k. inl (or_left (p x) (any p xs) k)) (λ k. ⊎_elim (λ l. inl (or_right (p x) (any p xs) l)) inr (any_snoc xs y k)) (or-true (p x) (any p (xs ++ (y ∷ []))) e)

  pub any-all : {P : A → Type 0} {xs : List A} → All P xs → any p xs ≡ true → (x : A) × ((p x ≡ true) × P x)
  unfolding any
  any-all nil e = absurd (true≢false (sym e))
  any-all (cons {x = x} {xs = xs} h t) e = ⊎_elim (λ k. (x, (k, h))) (λ k. any-all t k) (or-true (p x) (any p xs) e)

  module _ (q : A → Bool) where
    pub any-without : (xs : List A) → any p (without q xs) ≡ true → any p xs ≡ true
    unfolding any without
    any-without [] e = e
    any-without (x ∷ xs) e = go (q x) refl (any-without xs)
      where
        go : (t : Bool) → q x ≡ t → (any p (without q xs) ≡ true → any p xs ≡ true) → any p (x ∷ xs) ≡ true
        go true k ih = or_right (p x) (any p xs) (rw (without-yes q x xs k) at e)
        go false k ih =
            let e' : (p x || any p (without q xs)) ≡ true = rw (without-no q x xs k) at e in
            ⊎_elim (or_left (p x) (any p xs)) (λ l. or_right (p x) (any p xs) (ih l)) (or-true (p x) (any p (without q xs)) e')

    -- what is not taken away stays
    pub any-kept : (xs : List A) → any p xs ≡ true → ((x : A) → p x ≡ true → q x ≡ true → ⊥) → any p (without q xs) ≡ true
    unfolding any without
    any-kept [] e n = e
    any-kept (x ∷ xs) e n = go (q x) refl (or-true (p x) (any p xs) e) (λ k. any-kept xs k n)
      where
        go : (t : Bool) → q x ≡ t → (p x ≡ true) ⊎ (any p xs ≡ true) → (any p xs ≡ true → any p (without q xs) ≡ true) → any p (without q (x ∷ xs)) ≡ true
        go true k (inl l) ih = absurd (n x l k)
        go true k (inr l) ih = rw (without-yes q x xs k) l
        go false k (inl l) ih = rw (without-no q x xs k) (or_left (p x) (any p (without q xs)) l)
        go false k (inr l) ih = rw (without-no q x xs k) (or_right (p x) (any p (without q xs)) (ih l))

-- two tests that answer alike answer the same of a list
pub any_same : {A : Type 0} (p q : A → Bool) {xs : List A} → All (λ x. p x ≡ q x) xs → any p xs ≡ any q xs
unfolding any
any_same p q nil = refl
any_same p q (cons {x = x} {xs = xs} h t) = ap (λ z. z || any p xs) h ∙ ap (λ z. q x || z) (any_same p q t)

-- two tests that answer alike find the same
pub find-same : {A : Type 0} (p q : A → Bool) {xs : List A} → All (λ x. p x ≡ q x) xs → find p xs ≡ find q xs
unfolding find
find-same p q nil = refl
find-same p q (cons {x = x} {xs = xs} h t) = go (q x) refl (find-same p q t)
  where
    go : (b : Bool) → q x ≡ b → find p xs ≡ find q xs → find p (x ∷ xs) ≡ find q (x ∷ xs)
    go true e k = find-yes p x xs (h ∙ e) ∙ sym (find-yes q x xs e)
    go false e k = find-no p x xs (h ∙ e) ∙ k ∙ sym (find-no q x xs e)

-- behind the first n elements
module _ {A : Type 0} {P : A → Type 0} where
  pub drop-snoc : (n : ℕ) (xs : List A) (y : A) → All P (drop n xs) → P y → All P (drop n (xs ++ (y ∷ [])))
  drop-snoc zero xs y h k = all_append h (cons k nil)
  drop-snoc (suc n) [] y h k = rw (drop_of_length-le {A = A} [] {i = n} (omega arith)) nil
  drop-snoc (suc n) (x ∷ xs) y h k = drop-snoc n xs y h k

  pub drop-without : (p : A → Bool) (n : ℕ) (xs : List A) → All P (drop n xs) → All P (drop (first_left p n xs) (without p xs))
  unfolding first_left
  drop-without p zero xs h = all_without p h
  drop-without p (suc n) [] h = unfold without in h
  drop-without p (suc n) (x ∷ xs) h = go (p x) refl (drop-without p n xs h)
    where
      go : (t : Bool) → p x ≡ t → All P (drop (first_left p n xs) (without p xs)) → All P (drop (first_left p (suc n) (x ∷ xs)) (without p (x ∷ xs)))
      go true e k = rw (first_left-yes p x xs n e, without-yes p x xs e) h
      go false e k = rw (first_left-no p x xs n e, without-no p x xs e) k
