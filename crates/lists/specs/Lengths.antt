-- Lists from which elements are taken, and their lengths.
use Rattle.std.specs.Prelude.{◌≡◌, Bool, List, [], ◌∷◌, ◌++◌, replicate, eqb}
use Rattle.std.proofs.Math.Path.{refl, ap}
use Rattle.std.proofs.Common.{◌∙◌, arith, eq-eqb, ne_eqb}
use Rattle.std.proofs.Math.Bool.{true, false}
use Prim.Native.Nat.{ℕ, zero, suc, ◌+◌, ◌≤◌, ◌<◌}
use Rattle.std.proofs.Math.Decide.{ℕ_discrete}
use Rattle.std.proofs.Math.ListN.{length}
use Rattle.lists.specs.Search.{keep, without, first_left, first_left-yes, first_left-no, below, count, keep-yes, keep-no, without-yes, without-no}
use Rattle.lists.specs.All.{All, nil, cons}
use Rattle.lists.specs.Totals.{total, total-same, total-none, total-add}

pub length-count : (a n : ℕ) → length (count a n) ≡ n
unfolding count
length-count a zero = refl
length-count a (suc n) = ap suc (length-count (suc a) n)

pub length-below : (n : ℕ) → length (below n) ≡ n
unfolding below
length-below n = length-count 0 n

count-last : (a n : ℕ) → count a (suc n) ≡ count a n ++ ((a + n) ∷ [])
unfolding count
count-last a zero = ap (λ x. x ∷ []) (omega arith)
count-last a (suc n) = ap (λ r. a ∷ r) (count-last (suc a) n ∙ ap (λ x. count (suc a) n ++ (x ∷ [])) (omega arith))

-- one number more, at the end
pub below_last : (n : ℕ) → below (n + 1) ≡ below n ++ (n ∷ [])
unfolding below
below_last n =
    let e : n + 1 ≡ suc n = omega arith in
    let z : 0 + n ≡ n = omega arith in
    rw e (count-last 0 n ∙ ap (λ x. count 0 n ++ (x ∷ [])) z)

pub keep-le : (q : ℕ → Bool) (xs : List ℕ) → length (keep q xs) ≤ length xs
unfolding keep
keep-le q [] = omega arith
keep-le q (x ∷ xs) = go (q x) refl (keep-le q xs)
  where
    go : (t : Bool) → q x ≡ t → length (keep q xs) ≤ length xs → length (keep q (x ∷ xs)) ≤ suc (length xs)
    go true e h = rw (keep-yes q x xs e) (omega arith)
    go false e h = rw (keep-no q x xs e) (omega arith)

pub without-length : {A : Type 0} (p : A → Bool) (xs : List A) → length (without p xs) ≤ length xs
unfolding without
without-length p [] = omega arith
without-length p (x ∷ xs) = go (p x) refl (without-length p xs)
  where
    go : (t : Bool) → p x ≡ t → length (without p xs) ≤ length xs → length (without p (x ∷ xs)) ≤ suc (length xs)
    go true e h = rw (without-yes p x xs e) (omega arith)
    go false e h = rw (without-no p x xs e) (omega arith)

pub first_left-le : {A : Type 0} (p : A → Bool) (n : ℕ) (xs : List A) → first_left p n xs ≤ n
unfolding first_left
first_left-le p zero xs = omega arith
first_left-le p (suc n) [] = omega arith
first_left-le p (suc n) (x ∷ xs) = go (p x) refl (first_left-le p n xs)
  where
    go : (t : Bool) → p x ≡ t → first_left p n xs ≤ n → first_left p (suc n) (x ∷ xs) ≤ suc n
    go true e h = rw (first_left-yes p x xs n e) (omega arith)
    go false e h = rw (first_left-no p x xs n e) (omega arith)

pub keep-without-le : (p q : ℕ → Bool) (xs : List ℕ) → length (keep q (without p xs)) ≤ length (keep q xs)
unfolding without keep
keep-without-le p q [] = omega arith
keep-without-le p q (x ∷ xs) = go (p x) (q x) refl refl (keep-without-le p q xs)
  where
    go : (t u : Bool) → p x ≡ t → q x ≡ u → length (keep q (without p xs)) ≤ length (keep q xs) → length (keep q (without p (x ∷ xs))) ≤ length (keep q (x ∷ xs))
    go true true d e h = rw (without-yes p x xs d, keep-yes q x xs e) (omega arith)
    go true false d e h = rw (without-yes p x xs d, keep-no q x xs e) (omega arith)
    go false true d e h = rw (without-no p x xs d, keep-yes q x xs e, keep-yes q x (without p xs) e) (omega arith)
    go false false d e h = rw (without-no p x xs d, keep-no q x xs e, keep-no q x (without p xs) e) (omega arith)

-- one that passes is taken out: one less, and one less that passes; those that another test keeps stay
module _ {A : Type 0} (p : A → Bool) where
  pub without-one : (xs : List A) → 1 ≤ length (keep p xs) → suc (length (without p xs)) ≡ length xs
  without-one [] l = absurd (unfold keep in (omega (arith, l)))
  without-one (x ∷ xs) l = go (p x) refl (without-one xs)
    where
      go : (t : Bool) → p x ≡ t → (1 ≤ length (keep p xs) → suc (length (without p xs)) ≡ length xs) → suc (length (without p (x ∷ xs))) ≡ suc (length xs)
      go true e ih = ap suc (ap length (without-yes p x xs e))
      go false e ih = ap suc (ap length (without-no p x xs e) ∙ ih (rw (keep-no p x xs e) at l))

  pub keep-without-one : (xs : List A) → 1 ≤ length (keep p xs) → suc (length (keep p (without p xs))) ≡ length (keep p xs)
  keep-without-one [] l = absurd (unfold keep in (omega (arith, l)))
  keep-without-one (x ∷ xs) l = go (p x) refl (keep-without-one xs)
    where
      go : (t : Bool) → p x ≡ t → (1 ≤ length (keep p xs) → suc (length (keep p (without p xs))) ≡ length (keep p xs)) → suc (length (keep p (without p (x ∷ xs)))) ≡ length (keep p (x ∷ xs))
      go true e ih = rw (without-yes p x xs e, keep-yes p x xs e)
      go false e ih = rw (without-no p x xs e, keep-no p x xs e, keep-no p x (without p xs) e) (ih (rw (keep-no p x xs e) at l))

  pub without-append : (xs ys : List A) → 1 ≤ length (keep p xs) → without p (xs ++ ys) ≡ without p xs ++ ys
  without-append [] ys l = absurd (unfold keep in (omega (arith, l)))
  without-append (x ∷ xs) ys l = go (p x) refl (without-append xs ys)
    where
      go : (t : Bool) → p x ≡ t → (1 ≤ length (keep p xs) → without p (xs ++ ys) ≡ without p xs ++ ys) → without p (x ∷ (xs ++ ys)) ≡ without p (x ∷ xs) ++ ys
      go true e ih = rw (without-yes p x (xs ++ ys) e, without-yes p x xs e)
      go false e ih = rw (without-no p x (xs ++ ys) e, without-no p x xs e) (ap (λ zs. x ∷ zs) (ih (rw (keep-no p x xs e) at l)))

  pub keep-without : (q : A → Bool) → ((x : A) → p x ≡ true → q x ≡ false) → (xs : List A) → keep q (without p xs) ≡ keep q xs
  keep-without q n [] = unfold without in refl
  keep-without q n (x ∷ xs) = go (p x) (q x) refl refl (keep-without q n xs)
    where
      go : (t u : Bool) → p x ≡ t → q x ≡ u → keep q (without p xs) ≡ keep q xs → keep q (without p (x ∷ xs)) ≡ keep q (x ∷ xs)
      go true u d e ih = rw (without-yes p x xs d, keep-no q x xs (n x d))
      go false true d e ih = rw (without-no p x xs d, keep-yes q x xs e, keep-yes q x (without p xs) e) (ap (λ zs. x ∷ zs) ih)
      go false false d e ih = rw (without-no p x xs d, keep-no q x xs e, keep-no q x (without p xs) e) ih

-- how many of three tests an element passes
unfoldable pub bit : Bool → ℕ
bit true = 1
bit false = 0

pub keep-bit : (q : ℕ → Bool) (x : ℕ) (xs : List ℕ) → length (keep q (x ∷ xs)) ≡ bit (q x) + length (keep q xs)
unfolding bit
keep-bit q x xs = go (q x) refl
  where
    go : (t : Bool) → q x ≡ t → length (keep q (x ∷ xs)) ≡ bit t + length (keep q xs)
    go true e = rw (keep-yes q x xs e) (omega arith)
    go false e = rw (keep-no q x xs e) (omega arith)

-- where each element passes one of three tests, those that pass them are all
pub keep-three : (p q r : ℕ → Bool) (xs : List ℕ) → All (λ x. bit (p x) + bit (q x) + bit (r x) ≡ 1) xs → length (keep p xs) + length (keep q xs) + length (keep r xs) ≡ length xs
keep-three p q r [] nil = unfold keep in refl
keep-three p q r (x ∷ xs) (cons h t) = omega (arith, keep-three p q r xs t, keep-bit p x xs, keep-bit q x xs, keep-bit r x xs)

-- one element more, at the end
module _ (p : ℕ → Bool) where
  pub keep-end-yes : (xs : List ℕ) (y : ℕ) → p y ≡ true → keep p (xs ++ (y ∷ [])) ≡ keep p xs ++ (y ∷ [])
  keep-end-yes [] y e = keep-yes p y [] e ∙ (unfold keep in refl)
  keep-end-yes (x ∷ xs) y e = go (p x) refl (keep-end-yes xs y e)
    where
      go : (t : Bool) → p x ≡ t → keep p (xs ++ (y ∷ [])) ≡ keep p xs ++ (y ∷ []) → keep p (x ∷ (xs ++ (y ∷ []))) ≡ keep p (x ∷ xs) ++ (y ∷ [])
      go true d h = rw (keep-yes p x (xs ++ (y ∷ [])) d, keep-yes p x xs d) (ap (λ r. x ∷ r) h)
      go false d h = rw (keep-no p x (xs ++ (y ∷ [])) d, keep-no p x xs d) h

  pub keep-end-no : (xs : List ℕ) (y : ℕ) → p y ≡ false → keep p (xs ++ (y ∷ [])) ≡ keep p xs
  keep-end-no [] y e = keep-no p y [] e
  keep-end-no (x ∷ xs) y e = go (p x) refl (keep-end-no xs y e)
    where
      go : (t : Bool) → p x ≡ t → keep p (xs ++ (y ∷ [])) ≡ keep p xs → keep p (x ∷ (xs ++ (y ∷ []))) ≡ keep p (x ∷ xs)
      go true d h = rw (keep-yes p x (xs ++ (y ∷ [])) d, keep-yes p x xs d) (ap (λ r. x ∷ r) h)
      go false d h = rw (keep-no p x (xs ++ (y ∷ [])) d, keep-no p x xs d) h

pub replicate-end : (n x : ℕ) → replicate (suc n) x ≡ replicate n x ++ (x ∷ [])
replicate-end zero x = refl
replicate-end (suc n) x = ap (λ r. x ∷ r) (replicate-end n x)

-- ---- Classes: elements by a number below n

-- a number below n is one of them
total-bit : (n y : ℕ) → y < n → total n (λ q. bit (eqb y q)) ≡ 1
unfolding total bit
total-bit zero y h = absurd (omega arith)
total-bit (suc n) y h = go (ℕ_discrete y n) (total-bit n y)
  where
    go : Dec (y ≡ n) → (y < n → total n (λ q. bit (eqb y q)) ≡ 1) → total n (λ q. bit (eqb y q)) + bit (eqb y n) ≡ 1
    go (yes e) ih = rw (eq-eqb y n e) (omega (arith, total-none n (λ q. bit (eqb y q)) (λ q l. rw (ne_eqb y q (λ w. omega arith)))))
    go (no e) ih = rw (ne_eqb y n e) (omega (arith, ih (omega arith)))

-- the elements of each class, added up, are all
pub keep-classes : (n : ℕ) (f : ℕ → ℕ) (xs : List ℕ) → All (λ x. f x < n) xs → total n (λ q. length (keep (λ x. eqb (f x) q) xs)) ≡ length xs
keep-classes n f [] nil = total-none n _ (λ q l. unfold keep in refl)
keep-classes n f (x ∷ xs) (cons h t) =
    total-same n (λ q. length (keep (λ x. eqb (f x) q) (x ∷ xs))) (λ q. bit (eqb (f x) q) + length (keep (λ x. eqb (f x) q) xs)) (λ q l. keep-bit (λ x. eqb (f x) q) x xs)
    ∙ total-add n (λ q. bit (eqb (f x) q)) (λ q. length (keep (λ x. eqb (f x) q) xs))
    ∙ omega (arith, total-bit n (f x) h, keep-classes n f xs t)
