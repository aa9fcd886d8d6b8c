-- Insertion into an ascending list, by places.
use Rattle.std.specs.Prelude.{◌≡◌, true, false, ◌&&◌, List, [], ◌∷◌, ℕ, zero, suc, ◌+◌, ◌-◌, ◌≤◌, ◌<◌, length, take, get_or, set, eqb, ltb}
use Rattle.std.proofs.Math.Path.{refl}
use Rattle.std.proofs.Common.{ap, sym, ◌∙◌, true≢false, arith, length-set, length-take-le, get_or-take, get_or-set_same, get_or-set_other, ext_get_or}
use Rattle.std.proofs.Math.Decide.{ℕ_discrete, dec_lt}
use borrow.Author.Tests.{ltb-true, eqb-true, lt-ltb, le-ltb, eq-eqb, ne_eqb}
use Rattle.lists.specs.Tests.{and_l, and_r, and-true, and-false}
use Rattle.lists.specs.Distinct.{mem-at}
use Rattle.lists.specs.Members.{all-mem}
use Rattle.lists.specs.Places.{insert_at, get-insert, length-insert}
use Rattle.gather.specs.Gathered.{Ascending, inserted, Spot, Shifted}

-- how insertion computes
module _ (x y : ℕ) (ys : List ℕ) where
  pub inserted-before : x < y → inserted x (y ∷ ys) ≡ x ∷ y ∷ ys
  unfolding inserted
  inserted-before h = rw (lt-ltb x y h, inserted)

  pub inserted-here : x ≡ y → inserted x (y ∷ ys) ≡ y ∷ ys
  unfolding inserted
  inserted-here h = rw (le-ltb x y (omega arith), eq-eqb x y h, inserted)

  pub inserted-behind : y < x → inserted x (y ∷ ys) ≡ y ∷ inserted x ys
  unfolding inserted
  inserted-behind h = rw (le-ltb x y (omega arith), ne_eqb x y (λ e. omega arith), inserted)

rest : (x y : ℕ) (ys : List ℕ) (i : ℕ) → Spot x (y ∷ ys) (suc i) → Spot x ys i
rest x y ys i s = record { less = λ j l. s.less (suc j) (omega arith); others = λ j l k. s.others (suc j) (omega arith) (omega arith) }

-- a number that is there
inserted-there : (x : ℕ) (l : List ℕ) (i : ℕ) → Spot x l i → i < length l → get_or l i 0 ≡ x → inserted x l ≡ l
inserted-there x [] i s h e = absurd (omega arith)
inserted-there x (y ∷ ys) zero s h e = inserted-here x y ys (sym e)
inserted-there x (y ∷ ys) (suc i) s h e =
    inserted-behind x y ys (s.less 0 (omega arith)) ∙ ap (λ r. y ∷ r) (inserted-there x ys i (rest x y ys i s) (omega arith) e)

-- and one that is not
inserted_new : (x : ℕ) (l : List ℕ) (i : ℕ) → Spot x l i → i ≤ length l → (i < length l → get_or l i 0 ≡ x → ⊥) → inserted x l ≡ insert_at i x l
inserted_new x [] zero s h n = unfold inserted in refl
inserted_new x [] (suc i) s h n = absurd (omega arith)
inserted_new x (y ∷ ys) zero s h n =
    let d : y ≡ x → ⊥ = n (omega arith) in
    inserted-before x y ys (omega (arith, s.others 0 (omega arith) (omega arith)))
inserted_new x (y ∷ ys) (suc i) s h n =
    inserted-behind x y ys (s.less 0 (omega arith)) ∙ ap (λ r. y ∷ r) (inserted_new x ys i (rest x y ys i s) (omega arith) (λ l. n (omega arith)))

-- entries of an ascending list
ascending-at : (l : List ℕ) (i j : ℕ) → Ascending l → i < j → j < length l → get_or l i 0 < get_or l j 0
ascending-at [] i j a h k = absurd (omega arith)
ascending-at (x ∷ xs) i zero a h k = absurd (omega arith)
ascending-at (x ∷ xs) zero (suc j) a h k = all-mem a.0 (get_or xs j 0) (mem-at xs j (omega arith))
ascending-at (x ∷ xs) (suc i) (suc j) a h k = ascending-at xs i j a.1 (omega arith) (omega arith)

-- entries of a list with one inserted
insert-less : (i x : ℕ) (l : List ℕ) (j : ℕ) → j < i → i ≤ length l → get_or (insert_at i x l) j 0 ≡ get_or l j 0
insert-less zero x l j h k = absurd (omega arith)
insert-less (suc i) x [] j h k = absurd (omega arith)
insert-less (suc i) x (y ∷ ys) zero h k = refl
insert-less (suc i) x (y ∷ ys) (suc j) h k = insert-less i x ys j (omega arith) (omega arith)

insert-more : (i x : ℕ) (l : List ℕ) (j : ℕ) → i ≤ j → j < length l → get_or (insert_at i x l) (suc j) 0 ≡ get_or l j 0
insert-more zero x l j h k = refl
insert-more (suc i) x [] j h k = absurd (omega arith)
insert-more (suc i) x (y ∷ ys) zero h k = absurd (omega arith)
insert-more (suc i) x (y ∷ ys) (suc j) h k = insert-more i x ys j (omega arith) (omega arith)

pub ascending-le : (l : List ℕ) → Ascending l → (i j : ℕ) → i ≤ j → j < length l → get_or l i 0 ≤ get_or l j 0
ascending-le l a i j h k = go (ℕ_discrete i j)
  where
    go : Dec (i ≡ j) → get_or l i 0 ≤ get_or l j 0
    go (yes e) = rw e (omega arith)
    go (no n) = omega (arith, ascending-at l i j a (omega arith) k)

-- what a search of an ascending list finds is where x belongs
pub spot-found : (x : ℕ) (l : List ℕ) (i : ℕ) → Ascending l → i < length l → get_or l i 0 ≡ x → Spot x l i
spot-found x l i a h e = record {
  less = λ j u. omega (arith, ascending-at l j i a u h);
  others = λ j u v. omega (arith, ascending-le l a i j u v);
}

-- The first k entries of a list
module _ (l : List ℕ) (k x i : ℕ) (long : k < length l) (h : i ≤ k) where
  short : length (take k l) ≡ k
  short = length-take-le k l (omega arith)

  -- x is there
  pub there : Spot x (take k l) i → (ltb i k && eqb (get_or l i 0) x) ≡ true → take k l ≡ inserted x (take k l)
  there s t =
      let u = ltb-true i k (and_l (ltb i k) (eqb (get_or l i 0) x) t) in
      let e = eqb-true (get_or l i 0) x (and_r (ltb i k) (eqb (get_or l i 0) x) t) in
      sym (inserted-there x (take k l) i s (omega (arith, short)) (get_or-take k l i 0 u ∙ e))

  -- x is stored where it belongs, once the others are moved up
  pub stored : (l' : List ℕ) → length l' ≡ length l → Shifted l l' i k → Spot x (take k l) i → (ltb i k && eqb (get_or l i 0) x) ≡ false → take (k + 1) (set l' i x) ≡ inserted x (take k l)
  stored l' e f s t = ext_get_or 0 _ _ same (λ j u. at j (omega (arith, size))) ∙ sym (inserted_new x (take k l) i s (omega (arith, short)) new)
    where
      new : i < length (take k l) → get_or (take k l) i 0 ≡ x → ⊥
      new u q =
          let v : i < k = omega (arith, short) in
          true≢false (sym (and-true (lt-ltb i k v) (eq-eqb (get_or l i 0) x (sym (get_or-take k l i 0 v) ∙ q))) ∙ t)

      size : length (take (k + 1) (set l' i x)) ≡ k + 1
      size = length-take-le (k + 1) (set l' i x) (omega (arith, length-set l' i x))

      same : length (take (k + 1) (set l' i x)) ≡ length (insert_at i x (take k l))
      same = omega (arith, size, short, length-insert i x (take k l))

      go : (j : ℕ) → j < k + 1 → Dec (j ≡ i) → Dec (j < i) → get_or (set l' i x) j 0 ≡ get_or (insert_at i x (take k l)) j 0
      go j u (yes q) d = rw q (get_or-set_same l' i x 0 (omega arith) ∙ sym (get-insert i x (take k l) (omega (arith, short))))
      go j u (no q) (yes d) = get_or-set_other l' i j x 0 q ∙ f.kept j d ∙ sym (insert-less i x (take k l) j d (omega (arith, short)) ∙ get_or-take k l j 0 (omega arith))
      go zero u (no q) (no d) = absurd (omega arith)
      go (suc j) u (no q) (no d) = get_or-set_other l' i (suc j) x 0 q ∙ f.moved (suc j) (omega arith) (omega arith) ∙ ap (λ n. get_or l n 0) back ∙ sym (insert-more i x (take k l) j (omega arith) (omega (arith, short)) ∙ get_or-take k l j 0 (omega arith))
        where
          back : suc j - 1 ≡ j
          back = omega arith

      at : (j : ℕ) → j < k + 1 → get_or (take (k + 1) (set l' i x)) j 0 ≡ get_or (insert_at i x (take k l)) j 0
      at j u = get_or-take (k + 1) (set l' i x) j 0 u ∙ go j u (ℕ_discrete j i) (dec_lt j i)

  -- whether the entry at place i is x, as insertion asks it
  pub is-there : i < k → get_or (take k l) i 0 ≡ x → (ltb i k && eqb (get_or l i 0) x) ≡ true
  is-there u e = and-true (lt-ltb i k u) (eq-eqb (get_or l i 0) x (sym (get_or-take k l i 0 u) ∙ e))

  pub is-not : (i < k → x < get_or (take k l) i 0) → (ltb i k && eqb (get_or l i 0) x) ≡ false
  is-not f = go (dec_lt i k)
    where
      go : Dec (i < k) → (ltb i k && eqb (get_or l i 0) x) ≡ false
      go (yes u) = and-false (ltb i k) (ne_eqb (get_or l i 0) x (λ e. omega (arith, f u, get_or-take k l i 0 u)))
      go (no n) = rw (le-ltb i k (omega arith))
