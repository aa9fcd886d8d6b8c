-- Tables laid out from lists, and the records of waiting blocks.
use Rattle.std.specs.Prelude.{◌≡◌, ◌⊎◌, Bool, false, length, get_or}
use Rattle.std.proofs.Math.Path.{refl, ap}
use Rattle.std.proofs.Common.{sym, ◌∙◌, subst, inl, inr, eqb-true, eq-eqb, ne_eqb}
use Rattle.std.proofs.Math.Bool.{true}
use mathlib.Core.List.{List, [], ◌∷◌, ◌++◌, map}
use Prim.Native.Nat.{ℕ, zero, suc, ◌+◌, ◌-◌, ◌≤◌, ◌<◌}
use native.Mathlib.Omega.{arith}
use Rattle.std.proofs.Math.Decide.{ℕ_discrete}
use Rattle.std.proofs.Math.Dec.{eqb}
use Rattle.std.proofs.lemmas.Bool.{eqb-false}
use Rattle.lists.specs.All.{All, nil, cons}
use Rattle.lists.specs.Distinct.{Mem}
use Rattle.lists.specs.Members.{mem-count}
use Rattle.lists.specs.Places.{map_same}
use Rattle.lists.specs.Search.{count, find, any, find-yes, find-no}
use Rattle.lists.specs.Tables.{put_all, put_all-in, put_all-has}
use Rattle.lists.specs.Tests.{or_left, or_right}
use Rattle.rules.specs.Form.Numbers.{each}
use Rattle.rules.specs.Form.Payload.{Waiter, waiters}
use Rattle.rules.specs.Form.Loading.{lay_over, lay, aged, of_block, block_in, bytes_in}

-- an element of a list has a property
pub data Some {A : Type 0} (P : A → Type 0) : List A → Type 0 where
  here : {x : A} {xs : List A} → P x → Some P (x ∷ xs)
  there : {x : A} {xs : List A} → Some P xs → Some P (x ∷ xs)

module _ {A : Type 0} {P : A → Type 0} where
  pub some_left : {xs : List A} (ys : List A) → Some P xs → Some P (xs ++ ys)
  some_left ys (here h) = here h
  some_left ys (there t) = there (some_left ys t)

  pub some_right : (xs : List A) {ys : List A} → Some P ys → Some P (xs ++ ys)
  some_right [] t = t
  some_right (x ∷ xs) t = there (some_right xs t)

  pub some-map : {B : Type 0} (f : B → A) {xs : List B} → Some (λ x. P (f x)) xs → Some P (map f xs)
  some-map f (here h) = here h
  some-map f (there t) = there (some-map f t)

  pub all-mapped : {B : Type 0} (f : B → A) {xs : List B} → All (λ x. P (f x)) xs → All P (map f xs)
  all-mapped f nil = nil
  all-mapped f (cons h t) = cons h (all-mapped f t)

  pub some-each : (f : ℕ → List A) (xs : List ℕ) (x : ℕ) → Mem x xs → Some P (f x) → Some P (each f xs)
  unfolding each
  some-each f [] x m h = absurd m
  some-each f (y ∷ ys) x (inl e) h = some_left (each f ys) (subst (λ z. Some P (f z)) e h)
  some-each f (y ∷ ys) x (inr m) h = some_right (f y) (some-each f ys x m h)

  pub all-each : (f : ℕ → List A) {xs : List ℕ} → All (λ x. All P (f x)) xs → All P (each f xs)
  unfolding each
  all-each f nil = nil
  all-each f (cons {x = x} {xs = xs} h t) = join (f x) h (all-each f t)
    where
      join : (ys : List A) → All P ys → All P (each f xs) → All P (ys ++ each f xs)
      join [] nil k = k
      join (y ∷ ys) (cons a b) k = cons a (join ys b k)

pub mem-some : {P : ℕ → Type 0} (xs : List ℕ) (x : ℕ) → Mem x xs → P x → Some P xs
mem-some [] x m h = absurd m
mem-some {P = P} (y ∷ ys) x (inl e) h = here (subst P e h)
mem-some (y ∷ ys) x (inr m) h = there (mem-some ys x m h)

-- ---- Tables laid out

-- the entries are those of a table g
abbrev pub Fits : (ℕ → ℕ) → ℕ × List ℕ → Type 0
Fits g x = (j : ℕ) → j < length x.1 → get_or x.1 j 0 ≡ g (x.0 + j)

abbrev pub Covers : ℕ → ℕ × List ℕ → Type 0
Covers c x = (x.0 ≤ c) × (c < x.0 + length x.1)

fit_at : (g : ℕ → ℕ) (x : ℕ × List ℕ) (c : ℕ) → Fits g x → x.0 ≤ c → c < x.0 + length x.1 → get_or x.1 (c - x.0) 0 ≡ g c
fit_at g x c f l u =
    let e : x.0 + (c - x.0) ≡ c = omega arith in
    f (c - x.0) (omega arith) ∙ ap g e

lay-over : (P : ℕ → Type 0) (g : ℕ → ℕ) (c : ℕ) {xs : List (ℕ × List ℕ)} (t : ℕ → ℕ) → All (Fits g) xs → P (t c) → P (g c) → P (lay_over t xs c)
unfolding lay_over
lay-over P g c t nil z h = z
lay-over P g c t (cons {x = x} f fs) z h = lay-over P g c (put_all x.0 x.1 t) fs (put_all-has P x.0 x.1 t c (λ l u. subst P (sym (fit_at g x c f l u)) h) z) h

pub lay-has : (P : ℕ → Type 0) (g : ℕ → ℕ) (c : ℕ) {xs : List (ℕ × List ℕ)} → All (Fits g) xs → P 0 → P (g c) → P (lay xs c)
lay-has P g c fs z h = lay-over P g c (λ c. 0) fs z h

lay-some : (g : ℕ → ℕ) (c : ℕ) {xs : List (ℕ × List ℕ)} (t : ℕ → ℕ) → All (Fits g) xs → Some (Covers c) xs → lay_over t xs c ≡ g c
unfolding lay_over
lay-some g c t nil k = elim k [ ]
lay-some g c t (cons {x = x} f fs) (here k) = lay-over (λ v. v ≡ g c) g c (put_all x.0 x.1 t) fs (put_all-in x.0 x.1 t c k.0 k.1 ∙ fit_at g x c f k.0 k.1) refl
lay-some g c t (cons {x = x} f fs) (there k) = lay-some g c (put_all x.0 x.1 t) fs k

pub lay-in : (g : ℕ → ℕ) (c : ℕ) {xs : List (ℕ × List ℕ)} → All (Fits g) xs → Some (Covers c) xs → lay xs c ≡ g c
lay-in g c fs k = lay-some g c (λ c. 0) fs k

-- the last entries laid are those put last
pub lay-snoc : (t : ℕ → ℕ) (xs : List (ℕ × List ℕ)) (x : ℕ × List ℕ) → lay_over t (xs ++ (x ∷ [])) ≡ put_all x.0 x.1 (lay_over t xs)
unfolding lay_over
lay-snoc t [] x = refl
lay-snoc t (y ∷ xs) x = lay-snoc (put_all y.0 y.1 t) xs x

-- a list of a table's first entries
module _ {A : Type 0} where
  pub get_or-table : (f : ℕ → A) (a n i : ℕ) (d : A) → i < n → get_or (map f (count a n)) i d ≡ f (a + i)
  unfolding count
  get_or-table f a zero i d h = absurd (omega arith)
  get_or-table f a (suc n) zero d h = let e : a ≡ a + 0 = omega arith in ap f e
  get_or-table f a (suc n) (suc i) d h = let e : suc a + i ≡ a + suc i = omega arith in get_or-table f (suc a) n i d (omega arith) ∙ ap f e

-- ---- Records

module _ (bytes : ℕ → List ℕ) where
  pub waiters-length : (a : ℕ) (bs : List ℕ) → length (waiters bytes a bs) ≡ length bs
  unfolding waiters
  waiters-length a [] = refl
  waiters-length a (b ∷ bs) = ap suc (waiters-length (suc a) bs)

  pub waiters-aged : (a : ℕ) (bs : List ℕ) → map (λ k. block_in (aged (waiters bytes a bs) k)) (count a (length bs)) ≡ bs
  unfolding waiters count aged
  waiters-aged a [] = refl
  waiters-aged a (b ∷ bs) = let e = first in let t = tail (waiters-aged (suc a) bs) in rw (e, t)
    where
      r : Waiter
      r = record { block = b; age = a; bytes = bytes b }

      first : block_in (find (λ (r : Waiter). eqb r.age a) (r ∷ waiters bytes (suc a) bs)) ≡ b
      first = ap block_in (find-yes (λ (r : Waiter). eqb r.age a) r (waiters bytes (suc a) bs) (eq-eqb a a refl)) ∙ (unfold block_in in refl)

      tail : map (λ k. block_in (find (λ (r : Waiter). eqb r.age k) (waiters bytes (suc a) bs))) (count (suc a) (length bs)) ≡ bs
          → map (λ k. block_in (find (λ (r : Waiter). eqb r.age k) (r ∷ waiters bytes (suc a) bs))) (count (suc a) (length bs)) ≡ bs
      tail ih = map_same _ _ (count (suc a) (length bs)) (λ k m. ap block_in (find-no (λ (r : Waiter). eqb r.age k) r (waiters bytes (suc a) bs) (ne_eqb a k (λ z. omega (arith, mem-count (suc a) (length bs) k m))))) ∙ ih

  -- each age has a record
  pub waiters-each : (a : ℕ) (bs : List ℕ) (k : ℕ) → a ≤ k → k < a + length bs → any (λ (r : Waiter). eqb r.age k) (waiters bytes a bs) ≡ true
  unfolding waiters any
  waiters-each a [] k l u = absurd (omega arith)
  waiters-each a (b ∷ bs) k l u = go (ℕ_discrete a k) (λ n. waiters-each (suc a) bs k n (omega arith))
    where
      go : Dec (a ≡ k) → (suc a ≤ k → any (λ (r : Waiter). eqb r.age k) (waiters bytes (suc a) bs) ≡ true) → any (λ (r : Waiter). eqb r.age k) (waiters bytes a (b ∷ bs)) ≡ true
      go (yes e) f = or_left (eqb a k) _ (eq-eqb a k e)
      go (no e) f = or_right (eqb a k) _ (f (omega arith))

  -- ..and each waiting block
  pub waiters-any : (a : ℕ) (bs : List ℕ) (b : ℕ) → Mem b bs → any (λ (r : Waiter). eqb r.block b) (waiters bytes a bs) ≡ true
  unfolding waiters any
  waiters-any a [] b m = absurd m
  waiters-any a (x ∷ bs) b (inl e) = or_left (eqb x b) _ (eq-eqb x b (sym e))
  waiters-any a (x ∷ bs) b (inr m) = or_right (eqb x b) _ (waiters-any (suc a) bs b m)

  pub waiters-bytes : (d : List ℕ) (a : ℕ) (bs : List ℕ) (b : ℕ) → Mem b bs → bytes_in d (of_block (waiters bytes a bs) b) ≡ bytes b
  unfolding waiters of_block bytes_in
  waiters-bytes d a [] b m = absurd m
  waiters-bytes d a (x ∷ bs) b m = go (eqb x b) refl m (waiters-bytes d (suc a) bs b)
    where
      r : Waiter
      r = record { block = x; age = a; bytes = bytes x }

      go : (t : Bool) → eqb x b ≡ t → (b ≡ x) ⊎ Mem b bs → (Mem b bs → bytes_in d (of_block (waiters bytes (suc a) bs) b) ≡ bytes b) → bytes_in d (find (λ (r : Waiter). eqb r.block b) (r ∷ waiters bytes (suc a) bs)) ≡ bytes b
      go true e m ih = rw (find-yes (λ (r : Waiter). eqb r.block b) r (waiters bytes (suc a) bs) e) (ap bytes (eqb-true x b e))
      go false e (inl z) ih = absurd (eqb-false x b e (sym z))
      go false e (inr m) ih = rw (find-no (λ (r : Waiter). eqb r.block b) r (waiters bytes (suc a) bs) e) (ih m)

  -- what its records have
  pub waiters-all : (P : Waiter → Type 0) (bs : List ℕ) (a : ℕ) → ((b k : ℕ) → Mem b bs → a ≤ k → k < a + length bs → P (record { block = b; age = k; bytes = bytes b })) → All P (waiters bytes a bs)
  unfolding waiters
  waiters-all P [] a h = nil
  waiters-all P (b ∷ bs) a h = cons (h b a (inl refl) (omega arith) (omega arith)) (waiters-all P bs (suc a) (λ x k m l u. h x k (inr m) (omega arith) (omega arith)))
