-- Insertion into and removal from a list at a place; what is kept of a list and what is made from it, place by place.
use Rattle.std.specs.Prelude.{◌≡◌, refl, ◌⊎◌, List, [], ◌∷◌, map, ℕ, zero, suc, ◌≤◌, ◌<◌, length, get_or, Bool, true, false}
use Rattle.std.proofs.Common.{ap, sym, ◌∙◌, subst, inl, inr, ⊎_elim, arith, true≢false, eq-eqb, ne_eqb}
use Rattle.std.proofs.Math.Option.{Option, some}
use Rattle.std.proofs.Math.Decide.{ℕ_discrete}
use Rattle.lists.specs.Search.{keep, below, count, index_of, index_from, keep-yes, keep-no}
use Rattle.lists.specs.Members.{mem-keep, keep_same}
use Rattle.lists.specs.Distinct.{Mem, NoDup, index, index_at, mem-at, index-here, index-there}

abbrev pub insert_at : ℕ → ℕ → List ℕ → List ℕ
insert_at zero x xs = x ∷ xs
insert_at (suc n) x [] = x ∷ []
insert_at (suc n) x (y ∷ ys) = y ∷ insert_at n x ys

abbrev pub remove_at : ℕ → List ℕ → List ℕ
remove_at n [] = []
remove_at zero (x ∷ xs) = xs
remove_at (suc n) (x ∷ xs) = x ∷ remove_at n xs

pub remove-insert : (n x : ℕ) (l : List ℕ) → n ≤ length l → remove_at n (insert_at n x l) ≡ l
remove-insert zero x [] h = refl
remove-insert zero x (y ∷ ys) h = refl
remove-insert (suc n) x [] h = absurd (omega arith)
remove-insert (suc n) x (y ∷ ys) h = rw (remove-insert n x ys (omega arith))

pub get-insert : (n x : ℕ) (l : List ℕ) → n ≤ length l → get_or (insert_at n x l) n 0 ≡ x
get-insert zero x l h = refl
get-insert (suc n) x [] h = absurd (omega arith)
get-insert (suc n) x (y ∷ ys) h = get-insert n x ys (omega arith)

pub insert-remove : (n : ℕ) (l : List ℕ) → n < length l → insert_at n (get_or l n 0) (remove_at n l) ≡ l
insert-remove n [] h = absurd (omega arith)
insert-remove zero (x ∷ xs) h = refl
insert-remove (suc n) (x ∷ xs) h = rw (insert-remove n xs (omega arith))

pub length-insert : (n x : ℕ) (l : List ℕ) → length (insert_at n x l) ≡ suc (length l)
length-insert zero x l = refl
length-insert (suc n) x [] = refl
length-insert (suc n) x (y ∷ ys) = ap suc (length-insert n x ys)

pub length-remove : (n : ℕ) (l : List ℕ) → n < length l → suc (length (remove_at n l)) ≡ length l
length-remove n [] h = absurd (omega arith)
length-remove zero (x ∷ xs) h = refl
length-remove (suc n) (x ∷ xs) h = ap suc (length-remove n xs (omega arith))

pub mem-insert : (z n x : ℕ) (l : List ℕ) → Mem z (insert_at n x l) → (z ≡ x) ⊎ Mem z l
mem-insert z zero x l m = m
mem-insert z (suc n) x [] m = m
mem-insert z (suc n) x (y ∷ ys) (inl e) = inr (inl e)
mem-insert z (suc n) x (y ∷ ys) (inr m) = ⊎_elim inl (λ k. inr (inr k)) (mem-insert z n x ys m)

pub insert-mem : (z n x : ℕ) (l : List ℕ) → (z ≡ x) ⊎ Mem z l → Mem z (insert_at n x l)
insert-mem z zero x l m = m
insert-mem z (suc n) x [] m = m
insert-mem z (suc n) x (y ∷ ys) (inl e) = inr (insert-mem z n x ys (inl e))
insert-mem z (suc n) x (y ∷ ys) (inr (inl e)) = inl e
insert-mem z (suc n) x (y ∷ ys) (inr (inr m)) = inr (insert-mem z n x ys (inr m))

pub mem-remove : (z n : ℕ) (l : List ℕ) → Mem z (remove_at n l) → Mem z l
mem-remove z n [] m = m
mem-remove z zero (x ∷ xs) m = inr m
mem-remove z (suc n) (x ∷ xs) (inl e) = inl e
mem-remove z (suc n) (x ∷ xs) (inr m) = inr (mem-remove z n xs m)

pub remove-mem : (z n : ℕ) (l : List ℕ) → Mem z l → (z ≡ get_or l n 0) ⊎ Mem z (remove_at n l)
remove-mem z n [] m = absurd m
remove-mem z zero (x ∷ xs) m = m
remove-mem z (suc n) (x ∷ xs) (inl e) = inr (inl e)
remove-mem z (suc n) (x ∷ xs) (inr m) = ⊎_elim inl (λ k. inr (inr k)) (remove-mem z n xs m)

pub nodup-remove : (n : ℕ) (l : List ℕ) → NoDup l → NoDup (remove_at n l)
nodup-remove n [] u = tt
nodup-remove zero (x ∷ xs) u = u.1
nodup-remove (suc n) (x ∷ xs) u = (λ m. u.0 (mem-remove x n xs m), nodup-remove n xs u.1)

pub removed : (n : ℕ) (l : List ℕ) → NoDup l → n < length l → ¬ Mem (get_or l n 0) (remove_at n l)
removed n [] u h m = m
removed zero (x ∷ xs) u h m = u.0 m
removed (suc n) (x ∷ xs) u h (inl e) = u.0 (subst (λ z. Mem z xs) e (mem-at xs n (omega arith)))
removed (suc n) (x ∷ xs) u h (inr m) = removed n xs u.1 (omega arith) m

pub nodup-insert : (n x : ℕ) (l : List ℕ) → NoDup l → ¬ Mem x l → NoDup (insert_at n x l)
nodup-insert zero x l u f = (f, u)
nodup-insert (suc n) x [] u f = (f, u)
nodup-insert (suc n) x (y ∷ ys) u f =
    (λ m. ⊎_elim (λ e. f (inl (sym e))) u.0 (mem-insert y n x ys m), nodup-insert n x ys u.1 (λ m. f (inr m)))

pub index-insert : (k x : ℕ) (l : List ℕ) → k ≤ length l → NoDup l → ¬ Mem x l → index x (insert_at k x l) ≡ k
index-insert k x l h u n =
    let i : k < length (insert_at k x l) = omega (arith, length-insert k x l) in
    ap (λ z. index z (insert_at k x l)) (sym (get-insert k x l h)) ∙ index_at (insert_at k x l) k (nodup-insert k x l u n) i

pub map-remove : (f : ℕ → ℕ) (n : ℕ) (l : List ℕ) → map f (remove_at n l) ≡ remove_at n (map f l)
map-remove f n [] = refl
map-remove f zero (x ∷ l) = refl
map-remove f (suc n) (x ∷ l) = ap (λ r. f x ∷ r) (map-remove f n l)

-- a list is what it has at each place
count-shift : (f : ℕ → ℕ) (a n : ℕ) → map f (count (suc a) n) ≡ map (λ j. f (suc j)) (count a n)
unfolding count
count-shift f a zero = refl
count-shift f a (suc n) = ap (λ l. f (suc a) ∷ l) (count-shift f (suc a) n)

get-each : (o : List ℕ) → map (λ j. get_or o j 0) (count 0 (length o)) ≡ o
unfolding count
get-each [] = refl
get-each (x ∷ o) = ap (λ l. x ∷ l) (count-shift (λ j. get_or (x ∷ o) j 0) 0 (length o) ∙ get-each o)

pub map-get_or : (o : List ℕ) (n : ℕ) → length o ≡ n → map (λ j. get_or o j 0) (below n) ≡ o
unfolding below
map-get_or o n e = rw (← e) (get-each o)

-- ---- what is kept

pub keep_all : (p : ℕ → Bool) (xs : List ℕ) → ((z : ℕ) → Mem z xs → p z ≡ true) → keep p xs ≡ xs
unfolding keep
keep_all p [] h = refl
keep_all p (x ∷ xs) h = keep-yes p x xs (h x (inl refl)) ∙ ap (λ l. x ∷ l) (keep_all p xs (λ z m. h z (inr m)))

-- one element less: p' keeps what p keeps, but not x
module _ (p p' : ℕ → Bool) (x : ℕ) (a : p x ≡ true) (b : p' x ≡ false) where
  pub keep-less : (xs : List ℕ) → ((z : ℕ) → Mem z xs → ¬ (z ≡ x) → p' z ≡ p z) → NoDup (keep p xs) → Mem x xs → keep p' xs ≡ remove_at (index x (keep p xs)) (keep p xs)
  keep-less [] c u m = absurd m
  keep-less (y ∷ ys) c u m = go (ℕ_discrete x y) (p y) refl (λ v k. keep-less ys (λ z q. c z (inr q)) v k)
    where
      rest : Mem x (y ∷ ys) → ¬ (x ≡ y) → Mem x ys
      rest (inl e) n = absurd (n e)
      rest (inr k) n = k

      go : Dec (x ≡ y) → (t : Bool) → p y ≡ t → (NoDup (keep p ys) → Mem x ys → keep p' ys ≡ remove_at (index x (keep p ys)) (keep p ys)) →
          keep p' (y ∷ ys) ≡ remove_at (index x (keep p (y ∷ ys))) (keep p (y ∷ ys))
      go (yes e) true f k =
          let v : NoDup (y ∷ keep p ys) = rw (keep-yes p y ys f) at u in
          let same = keep_same p' p ys (λ z q. c z (inr q) (λ d. v.0 (mem-keep p ys y (rw (d ∙ e) at q) f))) in
          keep-no p' y ys (rw e at b) ∙ same ∙ rw (keep-yes p y ys f, index-here x y (keep p ys) e)
      go (yes e) false f k = absurd (true≢false (sym a ∙ ap p e ∙ f))
      go (no e) true f k =
          let v : NoDup (y ∷ keep p ys) = rw (keep-yes p y ys f) at u in
          keep-yes p' y ys (c y (inl refl) (λ d. e (sym d)) ∙ f) ∙ ap (λ l. y ∷ l) (k v.1 (rest m e)) ∙ rw (keep-yes p y ys f, index-there x y (keep p ys) e)
      go (no e) false f k =
          let v : NoDup (keep p ys) = rw (keep-no p y ys f) at u in
          keep-no p' y ys (c y (inl refl) (λ d. e (sym d)) ∙ f) ∙ k v (rest m e) ∙ rw (keep-no p y ys f)

-- ---- lists made from others

pub map_same : {A : Type 0} (f g : ℕ → A) (l : List ℕ) → ((z : ℕ) → Mem z l → f z ≡ g z) → map f l ≡ map g l
map_same f g [] h = refl
map_same f g (x ∷ l) h = rw (h x (inl refl), map_same f g l (λ z m. h z (inr m)))

-- the place of f x is that of x, if no other element has that value
pub index-map : (f : ℕ → ℕ) (x : ℕ) (l : List ℕ) → Mem x l → ((y : ℕ) → Mem y l → f y ≡ f x → y ≡ x) → index (f x) (map f l) ≡ index x l
index-map f x [] m h = absurd m
index-map f x (y ∷ l) m h = go (ℕ_discrete x y) m (λ k. index-map f x l k (λ z q. h z (inr q)))
  where
    go : Dec (x ≡ y) → Mem x (y ∷ l) → (Mem x l → index (f x) (map f l) ≡ index x l) → index (f x) (f y ∷ map f l) ≡ index x (y ∷ l)
    go (yes e) m k = index-here (f x) (f y) (map f l) (ap f e) ∙ sym (index-here x y l e)
    go (no e) (inl e') k = absurd (e e')
    go (no e) (inr q) k = index-there (f x) (f y) (map f l) (λ d. e (sym (h y (inl refl) (sym d)))) ∙ ap suc (k q) ∙ sym (index-there x y l e)

-- the elements of a list without duplicates are numbered in turn
map-index_from : (F : Option ℕ → ℕ) (a : ℕ) (o : List ℕ) → NoDup o → map (λ i. F (index_from a i o)) o ≡ map (λ k. F (some k)) (count a (length o))
unfolding count index_from
map-index_from F a [] u = refl
map-index_from F a (y ∷ ys) u =
    let tail : map (λ i. F (index_from a i (y ∷ ys))) ys ≡ map (λ i. F (index_from (suc a) i ys)) ys =
    map_same (λ i. F (index_from a i (y ∷ ys))) (λ i. F (index_from (suc a) i ys)) ys (λ z m. ap F (other z (λ e. u.0 (rw e at m)))) in
    rw (own, tail, map-index_from F (suc a) ys u.1)
  where
    own : index_from a y (y ∷ ys) ≡ some a
    own = rw (eq-eqb y y refl, index_from)

    other : (z : ℕ) → ¬ (z ≡ y) → index_from a z (y ∷ ys) ≡ index_from (suc a) z ys
    other z n = rw (ne_eqb z y n, index_from)

pub map-index_of : (F : Option ℕ → ℕ) (o : List ℕ) → NoDup o → map (λ i. F (index_of i o)) o ≡ map (λ k. F (some k)) (below (length o))
unfolding below index_of
map-index_of F o u = map-index_from F 0 o u
