-- Members of lists, and of lists that are searched, kept from or added to.
use Rattle.std.specs.Prelude.{◌≡◌, ◌⊎◌, Bool, true, false, ◌||◌, List, [], ◌∷◌, ◌++◌, map, ℕ, zero, suc, ◌+◌, ◌-◌, ◌≤◌, ◌<◌, length, get_or, eqb}
use Rattle.std.proofs.Math.Path.{refl}
use Rattle.std.proofs.Common.{ap, sym, ◌∙◌, subst, inl, inr, ⊎_elim, true≢false, arith, eqb-true, eq-eqb, ne_eqb}
use Rattle.std.proofs.Math.Logic.{ite}
use Rattle.std.proofs.Math.Option.{none, some}
use Rattle.std.proofs.Math.Decide.{ℕ_discrete}
use Rattle.std.proofs.lemmas.Bool.{eqb-false}
use Rattle.lists.specs.Search.{find, keep, any, without, below, count, member, keep-yes, keep-no, find-yes, find-no, without-yes, without-no, index_of, index_from}
use Rattle.lists.specs.All.{All, nil, cons, any_last}
use Rattle.lists.specs.Distinct.{Mem, NoDup, index}
use Rattle.lists.specs.Tests.{or-true, or_left, or_right}
use Rattle.lists.specs.Lengths.{length-count}

pub member-mem : (x : ℕ) (xs : List ℕ) → member x xs ≡ true → Mem x xs
unfolding member any
member-mem x [] h = absurd (true≢false (sym h))
member-mem x (y ∷ ys) h = ⊎_elim (λ e. inl (eqb-true x y e)) (λ k. inr (member-mem x ys k)) (or-true (eqb x y) (member x ys) h)

pub mem-member : (x : ℕ) (xs : List ℕ) → Mem x xs → member x xs ≡ true
unfolding member any
mem-member x [] h = absurd h
mem-member x (y ∷ ys) (inl e) = or_left (eqb x y) (member x ys) (eq-eqb x y e)
mem-member x (y ∷ ys) (inr m) = or_right (eqb x y) (member x ys) (mem-member x ys m)

pub not-member : (x : ℕ) (xs : List ℕ) → member x xs ≡ false → ¬ Mem x xs
not-member x xs h m = true≢false (sym (mem-member x xs m) ∙ h)

pub mem-not : (x : ℕ) (xs : List ℕ) → ¬ Mem x xs → member x xs ≡ false
mem-not x xs n = go (member x xs) refl
  where
    go : (t : Bool) → member x xs ≡ t → member x xs ≡ false
    go true e = absurd (n (member-mem x xs e))
    go false e = e

pub member-append : (x : ℕ) (xs ys : List ℕ) → Mem x xs → Mem x (xs ++ ys)
member-append x [] ys m = absurd m
member-append x (z ∷ xs) ys (inl e) = inl e
member-append x (z ∷ xs) ys (inr m) = inr (member-append x xs ys m)

pub append_right : (x : ℕ) (xs ys : List ℕ) → Mem x ys → Mem x (xs ++ ys)
append_right x [] ys m = m
append_right x (z ∷ xs) ys m = inr (append_right x xs ys m)

pub append-mem : (x : ℕ) (xs ys : List ℕ) → Mem x (xs ++ ys) → Mem x xs ⊎ Mem x ys
append-mem x [] ys m = inr m
append-mem x (z ∷ xs) ys (inl e) = inl (inl e)
append-mem x (z ∷ xs) ys (inr m) = ⊎_elim (λ k. inl (inr k)) inr (append-mem x xs ys m)

pub all-mem : {P : ℕ → Type 0} {xs : List ℕ} → All P xs → (x : ℕ) → Mem x xs → P x
all-mem nil x m = absurd m
all-mem {P = P} (cons {x = y} h t) x (inl e) = subst P (sym e) h
all-mem (cons h t) x (inr m) = all-mem t x m

pub mem-all : {P : ℕ → Type 0} (xs : List ℕ) → ((x : ℕ) → Mem x xs → P x) → All P xs
mem-all [] f = nil
mem-all (x ∷ xs) f = cons (f x (inl refl)) (mem-all xs (λ y m. f y (inr m)))

pub keep-mem : (p : ℕ → Bool) (xs : List ℕ) (x : ℕ) → Mem x (keep p xs) → Mem x xs
unfolding keep
keep-mem p [] x m = m
keep-mem p (y ∷ ys) x m = go (p y) refl (keep-mem p ys x)
  where
    go : (t : Bool) → p y ≡ t → (Mem x (keep p ys) → Mem x ys) → Mem x (y ∷ ys)
    go true e ih = ⊎_elim inl (λ k. inr (ih k)) (rw (keep-yes p y ys e) at m)
    go false e ih = inr (ih (rw (keep-no p y ys e) at m))

pub mem-keep : (p : ℕ → Bool) (xs : List ℕ) (x : ℕ) → Mem x xs → p x ≡ true → Mem x (keep p xs)
unfolding keep
mem-keep p [] x m h = m
mem-keep p (y ∷ ys) x m h = go (p y) refl m (λ k. mem-keep p ys x k h)
  where
    go : (t : Bool) → p y ≡ t → (x ≡ y) ⊎ Mem x ys → (Mem x ys → Mem x (keep p ys)) → Mem x (keep p (y ∷ ys))
    go true e (inl q) ih = rw (keep-yes p y ys e) (inl q)
    go true e (inr k) ih = rw (keep-yes p y ys e) (inr (ih k))
    go false e (inl q) ih = absurd (true≢false (sym h ∙ ap p q ∙ e))
    go false e (inr k) ih = rw (keep-no p y ys e) (ih k)

pub nodup-keep : (p : ℕ → Bool) (xs : List ℕ) → NoDup xs → NoDup (keep p xs)
unfolding keep
nodup-keep p [] u = tt
nodup-keep p (x ∷ xs) u = go (p x) refl (nodup-keep p xs u.1)
  where
    go : (t : Bool) → p x ≡ t → NoDup (keep p xs) → NoDup (keep p (x ∷ xs))
    go true e k = rw (keep-yes p x xs e) ((λ m. u.0 (keep-mem p xs x m)), k)
    go false e k = rw (keep-no p x xs e) k

pub without-mem : (p : ℕ → Bool) (xs : List ℕ) (x : ℕ) → Mem x (without p xs) → Mem x xs
unfolding without
without-mem p [] x m = m
without-mem p (y ∷ ys) x m = go (p y) refl (without-mem p ys x)
  where
    go : (t : Bool) → p y ≡ t → (Mem x (without p ys) → Mem x ys) → Mem x (y ∷ ys)
    go true e ih = inr (rw (without-yes p y ys e) at m)
    go false e ih = ⊎_elim inl (λ k. inr (ih k)) (rw (without-no p y ys e) at m)

pub nodup-without : (p : ℕ → Bool) (xs : List ℕ) → NoDup xs → NoDup (without p xs)
unfolding without
nodup-without p [] u = tt
nodup-without p (x ∷ xs) u = go (p x) refl (nodup-without p xs u.1)
  where
    go : (t : Bool) → p x ≡ t → NoDup (without p xs) → NoDup (without p (x ∷ xs))
    go true e k = rw (without-yes p x xs e) u.1
    go false e k = rw (without-no p x xs e) ((λ m. u.0 (without-mem p xs x m)), k)

-- what was taken out of a list without duplicates is no more in it
pub without_gone : (b : ℕ) (xs : List ℕ) → NoDup xs → ¬ Mem b (without (eqb b) xs)
unfolding without
without_gone b [] u m = m
without_gone b (x ∷ xs) u m = go (eqb b x) refl (without_gone b xs u.1)
  where
    go : (t : Bool) → eqb b x ≡ t → ¬ Mem b (without (eqb b) xs) → ⊥
    go true e ih = u.0 (rw (eqb-true b x e) at (rw (without-yes (eqb b) x xs e) at m))
    go false e ih = ⊎_elim (eqb-false b x e) ih (rw (without-no (eqb b) x xs e) at m)

-- a list with one element more, at the end
pub member-end-same : (x : ℕ) (xs : List ℕ) → member x (xs ++ (x ∷ [])) ≡ true
unfolding member
member-end-same x xs = any_last (eqb x) xs x (eq-eqb x x refl)

pub member-end-other : (x y : ℕ) (xs : List ℕ) → ¬ (x ≡ y) → member x (xs ++ (y ∷ [])) ≡ member x xs
unfolding member any
member-end-other x y [] n = rw (ne_eqb x y n)
member-end-other x y (z ∷ xs) n = ap (λ t. eqb x z || t) (member-end-other x y xs n)

pub nodup-snoc : (xs : List ℕ) (b : ℕ) → NoDup xs → ¬ Mem b xs → NoDup (xs ++ (b ∷ []))
nodup-snoc [] b u n = ((λ m. m), tt)
nodup-snoc (x ∷ xs) b u n = ((λ m. ⊎_elim u.0 (⊎_elim (λ e. n (inl (sym e))) (λ k. k)) (append-mem x xs (b ∷ []) m)), nodup-snoc xs b u.1 (λ m. n (inr m)))

pub mem-count : (a n x : ℕ) → Mem x (count a n) → (a ≤ x) × (x < a + n)
unfolding count
mem-count a zero x m = absurd m
mem-count a (suc n) x (inl e) = omega arith
mem-count a (suc n) x (inr m) = let h = mem-count (suc a) n x m in omega arith

pub nodup-count : (a n : ℕ) → NoDup (count a n)
unfolding count
nodup-count a zero = tt
nodup-count a (suc n) = ((λ m. let h = mem-count (suc a) n a m in omega arith), nodup-count (suc a) n)

pub count-mem : (a n x : ℕ) → a ≤ x → x < a + n → Mem x (count a n)
unfolding count
count-mem a zero x h k = absurd (omega arith)
count-mem a (suc n) x h k = go (eqb x a) refl (count-mem (suc a) n x)
  where
    go : (t : Bool) → eqb x a ≡ t → (suc a ≤ x → x < suc a + n → Mem x (count (suc a) n)) → Mem x (count a (suc n))
    go true e ih = inl (eqb-true x a e)
    go false e ih = let ne = eqb-false x a e in inr (ih (omega arith) (omega arith))

pub below-mem : (n x : ℕ) → x < n → Mem x (below n)
unfolding below
below-mem n x h = count-mem 0 n x (omega arith) (omega arith)

pub mem_below : (n x : ℕ) → Mem x (below n) → x < n
unfolding below
mem_below n x m = let h = mem-count 0 n x m in omega arith

pub nodup-below : (n : ℕ) → NoDup (below n)
unfolding below
nodup-below n = nodup-count 0 n

-- the place of a member
index-some : (k x : ℕ) (ys : List ℕ) → Mem x ys → index_from k x ys ≡ some (k + index x ys)
unfolding index_from
index-some k x [] m = absurd m
index-some k x (y ∷ ys) m = go (ℕ_discrete x y) m (index-some (suc k) x ys)
  where
    go : (d : Dec (x ≡ y)) → Mem x (y ∷ ys) → (Mem x ys → index_from (suc k) x ys ≡ some (suc k + index x ys)) → index_from k x (y ∷ ys) ≡ some (k + ite d zero (suc (index x ys)))
    go (yes e) m ih = rw (eq-eqb x y e, index_from) (ap some (omega arith))
    go (no e) (inl q) ih = absurd (e q)
    go (no e) (inr m) ih = rw (ne_eqb x y e, index_from) (ih m ∙ ap some (omega arith))

index-none : (k x : ℕ) (ys : List ℕ) → ¬ Mem x ys → index_from k x ys ≡ none
unfolding index_from
index-none k x [] n = refl
index-none k x (y ∷ ys) n = rw (ne_eqb x y (λ e. n (inl e)), index_from) (index-none (suc k) x ys (λ m. n (inr m)))

pub index_of-mem : (x : ℕ) (ys : List ℕ) → Mem x ys → index_of x ys ≡ some (index x ys)
unfolding index_of
index_of-mem x ys m = index-some 0 x ys m ∙ ap some (omega arith)

pub index_of-none : (x : ℕ) (ys : List ℕ) → ¬ Mem x ys → index_of x ys ≡ none
unfolding index_of
index_of-none x ys n = index-none 0 x ys n

pub dec_mem : (x : ℕ) (ys : List ℕ) → Dec (Mem x ys)
dec_mem x ys = go (member x ys) refl
  where
    go : (t : Bool) → member x ys ≡ t → Dec (Mem x ys)
    go true e = yes (member-mem x ys e)
    go false e = no (not-member x ys e)

-- a list without duplicates of numbers below n has at most n
pub nodup-le : (n : ℕ) (xs : List ℕ) → NoDup xs → All (λ x. x < n) xs → length xs ≤ n
unfolding without
nodup-le zero [] u h = omega arith
nodup-le zero (x ∷ xs) u (cons h t) = absurd (omega arith)
nodup-le (suc n) xs u h =
    let k = nodup-le n (without (eqb n) xs) (nodup-without (eqb n) xs u) (mem-all (without (eqb n) xs) (λ x m.
    let l = all-mem h x (without-mem (eqb n) xs x m) in
    let d : x ≡ n → ⊥ = λ e. without_gone n xs u (rw e at m) in
    omega arith)) in
    omega (arith, short n xs)
  where
    short : (b : ℕ) (xs : List ℕ) → length xs ≤ suc (length (without (eqb b) xs))
    short b [] = omega arith
    short b (x ∷ xs) = go (eqb b x) refl (short b xs)
      where
        go : (t : Bool) → eqb b x ≡ t → length xs ≤ suc (length (without (eqb b) xs)) → suc (length xs) ≤ suc (length (without (eqb b) (x ∷ xs)))
        go true e ih = rw (without-yes (eqb b) x xs e) (omega arith)
        go false e ih = rw (without-no (eqb b) x xs e) (omega arith)

pub count-from : (a n : ℕ) → All (λ x. a ≤ x) (count a n)
unfolding count
count-from a zero = nil
count-from a (suc n) = let here : a ≤ a = omega arith in cons here (mem-all (count (suc a) n) (λ x m. let h = mem-count (suc a) n x m in omega arith))

-- entries of a list made from another
pub get_d_map : (f : ℕ → ℕ) (xs : List ℕ) (i d e : ℕ) → i < length xs → get_or (map f xs) i d ≡ f (get_or xs i e)
get_d_map f [] i d e h = absurd (omega arith)
get_d_map f (x ∷ xs) zero d e h = refl
get_d_map f (x ∷ xs) (suc i) d e h = get_d_map f xs i d e (omega arith)

pub get_or-count : (a n i d : ℕ) → i < n → get_or (count a n) i d ≡ a + i
unfolding count
get_or-count a zero i d h = absurd (omega arith)
get_or-count a (suc n) zero d h = omega arith
get_or-count a (suc n) (suc i) d h = get_or-count (suc a) n i d (omega arith) ∙ omega arith

pub get_or-map-below : (f : ℕ → ℕ) (n i d : ℕ) → i < n → get_or (map f (below n)) i d ≡ f i
unfolding below
get_or-map-below f n i d h = get_d_map f (count 0 n) i d 0 (omega (arith, length-count 0 n)) ∙ ap f (get_or-count 0 n i 0 h ∙ omega arith)

-- a list without duplicates is no longer than one that has all its members
pub mem-without : (x z : ℕ) (ys : List ℕ) → Mem z ys → ¬ (z ≡ x) → Mem z (without (eqb x) ys)
unfolding without
mem-without x z [] m n = m
mem-without x z (y ∷ ys) m n = go (eqb x y) refl m (λ k. mem-without x z ys k n)
  where
    go : (t : Bool) → eqb x y ≡ t → (z ≡ y) ⊎ Mem z ys → (Mem z ys → Mem z (without (eqb x) ys)) → Mem z (without (eqb x) (y ∷ ys))
    go true e (inl w) ih = absurd (n (w ∙ sym (eqb-true x y e)))
    go true e (inr k) ih = rw (without-yes (eqb x) y ys e) k
    go false e (inl w) ih = rw (without-no (eqb x) y ys e) (inl w)
    go false e (inr k) ih = rw (without-no (eqb x) y ys e) (inr (ih k))

without-shorter : (x : ℕ) (ys : List ℕ) → Mem x ys → suc (length (without (eqb x) ys)) ≤ length ys
unfolding without
without-shorter x [] m = absurd m
without-shorter x (y ∷ ys) m = go (eqb x y) refl m (without-shorter x ys)
  where
    go : (t : Bool) → eqb x y ≡ t → (x ≡ y) ⊎ Mem x ys → (Mem x ys → suc (length (without (eqb x) ys)) ≤ length ys) → suc (length (without (eqb x) (y ∷ ys))) ≤ suc (length ys)
    go true e k ih = rw (without-yes (eqb x) y ys e) (omega arith)
    go false e (inl w) ih = absurd (eqb-false x y e w)
    go false e (inr k) ih = let l = ih k in rw (without-no (eqb x) y ys e) (omega arith)

pub nodup-sub : (zs ys : List ℕ) → NoDup zs → ((x : ℕ) → Mem x zs → Mem x ys) → length zs ≤ length ys
nodup-sub [] ys u h = omega arith
nodup-sub (x ∷ zs) ys u h =
    let k = nodup-sub zs (without (eqb x) ys) u.1 (λ z m. mem-without x z ys (h z (inr m)) (λ e. u.0 (rw e at m))) in
    omega (arith, without-shorter x ys (h x (inl refl)))

-- members of a list made from another
pub map-mem : (g : ℕ → ℕ) (x : ℕ) (xs : List ℕ) → Mem x xs → Mem (g x) (map g xs)
map-mem g x [] m = m
map-mem g x (y ∷ ys) (inl e) = inl (ap g e)
map-mem g x (y ∷ ys) (inr m) = inr (map-mem g x ys m)

pub mem-map : (g : ℕ → ℕ) (v : ℕ) (xs : List ℕ) → Mem v (map g xs) → (x : ℕ) × (Mem x xs × (v ≡ g x))
mem-map g v [] m = absurd m
mem-map g v (y ∷ ys) (inl e) = (y, (inl refl, e))
mem-map g v (y ∷ ys) (inr m) = let r = mem-map g v ys m in (r.0, (inr r.1.0, r.1.1))

-- the members that pass come from different elements
pub nodup-keep-map : (p : ℕ → Bool) (g : ℕ → ℕ) (xs : List ℕ) → NoDup xs → ((x y : ℕ) → Mem x xs → Mem y xs → p (g x) ≡ true → g x ≡ g y → x ≡ y) → NoDup (keep p (map g xs))
unfolding keep
nodup-keep-map p g [] u h = tt
nodup-keep-map p g (x ∷ xs) u h = go (p (g x)) refl (nodup-keep-map p g xs u.1 (λ a b m n. h a b (inr m) (inr n)))
  where
    go : (t : Bool) → p (g x) ≡ t → NoDup (keep p (map g xs)) → NoDup (keep p (g x ∷ map g xs))
    go true e k = rw (keep-yes p (g x) (map g xs) e) (
      (λ m.
          let r = mem-map g (g x) xs (keep-mem p (map g xs) (g x) m) in
          u.0 (subst (λ z. Mem z xs) (sym (h x r.0 (inl refl) (inr r.1.0) e r.1.1)) r.1.0)),
      k,
    )
    go false e k = rw (keep-no p (g x) (map g xs) e) k

pub nodup-map : (g : ℕ → ℕ) (xs : List ℕ) → ((x y : ℕ) → g x ≡ g y → x ≡ y) → NoDup xs → NoDup (map g xs)
nodup-map g [] h u = tt
nodup-map g (x ∷ xs) h u = ((λ m. let r = mem-map g (g x) xs m in u.0 (subst (λ z. Mem z xs) (sym (h x r.0 r.1.1)) r.1.0)), nodup-map g xs h u.1)

-- two tests that answer alike keep the same
pub keep_same : (p g : ℕ → Bool) (xs : List ℕ) → ((x : ℕ) → Mem x xs → p x ≡ g x) → keep p xs ≡ keep g xs
unfolding keep
keep_same p g [] h = refl
keep_same p g (x ∷ xs) h = go (p x) refl (keep_same p g xs (λ y m. h y (inr m)))
  where
    go : (t : Bool) → p x ≡ t → keep p xs ≡ keep g xs → keep p (x ∷ xs) ≡ keep g (x ∷ xs)
    go true e k = keep-yes p x xs e ∙ ap (λ l. x ∷ l) k ∙ sym (keep-yes g x xs (sym (h x (inl refl)) ∙ e))
    go false e k = keep-no p x xs e ∙ k ∙ sym (keep-no g x xs (sym (h x (inl refl)) ∙ e))

-- the first of a list, and then the others
pub keep-cons : {A : Type 0} (p : A → Bool) (x : A) (xs : List A) → keep p (x ∷ xs) ≡ keep p (x ∷ []) ++ keep p xs
keep-cons p x xs = go (p x) refl
  where
    over : keep p [] ≡ []
    over = unfold keep in refl

    go : (t : Bool) → p x ≡ t → keep p (x ∷ xs) ≡ keep p (x ∷ []) ++ keep p xs
    go true e = keep-yes p x xs e ∙ sym (ap (λ l. l ++ keep p xs) (keep-yes p x [] e ∙ ap (λ l. x ∷ l) over))
    go false e = keep-no p x xs e ∙ sym (ap (λ l. l ++ keep p xs) (keep-no p x [] e ∙ over))

-- the first of the kept numbers
pub keep-first : (p : ℕ → Bool) (a n x : ℕ) (xs : List ℕ) → keep p (count a n) ≡ x ∷ xs → (y : ℕ) → a ≤ y → y < x → p y ≡ false
unfolding count
keep-first p a zero x xs e y l m = absurd (let z : ◌≡◌ {A = ℕ} 0 1 = unfold keep in (cc) in omega arith)
keep-first p a (suc n) x xs e y l m = go (p a) refl (ℕ_discrete y a) (λ k j. keep-first p (suc a) n x xs k y j m)
  where
    go : (t : Bool) → p a ≡ t → Dec (y ≡ a) → (keep p (count (suc a) n) ≡ x ∷ xs → suc a ≤ y → p y ≡ false) → p y ≡ false
    go true f d k =
        let z : a ≡ x = cc (sym (keep-yes p a (count (suc a) n) f) ∙ e) in
        absurd (omega arith)
    go false f (yes d) k = rw d f
    go false f (no d) k = k (sym (keep-no p a (count (suc a) n) f) ∙ e) (omega arith)

-- .. and those behind it
pub keep-rest : (p : ℕ → Bool) (a n x : ℕ) (xs : List ℕ) → keep p (count a n) ≡ x ∷ xs → xs ≡ keep p (count (suc x) (a + n - suc x))
unfolding count
keep-rest p a zero x xs e = absurd (let z : ◌≡◌ {A = ℕ} 0 1 = unfold keep in (cc) in omega arith)
keep-rest p a (suc n) x xs e = go (p a) refl (keep-rest p (suc a) n x xs)
  where
    go : (t : Bool) → p a ≡ t → (keep p (count (suc a) n) ≡ x ∷ xs → xs ≡ keep p (count (suc x) (suc a + n - suc x))) → xs ≡ keep p (count (suc x) (a + suc n - suc x))
    go true f k =
        let w : a ∷ keep p (count (suc a) n) ≡ x ∷ xs = sym (keep-yes p a (count (suc a) n) f) ∙ e in
        let y : a ≡ x = cc in
        let z : xs ≡ keep p (count (suc a) n) = cc in
        let m : n ≡ a + suc n - suc a = omega arith in
        z ∙ ap (λ m. keep p (count (suc a) m)) m ∙ ap (λ b. keep p (count (suc b) (a + suc n - suc b))) y
    go false f k =
        let m : suc a + n - suc x ≡ a + suc n - suc x = omega arith in
        k (sym (keep-no p a (count (suc a) n) f) ∙ e) ∙ ap (λ m. keep p (count (suc x) m)) m

-- none is kept
pub kept-none : (p : ℕ → Bool) (a n y : ℕ) → length (keep p (count a n)) ≡ 0 → a ≤ y → y < a + n → p y ≡ false
unfolding count
kept-none p a zero y e l m = absurd (omega arith)
kept-none p a (suc n) y e l m = go (p a) refl (ℕ_discrete y a) (λ k j. kept-none p (suc a) n y k j (omega arith))
  where
    go : (t : Bool) → p a ≡ t → Dec (y ≡ a) → (length (keep p (count (suc a) n)) ≡ 0 → suc a ≤ y → p y ≡ false) → p y ≡ false
    go true f d k = absurd (omega (arith, sym (ap length (keep-yes p a (count (suc a) n) f)) ∙ e))
    go false f (yes d) k = rw d f
    go false f (no d) k = k (sym (ap length (keep-no p a (count (suc a) n) f)) ∙ e) (omega arith)

pub none_kept : (p : ℕ → Bool) (a n : ℕ) → ((y : ℕ) → a ≤ y → y < a + n → p y ≡ false) → keep p (count a n) ≡ []
unfolding count
none_kept p a zero h = unfold keep in refl
none_kept p a (suc n) h = keep-no p a (count (suc a) n) (h a (omega arith) (omega arith)) ∙ none_kept p (suc a) n (λ y l k. h y (omega arith) (omega arith))

-- a list of n numbers below n, none twice, has each
pub full-mem : (n : ℕ) (o : List ℕ) → length o ≡ n → NoDup o → All (λ x. x < n) o → (i : ℕ) → i < n → Mem i o
full-mem n o l u h i k = go (dec_mem i o)
  where
    go : Dec (Mem i o) → Mem i o
    go (yes m) = m
    go (no m) = absurd (omega (arith, nodup-le n (i ∷ o) (m, u) (cons k h)))

-- what is found in a list made from the numbers from a on comes from one of them, and those before it do not pass
pub find_first : (g : ℕ → ℕ) (p : ℕ → Bool) (a n i : ℕ) → find p (map g (count a n)) ≡ some i
    → (k : ℕ) × ((a ≤ k) × (k < a + n) × (g k ≡ i) × (p (g k) ≡ true) × ((j : ℕ) → a ≤ j → j < k → p (g j) ≡ false))
unfolding count
find_first g p a zero i e = absurd (let z : ◌≡◌ {A = ℕ} 0 1 = unfold find in (cc) in omega arith)
find_first g p a (suc n) i e = go (p (g a)) refl (find_first g p (suc a) n i)
  where
    go : (t : Bool) → p (g a) ≡ t
        → (find p (map g (count (suc a) n)) ≡ some i → (k : ℕ) × ((suc a ≤ k) × (k < suc a + n) × (g k ≡ i) × (p (g k) ≡ true) × ((j : ℕ) → suc a ≤ j → j < k → p (g j) ≡ false)))
        → (k : ℕ) × ((a ≤ k) × (k < a + suc n) × (g k ≡ i) × (p (g k) ≡ true) × ((j : ℕ) → a ≤ j → j < k → p (g j) ≡ false))
    go true f ih =
        let z : g a ≡ i = cc (sym (find-yes p (g a) (map g (count (suc a) n)) f) ∙ e) in
        (a, (omega arith, omega arith, z, f, λ j l m. absurd (omega arith)))
    go false f ih =
        let r = ih (sym (find-no p (g a) (map g (count (suc a) n)) f) ∙ e) in
        (r.0, (omega (arith, r.1.0), omega (arith, r.1.1), r.1.2, r.1.3, λ j l m. by r.0 r.1.4 j l m (ℕ_discrete j a)))
      where
        by : (k : ℕ) → ((j : ℕ) → suc a ≤ j → j < k → p (g j) ≡ false) → (j : ℕ) → a ≤ j → j < k → Dec (j ≡ a) → p (g j) ≡ false
        by k h j l m (yes w) = rw w f
        by k h j l m (no w) = h j (omega arith) m
