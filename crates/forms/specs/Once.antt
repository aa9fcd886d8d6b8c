-- Numbers that are met once each: a list is gone through, and each number met is marked. And counting: a list that has all the members of one
-- without duplicates, and is no longer, has no others and none twice.
use Rattle.std.specs.Prelude.{◌≡◌, refl, ◌⊎◌, Bool, true, false, ◌&&◌, List, [], ◌∷◌, ℕ, zero, suc, ◌≤◌, ◌<◌, eqb, length, get_or, set, replicate}
use Rattle.std.proofs.Common.{ap, sym, ◌∙◌, inl, inr, arith, length-set, get_or-set_same, get_or-set_other, eqb-true, eq-eqb}
use Rattle.lists.specs.All.{All, nil, cons}
use Rattle.lists.specs.Distinct.{Mem, NoDup}
use Rattle.lists.specs.Members.{dec_mem, nodup-sub, nodup-without, without-mem, without_gone, all-mem, mem-all}
use Rattle.lists.specs.Search.{without, without-yes, without-no}
use Rattle.lists.specs.Tests.{and_l, and_r, and-true}

-- each number passes the test, and was not marked before
unfoldable pub fresh_in : (ℕ → Bool) → List ℕ → List ℕ → Bool
fresh_in ok seen [] = true
fresh_in ok seen (x ∷ xs) = ok x && (eqb (get_or seen x 0) 0 && fresh_in ok (set seen x 1) xs)

-- the marks when all are met
unfoldable pub mark_all : List ℕ → List ℕ → List ℕ
mark_all seen [] = seen
mark_all seen (x ∷ xs) = mark_all (set seen x 1) xs

pub record Once (ok : ℕ → Bool) (seen xs : List ℕ) : Type 0 where
  pub pass : All (λ x. ok x ≡ true) xs
  pub once : NoDup xs
  pub unseen : All (λ x. get_or seen x 0 ≡ 0) xs

pub fresh-once : (ok : ℕ → Bool) (seen xs : List ℕ) → ((x : ℕ) → ok x ≡ true → x < length seen) → fresh_in ok seen xs ≡ true → Once ok seen xs
unfolding fresh_in
fresh-once ok seen [] h e = record { pass = nil; once = tt; unseen = nil }
fresh-once ok seen (x ∷ xs) h e =
    let a = and_l (ok x) _ e in
    let b = and_r (ok x) _ e in
    let z = eqb-true (get_or seen x 0) 0 (and_l (eqb (get_or seen x 0) 0) _ b) in
    go a z (fresh-once ok (set seen x 1) xs (λ y k. let l = h y k in omega (arith, length-set seen x 1)) (and_r (eqb (get_or seen x 0) 0) _ b))
  where
    go : ok x ≡ true → get_or seen x 0 ≡ 0 → Once ok (set seen x 1) xs → Once ok seen (x ∷ xs)
    go a z r = record { pass = cons a r.pass; once = (away, r.once); unseen = cons z (mem-all xs (λ y m. sym (get_or-set_other seen x y 1 0 (λ k. away (rw k at m))) ∙ all-mem r.unseen y m)) }
      where
        away : ¬ Mem x xs
        away m = omega (arith, get_or-set_same seen x 1 0 (h x a), all-mem r.unseen x m)

pub once-fresh : (ok : ℕ → Bool) (seen : List ℕ) {xs : List ℕ} → All (λ x. ok x ≡ true) xs → NoDup xs → All (λ x. get_or seen x 0 ≡ 0) xs → fresh_in ok seen xs ≡ true
unfolding fresh_in
once-fresh ok seen nil n u = refl
once-fresh ok seen (cons {x = x} {xs = xs} a t) n (cons z u) =
    let other : All (λ y. get_or (set seen x 1) y 0 ≡ 0) xs = mem-all xs (λ y m. get_or-set_other seen x y 1 0 (λ k. n.0 (rw k at m)) ∙ all-mem u y m) in
    and-true a (and-true (eq-eqb _ 0 z) (once-fresh ok (set seen x 1) t n.1 other))

-- nothing is marked at first
pub none_seen : (n : ℕ) (xs : List ℕ) → All (λ x. ◌≡◌ {A = ℕ} (get_or (replicate n 0) x 0) 0) xs
none_seen n xs = mem-all xs (λ x m. zeros n x)
  where
    zeros : (n x : ℕ) → ◌≡◌ {A = ℕ} (get_or (replicate n 0) x 0) 0
    zeros zero x = refl
    zeros (suc n) zero = refl
    zeros (suc n) (suc x) = zeros n x

pub length_marked : (seen xs : List ℕ) → length (mark_all seen xs) ≡ length seen
unfolding mark_all
length_marked seen [] = refl
length_marked seen (x ∷ xs) = length_marked (set seen x 1) xs ∙ length-set seen x 1

-- what is marked is 1, and all else as it was
pub marked-else : (seen xs : List ℕ) (c : ℕ) → ¬ Mem c xs → get_or (mark_all seen xs) c 0 ≡ get_or seen c 0
unfolding mark_all
marked-else seen [] c n = refl
marked-else seen (x ∷ xs) c n = marked-else (set seen x 1) xs c (λ m. n (inr m)) ∙ get_or-set_other seen x c 1 0 (λ e. n (inl e))

pub marked-in : (seen xs : List ℕ) (c : ℕ) → c < length seen → Mem c xs → get_or (mark_all seen xs) c 0 ≡ 1
unfolding mark_all
marked-in seen [] c l m = absurd m
marked-in seen (x ∷ xs) c l m = go (dec_mem c xs) m (λ k. marked-in (set seen x 1) xs c (omega (arith, length-set seen x 1)) k)
  where
    go : Dec (Mem c xs) → (c ≡ x) ⊎ Mem c xs → (Mem c xs → get_or (mark_all (set seen x 1) xs) c 0 ≡ 1) → get_or (mark_all (set seen x 1) xs) c 0 ≡ 1
    go (yes k) m f = f k
    go (no k) (inl e) f = marked-else (set seen x 1) xs c k ∙ ap (λ y. get_or (set seen y 1) c 0) (sym e) ∙ get_or-set_same seen c 1 0 l
    go (no k) (inr m) f = absurd (k m)

-- ---- Counting

short : (b : ℕ) (xs : List ℕ) → length xs ≤ suc (length (without (eqb b) xs))
unfolding without
short b [] = omega arith
short b (x ∷ xs) = go (eqb b x) refl (short b xs)
  where
    go : (t : Bool) → eqb b x ≡ t → length xs ≤ suc (length (without (eqb b) xs)) → suc (length xs) ≤ suc (length (without (eqb b) (x ∷ xs)))
    go true e ih = rw (without-yes (eqb b) x xs e) (omega arith)
    go false e ih = rw (without-no (eqb b) x xs e) (omega arith)

pub full : (zs o : List ℕ) → NoDup zs → ((x : ℕ) → Mem x zs → Mem x o) → length o ≤ length zs → (x : ℕ) → Mem x o → Mem x zs
full zs o n h l x m = go (dec_mem x zs)
  where
    sub : (y : ℕ) → (y ≡ x) ⊎ Mem y zs → Mem y o
    sub y (inl e) = rw e m
    sub y (inr k) = h y k

    go : Dec (Mem x zs) → Mem x zs
    go (yes k) = k
    go (no k) = absurd (omega (arith, nodup-sub (x ∷ zs) o (k, n) sub))

pub full-nodup : (zs o : List ℕ) → NoDup zs → ((x : ℕ) → Mem x zs → Mem x o) → length o ≤ length zs → NoDup o
full-nodup zs [] n h l = tt
full-nodup zs (y ∷ ys) n h l = (twice, full-nodup (without (eqb y) zs) ys (nodup-without (eqb y) zs n) rest (omega (arith, short y zs)))
  where
    other : (x : ℕ) → (x ≡ y) ⊎ Mem x ys → (x ≡ y → Mem x ys) → Mem x ys
    other x (inl e) f = f e
    other x (inr m) f = m

    twice : ¬ Mem y ys
    twice m = omega (arith, nodup-sub zs ys n (λ x k. other x (h x k) (λ e. rw e m)))

    rest : (x : ℕ) → Mem x (without (eqb y) zs) → Mem x ys
    rest x m = other x (h x (without-mem (eqb y) zs x m)) (λ e. absurd (without_gone y zs n (rw e at m)))
