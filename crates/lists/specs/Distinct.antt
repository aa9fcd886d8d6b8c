-- Members of a list of numbers, lists without duplicates, and the place of a member.
use Rattle.std.specs.Prelude.{◌≡◌, refl, ◌⊎◌, List, [], ◌∷◌, ℕ, zero, suc, ◌<◌, length, get_or}
use Rattle.std.proofs.Common.{ap, sym, subst, inl, inr, arith}
use Rattle.std.proofs.Math.Logic.{ite}
use Rattle.std.proofs.Math.Decide.{ℕ_discrete}

abbrev pub Mem : ℕ → List ℕ → Type 0
Mem x [] = ⊥
Mem x (y ∷ ys) = (x ≡ y) ⊎ Mem x ys

abbrev pub NoDup : List ℕ → Type 0
NoDup [] = Unit
NoDup (x ∷ xs) = (¬ Mem x xs) × NoDup xs

-- the first place of x, or the length
abbrev pub index : ℕ → List ℕ → ℕ
index x [] = zero
index x (y ∷ ys) = ite (ℕ_discrete x y) zero (suc (index x ys))

pub mem-at : (l : List ℕ) (k : ℕ) → k < length l → Mem (get_or l k 0) l
mem-at [] k h = absurd (omega arith)
mem-at (x ∷ xs) zero h = inl refl
mem-at (x ∷ xs) (suc k) h = inr (mem-at xs k (omega arith))

pub index-mem : (x : ℕ) (l : List ℕ) → Mem x l → (index x l < length l) × (get_or l (index x l) 0 ≡ x)
index-mem x [] m = absurd m
index-mem x (y ∷ ys) m = go (ℕ_discrete x y) m (index-mem x ys)
  where
    go : (d : Dec (x ≡ y)) → Mem x (y ∷ ys) → (Mem x ys → (index x ys < length ys) × (get_or ys (index x ys) 0 ≡ x)) →
        (ite d zero (suc (index x ys)) < suc (length ys)) × (get_or (y ∷ ys) (ite d zero (suc (index x ys))) 0 ≡ x)
    go (yes e) m r = (omega arith, sym e)
    go (no e) (inl e') r = absurd (e e')
    go (no e) (inr m) r = (omega (arith, r m), (r m).1)

-- in a list without duplicates an element has one place
pub nodup-inj : (l : List ℕ) (i j : ℕ) → NoDup l → i < length l → j < length l → get_or l i 0 ≡ get_or l j 0 → i ≡ j
nodup-inj [] i j u h k e = absurd (omega arith)
nodup-inj (x ∷ xs) zero zero u h k e = refl
nodup-inj (x ∷ xs) zero (suc j) u h k e = absurd (u.0 (subst (λ z. Mem z xs) (sym e) (mem-at xs j (omega arith))))
nodup-inj (x ∷ xs) (suc i) zero u h k e = absurd (u.0 (subst (λ z. Mem z xs) e (mem-at xs i (omega arith))))
nodup-inj (x ∷ xs) (suc i) (suc j) u h k e = ap suc (nodup-inj xs i j u.1 (omega arith) (omega arith) e)

pub inj-nodup : (l : List ℕ) → ((i j : ℕ) → i < length l → j < length l → get_or l i 0 ≡ get_or l j 0 → i ≡ j) → NoDup l
inj-nodup [] f = tt
inj-nodup (x ∷ xs) f = (
  λ m.
      let r = index-mem x xs m in
      let z = f zero (suc (index x xs)) (omega arith) (omega arith) (sym r.1) in
      omega arith,
  inj-nodup xs (λ i j h k e. let z = f (suc i) (suc j) (omega arith) (omega arith) e in omega arith),
)

pub index_at : (l : List ℕ) (k : ℕ) → NoDup l → k < length l → index (get_or l k 0) l ≡ k
index_at l k u h =
    let m = index-mem (get_or l k 0) l (mem-at l k h) in
    nodup-inj l _ k u m.0 h m.1

-- how the place of an element computes
pub index-here : (x y : ℕ) (ys : List ℕ) → x ≡ y → index x (y ∷ ys) ≡ 0
index-here x y ys e = go (ℕ_discrete x y)
  where
    go : (d : Dec (x ≡ y)) → ite d zero (suc (index x ys)) ≡ 0
    go (yes p) = refl
    go (no p) = absurd (p e)

pub index-there : (x y : ℕ) (ys : List ℕ) → ¬ (x ≡ y) → index x (y ∷ ys) ≡ suc (index x ys)
index-there x y ys n = go (ℕ_discrete x y)
  where
    go : (d : Dec (x ≡ y)) → ite d zero (suc (index x ys)) ≡ suc (index x ys)
    go (yes p) = absurd (n p)
    go (no p) = refl
