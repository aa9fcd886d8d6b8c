-- The writes of some levels, one level after the other: each has its number.
use Rattle.std.specs.Prelude.{◌≡◌, refl, ◌⊎◌, Bool, true, false, List, [], ◌∷◌, ℕ, ◌+◌, ◌-◌, ◌<◌, get_or, eqb, ltb, if◌then◌else◌}
use Rattle.std.proofs.Common.{ap, sym, ◌∙◌, inl, inr, arith, pow_pos, eqb-true, eq-eqb, ne_eqb, ltb-true, ltb-false}
use Rattle.std.proofs.Math.Option.{some}
use Rattle.std.proofs.lemmas.Bool.{eqb-false}
use Rattle.lists.specs.Distinct.{Mem, NoDup}
use Rattle.rules.specs.Jobs.{slot_count, write_at}
use Rattle.rules.specs.Shape.{slots}
use Rattle.reachable.specs.Live.{write_number}

-- How `write_number` computes once the level is known
pub number-here : (m : ℕ) (ls : List ℕ) (ℓ i : ℕ) → m ≡ ℓ → write_number (m ∷ ls) ℓ i ≡ i
unfolding write_number
number-here m ls ℓ i e = rw (eq-eqb m ℓ e, write_number)

number-later : (m : ℕ) (ls : List ℕ) (ℓ i : ℕ) → ¬ (m ≡ ℓ) → write_number (m ∷ ls) ℓ i ≡ slots m + write_number ls ℓ i
unfolding write_number
number-later m ls ℓ i n = rw (ne_eqb m ℓ n, write_number)

-- Write number n is the one of that number
pub write-at : (ls : List ℕ) (n ℓ i : ℕ) → NoDup ls → write_at ls n ≡ some (ℓ, i) → Mem ℓ ls × (i < slots ℓ) × (write_number ls ℓ i ≡ n)
unfolding write_at
write-at [] n ℓ i u e = let z : ◌≡◌ {A = ℕ} 0 1 = cc in absurd (omega arith)
write-at (m ∷ ls) n ℓ i u e = go (ltb n (slots m)) refl e (write-at ls (n - slots m) ℓ i u.1)
  where
    go : (t : Bool) → ltb n (slots m) ≡ t → (if t then some (m, n) else write_at ls (n - slots m)) ≡ some (ℓ, i)
        → (write_at ls (n - slots m) ≡ some (ℓ, i) → Mem ℓ ls × (i < slots ℓ) × (write_number ls ℓ i ≡ n - slots m)) → Mem ℓ (m ∷ ls) × (i < slots ℓ) × (write_number (m ∷ ls) ℓ i ≡ n)
    go true k e ih =
        let w : ◌≡◌ {A = ℕ × ℕ} (m, n) (ℓ, i) = cc in
        let a : m ≡ ℓ = ap (λ (x : ℕ × ℕ). x.0) w in
        let b : n ≡ i = ap (λ (x : ℕ × ℕ). x.1) w in
        (inl (sym a), rw (← a, ← b) (ltb-true n (slots m) k), number-here m ls ℓ i a ∙ sym b)
    go false k e ih =
        let r = ih e in
        let l = ltb-false n (slots m) k in
        let other : ¬ (m ≡ ℓ) = λ w. u.0 (rw w r.0) in
        (inr r.0, r.1, number-later m ls ℓ i other ∙ omega (arith, r.2))

pub number_lt : (ls : List ℕ) (ℓ i : ℕ) → Mem ℓ ls → i < slots ℓ → write_number ls ℓ i < slot_count ls
unfolding slot_count
number_lt [] ℓ i m l = absurd m
number_lt (x ∷ ls) ℓ i m l = go (eqb x ℓ) refl m (number_lt ls ℓ i)
  where
    go : (t : Bool) → eqb x ℓ ≡ t → (ℓ ≡ x) ⊎ Mem ℓ ls → (Mem ℓ ls → i < slots ℓ → write_number ls ℓ i < slot_count ls) → write_number (x ∷ ls) ℓ i < slots x + slot_count ls
    go true e m ih = let w = eqb-true x ℓ e in let s : slots x ≡ slots ℓ = ap slots w in omega (arith, number-here x ls ℓ i w)
    go false e (inl m) ih = absurd (eqb-false x ℓ e (sym m))
    go false e (inr m) ih = omega (arith, number-later x ls ℓ i (eqb-false x ℓ e), ih m l)

-- no two writes have one number
pub number-one : (ls : List ℕ) (ℓ i m j : ℕ) → Mem ℓ ls → Mem m ls → i < slots ℓ → j < slots m → write_number ls ℓ i ≡ write_number ls m j → (ℓ ≡ m) × (i ≡ j)
number-one [] ℓ i m j a b k l e = absurd a
number-one (x ∷ ls) ℓ i m j a b k l e = go (eqb x ℓ) (eqb x m) refl refl a b (number-one ls ℓ i m j)
  where
    go : (t u : Bool) → eqb x ℓ ≡ t → eqb x m ≡ u → (ℓ ≡ x) ⊎ Mem ℓ ls → (m ≡ x) ⊎ Mem m ls
        → (Mem ℓ ls → Mem m ls → i < slots ℓ → j < slots m → write_number ls ℓ i ≡ write_number ls m j → (ℓ ≡ m) × (i ≡ j)) → (ℓ ≡ m) × (i ≡ j)
    go true true v w a b ih =
        let p = eqb-true x ℓ v in
        let q = eqb-true x m w in
        (sym p ∙ q, sym (number-here x ls ℓ i p) ∙ e ∙ number-here x ls m j q)
    go true false v w a b ih =
        let p = eqb-true x ℓ v in
        let s : slots x ≡ slots ℓ = ap slots p in
        absurd (omega (arith, number-here x ls ℓ i p, number-later x ls m j (eqb-false x m w), e))
    go false true v w a b ih =
        let q = eqb-true x m w in
        let s : slots x ≡ slots m = ap slots q in
        absurd (omega (arith, number-later x ls ℓ i (eqb-false x ℓ v), number-here x ls m j q, e))
    go false false v w (inl a) b ih = absurd (eqb-false x ℓ v (sym a))
    go false false v w (inr a) (inl b) ih = absurd (eqb-false x m w (sym b))
    go false false v w (inr a) (inr b) ih = ih a b k l (omega (arith, number-later x ls ℓ i (eqb-false x ℓ v), number-later x ls m j (eqb-false x m w), e))

-- the first one is that of the first level's slot 0
pub number-first : (ls : List ℕ) (ℓ i : ℕ) → Mem ℓ ls → i < slots ℓ → write_number ls ℓ i < 1 → (rest : List ℕ) (t : ℕ) → ls ≡ t ∷ rest → (ℓ ≡ get_or ls 0 0) × (i ≡ 0)
number-first ls ℓ i m l k rest t e =
    let z : write_number ls t 0 ≡ 0 = rw e (number-here t rest t 0 refl) in
    let r = number-one ls ℓ i t 0 m (rw e (inl refl)) l (pow_pos (t + 1)) (omega arith) in
    (r.0 ∙ sym (ap (λ xs. get_or xs 0 0) e), r.1)
