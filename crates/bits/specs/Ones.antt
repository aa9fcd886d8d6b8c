-- The trailing ones of a counter, by way of the trailing zeros of its complement.
use Rattle.std.specs.Prelude.{◌≡◌, refl, Bool, true, false, ℕ, zero, suc, ◌-◌, ◌/◌, ◌%◌, ◌^◌, ◌≤◌, ◌<◌, min, eqb}
use Rattle.std.proofs.Common.{sym, ap, ◌∙◌, pow-suc, arith, pow_pos, eqb-true}
use Rattle.std.proofs.Math.Decide.{dec_lt}
use Rattle.std.specs.Int.Count.{count_trailing_zeros, under}
use Rattle.std.proofs.lemmas.Bool.{eqb-false}
use Rattle.rules.specs.Laws.Single.Rules.{trailing_ones}

-- the trailing zeros of a complement are the trailing ones of the number
pub zeros-of-complement : (k n : ℕ) → n < 2 ^ k → count_trailing_zeros k ((2 ^ k - 1) - n) ≡ trailing_ones k n
unfolding count_trailing_zeros trailing_ones
zeros-of-complement zero n h = refl
zeros-of-complement (suc k) n h =
    let p = pow_pos k in
    let e = pow-suc 2 k in
    let half : ((2 ^ suc k - 1) - n) / 2 ≡ (2 ^ k - 1) - n / 2 = omega arith in
    let hn : n / 2 < 2 ^ k = omega arith in
    rw half (rw (zeros-of-complement k (n / 2) hn) (go (eqb (n % 2) 1) refl ((2 ^ suc k - 1 - n) % 2) (omega arith)))
  where
    go : (t : Bool) → eqb (n % 2) 1 ≡ t → (e : ℕ) → e ≡ 1 - n % 2 → under e (trailing_ones k (n / 2)) ≡ trailing_ones (suc k) n
    go true q e w = let z : e ≡ 0 = omega (arith, eqb-true (n % 2) 1 q) in rw (z, q, trailing_ones)
    go false q e w = let ne = eqb-false (n % 2) 1 q in let z : e ≡ 1 = omega arith in rw (z, q, trailing_ones)

-- fewer bits: the same, up to their number
pub ones-fewer : (j k c : ℕ) → j ≤ k → trailing_ones k c < j → trailing_ones j c ≡ trailing_ones k c
unfolding trailing_ones
ones-fewer zero k c l h = absurd (omega arith)
ones-fewer (suc j) zero c l h = absurd (omega arith)
ones-fewer (suc j) (suc k) c l h = go (eqb (c % 2) 1) refl (λ x. ones-fewer j k (c / 2) (omega arith) x)
  where
    go : (t : Bool) → eqb (c % 2) 1 ≡ t → (trailing_ones k (c / 2) < j → trailing_ones j (c / 2) ≡ trailing_ones k (c / 2)) → trailing_ones (suc j) c ≡ trailing_ones (suc k) c
    go true q ih =
        let a : trailing_ones (suc k) c ≡ suc (trailing_ones k (c / 2)) = rw (q, trailing_ones) in
        let b : trailing_ones (suc j) c ≡ suc (trailing_ones j (c / 2)) = rw (q, trailing_ones) in
        b ∙ ap suc (ih (omega (arith, a))) ∙ sym a
    go false q ih = rw (q, trailing_ones)

pub ones-all : (j k c : ℕ) → j ≤ k → j ≤ trailing_ones k c → trailing_ones j c ≡ j
unfolding trailing_ones
ones-all zero k c l h = refl
ones-all (suc j) zero c l h = absurd (omega arith)
ones-all (suc j) (suc k) c l h = go (eqb (c % 2) 1) refl (λ x. ones-all j k (c / 2) (omega arith) x)
  where
    go : (t : Bool) → eqb (c % 2) 1 ≡ t → (j ≤ trailing_ones k (c / 2) → trailing_ones j (c / 2) ≡ j) → trailing_ones (suc j) c ≡ suc j
    go true q ih =
        let a : trailing_ones (suc k) c ≡ suc (trailing_ones k (c / 2)) = rw (q, trailing_ones) in
        let b : trailing_ones (suc j) c ≡ suc (trailing_ones j (c / 2)) = rw (q, trailing_ones) in
        b ∙ ap suc (ih (omega (arith, a)))
    go false q ih = let a : trailing_ones (suc k) c ≡ 0 = rw (q, trailing_ones) in absurd (omega (arith, a))

-- ..and up to the one before
pub ones-below : (j k c : ℕ) → j ≤ k → min (trailing_ones k c) (j - 1) ≡ min (trailing_ones j c) (j - 1)
ones-below j k c l = go (dec_lt (trailing_ones k c) j)
  where
    go : Dec (trailing_ones k c < j) → min (trailing_ones k c) (j - 1) ≡ min (trailing_ones j c) (j - 1)
    go (yes h) = ap (λ t. min t (j - 1)) (sym (ones-fewer j k c l h))
    go (no h) = omega (arith, ones-all j k c l (omega arith))
