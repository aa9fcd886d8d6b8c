-- What rebuilds write: a price of a counter, from which the writes of every run are told.
use Rattle.std.specs.Prelude.{◌≡◌, refl, Bool, true, false}
use Rattle.std.proofs.Math.Path.{ap}
use Rattle.std.proofs.Common.{sym, ◌∙◌, mod-lt, pow_pos}
use Prim.Native.Nat.{ℕ, zero, suc, ◌+◌, ◌-◌, ◌*◌, ◌%◌, ◌^◌, ◌≤◌, ◌<◌}
use native.Mathlib.Omega.{arith}
use Rattle.rules.specs.Jobs.{slot_count}
use Rattle.rules.specs.Laws.Levels.{Joins}
use Rattle.rules.proofs.Laws.Levels.{top_lt}
use Rattle.rules.specs.Levels.{filled, is_full, joins, grown, top_level, written_levels}
use Rattle.rules.specs.Shape.{Shape}
use Rattle.rules.proofs.Laws.Bits.{mod-filled, mod-empty, slots-down}
use Rattle.rules.proofs.Laws.Grown.{grown-at, grown-above, grown-low, top-empty}

-- what the jobs that count from 0 to c write one after the other, of n levels: (ℓ + 2) × 2^ℓ for each filled level ℓ
unfoldable pub part : Bool → ℕ → ℕ
part true n = (n + 2) * 2 ^ n
part false n = 0

unfoldable pub price : ℕ → ℕ → ℕ
price zero c = 0
price (suc n) c = price n c + part (filled c n) n

price-yes : (n c : ℕ) → filled c n ≡ true → price (suc n) c ≡ price n c + (n + 2) * 2 ^ n
unfolding price part
price-yes n c e = rw e

price-no : (n c : ℕ) → filled c n ≡ false → price (suc n) c ≡ price n c
unfolding price part
price-no n c e = rw e (omega arith)

-- at most n + 1 for each of c
pub price-le : (n c : ℕ) → price n c ≤ (n + 1) * (c % 2 ^ n)
price-le zero c = unfold price in (omega arith)
price-le (suc n) c = go (filled c n) refl (price-le n c)
  where
    go : (t : Bool) → filled c n ≡ t → price n c ≤ (n + 1) * (c % 2 ^ n) → price (suc n) c ≤ (suc n + 1) * (c % 2 ^ suc n)
    go true e ih = rw (price-yes n c e, mod-filled c n e) (omega (arith, ih))
    go false e ih = rw (price-no n c e, mod-empty c n e) (omega (arith, ih))

-- at least 2 for each, and never more than n for each of 2^n
price-two : (n c : ℕ) → 2 * (c % 2 ^ n) ≤ price n c
price-two zero c = unfold price in (omega arith)
price-two (suc n) c = go (filled c n) refl (price-two n c)
  where
    go : (t : Bool) → filled c n ≡ t → 2 * (c % 2 ^ n) ≤ price n c → 2 * (c % 2 ^ suc n) ≤ price (suc n) c
    go true e ih = rw (price-yes n c e, mod-filled c n e) (omega (arith, ih))
    go false e ih = rw (price-no n c e, mod-empty c n e) (omega (arith, ih))

doubled : (n : ℕ) → suc n * 2 ^ suc n ≡ n * 2 ^ n + (n + 2) * 2 ^ n
doubled n =
    let e : 2 ^ suc n ≡ 2 ^ n + 2 ^ n = omega arith in
    let f : suc n * 2 ^ suc n ≡ suc n * (2 ^ n + 2 ^ n) = ap (λ x. suc n * x) e in
    omega (arith, f)

price-all : (n c : ℕ) → price n c ≤ n * 2 ^ n
price-all zero c = unfold price in (omega arith)
price-all (suc n) c = go (filled c n) refl (price-all n c)
  where
    go : (t : Bool) → filled c n ≡ t → price n c ≤ n * 2 ^ n → price (suc n) c ≤ suc n * 2 ^ suc n
    go true e ih = rw (price-yes n c e) (omega (arith, ih, doubled n))
    go false e ih = rw (price-no n c e) (omega (arith, ih, doubled n))

-- that much where all are filled
price-full : (n c : ℕ) → c % 2 ^ n + 1 ≡ 2 ^ n → price n c ≡ n * 2 ^ n
price-full zero c e = unfold price in (omega arith)
price-full (suc n) c e = go (filled c n) refl (price-full n c)
  where
    go : (t : Bool) → filled c n ≡ t → (c % 2 ^ n + 1 ≡ 2 ^ n → price n c ≡ n * 2 ^ n) → price (suc n) c ≡ suc n * 2 ^ suc n
    go true k ih = let z = ih (omega (arith, mod-filled c n k)) in rw (price-yes n c k) (omega (arith, z, doubled n))
    go false k ih = absurd (omega (arith, mod-empty c n k, mod-lt c (pow_pos n), pow_pos n))

-- ---- A run of j jobs, with counter c
module _ (h : Shape) (c j : ℕ) (h_l : 1 ≤ h.L) (hc : c < 2 ^ h.L) (hj : Joins h c j) where
  abbrev t : ℕ
  t = top_level h c j

  abbrev g : ℕ
  g = grown h c j

  written_is : slot_count (written_levels h c j) ≡ 2 * (2 ^ t + g % 2 ^ t)
  unfolding written_levels
  written_is = slots-down g (suc t) ∙ ap (λ n. 2 * n) (mod-filled g t (grown-at h c j h_l hc hj))

  -- above t nothing changes
  above : (n : ℕ) → t + suc n ≤ h.L → price (t + suc n) g + price (suc t) c ≡ price (t + suc n) c + price (suc t) g
  unfolding price
  above zero k = let e : t + 1 ≡ suc t = omega arith in rw e (omega arith)
  above (suc n) k =
      let e : t + suc (suc n) ≡ suc (t + suc n) = omega arith in
      let same = grown-above h c j h_l hc hj (t + suc n) (omega arith) (omega arith) in
      let ih = above n (omega arith) in
      rw (e, same) (omega (arith, ih))

  above-all : price h.L g + price (suc t) c ≡ price h.L c + price (suc t) g
  above-all =
      let l = top_lt h c j h_l in
      let e : t + suc (h.L - suc t) ≡ h.L = omega (arith, l) in
      ap (λ n. price n g + price (suc t) c) (sym e) ∙ above (h.L - suc t) (omega (arith, l)) ∙ ap (λ n. price n c + price (suc t) g) e

  -- A run writes no more than the price grows
  pub run-price : is_full h c ≡ false → slot_count (written_levels h c j) + price h.L c ≤ price h.L g
  run-price e = omega (arith, written_is, above-all, price-yes t g (grown-at h c j h_l hc hj), price-no t c (top-empty h c j h_l hc hj e), price-all t c, price-two t g)

  -- A job that runs alone writes just as much
  pub one-price : j ≡ 1 → is_full h c ≡ false → price h.L g ≤ slot_count (written_levels h c j) + price h.L c
  one-price one e =
      let a = mod-filled g t (grown-at h c j h_l hc hj) in
      let b = mod-empty c t (top-empty h c j h_l hc hj e) in
      let low = grown-low h c j h_l hc hj e in
      let l = mod-lt c (pow_pos t) in
      let z : g % 2 ^ t ≡ 0 = omega (arith, a, b, low, l, one) in
      let p = price-full t c (omega (arith, a, b, low, l, one)) in
      let q : (t + 1) * (g % 2 ^ t) ≡ (t + 1) * 0 = ap (λ x. (t + 1) * x) z in
      omega (arith, written_is, above-all, price-yes t g (grown-at h c j h_l hc hj), price-no t c (top-empty h c j h_l hc hj e), p, price-le t g, q, z)

  -- a full partition's job runs alone
  pub full-alone : is_full h c ≡ true → j ≡ 1
  unfolding joins
  full-alone e = let l : j ≤ 1 = rw e at hj.1 in omega (arith, hj.0)
