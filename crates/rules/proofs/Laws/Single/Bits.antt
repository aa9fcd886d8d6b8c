-- The trailing ones of a counter, and how they change when it grows by one.
use Rattle.std.specs.Prelude.{◌≡◌, Bool, not}
use Rattle.std.proofs.Math.Path.{refl}
use Rattle.std.proofs.Common.{ap, sym, ◌∙◌, true≢false, pow-suc, div-one, mul_comm, arith, pow_pos}
use Rattle.std.proofs.Math.Bool.{true, false}
use Rattle.std.proofs.Math.Option.{none}
use Prim.Native.Nat.{ℕ, zero, suc, ◌+◌, ◌-◌, ◌/◌, ◌%◌, ◌^◌, ◌≤◌, ◌<◌}
use Rattle.std.proofs.Math.Nat.{div-div-eq-div-mul}
use Rattle.std.proofs.Math.Decide.{ℕ_discrete}
use Rattle.std.proofs.Math.Dec.{eqb}
use borrow.Author.Tests.{eqb-true, eqb-false, eq-eqb, ne_eqb}
use Rattle.lists.specs.Search.{below}
use Rattle.rules.specs.Levels.{filled, differ, highest}
use Rattle.rules.proofs.Laws.Levels.{highest-yes, highest-no}
use Rattle.rules.specs.Laws.Single.Rules.{trailing_ones}

pub trailing_le : (n c : ℕ) → trailing_ones n c ≤ n
trailing_le zero c = unfold trailing_ones in (omega arith)
trailing_le (suc n) c = go (eqb (c % 2) 1) refl (trailing_le n (c / 2))
  where
    go : (t : Bool) → eqb (c % 2) 1 ≡ t → trailing_ones n (c / 2) ≤ n → trailing_ones (suc n) c ≤ suc n
    go true e h = unfold trailing_ones in (rw (e, trailing_ones) (omega arith))
    go false e h = unfold trailing_ones in (rw (e, trailing_ones) (omega arith))

pub filled-suc : (c ℓ : ℕ) → filled c (suc ℓ) ≡ filled (c / 2) ℓ
unfolding filled
filled-suc c ℓ = rw (pow-suc 2 ℓ, mul_comm (2 ^ ℓ) 2, ← div-div-eq-div-mul)

pub filled-lowest : (c : ℕ) → filled c 0 ≡ eqb (c % 2) 1
unfolding filled
filled-lowest c = rw div-one

-- How `trailing_ones` computes once the lowest bit is known
pub ones_odd : (n c : ℕ) → eqb (c % 2) 1 ≡ true → trailing_ones (suc n) c ≡ suc (trailing_ones n (c / 2))
unfolding trailing_ones
ones_odd n c e = rw (e, trailing_ones)

pub ones-even : (n c : ℕ) → eqb (c % 2) 1 ≡ false → trailing_ones (suc n) c ≡ 0
unfolding trailing_ones
ones-even n c e = rw (e, trailing_ones)

-- every level below the trailing ones' end is filled
pub ones-filled : (n c ℓ : ℕ) → ℓ < trailing_ones n c → filled c ℓ ≡ true
ones-filled zero c ℓ h = absurd (unfold trailing_ones in (omega (arith, h)))
ones-filled (suc n) c ℓ h = go (eqb (c % 2) 1) refl ℓ h (ones-filled n (c / 2))
  where
    go : (t : Bool) → eqb (c % 2) 1 ≡ t → (ℓ : ℕ) → ℓ < trailing_ones (suc n) c → ((ℓ : ℕ) → ℓ < trailing_ones n (c / 2) → filled (c / 2) ℓ ≡ true) → filled c ℓ ≡ true
    go false e ℓ h ih = absurd (omega (arith, ones-even n c e))
    go true e zero h ih = filled-lowest c ∙ e
    go true e (suc ℓ) h ih = filled-suc c ℓ ∙ ih ℓ (omega (arith, ones_odd n c e))

-- and the level there is empty
pub ones-empty : (n c : ℕ) → trailing_ones n c < n → filled c (trailing_ones n c) ≡ false
ones-empty zero c h = absurd (omega arith)
ones-empty (suc n) c h = go (eqb (c % 2) 1) refl (ones-empty n (c / 2))
  where
    go : (t : Bool) → eqb (c % 2) 1 ≡ t → (trailing_ones n (c / 2) < n → filled (c / 2) (trailing_ones n (c / 2)) ≡ false) → filled c (trailing_ones (suc n) c) ≡ false
    go false e ih = rw (ones-even n c e) (filled-lowest c ∙ e)
    go true e ih = rw (ones_odd n c e) (filled-suc c (trailing_ones n (c / 2)) ∙ ih (omega (arith, ones_odd n c e)))

-- all n levels are filled exactly by 2 ^ n - 1
pub ones-all : (n c : ℕ) → c < 2 ^ n → trailing_ones n c ≡ n → c ≡ 2 ^ n - 1
ones-all zero c h e = omega arith
ones-all (suc n) c h e = go (eqb (c % 2) 1) refl (ones-all n (c / 2))
  where
    go : (t : Bool) → eqb (c % 2) 1 ≡ t → (c / 2 < 2 ^ n → trailing_ones n (c / 2) ≡ n → c / 2 ≡ 2 ^ n - 1) → c ≡ 2 ^ suc n - 1
    go false k ih = absurd (omega (arith, ones-even n c k))
    go true k ih = omega (arith, ih (omega arith) (omega (arith, ones_odd n c k)), eqb-true (c % 2) 1 k, pow_pos n)

pub all_ones : (n : ℕ) → trailing_ones n (2 ^ n - 1) ≡ n
all_ones zero = unfold trailing_ones in refl
all_ones (suc n) =
    let half : (2 ^ suc n - 1) / 2 ≡ 2 ^ n - 1 = omega (arith, pow_pos n) in
    let odd : (2 ^ suc n - 1) % 2 ≡ 1 = omega (arith, pow_pos n) in
    ones_odd n (2 ^ suc n - 1) (eq-eqb _ _ odd) ∙ rw half (ap suc (all_ones n))

-- One more: the trailing ones become 0, the bit above them 1, the others stay
module _ where
  pub more-below : (n c ℓ : ℕ) → ℓ < trailing_ones n c → filled (c + 1) ℓ ≡ false
  more-below zero c ℓ h = absurd (unfold trailing_ones in (omega (arith, h)))
  more-below (suc n) c ℓ h = go (eqb (c % 2) 1) refl ℓ h (more-below n (c / 2))
    where
      go : (t : Bool) → eqb (c % 2) 1 ≡ t → (ℓ : ℕ) → ℓ < trailing_ones (suc n) c → ((ℓ : ℕ) → ℓ < trailing_ones n (c / 2) → filled (c / 2 + 1) ℓ ≡ false) → filled (c + 1) ℓ ≡ false
      go false e ℓ h ih = absurd (omega (arith, ones-even n c e))
      go true e zero h ih = filled-lowest (c + 1) ∙ ne_eqb ((c + 1) % 2) 1 (omega (arith, eqb-true (c % 2) 1 e))
      go true e (suc ℓ) h ih =
          let half : (c + 1) / 2 ≡ c / 2 + 1 = omega (arith, eqb-true (c % 2) 1 e) in
          filled-suc (c + 1) ℓ ∙ rw half (ih ℓ (omega (arith, ones_odd n c e)))

  pub more-at : (n c : ℕ) → trailing_ones n c < n → filled (c + 1) (trailing_ones n c) ≡ true
  more-at zero c h = absurd (omega arith)
  more-at (suc n) c h = go (eqb (c % 2) 1) refl (more-at n (c / 2))
    where
      go : (t : Bool) → eqb (c % 2) 1 ≡ t → (trailing_ones n (c / 2) < n → filled (c / 2 + 1) (trailing_ones n (c / 2)) ≡ true) → filled (c + 1) (trailing_ones (suc n) c) ≡ true
      go false e ih = rw (ones-even n c e) (filled-lowest (c + 1) ∙ eq-eqb ((c + 1) % 2) 1 (omega (arith, eqb-false (c % 2) 1 e)))
      go true e ih =
          let half : (c + 1) / 2 ≡ c / 2 + 1 = omega (arith, eqb-true (c % 2) 1 e) in
          rw (ones_odd n c e) (filled-suc (c + 1) (trailing_ones n (c / 2)) ∙ rw half (ih (omega (arith, ones_odd n c e))))

  pub more-above : (n c ℓ : ℕ) → trailing_ones n c < n → trailing_ones n c < ℓ → filled (c + 1) ℓ ≡ filled c ℓ
  more-above zero c ℓ h k = absurd (omega arith)
  more-above (suc n) c zero h k = absurd (omega arith)
  more-above (suc n) c (suc ℓ) h k = go (eqb (c % 2) 1) refl (more-above n (c / 2) ℓ)
    where
      go : (t : Bool) → eqb (c % 2) 1 ≡ t → (trailing_ones n (c / 2) < n → trailing_ones n (c / 2) < ℓ → filled (c / 2 + 1) ℓ ≡ filled (c / 2) ℓ) → filled (c + 1) (suc ℓ) ≡ filled c (suc ℓ)
      go false e ih =
          let half : (c + 1) / 2 ≡ c / 2 = omega (arith, eqb-false (c % 2) 1 e) in
          rw (filled-suc (c + 1) ℓ, filled-suc c ℓ, half)
      go true e ih =
          let half : (c + 1) / 2 ≡ c / 2 + 1 = omega (arith, eqb-true (c % 2) 1 e) in
          rw (filled-suc (c + 1) ℓ, filled-suc c ℓ, half) (ih (omega (arith, ones_odd n c e)) (omega (arith, ones_odd n c e)))

-- the bits of 2 ^ k
pub pow_below : (k ℓ : ℕ) → ℓ < k → filled (2 ^ k) ℓ ≡ false
pow_below zero ℓ h = absurd (omega arith)
pow_below (suc k) zero h = filled-lowest (2 ^ suc k) ∙ ne_eqb (2 ^ suc k % 2) 1 (omega arith)
pow_below (suc k) (suc ℓ) h = let half : 2 ^ suc k / 2 ≡ 2 ^ k = omega arith in filled-suc (2 ^ suc k) ℓ ∙ rw half (pow_below k ℓ (omega arith))

-- the highest number that passes is the one above which none does
pub highest-one : (p : ℕ → Bool) (n t : ℕ) → t < n → p t ≡ true → ((ℓ : ℕ) → t < ℓ → ℓ < n → p ℓ ≡ false) → highest p n ≡ t
highest-one p zero t l e f = absurd (omega arith)
highest-one p (suc n) t l e f = go (ℕ_discrete t n) (λ k. highest-one p n t k e (λ ℓ a b. f ℓ a (omega arith)))
  where
    go : Dec (t ≡ n) → (t < n → highest p n ≡ t) → highest p (suc n) ≡ t
    go (yes w) ih = highest-yes p n (rw w at e) ∙ sym w
    go (no w) ih = highest-no p n (f n (omega arith) (omega arith)) ∙ ih (omega arith)

pub differ-yes : (c d ℓ : ℕ) → filled c ℓ ≡ false → filled d ℓ ≡ true → differ c d ℓ ≡ true
unfolding filled differ
differ-yes c d ℓ a b = ap not (ne_eqb (c / 2 ^ ℓ % 2) (d / 2 ^ ℓ % 2) (λ e. eqb-false (c / 2 ^ ℓ % 2) 1 a (e ∙ eqb-true (d / 2 ^ ℓ % 2) 1 b)))

pub differ-no : (c d ℓ : ℕ) → filled d ℓ ≡ filled c ℓ → differ c d ℓ ≡ false
unfolding filled differ
differ-no c d ℓ e = ap not (eq-eqb (c / 2 ^ ℓ % 2) (d / 2 ^ ℓ % 2) (go (ℕ_discrete (c / 2 ^ ℓ % 2) 1) (ℕ_discrete (d / 2 ^ ℓ % 2) 1)))
  where
    go : Dec (c / 2 ^ ℓ % 2 ≡ 1) → Dec (d / 2 ^ ℓ % 2 ≡ 1) → c / 2 ^ ℓ % 2 ≡ d / 2 ^ ℓ % 2
    go (yes a) (yes b) = a ∙ sym b
    go (no a) (no b) = omega arith
    go (yes a) (no b) = absurd (true≢false (sym (eq-eqb (c / 2 ^ ℓ % 2) 1 a) ∙ sym e ∙ ne_eqb (d / 2 ^ ℓ % 2) 1 b))
    go (no a) (yes b) = absurd (true≢false (sym (eq-eqb (d / 2 ^ ℓ % 2) 1 b) ∙ e ∙ ne_eqb (c / 2 ^ ℓ % 2) 1 a))
