-- A run of j jobs from the counter c: the highest level at which c and c + j differ, by the highest bit of c xor (c + j).
use Rattle.std.specs.Prelude.{◌≡◌, refl, true, false, not, eqb}
use Rattle.std.proofs.Common.{ap, ◌∙◌, pow-suc, mul_comm, div-one}
use Rattle.std.proofs.Math.Path.{sym}
use Prim.Native.Nat.{ℕ, zero, suc, ◌+◌, ◌-◌, ◌/◌, ◌%◌, ◌^◌, ◌≤◌, ◌<◌, min}
use Rattle.std.proofs.Math.Nat.{div-div-eq-div-mul, div-eq_of_lt, div-eq_of_lt-le}
use native.Mathlib.Omega.{arith}
use Rattle.std.proofs.Math.Decide.{dec_lt, ℕ_discrete}
use Rattle.std.specs.Int.Bits.{bit_xor, xor_step, xor_add_and}
use Rattle.std.proofs.lemmas.Nat.{xor_lt, and_le_l}
use Rattle.std.specs.Int.Bits as digits
use Rattle.std.proofs.Math.Pow.{pow_mono}
use borrow.Author.Tests.{eq-eqb, ne_eqb}
use Rattle.rules.specs.Shape.{Shape}
use Rattle.rules.specs.Levels.{is_full, joins, grown, differ, top_level}
use Rattle.rules.specs.Laws.Levels.{Joins}
use Rattle.rules.proofs.Laws.Single.Bits.{highest-one}
use Rattle.rules.proofs.Laws.Single.Levels.{one-top}
use Rattle.rules.specs.Laws.Single.Rules.{trailing_ones, target, sources}

-- j jobs may run together from the counter c of so many levels
abbrev pub Together : ℕ → ℕ → ℕ → Type 0
Together levels c j = (1 ≤ j) × (c < 2 ^ levels) × (2 ≤ j → c + j < 2 ^ levels)

pub together : (h : Shape) (c j : ℕ) → c < 2 ^ h.L → Joins h c j → Together h.L c j
unfolding joins is_full
together h c j l k = (k.0, l, λ two. go (ℕ_discrete c (2 ^ h.L - 1)) k.1 two)
  where
    go : Dec (c ≡ 2 ^ h.L - 1) → j ≤ joins h c 64 → 2 ≤ j → c + j < 2 ^ h.L
    go (yes e) u two = absurd (let v : j ≤ 1 = rw (eq-eqb c (2 ^ h.L - 1) e) at u in omega arith)
    go (no n) u two = let v : j ≤ min 64 (2 ^ h.L - 1 - c) = rw (ne_eqb c (2 ^ h.L - 1) n) at u in omega arith

-- where some level is empty, the counter stays in its range
pub together-lt : (levels c j : ℕ) → Together levels c j → (c ≡ 2 ^ levels - 1 → ⊥) → c + j < 2 ^ levels
together-lt levels c j k n = go (dec_lt 1 j)
  where
    go : Dec (1 < j) → c + j < 2 ^ levels
    go (yes l) = k.2 l
    go (no l) = omega (arith, k.0, k.1)

-- ---- Digits
differ-low : (x y : ℕ) → x < 2 → y < 2 → digits.differ x y < 2
differ-low zero y a b = b
differ-low (suc x) zero a b = a
differ-low (suc x) (suc y) a b = let e : x ≡ 0 = omega arith in rw e (omega arith)

xor-half : (a b : ℕ) → bit_xor a b / 2 ≡ bit_xor (a / 2) (b / 2)
xor-half a b = omega (arith, xor_step a b, differ-low (a % 2) (b % 2) (omega arith) (omega arith))

xor-lowest : (a b : ℕ) → bit_xor a b % 2 ≡ digits.differ (a % 2) (b % 2)
xor-lowest a b = omega (arith, xor_step a b, differ-low (a % 2) (b % 2) (omega arith) (omega arith))

shift : (n ℓ : ℕ) → n / 2 ^ suc ℓ ≡ n / 2 / 2 ^ ℓ
shift n ℓ = rw (pow-suc 2 ℓ, mul_comm (2 ^ ℓ) 2, ← div-div-eq-div-mul)

xor-digit : (ℓ a b : ℕ) → bit_xor a b / 2 ^ ℓ % 2 ≡ digits.differ (a / 2 ^ ℓ % 2) (b / 2 ^ ℓ % 2)
xor-digit zero a b = rw (div-one (bit_xor a b), div-one a, div-one b) (xor-lowest a b)
xor-digit (suc ℓ) a b = rw (shift (bit_xor a b) ℓ, shift a ℓ, shift b ℓ, xor-half a b) (xor-digit ℓ (a / 2) (b / 2))

other-digits : (x y : ℕ) → x < 2 → y < 2 → digits.differ x y ≡ 1 → not (eqb x y) ≡ true
other-digits zero zero a b e = absurd (omega arith)
other-digits zero (suc y) a b e = ap not (ne_eqb zero (suc y) (λ k. omega arith))
other-digits (suc x) zero a b e = ap not (ne_eqb (suc x) zero (λ k. omega arith))
other-digits (suc x) (suc y) a b e = absurd (let z : x ≡ 0 = omega arith in let w : y ≡ 0 = omega arith in omega (arith, rw (z, w) at e))

same_digits : (x y : ℕ) → x < 2 → y < 2 → digits.differ x y ≡ 0 → not (eqb x y) ≡ false
same_digits zero zero a b e = ap not (eq-eqb zero zero refl)
same_digits zero (suc y) a b e = absurd (omega arith)
same_digits (suc x) zero a b e = absurd (omega arith)
same_digits (suc x) (suc y) a b e = let z : suc x ≡ suc y = omega arith in ap not (eq-eqb (suc x) (suc y) z)

-- ---- The highest level at which c and c + j differ
module _ (levels c j : ℕ) (some : 1 ≤ j) (l : c + j < 2 ^ levels) where
  abbrev x : ℕ
  x = bit_xor c (c + j)

  -- they differ somewhere
  pub differs : 0 < x
  differs = omega (arith, xor_add_and c (c + j), and_le_l c (c + j))

  module _ (t : ℕ) (from : 2 ^ t ≤ x) (to : x < 2 ^ suc t) where
    pub top_in : t < levels
    top_in = go (dec_lt t levels)
      where
        go : Dec (t < levels) → t < levels
        go (yes k) = k
        go (no k) = absurd (omega (arith, xor_lt levels c (c + j) (omega arith) l, pow_mono {i = levels} {j = t} (omega arith)))

    here : differ c (c + j) t ≡ true
    unfolding differ
    here =
        let q : x / 2 ^ t ≡ 1 = div-eq_of_lt-le {k = 1} (2 ^ t) (omega arith) (omega arith) in
        let d : x / 2 ^ t % 2 ≡ 1 = omega arith in
        other-digits (c / 2 ^ t % 2) ((c + j) / 2 ^ t % 2) (omega arith) (omega arith) (sym (xor-digit t c (c + j)) ∙ d)

    above : (ℓ : ℕ) → t < ℓ → differ c (c + j) ℓ ≡ false
    unfolding differ
    above ℓ k =
        let q : x / 2 ^ ℓ ≡ 0 = div-eq_of_lt (omega (arith, pow_mono {i = suc t} {j = ℓ} k)) in
        let d : x / 2 ^ ℓ % 2 ≡ 0 = omega arith in
        same_digits (c / 2 ^ ℓ % 2) ((c + j) / 2 ^ ℓ % 2) (omega arith) (omega arith) (sym (xor-digit ℓ c (c + j)) ∙ d)

    pub top-many : (h : Shape) → h.L ≡ levels → t ≡ top_level h c j
    unfolding top_level is_full
    top-many h e = sym (rw (e, ne_eqb c (2 ^ levels - 1) (λ z. omega arith)) (highest-one (differ c (c + j)) levels t top_in here (λ ℓ a b. above ℓ a)))

-- of one job
pub top_one : (levels c t : ℕ) → 1 ≤ levels → c < 2 ^ levels → t ≡ min (trailing_ones levels c) (levels - 1) → (h : Shape) → h.L ≡ levels → t ≡ top_level h c 1
top_one levels c t some l k h e = k ∙ sym (one-top h c (rw e some) (rw e l) ∙ (unfold target sources in (rw e)))

-- ---- How many of n jobs run together, and the counter after them
module _ (levels c : ℕ) (l : c < 2 ^ levels) (h : Shape) (e : h.L ≡ levels) where
  pub joins-full : (n : ℕ) → 2 ^ levels - 1 - c ≡ 0 → 1 ≡ joins h c n
  unfolding joins is_full
  joins-full n k = sym (rw (e, eq-eqb c (2 ^ levels - 1) (omega arith)))

  pub joins-some : (n : ℕ) → (2 ^ levels - 1 - c ≡ 0 → ⊥) → min n (2 ^ levels - 1 - c) ≡ joins h c n
  unfolding joins is_full
  joins-some n k = sym (rw (e, ne_eqb c (2 ^ levels - 1) (λ z. k (omega arith))))

  pub grown-full : (j : ℕ) → c ≡ 2 ^ levels - 1 → 2 ^ (levels - 1) ≡ grown h c j
  unfolding grown is_full
  grown-full j k = sym (rw (e, eq-eqb c (2 ^ levels - 1) k))

  pub grown-more : (j : ℕ) → (c ≡ 2 ^ levels - 1 → ⊥) → c + j ≡ grown h c j
  unfolding grown is_full
  grown-more j k = sym (rw (e, ne_eqb c (2 ^ levels - 1) k))
