-- Where a slot lies: within its partition, which lies within the cells; and no two slots share a cell.
use Rattle.std.specs.Prelude.{◌≡◌, ℕ, suc, ◌+◌, ◌-◌, ◌*◌, ◌≤◌, ◌<◌}
use Rattle.std.proofs.Common.{ap, sym, suc-mul, mul-le-mul_right, arith, pow_mono}
use Rattle.rules.specs.Shape.{Shape, cell, offset, slots}

-- a partition's cells lie within those of all
pub stride-le : (P q n : ℕ) → q < P → q * n + n ≤ P * n
stride-le P q n h = rw (← suc-mul) (mul-le-mul_right n h)

-- the cells of a level follow one another
pub cell-from : (h : Shape) (q ℓ i : ℕ) → cell h q ℓ 0 + i ≡ cell h q ℓ i
unfolding cell
cell-from h q ℓ i = omega arith

-- the place of a slot among the slots of its partition
pub offset-lt : (top ℓ i : ℕ) → ℓ < top → i < slots ℓ → slots ℓ + i < slots top
offset-lt top ℓ i h k = omega (arith, pow_mono {i = suc (ℓ + 1)} {j = top + 1} (omega arith))

-- quotient and remainder are unique
quotient : (w q p a b : ℕ) → a < w → b < w → q * w + a ≡ p * w + b → ¬ (q < p)
quotient w q p a b ha hb e h = omega (arith, mul-le-mul_right w h)

-- a lower level's slots come before
lower : (ℓ m i j : ℕ) → i < slots ℓ → slots ℓ + i ≡ slots m + j → ¬ (ℓ < m)
lower ℓ m i j hi e h = omega (arith, pow_mono {i = suc (ℓ + 1)} {j = m + 1} (omega arith))

not-lt-eq : (a b : ℕ) → ¬ (a < b) → ¬ (b < a) → a ≡ b
not-lt-eq a b h k = omega arith

-- a slot comes before the end of its partition's levels
pub offset-in : (n ℓ i : ℕ) → ℓ < n → i < slots ℓ → offset ℓ i < slots n - 2
unfolding offset
offset-in n ℓ i h k = omega (arith, pow_mono {i = 1} {j = ℓ + 1} (omega arith), pow_mono {i = suc (ℓ + 1)} {j = n + 1} (omega arith))

pub cell-inj : (h : Shape) (q p ℓ m i j : ℕ) → ℓ < h.L → m < h.L → i < slots ℓ → j < slots m
    → cell h q ℓ i ≡ cell h p m j → (q ≡ p) × (ℓ ≡ m) × (i ≡ j)
unfolding cell
cell-inj h q p ℓ m i j hℓ hm hi hj e = (eq-q, eq-ℓ, eq-i)
  where
    w : ℕ
    w = slots h.L

    a : ℕ
    a = slots ℓ + i

    b : ℕ
    b = slots m + j

    e' : q * w + a ≡ p * w + b
    e' = omega arith

    eq-q : q ≡ p
    eq-q = not-lt-eq q p (quotient w q p a b (offset-lt h.L ℓ i hℓ hi) (offset-lt h.L m j hm hj) e')
        (quotient w p q b a (offset-lt h.L m j hm hj) (offset-lt h.L ℓ i hℓ hi) (sym e'))

    eq-ab : a ≡ b
    eq-ab = omega (arith, e', ap (λ (x : ℕ). x * w) eq-q)

    eq-ℓ : ℓ ≡ m
    eq-ℓ = not-lt-eq ℓ m (lower ℓ m i j hi eq-ab) (lower m ℓ j i hj (sym eq-ab))

    eq-i : i ≡ j
    eq-i = omega (arith, eq-ab, ap slots eq-ℓ)
