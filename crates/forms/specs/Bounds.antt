-- Bounds of a shape's numbers, and lists of numbers below a bound.
use Rattle.std.specs.Prelude.{◌≡◌, refl, Bool, true, false, List, [], ◌∷◌, ℕ, ◌*◌, ◌≤◌, ◌<◌, ltb}
use Rattle.std.proofs.Common.{lt-ltb, le-ltb, mul-le-mul, arith}
use Rattle.lists.specs.Search.{all}
use Rattle.rules.specs.Shape.{slots, within}
use Rattle.rules.specs.Memory.{needed}
use Rattle.memory.specs.Fits.{shape_of, fits}
use Rattle.memory.specs.declared.Shape.{Shape as Numbers}

-- bounds of a shape's numbers
pub record Bounds (h : Numbers) : Type 0 where
  pub blocks : h.n ≤ 4096
  pub partitions : h.p ≤ 64
  pub some_levels : 1 ≤ h.l
  pub levels : h.l ≤ 8
  pub bytes : h.b ≤ 512
  pub cells : h.p * slots h.l ≤ 32768

-- numbers below a bound: one more, or one that is not
pub all_more : (z x : ℕ) (xs : List ℕ) → x < z → all (λ x. ltb x z) (x ∷ xs) ≡ all (λ x. ltb x z) xs
unfolding all
all_more z x xs l = rw (lt-ltb x z l)

pub all-not : (z x : ℕ) (xs : List ℕ) → z ≤ x → all (λ x. ltb x z) (x ∷ xs) ≡ false
unfolding all
all-not z x xs l = rw (le-ltb x z l)

pub all_none : {A : Type 0} (p : A → Bool) → all p [] ≡ true
unfolding all
all_none p = refl

pub bounds_of : (h : Numbers) → within (shape_of h) ≡ true → Bounds h
bounds_of h e =
    let f = fits (shape_of h) (needed (shape_of h)) e (omega arith) in
    record { blocks = f.blocks; partitions = f.partitions; some_levels = f.some_levels; levels = f.levels; bytes = f.bytes; cells = f.cells }

-- a product of bounded numbers
pub times-le : (n s : ℕ) → n ≤ 4096 → s ≤ 516 → n * s ≤ 2113536
times-le n s a b = mul-le-mul a b
