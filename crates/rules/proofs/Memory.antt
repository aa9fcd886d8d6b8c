-- Document 01, "State and ranges": the memory that a shape needs, and the document's bound on it.
use Rattle.std.specs.Prelude.{◌≡◌, ℕ, ◌+◌, ◌*◌, ◌^◌, ◌≤◌, ◌<◌}
use Rattle.std.proofs.Common.{mul-le-mul_right, arith, pow_pos}
use Rattle.rules.specs.Shape.{Shape, slots}
use Rattle.rules.specs.Memory.{needed}

-- ".. and come to at most 16 × (N + 2^L) × (B + 16) + 16 × P × 2^(L+1) + 65,536 bytes."
pub needed-le : (h : Shape) → needed h ≤ 16 * ((h.N + 2 ^ h.L) * (h.B + 16)) + 16 * (h.P * slots h.L) + 65536
unfolding needed
needed-le h = omega (arith, distributed (h.N + 2 ^ h.L) h.B 16, mul-le-mul_right h.B (at_least h.N (2 ^ h.L) (pow_pos h.L)))
  where
    distributed : (a b c : ℕ) → a * (b + c) ≡ a * b + a * c
    distributed a b c = omega arith

    at_least : (n p : ℕ) → 0 < p → n + 1 ≤ n + p
    at_least n p h = omega arith
