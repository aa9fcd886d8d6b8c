-- The bounds of a shape, as the code tests them: first the numbers, and the product once they are small.
use Rattle.std.specs.Prelude.{◌≡◌, refl, Bool, true, false, not, ◌&&◌, List, [], ◌∷◌, ℕ, zero, suc, ◌-◌, ◌*◌, ◌^◌, ◌≤◌, eqb, leb}
use Rattle.std.proofs.Common.{sym, ◌∙◌, arith, leb-true, le-leb}
use Rattle.std.proofs.Math.Decide.{ℕ_discrete}
use Rattle.std.specs.Int.Bits.{bit_and}
use Rattle.lists.specs.Tests.{every, between, and_l, and_r, and-true}
use Rattle.lists.specs.Search.{any, member}
use Rattle.rules.specs.Shape.{within}
use Rattle.memory.specs.Fits.{shape_of, parts-le}
use Rattle.memory.specs.declared.Shape.{Shape}

and_assoc : (a b c : Bool) → ((a && b) && c) ≡ (a && (b && c))
and_assoc true b c = refl
and_assoc false b c = refl

and_yes : (a : Bool) → (a && true) ≡ a
and_yes true = refl
and_yes false = refl

-- the bit of a power of two is gone from the number before it; up to 64 this is computed
abbrev one_bit : ℕ → Bool
one_bit p = eqb (bit_and p (p - 1)) 0

abbrev powers : List ℕ
powers = 1 ∷ 2 ∷ 4 ∷ 8 ∷ 16 ∷ 32 ∷ 64 ∷ []

same : Bool → Bool → Bool
same true b = b
same false b = not b

-- the two tests agree on 1 .. n
agree : ℕ → Bool
agree zero = true
agree (suc n) = same (one_bit (suc n)) (member (suc n) powers) && agree n

same-is : (a b : Bool) → same a b ≡ true → a ≡ b
unfolding same
same-is true b e = sym e
same-is false false e = refl
same-is false true e = e

agree_at : (n p : ℕ) → agree n ≡ true → 1 ≤ p → p ≤ n → one_bit p ≡ member p powers
unfolding agree
agree_at zero p e l k = absurd (omega arith)
agree_at (suc n) p e l k = go (ℕ_discrete p (suc n)) (λ r. agree_at n p (and_r (same (one_bit (suc n)) (member (suc n) powers)) (agree n) e) l r)
  where
    go : Dec (p ≡ suc n) → (p ≤ n → one_bit p ≡ member p powers) → one_bit p ≡ member p powers
    go (yes d) rest = rw d (same-is (one_bit (suc n)) (member (suc n) powers) (and_l (same (one_bit (suc n)) (member (suc n) powers)) (agree n) e))
    go (no d) rest = rest (omega arith)

agree-all : agree 64 ≡ true
unfolding agree same member any
agree-all = refl

pub power-is : (p : ℕ) → 1 ≤ p → p ≤ 64 → eqb (bit_and p (p - 1)) 0 ≡ member p (1 ∷ 2 ∷ 4 ∷ 8 ∷ 16 ∷ 32 ∷ 64 ∷ [])
power-is p = agree_at 64 p agree-all

-- none of them is out of that range
pub power-none : (p : ℕ) → (leb 1 p && leb p 64) ≡ false → false ≡ member p (1 ∷ 2 ∷ 4 ∷ 8 ∷ 16 ∷ 32 ∷ 64 ∷ [])
power-none p t = go (member p powers) refl
  where
    go : (a : Bool) → member p powers ≡ a → false ≡ a
    go false e = refl
    go true e = let l = parts-le p e in sym t ∙ and-true (le-leb 1 p l.0) (le-leb p 64 l.1)

abbrev pub small : Shape → Bool
small h = (((((((((leb 1 h.n && leb h.n 4096) && member h.p (1 ∷ 2 ∷ 4 ∷ 8 ∷ 16 ∷ 32 ∷ 64 ∷ [])) && leb 1 h.l) && leb h.l 8) && leb 1 h.b) && leb h.b 512) && leb 1 h.e) && leb h.e h.n) && leb 1 h.w) && leb h.w 32

pub within-small : (h : Shape) → within (shape_of h) ≡ (small h && leb h.n (h.p * 2 ^ (h.l - 1)))
unfolding within between every
within-small h = simp (and_assoc, and_yes)

-- what the product asks
pub record Small (h : Shape) : Type 0 where
  pub partitions : h.p ≤ 64
  pub some_levels : 1 ≤ h.l
  pub levels : h.l ≤ 8

pub small-facts : (h : Shape) → small h ≡ true → Small h
small-facts h e =
    let a = and_l _ (leb h.w 32) e in
    let b = and_l _ (leb 1 h.w) a in
    let c = and_l _ (leb h.e h.n) b in
    let d = and_l _ (leb 1 h.e) c in
    let f = and_l _ (leb h.b 512) d in
    let g = and_l _ (leb 1 h.b) f in
    let i = and_l _ (leb h.l 8) g in
    let j = and_l _ (leb 1 h.l) i in
    record {
      partitions = (parts-le h.p (and_r (leb 1 h.n && leb h.n 4096) _ j)).1;
      some_levels = leb-true 1 h.l (and_r ((leb 1 h.n && leb h.n 4096) && member h.p (1 ∷ 2 ∷ 4 ∷ 8 ∷ 16 ∷ 32 ∷ 64 ∷ [])) _ i);
      levels = leb-true h.l 8 (and_r (((leb 1 h.n && leb h.n 4096) && member h.p (1 ∷ 2 ∷ 4 ∷ 8 ∷ 16 ∷ 32 ∷ 64 ∷ [])) && leb 1 h.l) _ g);
    }
