-- The bits of a counter: the levels that are filled in it, how many blocks and slots these have, and the writes of their slots.
use Rattle.std.specs.Prelude.{◌≡◌, Bool, List, [], ◌∷◌, ℕ, zero, suc, ◌+◌, ◌-◌, ◌*◌, ◌/◌, ◌%◌, ◌^◌, ◌≤◌, ◌<◌}
use Rattle.std.proofs.Math.Path.{refl, sym}
use Rattle.std.proofs.Common.{ap, ◌∙◌, pow_pos, shr-shr, shr_lt, add-one, eqb-true, eq-eqb, ne_eqb, lt-ltb, le-ltb}
use Rattle.std.proofs.Math.Bool.{true, false}
use Rattle.std.proofs.Math.Option.{none, some}
use native.Mathlib.Omega.{arith}
use Rattle.std.proofs.lemmas.Nat.{mod-pow-add}
use Rattle.std.proofs.Math.Nat.{div_self}
use Rattle.std.proofs.lemmas.Bool.{eqb-false}
use Rattle.lists.specs.Search.{keep, keep-yes, keep-no}
use Rattle.rules.specs.Shape.{slots}
use Rattle.rules.specs.Levels.{filled, down}
use Rattle.rules.specs.Jobs.{capacity, slot_count, write_at}
use Rattle.rules.specs.Laws.Bits.{slots_at}

pub half : (c k : ℕ) → c / 2 ^ k ≡ 2 * (c / 2 ^ suc k) + c / 2 ^ k % 2
half c k = let e : c / 2 ^ k / 2 ≡ c / 2 ^ suc k = shr-shr c k 1 ∙ ap (λ n. c / 2 ^ n) (add-one k) in omega arith

pub small : (c k : ℕ) → c < 2 ^ k → c / 2 ^ k ≡ 0
small c k l = let z : 0 + k ≡ k = omega arith in let e : c / 2 ^ k < 2 ^ 0 = shr_lt 0 k (rw z l) in omega arith

-- the counter 0 has no bit
pub filled_zero : (ℓ : ℕ) → filled 0 ℓ ≡ false
unfolding filled
filled_zero ℓ = let e = small 0 ℓ (pow_pos ℓ) in ne_eqb (0 / 2 ^ ℓ % 2) 1 (omega arith)

pub pow-at : (k : ℕ) → filled (2 ^ k) k ≡ true
unfolding filled
pow-at k = let e : 2 ^ k / 2 ^ k ≡ 1 = div_self (pow_pos k) in eq-eqb (2 ^ k / 2 ^ k % 2) 1 (omega arith)

mod-next : (c n : ℕ) → c % 2 ^ suc n ≡ (c / 2 ^ n % 2) * 2 ^ n + c % 2 ^ n
mod-next c n = ap (λ k. c % 2 ^ k) (omega arith) ∙ mod-pow-add c 1 n

pub mod-filled : (c n : ℕ) → filled c n ≡ true → c % 2 ^ suc n ≡ 2 ^ n + c % 2 ^ n
unfolding filled
mod-filled c n e = mod-next c n ∙ rw (eqb-true (c / 2 ^ n % 2) 1 e) (omega arith)

pub mod-empty : (c n : ℕ) → filled c n ≡ false → c % 2 ^ suc n ≡ c % 2 ^ n
unfolding filled
mod-empty c n e = let z : c / 2 ^ n % 2 ≡ 0 = zero_of (eqb-false (c / 2 ^ n % 2) 1 e) in mod-next c n ∙ rw z (omega arith)
  where
    zero_of : (c / 2 ^ n % 2 ≡ 1 → ⊥) → c / 2 ^ n % 2 ≡ 0
    zero_of k = omega arith

-- the filled ones among the lowest n levels hold as many blocks as the counter's lowest n bits say
pub capacity-down : (c n : ℕ) → capacity (keep (filled c) (down n)) ≡ c % 2 ^ n
unfolding down
capacity-down c zero = unfold keep capacity in (omega arith)
capacity-down c (suc n) = go (filled c n) refl (capacity-down c n)
  where
    go : (t : Bool) → filled c n ≡ t → capacity (keep (filled c) (down n)) ≡ c % 2 ^ n → capacity (keep (filled c) (n ∷ down n)) ≡ c % 2 ^ suc n
    go true e ih = rw (keep-yes (filled c) n (down n) e) (unfold capacity in (omega (arith, mod-filled c n e)))
    go false e ih = rw (keep-no (filled c) n (down n) e) (ih ∙ sym (mod-empty c n e))

-- levels have twice as many slots as they hold blocks
pub slots-capacity : (ls : List ℕ) → slot_count ls ≡ 2 * capacity ls
unfolding slot_count capacity
slots-capacity [] = omega arith
slots-capacity (ℓ ∷ ls) = omega (arith, slots-capacity ls, two)
  where
    two : 2 ^ (ℓ + 1) ≡ 2 * 2 ^ ℓ
    two = let e : ℓ + 1 ≡ suc ℓ = omega arith in rw e (omega arith)

pub slots-down : (c n : ℕ) → slot_count (keep (filled c) (down n)) ≡ 2 * (c % 2 ^ n)
slots-down c n = slots-capacity (keep (filled c) (down n)) ∙ ap (λ k. 2 * k) (capacity-down c n)

module _ (c k n : ℕ) where
  here : filled c k ≡ true → slots_at c k ≡ slots k
  unfolding filled
  here e = rw (eqb-true (c / 2 ^ k % 2) 1 e) (omega arith)

  not-here : filled c k ≡ false → slots_at c k ≡ 0
  unfolding filled
  not-here e = let z : c / 2 ^ k % 2 ≡ 0 = zero_of (eqb-false (c / 2 ^ k % 2) 1 e) in rw z (omega arith)
    where
      zero_of : (c / 2 ^ k % 2 ≡ 1 → ⊥) → c / 2 ^ k % 2 ≡ 0
      zero_of k = omega arith

  pub write-here : n < slots_at c k → write_at (keep (filled c) (down (suc k))) n ≡ some (k, n)
  unfolding down
  write-here l = go (filled c k) refl
    where
      go : (t : Bool) → filled c k ≡ t → write_at (keep (filled c) (k ∷ down k)) n ≡ some (k, n)
      go true e = rw (keep-yes (filled c) k (down k) e) (unfold write_at in (rw (lt-ltb n (slots k) (rw (here e) at l))))
      go false e = absurd (omega (arith, l, not-here e))

  pub write-later : slots_at c k ≤ n → write_at (keep (filled c) (down (suc k))) n ≡ write_at (keep (filled c) (down k)) (n - slots_at c k)
  unfolding down
  write-later l = go (filled c k) refl
    where
      go : (t : Bool) → filled c k ≡ t → write_at (keep (filled c) (k ∷ down k)) n ≡ write_at (keep (filled c) (down k)) (n - slots_at c k)
      go true e = rw (keep-yes (filled c) k (down k) e) (unfold write_at in (rw (le-ltb n (slots k) (rw (here e) at l), here e)))
      go false e = rw (keep-no (filled c) k (down k) e) (ap (write_at (keep (filled c) (down k))) (let z = not-here e in omega arith))

pub write-none : (c n : ℕ) → write_at (keep (filled c) (down 0)) n ≡ none
unfolding down keep write_at
write-none c n = refl
