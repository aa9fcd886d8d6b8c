-- Tests: truth values, and what follows from a test's answer.
use Rattle.std.specs.Prelude.{◌≡◌, refl, Bool, true, false, not, ◌&&◌, ◌||◌, ◌⊎◌, List, [], ◌∷◌, ℕ, leb}
use Rattle.std.proofs.Common.{sym, true≢false, inl, inr}

-- all tests pass
unfoldable pub every : List Bool → Bool
every [] = true
every (t ∷ ts) = t && every ts

unfoldable pub between : ℕ → ℕ → ℕ → Bool
between a z x = leb a x && leb x z

pub and_l : (a b : Bool) → (a && b) ≡ true → a ≡ true
and_l true b h = refl
and_l false b h = absurd (true≢false (sym h))

pub and_r : (a b : Bool) → (a && b) ≡ true → b ≡ true
and_r true b h = h
and_r false b h = absurd (true≢false (sym h))

pub and-true : {a b : Bool} → a ≡ true → b ≡ true → (a && b) ≡ true
and-true p q = rw (p, q)

pub and-false : (a : Bool) {b : Bool} → b ≡ false → (a && b) ≡ false
and-false true e = e
and-false false e = refl

pub or-true : (a b : Bool) → (a || b) ≡ true → (a ≡ true) ⊎ (b ≡ true)
or-true true b h = inl refl
or-true false b h = inr h

pub or_left : (a b : Bool) → a ≡ true → (a || b) ≡ true
or_left a b e = rw e

pub or_right : (a b : Bool) → b ≡ true → (a || b) ≡ true
or_right true b h = refl
or_right false b h = h

pub or-false-l : (a b : Bool) → (a || b) ≡ false → a ≡ false
or-false-l true b h = absurd (true≢false h)
or-false-l false b h = refl

pub or-false-r : (a b : Bool) → (a || b) ≡ false → b ≡ false
or-false-r true b h = absurd (true≢false h)
or-false-r false b h = h

pub not-true : (t : Bool) → not t ≡ true → t ≡ false
not-true false h = refl
not-true true h = absurd (true≢false (sym h))

-- two tests that imply each other have one answer
pub both_true : (a b : Bool) → (a ≡ true → b ≡ true) → (b ≡ true → a ≡ true) → a ≡ b
both_true true b f g = sym (f refl)
both_true false true f g = g refl
both_true false false f g = refl

-- all tests of a list that is written out pass
abbrev pub Yes : List Bool → Type 0
Yes [] = Unit {0}
Yes (t ∷ ts) = (t ≡ true) × Yes ts

pub every-yes : (ts : List Bool) → every ts ≡ true → Yes ts
unfolding every
every-yes [] h = tt
every-yes (t ∷ ts) h = (and_l t (every ts) h, every-yes ts (and_r t (every ts) h))

pub yes-every : (ts : List Bool) → Yes ts → every ts ≡ true
unfolding every
yes-every [] h = refl
yes-every (t ∷ ts) h = and-true h.0 (yes-every ts h.1)
