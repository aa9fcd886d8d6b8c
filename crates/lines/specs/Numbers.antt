-- Numbers and contents, digit by digit and field by field.
use Rattle.std.specs.Prelude.{◌≡◌, Bool, true, false, not, List, [], ◌∷◌, ◌++◌, ℕ, zero, suc, ◌+◌, ◌-◌, ◌*◌, ◌≤◌, ◌<◌, length, get_or, drop, eqb, leb, Option, None, Some}
use Rattle.std.proofs.Math.Path.{refl}
use Rattle.std.proofs.Common.{ap, sym, ◌∙◌, append-nil, append_assoc, arith, length-append, drop_of_length-le, drop-cons}
use Rattle.std.proofs.Math.Numerals.{add-one}
use Rattle.std.proofs.Math.Decide.{ℕ_discrete, dec_lt}
use Rattle.std.proofs.lemmas.Option.{none-some, same_Some}
use borrow.Author.Tests.{le-leb, lt-leb, eq-eqb, ne_eqb}
use Rattle.lists.specs.Tests.{between, and-false}
use Rattle.lines.specs.Said.{exactly}
use Rattle.lines.specs.Lines.{at_most, digit, digits, begins, number, numbers, also, up_to, hex_digit}

-- ---- Bounds

-- a number within the bound is there
pub most-in : (m v : ℕ) → v ≤ m → at_most m (Some v) ≡ Some v
unfolding at_most
most-in m v h = rw (le-leb v m h)

-- one above it is not
pub most-out : (m v : ℕ) → m < v → at_most m (Some v) ≡ None
unfolding at_most
most-out m v h = rw (lt-leb v m h)

-- none is none within any bound
pub most-none : (m : ℕ) → at_most m None ≡ None
unfolding at_most
most-none m = refl

-- a list within the bound is there
pub up_in : (n : ℕ) (vs : List ℕ) → length vs ≤ n → up_to n (Some vs) ≡ Some vs
unfolding up_to
up_in n vs h = rw (le-leb (length vs) n h)

-- none is none within any bound
pub up_none : (n : ℕ) → up_to n None ≡ None
unfolding up_to
up_none n = refl

-- a longer one is not
pub up-out : (n : ℕ) (vs : List ℕ) → n < length vs → up_to n (Some vs) ≡ None
unfolding up_to
up-out n vs h = rw (lt-leb (length vs) n h)

module _ (a z x : ℕ) where
  -- x lies between a and z
  pub between_in : a ≤ x → x ≤ z → between a z x ≡ true
  unfolding between
  between_in h k = rw (le-leb a x h, le-leb x z k)

  -- x lies below a
  pub between-low : x < a → between a z x ≡ false
  unfolding between
  between-low h = rw (lt-leb a x h)

  -- x lies above z
  pub between-high : z < x → between a z x ≡ false
  unfolding between
  between-high h = and-false (leb a x) (lt-leb x z h)

-- ---- Digits

module _ (x : ℕ) where
  -- a byte from 0 to 9
  pub digit-in : 48 ≤ x → x ≤ 57 → digit x ≡ Some (x - 48)
  unfolding digit
  digit-in h k = rw (between_in 48 57 x h k)

  -- a byte below 0
  pub digit_low : x < 48 → digit x ≡ None
  unfolding digit
  digit_low h = rw (between-low 48 57 x h)

  -- a byte above 9
  pub digit-high : 57 < x → digit x ≡ None
  unfolding digit
  digit-high h = rw (between-high 48 57 x h)

  -- a byte from a to f
  pub hex-in : 97 ≤ x → x ≤ 102 → hex_digit x ≡ Some (x - 87)
  unfolding hex_digit
  hex-in h k = rw (between_in 97 102 x h k)

  -- a byte below a
  pub hex-low : x < 97 → hex_digit x ≡ digit x
  unfolding hex_digit
  hex-low h = rw (between-low 97 102 x h)

  -- a byte above f
  pub hex-high : 102 < x → hex_digit x ≡ digit x
  unfolding hex_digit
  hex-high h = rw (between-high 97 102 x h)

module _ (v : ℕ) (s : List ℕ) (i : ℕ) where
  -- a digit more
  pub digits_more : (d : ℕ) → i < length s → digit (get_or s i 0) ≡ Some d → digits v (drop i s) ≡ digits (v * 10 + d) (drop (i + 1) s)
  unfolding digits
  digits_more d h e = rw (drop-cons s i 0 h, e, digits, add-one i)

  -- a byte that is no digit
  pub digits-not : i < length s → digit (get_or s i 0) ≡ None → digits v (drop i s) ≡ None
  unfolding digits
  digits-not h e = rw (drop-cons s i 0 h, e, digits)

  -- no more
  pub digits-end : length s ≤ i → digits v (drop i s) ≡ Some v
  unfolding digits
  digits-end h = rw (drop_of_length-le s h)

-- digits behind a number that is too large say none that is not
pub digits-large : (m v : ℕ) (xs : List ℕ) → m < v → at_most m (digits v xs) ≡ None
unfolding digits
digits-large m v [] h = most-out m v h
digits-large m v (x ∷ xs) h = go (digit x) refl (λ d. digits-large m (v * 10 + d) xs (omega arith))
  where
    go : (o : Option ℕ) → digit x ≡ o → ((d : ℕ) → at_most m (digits (v * 10 + d) xs) ≡ None) → at_most m (digits v (x ∷ xs)) ≡ None
    go None e ih = rw (e, digits) (most-none m)
    go (Some d) e ih = rw (e, digits) (ih d)

-- ---- Lists, an element at a time

-- a list behind the elements xs
unfoldable pub behind : List ℕ → Option (List ℕ) → Option (List ℕ)
behind xs None = None
behind xs (Some ys) = Some (xs ++ ys)

-- behind nothing
pub behind-none : (o : Option (List ℕ)) → behind [] o ≡ o
unfolding behind
behind-none None = refl
behind-none (Some ys) = refl

-- nothing behind xs
pub behind-all : (xs : List ℕ) → behind xs (Some []) ≡ Some xs
unfolding behind
behind-all xs = ap Some (append-nil xs)

-- an element more in front
pub behind_more : (xs : List ℕ) (v : ℕ) (o : Option (List ℕ)) → behind xs (also (Some v) o) ≡ behind (xs ++ (v ∷ [])) o
unfolding behind also
behind_more xs v None = refl
behind_more xs v (Some ys) = ap Some (sym (append_assoc xs (v ∷ []) ys))

-- an element that is none
pub behind-not : (xs : List ℕ) (o : Option (List ℕ)) → behind xs (also None o) ≡ None
unfolding behind also
behind-not xs o = refl

-- one more than the bound allows
pub behind-over : (n : ℕ) (xs : List ℕ) (a : Option ℕ) (o : Option (List ℕ)) → n ≤ length xs → up_to n (behind xs (also a o)) ≡ None
unfolding behind also up_to
behind-over n xs None o h = refl
behind-over n xs (Some v) None h = refl
behind-over n xs (Some v) (Some vs) h = up-out n (xs ++ (v ∷ vs)) (omega (arith, length-append xs (v ∷ vs)))

-- ---- Lists of just so many

-- a list of n elements is there
pub exactly_in : (n : ℕ) (vs : List ℕ) → length vs ≡ n → exactly n (Some vs) ≡ Some vs
unfolding exactly
exactly_in n vs h = rw (eq-eqb (length vs) n h)

-- another is not
pub exactly-out : (n : ℕ) (vs : List ℕ) → (length vs ≡ n → ⊥) → exactly n (Some vs) ≡ None
unfolding exactly
exactly-out n vs h = rw (ne_eqb (length vs) n h)

-- none is none of any length
pub exactly_none : (n : ℕ) → exactly n None ≡ None
unfolding exactly
exactly_none n = refl

-- one more than n
pub exactly-over : (n : ℕ) (xs : List ℕ) (a : Option ℕ) (o : Option (List ℕ)) → n ≤ length xs → exactly n (behind xs (also a o)) ≡ None
unfolding behind also exactly
exactly-over n xs None o h = refl
exactly-over n xs (Some v) None h = refl
exactly-over n xs (Some v) (Some vs) h = exactly-out n (xs ++ (v ∷ vs)) (λ e. omega (arith, length-append xs (v ∷ vs)))

-- what there is of just n elements is there
pub exactly-is : (n : ℕ) (o : Option (List ℕ)) (vs : List ℕ) → Some vs ≡ exactly n o → (o ≡ Some vs) × (length vs ≡ n)
unfolding exactly
exactly-is n None vs e = absurd (none-some vs (sym e))
exactly-is n (Some ws) vs e = go (ℕ_discrete (length ws) n)
  where
    go : Dec (length ws ≡ n) → (Some ws ≡ Some vs) × (length vs ≡ n)
    go (yes h) = let s : Some vs ≡ Some ws = e ∙ exactly_in n ws h in (sym s, ap length (same_Some vs ws s) ∙ h)
    go (no h) = absurd (none-some vs (sym (e ∙ exactly-out n ws h)))

-- ---- Numbers are small

-- a digit is below 10
pub digit-small : (x d : ℕ) → digit x ≡ Some d → d < 10
digit-small x d e = go (dec_lt x 48) (dec_lt 57 x)
  where
    go : Dec (x < 48) → Dec (57 < x) → d < 10
    go (yes l) u = absurd (none-some d (sym (digit_low x l) ∙ e))
    go (no l) (yes u) = absurd (none-some d (sym (digit-high x u) ∙ e))
    go (no l) (no u) = omega (arith, same_Some _ _ (sym (digit-in x (omega arith) (omega arith)) ∙ e))

-- a hexadecimal digit is below 16
pub hex-small : (x h : ℕ) → hex_digit x ≡ Some h → h < 16
hex-small x h e = go (dec_lt x 97) (dec_lt 102 x)
  where
    low : hex_digit x ≡ digit x → h < 16
    low p = omega (arith, digit-small x h (sym p ∙ e))

    go : Dec (x < 97) → Dec (102 < x) → h < 16
    go (yes l) u = low (hex-low x l)
    go (no l) (yes u) = low (hex-high x u)
    go (no l) (no u) = omega (arith, same_Some _ _ (sym (hex-in x (omega arith) (omega arith)) ∙ e))

-- fewer than two digits
pub begins-short : (s : List ℕ) → length s < 2 → begins s ≡ eqb (length s) 1
unfolding begins
begins-short [] h = refl
begins-short (x ∷ []) h = refl
begins-short (x ∷ y ∷ ys) h = absurd (omega arith)

-- two digits or more
pub begins-long : (s : List ℕ) → 1 < length s → begins s ≡ not (eqb (get_or s 0 0) 48)
unfolding begins
begins-long [] h = absurd (omega arith)
begins-long (x ∷ []) h = absurd (omega arith)
begins-long (x ∷ y ∷ ys) h = refl

-- what begins as a number is one if its digits say one
pub number_in : (s : List ℕ) → begins s ≡ true → number s ≡ at_most 65535 (digits 0 s)
unfolding number
number_in s e = rw e

-- what does not is none
pub number-not : (s : List ℕ) → begins s ≡ false → number s ≡ None
unfolding number
number-not s e = rw e

-- a number within a bound is at most that
most-small : (m : ℕ) (o : Option ℕ) (v : ℕ) → at_most m o ≡ Some v → v ≤ m
most-small m None v e = absurd (none-some v (sym (most-none m) ∙ e))
most-small m (Some w) v e = go (dec_lt m w)
  where
    go : Dec (m < w) → v ≤ m
    go (yes l) = absurd (none-some v (sym (most-out m w l) ∙ e))
    go (no l) = omega (arith, same_Some _ _ (sym (most-in m w (omega arith)) ∙ e))

-- a number is below 65,536
pub number-small : (s : List ℕ) (v : ℕ) → number s ≡ Some v → v < 65536
number-small s v e = go (begins s) refl
  where
    go : (b : Bool) → begins s ≡ b → v < 65536
    go true p = omega (arith, most-small 65535 (digits 0 s) v (sym (number_in s p) ∙ e))
    go false p = absurd (none-some v (sym (number-not s p) ∙ e))

-- so is each of several
pub numbers-small : (fs : List (List ℕ)) (vs : List ℕ) → numbers fs ≡ Some vs → (i : ℕ) → get_or vs i 0 < 65536
unfolding numbers also
numbers-small [] vs e i = let n : [] ≡ vs = same_Some _ _ e in rw (sym n) (zero-small i)
  where
    zero-small : (i : ℕ) → get_or [] i 0 < 65536
    zero-small i = omega arith
numbers-small (f ∷ fs) vs e i = go (number f) refl (numbers fs) refl e (numbers-small fs) i
  where
    go : (a : Option ℕ) → number f ≡ a → (o : Option (List ℕ)) → numbers fs ≡ o → also a o ≡ Some vs → ((ws : List ℕ) → numbers fs ≡ Some ws → (i : ℕ) → get_or ws i 0 < 65536) → (i : ℕ) → get_or vs i 0 < 65536
    go None p o q e ih i = absurd (none-some vs e)
    go (Some v) p None q e ih i = absurd (none-some vs e)
    go (Some v) p (Some ws) q e ih i = let n : v ∷ ws ≡ vs = same_Some _ _ e in rw (sym n) (each i)
      where
        each : (i : ℕ) → get_or (v ∷ ws) i 0 < 65536
        each zero = number-small f v p
        each (suc i) = ih ws q i
