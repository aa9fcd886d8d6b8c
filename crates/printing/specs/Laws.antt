-- How long the texts are, and that the digits of a number say it.
use Rattle.std.specs.Prelude.{◌≡◌, refl, List, [], ◌∷◌, ◌++◌, ℕ, zero, suc, ◌+◌, ◌-◌, ◌*◌, ◌^◌, ◌/◌, ◌%◌, ◌≤◌, ◌<◌, length, get_or}
use Rattle.std.proofs.Common.{sym, ap, ◌∙◌, length-append, lt-ltb, le-ltb}
use native.Mathlib.Omega.{arith}
use Rattle.std.proofs.Math.Decide.{dec_lt}
use Rattle.rules.specs.State.{Command}
use Rattle.printing.specs.Text.{digit_of, digits_of, decimal, hexadecimal, further, number_text, command_text, contents_text}

-- ---- Digits

pub digit_low : (d : ℕ) → d < 10 → digit_of d ≡ 48 + d
unfolding digit_of
digit_low d h = rw (lt-ltb d 10 h)

pub digit-high : (d : ℕ) → 10 ≤ d → digit_of d ≡ 87 + d
unfolding digit_of
digit-high d h = rw (le-ltb d 10 h)

pub digits-one : (k n : ℕ) → n < 10 → digits_of (suc k) n ≡ digit_of n ∷ []
unfolding digits_of
digits-one k n h = rw (lt-ltb n 10 h, digits_of)

pub digits_more : (k n : ℕ) → 10 ≤ n → digits_of (suc k) n ≡ digits_of k (n / 10) ++ (digit_of (n % 10) ∷ [])
unfolding digits_of
digits_more k n h = rw (le-ltb n 10 h, digits_of)

-- a digit more says no more of a number that has all its digits
enough : (k n : ℕ) → n < 10 ^ suc k → digits_of (suc k) n ≡ digits_of (suc (suc k)) n
enough zero n h = digits-one 0 n h ∙ sym (digits-one 1 n h)
enough (suc k) n h = go (dec_lt n 10) (enough k (n / 10) (omega arith))
  where
    go : Dec (n < 10) → digits_of (suc k) (n / 10) ≡ digits_of (suc (suc k)) (n / 10) → digits_of (suc (suc k)) n ≡ digits_of (suc (suc (suc k))) n
    go (yes l) e = digits-one (suc k) n l ∙ sym (digits-one (suc (suc k)) n l)
    go (no l) e = digits_more (suc k) n (omega arith) ∙ ap (λ (t : List ℕ). t ++ (digit_of (n % 10) ∷ [])) e ∙ sym (digits_more (suc (suc k)) n (omega arith))

pub decimal-one : (n : ℕ) → n < 10 → decimal n ≡ digit_of n ∷ []
unfolding decimal
decimal-one n h = digits-one 4 n h

pub decimal-more : (n : ℕ) → 10 ≤ n → n < 100000 → decimal n ≡ decimal (n / 10) ++ (digit_of (n % 10) ∷ [])
unfolding decimal
decimal-more n l h = digits_more 4 n l ∙ ap (λ (t : List ℕ). t ++ (digit_of (n % 10) ∷ [])) (enough 3 (n / 10) (omega arith))

pub decimal-0 : decimal 0 ≡ 48 ∷ []
unfolding decimal digits_of digit_of
decimal-0 = refl

pub hexadecimal-more : (xs : List ℕ) (b : ℕ) → hexadecimal (xs ++ (b ∷ [])) ≡ hexadecimal xs ++ (digit_of (b / 16) ∷ digit_of (b % 16) ∷ [])
unfolding hexadecimal
hexadecimal-more [] b = refl
hexadecimal-more (x ∷ xs) b = rw (hexadecimal-more xs b)

-- ---- Lengths

digits_le : (k n : ℕ) → length (digits_of k n) ≤ k
digits_le zero n = unfold digits_of in omega arith
digits_le (suc k) n = go (dec_lt n 10) (digits_le k (n / 10))
  where
    go : Dec (n < 10) → length (digits_of k (n / 10)) ≤ k → length (digits_of (suc k) n) ≤ suc k
    go (yes l) e = rw (digits-one k n l) (omega arith)
    go (no l) e = rw (digits_more k n (omega arith), length-append) (omega arith)

pub decimal-le : (n : ℕ) → length (decimal n) ≤ 5
unfolding decimal
decimal-le n = digits_le 5 n

pub hexadecimal-length : (xs : List ℕ) → length (hexadecimal xs) ≡ 2 * length xs
unfolding hexadecimal
hexadecimal-length [] = refl
hexadecimal-length (x ∷ xs) = omega (arith, hexadecimal-length xs)

pub number-le : (n : ℕ) → length (number_text n) ≤ 6
unfolding number_text further
number-le n = rw length-append (omega (arith, decimal-le n))

pub command-le : (c : Command) → length (command_text c) ≤ 22
unfolding command_text further
command-le c =
    simp (decimal-0, length-append)
    (omega (arith, decimal-le c.partition, decimal-le c.level, decimal-le c.slot))

-- the longest text of a line: a number, a blank, 512 pairs and the newline
abbrev pub text_room : ℕ
text_room = 1027

pub contents-length : (xs : List ℕ) → length (contents_text xs) ≡ 3 + 2 * length xs
unfolding contents_text further
contents-length xs = simp (decimal-0, length-append) (omega (arith, hexadecimal-length xs))

pub contents-le : (xs : List ℕ) → length xs ≤ 512 → length (contents_text xs) ≤ text_room
contents-le xs h = omega (arith, contents-length xs)

-- ---- The digits of a number, read one by one, say it, and the first is no needless zero

unfoldable pub value_of : ℕ → List ℕ → ℕ
value_of n [] = n
value_of n (d ∷ ds) = value_of (10 * n + (d - 48)) ds

value-one : (d : ℕ) → value_of 0 (d ∷ []) ≡ d - 48
unfolding value_of
value-one d = omega arith

value-more : (n d : ℕ) (ds : List ℕ) → value_of n (ds ++ (d ∷ [])) ≡ 10 * value_of n ds + (d - 48)
unfolding value_of
value-more n d [] = refl
value-more n d (x ∷ ds) = value-more (10 * n + (x - 48)) d ds

value-digits : (k n : ℕ) → n < 10 ^ k → value_of 0 (digits_of k n) ≡ n
value-digits zero n h = unfold value_of digits_of in omega arith
value-digits (suc k) n h = go (dec_lt n 10) (value-digits k (n / 10) (omega arith))
  where
    go : Dec (n < 10) → value_of 0 (digits_of k (n / 10)) ≡ n / 10 → value_of 0 (digits_of (suc k) n) ≡ n
    go (yes l) e = rw (digits-one k n l, value-one (digit_of n), digit_low n l) (omega arith)
    go (no l) e = rw (digits_more k n (omega arith), value-more 0 (digit_of (n % 10)) (digits_of k (n / 10)), digit_low (n % 10) (omega arith), e) (omega arith)

pub decimal-value : (n : ℕ) → n < 100000 → value_of 0 (decimal n) ≡ n
unfolding decimal
decimal-value n h = value-digits 5 n h

first-stays : (xs ys : List ℕ) → 49 ≤ get_or xs 0 0 → get_or (xs ++ ys) 0 0 ≡ get_or xs 0 0
first-stays [] ys h = absurd (omega arith)
first-stays (x ∷ xs) ys h = refl

digits-first : (k n : ℕ) → 1 ≤ n → n < 10 ^ k → 49 ≤ get_or (digits_of k n) 0 0
digits-first zero n p h = absurd (omega arith)
digits-first (suc k) n p h = go (dec_lt n 10) (λ q. digits-first k (n / 10) q (omega arith))
  where
    go : Dec (n < 10) → (1 ≤ n / 10 → 49 ≤ get_or (digits_of k (n / 10)) 0 0) → 49 ≤ get_or (digits_of (suc k) n) 0 0
    go (yes l) e = rw (digits-one k n l, digit_low n l) (omega arith)
    go (no l) e =
        let f : 49 ≤ get_or (digits_of k (n / 10)) 0 0 = e (omega arith) in
        rw (digits_more k n (omega arith), first-stays (digits_of k (n / 10)) (digit_of (n % 10) ∷ []) f) f

pub decimal-first : (n : ℕ) → 1 ≤ n → n < 100000 → 49 ≤ get_or (decimal n) 0 0
unfolding decimal
decimal-first n p h = digits-first 5 n p h
