-- A line that does not fit into its buffer says nothing: it is malformed, and no tape.
use Rattle.std.specs.Prelude.{◌≡◌, Bool, List, [], ◌∷◌, ℕ, suc, ◌+◌, ◌-◌, ◌*◌, ◌≤◌, ◌<◌, length, Option, None, Some}
use Rattle.std.proofs.Math.Path.{refl}
use Rattle.std.proofs.Common.{sym, ◌∙◌, arith}
use Rattle.std.proofs.Math.Bool.{true, false}
use Rattle.std.proofs.Math.Decide.{ℕ_discrete, dec_lt, dec_le}
use Rattle.std.proofs.Math.Dec.{eqb}
use borrow.Author.Tests.{eq-eqb, ne_eqb, eqb-true}
use Rattle.lines.specs.Lines.{Line, malformed, front, fields, letter, others, at_most, digit, digits, begins, number, also, numbers, up_to, pair, hex_digit, pairs, contents, opened, read, stored, written, bare, by_letter, line_of, tape_of, most_words, contents_room}
use Rattle.lines.specs.Numbers.{most-none, up_none, up-out, digit-in, digit_low, digit-high, digits-large, number_in, number-not}
use Rattle.stream.specs.Stream.{line_room}

-- the longest tape behind its letter: 8,192 numbers of five digits, each with a blank
abbrev tape_width : ℕ
tape_width = most_words * 6

-- the bytes of fields, with one for each that parts it from the next
unfoldable width : List (List ℕ) → ℕ
width [] = 0
width (f ∷ fs) = suc (length f + width fs)

fields-width : (l : List ℕ) → width (fields l) ≡ suc (length l)
unfolding width fields front
fields-width [] = refl
fields-width (x ∷ xs) = go (eqb x 32) refl (fields-width xs)
  where
    fronted : (fs : List (List ℕ)) → width fs ≡ suc (length xs) → width (front x fs) ≡ suc (suc (length xs))
    fronted [] h = absurd (omega arith)
    fronted (f ∷ fs) h = omega arith

    go : (t : Bool) → eqb x 32 ≡ t → width (fields xs) ≡ suc (length xs) → width (fields (x ∷ xs)) ≡ suc (suc (length xs))
    go true e h = rw (e, fields) (omega arith)
    go false e h = rw (e, fields) (fronted (fields xs) h)

-- a letter is one byte
letter-width : (fs : List (List ℕ)) → (letter fs ≡ 32 → ⊥) → width fs ≡ 2 + width (others fs)
unfolding width letter others
letter-width [] n = absurd (n refl)
letter-width ([] ∷ fs) n = absurd (n refl)
letter-width ((x ∷ []) ∷ fs) n = omega arith
letter-width ((x ∷ y ∷ ys) ∷ fs) n = absurd (n refl)

-- ---- A number has at most five digits

-- one digit more
more : (v x : ℕ) (xs : List ℕ) → ((d : ℕ) → digit x ≡ Some d → at_most 65535 (digits (v * 10 + d) xs) ≡ None) → at_most 65535 (digits v (x ∷ xs)) ≡ None
unfolding digits
more v x xs f = go (digit x) refl
  where
    go : (o : Option ℕ) → digit x ≡ o → at_most 65535 (digits v (x ∷ xs)) ≡ None
    go None e = rw (e, digits) (most-none 65535)
    go (Some d) e = rw (e, digits) (f d e)

-- a digit that is no zero says at least 1
digit-some : (x d : ℕ) → digit x ≡ Some d → (x ≡ 48 → ⊥) → 1 ≤ d
digit-some x d e n = go (dec_lt x 48) (dec_lt 57 x)
  where
    go : Dec (x < 48) → Dec (57 < x) → 1 ≤ d
    go (yes l) u = absurd (let p = digit_low x l in let z : ◌≡◌ {A = ℕ} 0 1 = cc in omega arith)
    go (no l) (yes u) = absurd (let p = digit-high x u in let z : ◌≡◌ {A = ℕ} 0 1 = cc in omega arith)
    go (no l) (no u) =
        let p = digit-in x (omega arith) (omega arith) in
        let q : d ≡ x - 48 = cc in
        omega arith

-- six digits, of which the first is no zero, say more than 65,535
number-long : (f : List ℕ) → 5 < length f → number f ≡ None
unfolding begins
number-long [] h = absurd (omega arith)
number-long (x ∷ []) h = absurd (omega arith)
number-long (x ∷ a ∷ []) h = absurd (omega arith)
number-long (x ∷ a ∷ b ∷ []) h = absurd (omega arith)
number-long (x ∷ a ∷ b ∷ c ∷ []) h = absurd (omega arith)
number-long (x ∷ a ∷ b ∷ c ∷ d ∷ []) h = absurd (omega arith)
number-long (x ∷ a ∷ b ∷ c ∷ d ∷ e ∷ xs) h = go (ℕ_discrete x 48)
  where
    go : Dec (x ≡ 48) → number (x ∷ a ∷ b ∷ c ∷ d ∷ e ∷ xs) ≡ None
    go (yes z) = number-not _ (rw (eq-eqb x 48 z))
    go (no z) =
        number_in _ (rw (ne_eqb x 48 z))
        ∙ more 0 x _ (λ u p. let q = digit-some x u p z in
        more _ a _ (λ a' _. more _ b _ (λ b' _. more _ c _ (λ c' _. more _ d _ (λ d' _. more _ e _ (λ e' _. digits-large 65535 _ xs (omega arith)))))))

number_short : (f : List ℕ) (v : ℕ) → number f ≡ Some v → length f ≤ 5
number_short f v p = elim (dec_le (length f) 5) [ yes l ↦ l | no l ↦ absurd (let q = number-long f (omega arith) in let z : ◌≡◌ {A = ℕ} 0 1 = cc in omega arith) ]

-- ---- A list of numbers

-- if there is a list, n bytes are at most m for each of its numbers
abbrev Within : ℕ → ℕ → Option (List ℕ) → Type 0
Within m n None = Unit {0}
Within m n (Some vs) = n ≤ m * length vs

-- a number has five digits, and one byte parts it from the next
numbers-within : (fs : List (List ℕ)) → Within 6 (width fs) (numbers fs)
unfolding width numbers also
numbers-within [] = omega arith
numbers-within (f ∷ fs) = go (number f) refl (numbers fs) (numbers-within fs)
  where
    go : (a : Option ℕ) → number f ≡ a → (o : Option (List ℕ)) → Within 6 (width fs) o → Within 6 (width (f ∷ fs)) (also a o)
    go None p o h = tt
    go (Some v) p None h = tt
    go (Some v) p (Some vs) h = omega (arith, number_short f v p)

-- a byte of contents has two digits
pairs-within : (g : List ℕ) → Within 2 (length g) (pairs g)
unfolding pairs also
pairs-within [] = omega arith
pairs-within (x ∷ []) = tt
pairs-within (x ∷ y ∷ ys) = go (pair (hex_digit x) (hex_digit y)) (pairs ys) (pairs-within ys)
  where
    go : (a : Option ℕ) (o : Option (List ℕ)) → Within 2 (length ys) o → Within 2 (length (x ∷ y ∷ ys)) (also a o)
    go None o h = tt
    go (Some v) None h = tt
    go (Some v) (Some vs) h = omega arith

-- too many bytes for n numbers
up-long : (m n k : ℕ) (o : Option (List ℕ)) → Within m k o → ((i : ℕ) → i ≤ n → k ≤ m * i → ⊥) → up_to n o ≡ None
up-long m n k None w f = up_none n
up-long m n k (Some vs) w f = elim (dec_le (length vs) n) [ yes l ↦ absurd (f (length vs) l w) | no l ↦ up-out n vs (omega arith) ]

contents-long : (g : List ℕ) → 2048 < length g → contents g ≡ None
unfolding contents
contents-long [] h = refl
contents-long (x ∷ xs) h = up-long 2 contents_room _ (pairs (x ∷ xs)) (pairs-within (x ∷ xs)) (λ i l w. omega arith)

-- ---- Whole lines

opened-long : (n : ℕ) (o : Option (List ℕ)) → Within 6 n o → tape_width < n → opened o ≡ malformed
unfolding opened
opened-long n None w h = refl
opened-long n (Some vs) w h = rw (ne_eqb (length vs) 6 (λ z. omega arith))

read-long : (n : ℕ) (o : Option (List ℕ)) → Within 6 n o → tape_width < n → read o ≡ malformed
unfolding read
read-long n None w h = refl
read-long n (Some vs) w h = rw (ne_eqb (length vs) 1 (λ z. omega arith))

bare-long : (l : Line) (fs : List (List ℕ)) → tape_width < width fs → bare l fs ≡ malformed
unfolding bare width
bare-long l [] h = absurd (omega arith)
bare-long l (f ∷ fs) h = refl

written-long : (fs : List (List ℕ)) → tape_width < width fs → written fs ≡ malformed
unfolding written width stored
written-long [] h = refl
written-long (f ∷ []) h = refl
written-long (f ∷ g ∷ []) h = go (dec_le (length f) 5)
  where
    either : (a : Option ℕ) → stored a None ≡ malformed
    either None = refl
    either (Some b) = refl

    go : Dec (length f ≤ 5) → stored (number f) (contents g) ≡ malformed
    go (yes l) = rw (contents-long g (omega arith)) (either (number f))
    go (no l) = rw (number-long f (omega arith))
written-long (f ∷ g ∷ k ∷ ks) h = refl

-- if the letter is no blank, more bytes are behind it than any line has there
letter-long : (x : ℕ) (fs : List (List ℕ)) → ((x ≡ 32 → ⊥) → tape_width < width fs) → by_letter x fs ≡ malformed
unfolding by_letter
letter-long x fs h = go (eqb x 79) (eqb x 82) (eqb x 87) (eqb x 116) (eqb x 67) refl refl refl refl refl
  where
    is : (y : ℕ) → eqb x y ≡ true → (y ≡ 32 → ⊥) → tape_width < width fs
    is y e n = h (λ z. n (sym (eqb-true x y e) ∙ z))

    go : (a b c d e : Bool) → eqb x 79 ≡ a → eqb x 82 ≡ b → eqb x 87 ≡ c → eqb x 116 ≡ d → eqb x 67 ≡ e → by_letter x fs ≡ malformed
    go true b c d e p q r s t = rw p (opened-long _ (numbers fs) (numbers-within fs) (is 79 p (λ z. omega arith)))
    go false true c d e p q r s t = rw (p, q) (read-long _ (numbers fs) (numbers-within fs) (is 82 q (λ z. omega arith)))
    go false false true d e p q r s t = rw (p, q, r) (written-long fs (is 87 r (λ z. omega arith)))
    go false false false true e p q r s t = rw (p, q, r, s) (bare-long _ fs (is 116 s (λ z. omega arith)))
    go false false false false true p q r s t = rw (p, q, r, s, t) (bare-long _ fs (is 67 t (λ z. omega arith)))
    go false false false false false p q r s t = rw (p, q, r, s, t)

module _ (l : List ℕ) (h : line_room < length l) where
  others-long : (letter (fields l) ≡ 32 → ⊥) → tape_width < width (others (fields l))
  others-long n = omega (arith, fields-width l, letter-width (fields l) n)

  pub long-line : line_of l ≡ malformed
  unfolding line_of
  long-line = letter-long (letter (fields l)) (others (fields l)) others-long

  pub long-tape : tape_of l ≡ None
  unfolding tape_of
  long-tape = go (eqb (letter (fields l)) 84) refl
    where
      go : (t : Bool) → eqb (letter (fields l)) 84 ≡ t → tape_of l ≡ None
      go true e =
          let w = others-long (λ z. omega (arith, eqb-true (letter (fields l)) 84 e)) in
          rw e (up-long 6 most_words _ (numbers (others (fields l))) (numbers-within (others (fields l))) (λ i k u. omega arith))
      go false e = rw e
