-- How wide numbers and the lines of a page are.
use Rattle.std.specs.Prelude.{◌≡◌, refl, List, [], ◌∷◌, ◌++◌, ℕ, zero, suc, ◌+◌, ◌-◌, ◌*◌, ◌/◌, ◌%◌, ◌≤◌, ◌<◌, length, replicate}
use Rattle.std.proofs.Common.{sym, ap, ◌∙◌, append_assoc, arith, length-append}
use Rattle.std.proofs.Math.Decide.{dec_lt}
use Rattle.std.proofs.lemmas.List.{length-replicate}
use Rattle.lists.specs.All.{All, nil, cons, all_append, all_replicate}
use Rattle.printing.specs.Text.{blank, newline, digit_of, digits_of, decimal}
use Rattle.printing.specs.Laws.{digit_low, digits-one, digits_more, decimal-one, decimal-more, decimal-le}
use Rattle.printing.specs.Columns.{column, columns, line_length, partition_line, last_line}

-- ---- Numbers

width-more : (n w : ℕ) → 10 ≤ n → n < 100000 → length (decimal (n / 10)) ≡ w → length (decimal n) ≡ w + 1
width-more n w l h e = ap length (decimal-more n l h) ∙ length-append (decimal (n / 10)) (digit_of (n % 10) ∷ []) ∙ ap (λ k. k + 1) e

pub width-1 : (n : ℕ) → n < 10 → length (decimal n) ≡ 1
width-1 n h = ap length (decimal-one n h)

pub width-2 : (n : ℕ) → 10 ≤ n → n < 100 → length (decimal n) ≡ 2
width-2 n l h = width-more n 1 l (omega arith) (width-1 (n / 10) (omega arith))

pub width-3 : (n : ℕ) → 100 ≤ n → n < 1000 → length (decimal n) ≡ 3
width-3 n l h = width-more n 2 (omega arith) (omega arith) (width-2 (n / 10) (omega arith) (omega arith))

pub width-4 : (n : ℕ) → 1000 ≤ n → n < 10000 → length (decimal n) ≡ 4
width-4 n l h = width-more n 3 (omega arith) (omega arith) (width-3 (n / 10) (omega arith) (omega arith))

pub width-5 : (n : ℕ) → 10000 ≤ n → n < 100000 → length (decimal n) ≡ 5
width-5 n l h = width-more n 4 (omega arith) h (width-4 (n / 10) (omega arith) (omega arith))

-- one digit before the last
pub width-less : (n : ℕ) → 10 ≤ n → n < 100000 → length (decimal n) ≡ length (decimal (n / 10)) + 1
width-less n l h = width-more n (length (decimal (n / 10))) l h refl

pub two_digits : (n : ℕ) → n < 100 → length (decimal n) ≤ 2
two_digits n h = elim (dec_lt n 10) [ yes l ↦ omega (arith, width-1 n l) | no l ↦ omega (arith, width-2 n (omega arith) h) ]

-- each is a digit
digits-print : (k n : ℕ) → All (λ b. blank ≤ b) (digits_of k n)
digits-print zero n = unfold digits_of in nil
digits-print (suc k) n = go (dec_lt n 10) (digits-print k (n / 10))
  where
    go : Dec (n < 10) → All (λ b. blank ≤ b) (digits_of k (n / 10)) → All (λ b. blank ≤ b) (digits_of (suc k) n)
    go (yes l) h = let d : blank ≤ digit_of n = omega (arith, digit_low n l) in rw (digits-one k n l) (cons d nil)
    go (no l) h = let d : blank ≤ digit_of (n % 10) = omega (arith, digit_low (n % 10) (omega arith)) in rw (digits_more k n (omega arith)) (all_append h (cons d nil))

-- ---- Columns

pub column-length : (w n : ℕ) → length (decimal n) ≤ w → length (column w n) ≡ w
unfolding column
column-length w n h = length-append (replicate (w - length (decimal n)) blank) (decimal n) ∙ omega (arith, length-replicate (w - length (decimal n)) blank)

column-prints : (w n : ℕ) → All (λ b. blank ≤ b) (column w n)
unfolding column decimal
column-prints w n = let h : blank ≤ blank = omega arith in all_append (all_replicate (λ b. blank ≤ b) (w - length (decimal n)) blank h) (digits-print 5 n)

six-length : (n : ℕ) → length (column 6 n) ≡ 6
six-length n = column-length 6 n (omega (arith, decimal-le n))

pub columns-length : (ns rest : List ℕ) → length (columns ns rest) ≡ 6 * length ns + length rest
unfolding columns
columns-length [] rest = omega arith
columns-length (n ∷ ns) rest = length-append (column 6 n) (columns ns rest) ∙ omega (arith, six-length n, columns-length ns rest)

columns-print : (ns rest : List ℕ) → All (λ b. blank ≤ b) rest → All (λ b. blank ≤ b) (columns ns rest)
unfolding columns
columns-print [] rest h = h
columns-print (n ∷ ns) rest h = all_append (column-prints 6 n) (columns-print ns rest h)

columns-append : (ns rest more : List ℕ) → columns ns (rest ++ more) ≡ columns ns rest ++ more
unfolding columns
columns-append [] rest more = refl
columns-append (n ∷ ns) rest more = ap (λ t. column 6 n ++ t) (columns-append ns rest more) ∙ sym (append_assoc (column 6 n) (columns ns rest) more)

-- ---- Lines

-- 28 characters and a newline
pub record Line28 (l : List ℕ) : Type 0 where
  pub characters : List ℕ
  pub wide : length characters ≡ 28
  pub print : All (λ b. blank ≤ b) characters
  pub ended : l ≡ characters ++ (newline ∷ [])

pub partition-line : (q a b c d : ℕ) → q < 100 → Line28 (partition_line q (a ∷ b ∷ c ∷ d ∷ []))
unfolding partition_line
partition-line q a b c d h = record {
  characters = column 4 q ++ columns ns [];
  wide = length-append (column 4 q) (columns ns []) ∙ omega (arith, column-length 4 q (omega (arith, two_digits q h)), columns-length ns []);
  print = all_append (column-prints 4 q) (columns-print ns [] nil);
  ended = ap (λ t. column 4 q ++ t) (columns-append ns [] (newline ∷ [])) ∙ sym (append_assoc (column 4 q) (columns ns []) (newline ∷ []));
}
  where
    ns : List ℕ
    ns = a ∷ b ∷ c ∷ d ∷ []

pub last_line_lem : (a b c : ℕ) → Line28 (last_line (a ∷ b ∷ c ∷ []))
unfolding last_line
last_line_lem a b c = record {
  characters = 97 ∷ 108 ∷ 108 ∷ blank ∷ columns ns (replicate 6 blank);
  wide = omega (arith, columns-length ns (replicate 6 blank));
  print = all_append all-letters (columns-print ns (replicate 6 blank) (all_replicate (λ b. blank ≤ b) 6 blank (omega arith)));
  ended = ap (λ t. 97 ∷ 108 ∷ 108 ∷ blank ∷ t) (columns-append ns (replicate 6 blank) (newline ∷ []));
}
  where
    ns : List ℕ
    ns = a ∷ b ∷ c ∷ []

    all-letters : All (λ b. blank ≤ b) (97 ∷ 108 ∷ 108 ∷ blank ∷ [])
    all-letters = cons {x = 97} (omega arith) (cons {x = 108} (omega arith) (cons {x = 108} (omega arith) (cons {x = blank} (omega arith) nil)))

pub line-length : (l : List ℕ) → Line28 l → length l ≡ line_length
line-length l f = ap length f.ended ∙ length-append f.characters (newline ∷ []) ∙ omega (arith, f.wide)
