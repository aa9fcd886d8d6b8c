-- The words of a body, as a loop over them goes.
use Rattle.std.specs.Prelude.{◌≡◌, ℕ, suc, ◌+◌, ◌-◌, ◌*◌, ◌/◌, ◌%◌, ◌^◌, ◌<◌, ◌≤◌, List, [], ◌∷◌, length, take, drop, slice_index}
use Rattle.std.specs.Int.{w32, to_le_bytes}
use Rattle.std.proofs.Common.{ap, sym, ◌∙◌, arith, drop-cons, drop-drop}
use Rattle.rules.specs.Form.Numbers.{little, value}
use Rattle.rules.specs.Form.Sums.{words_of, sum_from}

-- four bytes as one number
pub word-is : (m : List ℕ) (a : ℕ) → a + 4 ≤ length m → value (take 4 (drop a m)) ≡ slice_index m a + slice_index m (a + 1) * 256 + slice_index m (a + 2) * 65536 + slice_index m (a + 3) * 16777216
unfolding value
word-is m a h = ap (λ xs. value (take 4 xs)) four ∙ omega arith
  where
    e1 : suc a ≡ a + 1
    e1 = omega arith

    e2 : suc (a + 1) ≡ a + 2
    e2 = omega arith

    e3 : suc (a + 2) ≡ a + 3
    e3 = omega arith

    e4 : suc (a + 3) ≡ a + 4
    e4 = omega arith

    next : (j k : ℕ) → j < length m → suc j ≡ k → drop j m ≡ slice_index m j ∷ drop k m
    next j k l e = drop-cons m j 0 l ∙ ap (λ n. slice_index m j ∷ drop n m) e

    four : drop a m ≡ slice_index m a ∷ slice_index m (a + 1) ∷ slice_index m (a + 2) ∷ slice_index m (a + 3) ∷ drop (a + 4) m
    four =
        next a (a + 1) (omega arith) e1
        ∙ ap (λ r. slice_index m a ∷ r) (next (a + 1) (a + 2) (omega arith) e2
        ∙ ap (λ r. slice_index m (a + 1) ∷ r) (next (a + 2) (a + 3) (omega arith) e3
        ∙ ap (λ r. slice_index m (a + 2) ∷ r) (next (a + 3) (a + 4) (omega arith) e4)))

-- a number as four bytes
pub little-four : (x : ℕ) → to_le_bytes w32 x ≡ little 4 x
unfolding little
little-four x = λ i. x % 256 ∷ x / 256 % 256 ∷ sym third i ∷ sym fourth i ∷ []
  where
    third : x / 256 / 256 % 256 ≡ x / 65536 % 256
    third = omega arith

    fourth : x / 256 / 256 / 256 % 256 ≡ x / 16777216 % 256
    fourth = omega arith

-- the first of the words from word i on, and those behind it
words-from : (n i : ℕ) (body : List ℕ) → i < n → words_of (n - i) (drop (i * 4) body) ≡ value (take 4 (drop (i * 4) body)) ∷ words_of (n - (i + 1)) (drop ((i + 1) * 4) body)
unfolding words_of
words-from n i body h =
    let e : n - i ≡ suc (n - (i + 1)) = omega arith in
    let d : i * 4 + 4 ≡ (i + 1) * 4 = omega arith in
    ap (λ k. words_of k (drop (i * 4) body)) e ∙ ap (λ xs. value (take 4 (drop (i * 4) body)) ∷ words_of (n - (i + 1)) xs) (drop-drop 4 (i * 4) body ∙ ap (λ k. drop k body) d)

-- one word more is added
pub sum_more : (n i a : ℕ) (body : List ℕ) → i < n →
    sum_from ((a + value (take 4 (drop (i * 4) body))) % 2 ^ 32) (words_of (n - (i + 1)) (drop ((i + 1) * 4) body)) ≡ sum_from a (words_of (n - i) (drop (i * 4) body))
unfolding sum_from
sum_more n i a body h = rw (words-from n i body h)

-- none is left
pub sum-all : (n i a : ℕ) (body : List ℕ) → n ≤ i → sum_from a (words_of (n - i) (drop (i * 4) body)) ≡ a
unfolding sum_from words_of
sum-all n i a body h = let e : n - i ≡ 0 = omega arith in rw e
