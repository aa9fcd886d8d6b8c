-- Blocks that have their sums, one after the other.
use Rattle.std.specs.Prelude.{◌≡◌, ℕ, suc, ◌+◌, ◌-◌, ◌*◌, ◌/◌, ◌%◌, ◌^◌, ◌<◌, ◌≤◌, true, false, ◌&&◌, List, length, take, drop, ◌==◌, nat_lt, refl}
use Rattle.std.proofs.Common.{ap, sym, ◌∙◌, arith, drop-drop, eq-eqb, ne_eqb, lt-ltb}
use Rattle.rules.specs.Form.Numbers.{value}
use Rattle.lists.specs.Tests.{and-false}
use Rattle.rules.specs.Form.Sums.{words_of, sum_from, block_sum, sums_right, summed}

-- a block's number counts modulo 2^32
pub sum-mod : (k : ℕ) (body : List ℕ) → block_sum (k % 4294967296) body ≡ block_sum k body
unfolding block_sum sum_from words_of
sum-mod k body = let w = value (take 4 body) in
    let e : (k % 4294967296 + w) % 2 ^ 32 ≡ (k + w) % 2 ^ 32 = omega arith in
    ap (λ a. sum_from a (words_of 126 (drop 4 body))) e

-- one block more has its sum, or has not
pub sums-more : (n k : ℕ) (bs : List ℕ) → k < n → (value (take 4 (drop (k * 512 + 508) bs)) == block_sum k (take 508 (drop (k * 512) bs))) ≡ true
    → sums_right (n - (k + 1)) (k + 1) (drop ((k + 1) * 512) bs) ≡ sums_right (n - k) k (drop (k * 512) bs)
unfolding sums_right
sums-more n k bs h e =
    let s : n - k ≡ suc (n - (k + 1)) = omega arith in
    let t : k * 512 + 512 ≡ (k + 1) * 512 = omega arith in
    let u : k + 1 ≡ suc k = omega arith in
    sym (ap (λ m. sums_right m k (drop (k * 512) bs)) s
    ∙ rw (drop-drop 508 (k * 512) bs, e) (ap (sums_right (n - (k + 1)) (suc k)) (drop-drop 512 (k * 512) bs ∙ ap (λ m. drop m bs) t) ∙ ap (λ m. sums_right (n - (k + 1)) m (drop ((k + 1) * 512) bs)) (sym u)))

pub sums-wrong : (n k : ℕ) (bs : List ℕ) → k < n → (value (take 4 (drop (k * 512 + 508) bs)) == block_sum k (take 508 (drop (k * 512) bs))) ≡ false → sums_right (n - k) k (drop (k * 512) bs) ≡ false
unfolding sums_right
sums-wrong n k bs h e =
    let s : n - k ≡ suc (n - (k + 1)) = omega arith in
    ap (λ m. sums_right m k (drop (k * 512) bs)) s ∙ rw (drop-drop 508 (k * 512) bs, e)

pub sums-all : (n k : ℕ) (bs : List ℕ) → n ≤ k → sums_right (n - k) k bs ≡ true
unfolding sums_right
sums-all n k bs h = let s : n - k ≡ 0 = omega arith in rw s

pub summed-none : (bs : List ℕ) → length bs ≡ 0 → summed bs ≡ false
unfolding summed
summed-none bs e = rw (e)

pub summed-odd : (bs : List ℕ) → ¬ (length bs % 512 ≡ 0) → summed bs ≡ false
unfolding summed
summed-odd bs e = rw (ne_eqb (length bs % 512) 0 e) (ap (λ t. t && sums_right (length bs / 512) 0 bs) (and-false (nat_lt 0 (length bs)) refl))

pub summed-is : (bs : List ℕ) → ¬ (length bs ≡ 0) → length bs % 512 ≡ 0 → summed bs ≡ sums_right (length bs / 512) 0 bs
unfolding summed
summed-is bs h e = rw (lt-ltb 0 (length bs) (omega arith), eq-eqb (length bs % 512) 0 e)
