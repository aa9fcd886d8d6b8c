-- A byte of the payload lies in its block: four bytes of sums come before it for each block before.
use Rattle.std.specs.Prelude.{◌≡◌, refl, List, [], ◌∷◌, ◌++◌, ℕ, zero, suc, ◌+◌, ◌-◌, ◌*◌, ◌/◌, ◌%◌, ◌≤◌, ◌<◌, length, take, drop, get_or}
use Rattle.std.proofs.Common.{ap, ◌∙◌, arith, length-take, length-drop, length-append, get_or-take, get_or-drop, get_or-append-add}
use Rattle.std.proofs.Math.Decide.{dec_lt}
use Rattle.std.proofs.Math.ListN.{get_or-append}
use Rattle.rules.specs.Form.Numbers.{value}
use Rattle.rules.specs.Form.Sums.{out_of, out_of_blocks}
use Rattle.forms.specs.At.{bytes_at, number_at}

-- blocks of 512 bytes, and nothing behind them
abbrev pub Whole : List ℕ → Type 0
Whole bs = length bs % 512 ≡ 0

pub get_d_past : (xs : List ℕ) (k : ℕ) → length xs ≤ k → get_or xs k 0 ≡ 0
get_d_past [] k h = refl
get_d_past (x ∷ xs) zero h = absurd (omega arith)
get_d_past (x ∷ xs) (suc k) h = get_d_past xs k (omega arith)

length-out : (n : ℕ) (bs : List ℕ) → n * 512 ≤ length bs → length (out_of n bs) ≡ n * 508
unfolding out_of
length-out zero bs h = refl
length-out (suc n) bs h =
    let d = length-drop 512 bs in
    omega (arith, length-append (take 508 bs) (out_of n (drop 512 bs)), length-take 508 bs, length-out n (drop 512 bs) (omega arith))

out_at : (n k : ℕ) (bs : List ℕ) → n * 512 ≤ length bs → k < n * 508 → get_or (out_of n bs) k 0 ≡ get_or bs (k + k / 508 * 4) 0
unfolding out_of
out_at zero k bs h l = absurd (omega arith)
out_at (suc n) k bs h l = go (dec_lt k 508) (λ j. out_at n j (drop 512 bs) (omega (arith, length-drop 512 bs)))
  where
    front : length (take 508 bs) ≡ 508
    front = omega (arith, length-take 508 bs)

    go : Dec (k < 508) → ((j : ℕ) → j < n * 508 → get_or (out_of n (drop 512 bs)) j 0 ≡ get_or (drop 512 bs) (j + j / 508 * 4) 0) → get_or (take 508 bs ++ out_of n (drop 512 bs)) k 0 ≡ get_or bs (k + k / 508 * 4) 0
    go (yes s) again =
        let e : k ≡ k + k / 508 * 4 = omega arith in
        get_or-append (take 508 bs) (out_of n (drop 512 bs)) 0 k (omega (arith, front)) ∙ get_or-take 508 bs k 0 s ∙ ap (λ j. get_or bs j 0) e
    go (no s) again =
        let j : ℕ = k - 508 in
        let a : k ≡ length (take 508 bs) + j = omega (arith, front) in
        let e : 512 + (j + j / 508 * 4) ≡ k + k / 508 * 4 = omega arith in
        ap (λ i. get_or (take 508 bs ++ out_of n (drop 512 bs)) i 0) a ∙ get_or-append-add (take 508 bs) (out_of n (drop 512 bs)) j 0
        ∙ again j (omega arith) ∙ get_or-drop 512 bs (j + j / 508 * 4) 0 ∙ ap (λ i. get_or bs i 0) e

pub payload-length : (bs : List ℕ) → length (out_of_blocks bs) ≡ length bs / 512 * 508
unfolding out_of_blocks
payload-length bs = length-out (length bs / 512) bs (omega arith)

pub payload-in : (bs : List ℕ) (k : ℕ) → Whole bs → k + k / 508 * 4 < length bs → get_or (out_of_blocks bs) k 0 ≡ get_or bs (k + k / 508 * 4) 0
unfolding out_of_blocks
payload-in bs k w l = out_at (length bs / 512) k bs (omega arith) (omega arith)

pub payload-past : (bs : List ℕ) (k : ℕ) → Whole bs → length bs ≤ k + k / 508 * 4 → get_or (out_of_blocks bs) k 0 ≡ 0
payload-past bs k w l = get_d_past (out_of_blocks bs) k (omega (arith, payload-length bs))

-- numbers of one byte and of two
pub number-one : (p : List ℕ) (a : ℕ) → number_at p 1 a ≡ get_or p a 0
unfolding number_at bytes_at value
number-one p a = omega arith

pub number-two : (p : List ℕ) (a : ℕ) → number_at p 2 a ≡ get_or p a 0 + get_or p (a + 1) 0 * 256
unfolding number_at bytes_at value
number-two p a = let e : suc a ≡ a + 1 = omega arith in ap (λ k. get_or p a 0 + 256 * (get_or p k 0 + 256 * 0)) e ∙ omega arith
