-- A payload that was cut into blocks is had back, and the blocks have their sums.
use Rattle.std.specs.Prelude.{◌≡◌, refl, true, List, [], ◌∷◌, ◌++◌, ℕ, zero, suc, ◌+◌, ◌-◌, ◌*◌, ◌/◌, ◌%◌, ◌^◌, ◌≤◌, ◌<◌, length, take, drop, replicate}
use Rattle.std.proofs.Common.{ap, sym, ◌∙◌, append_assoc, mod-lt, div-add-mod', mul-div_cancel, zero-lt-suc, arith, length-append, length-drop, take-append-drop, drop_of_length-le, length-take-le, pow_pos, lt-ltb, eq-eqb}
use Rattle.std.proofs.Math.Nat.{mul-mod_left}
use Rattle.std.proofs.Math.Decide.{dec_lt}
use Rattle.std.proofs.lemmas.List.{length-replicate, replicate-append-replicate, take-append-le}
use Rattle.std.proofs.Math.Seq.{take-append_seam, drop-append_seam}
use Rattle.lists.specs.Tests.{and-true}
use Rattle.rules.specs.Form.Numbers.{little, value}
use Rattle.rules.specs.Form.Sums.{words_of, sum_from, block_sum, body_of, blocks, block_count, in_blocks, sums_right, summed, out_of, out_of_blocks}
use Rattle.rules.proofs.Laws.Form.Numbers.{length-little, value-little}

sum_lt : (a : ℕ) (ws : List ℕ) → a < 2 ^ 32 → sum_from a ws < 2 ^ 32
unfolding sum_from
sum_lt a [] h = h
sum_lt a (w ∷ ws) h = sum_lt ((a + w) % 2 ^ 32) ws (mod-lt (a + w) (pow_pos 32))

pub block-sum-lt : (k : ℕ) (body : List ℕ) → block_sum k body < 2 ^ 32
unfolding block_sum
block-sum-lt k body = go 126
  where
    go : (n : ℕ) → sum_from k (words_of (suc n) body) < 2 ^ 32
    go n = unfold words_of sum_from in (sum_lt ((k + value (take 4 body)) % 2 ^ 32) (words_of n (drop 4 body)) (mod-lt (k + value (take 4 body)) (pow_pos 32)))

pub length-body : (bs : List ℕ) → length (body_of bs) ≡ 508
unfolding body_of
length-body bs = length-take-le 508 (bs ++ replicate 508 0) (rw (length-append bs (replicate 508 0), length-replicate {A = ℕ} 508 0) (omega arith))

module _ (k : ℕ) (bs rest : List ℕ) where
  abbrev body : List ℕ
  body = body_of bs

  abbrev sum : List ℕ
  sum = little 4 (block_sum k (body_of bs))

  take-body : take 508 ((body ++ sum) ++ rest) ≡ body
  take-body = ap (take 508) (append_assoc body sum rest) ∙ ap (λ n. take n (body ++ (sum ++ rest))) (sym (length-body bs)) ∙ take-append_seam body (sum ++ rest)

  drop-body : drop 508 ((body ++ sum) ++ rest) ≡ sum ++ rest
  drop-body = ap (drop 508) (append_assoc body sum rest) ∙ ap (λ n. drop n (body ++ (sum ++ rest))) (sym (length-body bs)) ∙ drop-append_seam body (sum ++ rest)

  take-sum : take 4 (sum ++ rest) ≡ sum
  take-sum = ap (λ n. take n (sum ++ rest)) (sym (length-little 4 (block_sum k body))) ∙ take-append_seam sum rest

  length-block : length (body ++ sum) ≡ 512
  length-block = length-append body sum ∙ omega (arith, length-body bs, length-little 4 (block_sum k body))

  drop_block : drop 512 ((body ++ sum) ++ rest) ≡ rest
  drop_block = ap (λ n. drop n ((body ++ sum) ++ rest)) (sym length-block) ∙ drop-append_seam (body ++ sum) rest

pub length-blocks : (n k : ℕ) (bs : List ℕ) → length (blocks n k bs) ≡ n * 512
unfolding blocks
length-blocks zero k bs = refl
length-blocks (suc n) k bs = length-append (body_of bs ++ little 4 (block_sum k (body_of bs))) (blocks n (suc k) (drop 508 bs)) ∙ omega (arith, length-block k bs [], length-blocks n (suc k) (drop 508 bs))

blocks-sums : (n k : ℕ) (bs : List ℕ) → sums_right n k (blocks n k bs) ≡ true
unfolding sums_right blocks
blocks-sums zero k bs = refl
blocks-sums (suc n) k bs =
    let rest = blocks n (suc k) (drop 508 bs) in
    rw (drop-body k bs rest, take-body k bs rest, take-sum k bs rest, drop_block k bs rest, value-little 4 (block_sum k (body_of bs)) (block-sum-lt k (body_of bs)))
    (and-true (eq-eqb (block_sum k (body_of bs)) (block_sum k (body_of bs)) refl) (blocks-sums n (suc k) (drop 508 bs)))

-- the first 508 bytes and the rest, filled up with zeros
body-rest : (n : ℕ) (bs : List ℕ) → length bs ≤ suc n * 508 → body_of bs ++ (drop 508 bs ++ replicate (n * 508 - length (drop 508 bs)) 0) ≡ bs ++ replicate (suc n * 508 - length bs) 0
unfolding body_of
body-rest n bs h = go (dec_lt (length bs) 508)
  where
    go : Dec (length bs < 508) → take 508 (bs ++ replicate 508 0) ++ (drop 508 bs ++ replicate (n * 508 - length (drop 508 bs)) 0) ≡ bs ++ replicate (suc n * 508 - length bs) 0
    go (no l) =
        rw (take-append-le 508 bs (replicate 508 0) (omega arith), ← append_assoc (take 508 bs) (drop 508 bs) (replicate (n * 508 - length (drop 508 bs)) 0), take-append-drop 508 bs)
        (ap (λ m. bs ++ replicate m 0) left)
      where
        left : n * 508 - length (drop 508 bs) ≡ suc n * 508 - length bs
        left = omega (arith, length-drop 508 bs)
    go (yes l) = rw (drop_of_length-le bs {i = 508} (omega arith)) (
        ap (λ x. x ++ replicate (n * 508 - 0) 0) short
        ∙ append_assoc bs (replicate (508 - length bs) 0) (replicate (n * 508 - 0) 0)
        ∙ ap (λ x. bs ++ x) (replicate-append-replicate (508 - length bs) (n * 508 - 0) 0 ∙ ap (λ m. replicate m 0) all)
        )
      where
        all : (508 - length bs) + (n * 508 - 0) ≡ suc n * 508 - length bs
        all = omega arith

        fill : 508 ≡ (508 - length bs) + length bs
        fill = omega arith

        full : 508 ≡ length (bs ++ replicate (508 - length bs) 0)
        full = omega (arith, length-append bs (replicate (508 - length bs) 0), length-replicate {A = ℕ} (508 - length bs) 0)

        short : take 508 (bs ++ replicate 508 0) ≡ bs ++ replicate (508 - length bs) 0
        short =
            ap (λ x. take 508 (bs ++ x)) (ap (λ m. replicate m 0) fill ∙ sym (replicate-append-replicate (508 - length bs) (length bs) 0))
            ∙ ap (take 508) (sym (append_assoc bs (replicate (508 - length bs) 0) (replicate (length bs) 0)))
            ∙ ap (λ m. take m ((bs ++ replicate (508 - length bs) 0) ++ replicate (length bs) 0)) full
            ∙ take-append_seam (bs ++ replicate (508 - length bs) 0) (replicate (length bs) 0)

blocks-out : (n k : ℕ) (bs : List ℕ) → length bs ≤ n * 508 → out_of n (blocks n k bs) ≡ bs ++ replicate (n * 508 - length bs) 0
unfolding out_of blocks
blocks-out zero k [] h = refl
blocks-out zero k (x ∷ bs) h = absurd (omega arith)
blocks-out (suc n) k bs h =
    let rest = blocks n (suc k) (drop 508 bs) in
    rw (take-body k bs rest, drop_block k bs rest, blocks-out n (suc k) (drop 508 bs) (omega (arith, length-drop 508 bs))) (body-rest n bs h)

pub count-le : (n : ℕ) → n ≤ block_count n * 508
unfolding block_count
count-le n = omega (arith, div-add-mod' (n + 507) 508, mod-lt (n + 507) (zero-lt-suc 507))

-- fewer than 508 zeros fill up the last block
pub count-near : (n : ℕ) → block_count n * 508 - n < 508
unfolding block_count
count-near n = omega (arith, div-add-mod' (n + 507) 508)

-- A longer payload needs no fewer blocks
pub count-mono : (m n : ℕ) → m ≤ n → block_count m ≤ block_count n
count-mono m n h = omega (arith, count-le n, count-near m, h)

pub length-in-blocks : (bs : List ℕ) → length (in_blocks bs) ≡ block_count (length bs) * 512
unfolding in_blocks
length-in-blocks bs = length-blocks (block_count (length bs)) 0 bs

pub blocks-back : (bs : List ℕ) → out_of_blocks (in_blocks bs) ≡ bs ++ replicate (block_count (length bs) * 508 - length bs) 0
unfolding out_of_blocks
blocks-back bs =
    ap (λ n. out_of n (in_blocks bs)) (ap (λ m. m / 512) (length-in-blocks bs) ∙ mul-div_cancel (block_count (length bs)) (zero-lt-suc 511))
    ∙ (unfold in_blocks in (blocks-out (block_count (length bs)) 0 bs (count-le (length bs))))

pub blocks-summed : (bs : List ℕ) → 0 < length bs → summed (in_blocks bs) ≡ true
unfolding summed
blocks-summed bs h =
    let l = length-in-blocks bs in
    and-true
    (and-true
    (lt-ltb 0 (length (in_blocks bs)) (omega (arith, l, count-le (length bs))))
    (eq-eqb (length (in_blocks bs) % 512) 0 (ap (λ m. m % 512) l ∙ mul-mod_left (block_count (length bs)) 512)))
    (ap (λ n. sums_right n 0 (in_blocks bs)) (ap (λ m. m / 512) l ∙ mul-div_cancel (block_count (length bs)) (zero-lt-suc 511))
    ∙ (unfold in_blocks in (blocks-sums (block_count (length bs)) 0 bs)))
