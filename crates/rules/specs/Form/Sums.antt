-- Document 02, P5: "in blocks of 512 bytes", "the last four bytes of a block are the sum modulo 2^32 of its 127 four-byte words and of its
-- block number, from 0".
use Rattle.std.specs.Prelude.{Bool, true, ◌&&◌, List, [], ◌∷◌, ◌++◌, ℕ, zero, suc, ◌+◌, ◌/◌, ◌%◌, ◌^◌, length, take, drop, replicate, ltb, eqb}
use Rattle.rules.specs.Form.Numbers.{little, value}

-- n four-byte words, from the front of a list of bytes
unfoldable pub words_of : ℕ → List ℕ → List ℕ
words_of zero bs = []
words_of (suc n) bs = value (take 4 bs) ∷ words_of n (drop 4 bs)

-- the sum modulo 2^32 of words, added to a
unfoldable pub sum_from : ℕ → List ℕ → ℕ
sum_from a [] = a
sum_from a (w ∷ ws) = sum_from ((a + w) % 2 ^ 32) ws

-- the sum of block k, whose first 508 bytes are these
unfoldable pub block_sum : ℕ → List ℕ → ℕ
block_sum k body = sum_from k (words_of 127 body)

-- the first 508 bytes of the block that begins with what is left of the payload: "the rest of the last block is zeros"
unfoldable pub body_of : List ℕ → List ℕ
body_of bs = take 508 (bs ++ replicate 508 0)

-- n blocks, from number k on, with a payload
unfoldable pub blocks : ℕ → ℕ → List ℕ → List ℕ
blocks zero k bs = []
blocks (suc n) k bs = (body_of bs ++ little 4 (block_sum k (body_of bs))) ++ blocks n (suc k) (drop 508 bs)

-- the blocks that n bytes of payload need
unfoldable pub block_count : ℕ → ℕ
block_count n = (n + 507) / 508

unfoldable pub in_blocks : List ℕ → List ℕ
in_blocks bs = blocks (block_count (length bs)) 0 bs

-- n blocks, from number k on, have their sums
unfoldable pub sums_right : ℕ → ℕ → List ℕ → Bool
sums_right zero k bs = true
sums_right (suc n) k bs = eqb (value (take 4 (drop 508 bs))) (block_sum k (take 508 bs)) && sums_right n (suc k) (drop 512 bs)

-- "17 for a length that isn't a positive multiple of 512 or a wrong block sum"
unfoldable pub summed : List ℕ → Bool
summed bs = ltb 0 (length bs) && eqb (length bs % 512) 0 && sums_right (length bs / 512) 0 bs

-- the payload of n blocks
unfoldable pub out_of : ℕ → List ℕ → List ℕ
out_of zero bs = []
out_of (suc n) bs = take 508 bs ++ out_of n (drop 512 bs)

unfoldable pub out_of_blocks : List ℕ → List ℕ
out_of_blocks bs = out_of (length bs / 512) bs
