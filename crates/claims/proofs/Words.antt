-- Any words of 16 bits can be lent as bytes.
use Rattle.std.specs.Prelude.{◌≡◌, refl, List, [], ◌∷◌, ℕ, zero, suc, ◌+◌, ◌*◌, ◌/◌, ◌%◌, ◌<◌, length, get_or}
use Rattle.std.proofs.Common.{ap, ◌∙◌, arith, ext_get_or, take_all}
use Rattle.lists.specs.All.{All, nil, cons}
use Rattle.memory.specs.Words.{word_at}
use Rattle.tape.specs.Tape.{words_of, length-words, word-is}
use Rattle.exports.specs.Exported.{most_words, looked_at}
use Rattle.claims.specs.Claim.{WordsClaim}

-- two bytes each, low byte first
bytes_for : List ℕ → List ℕ
bytes_for [] = []
bytes_for (w ∷ ws) = w % 256 ∷ w / 256 ∷ bytes_for ws

length-bytes : (ws : List ℕ) → length (bytes_for ws) ≡ length ws * 2
unfolding bytes_for
length-bytes [] = refl
length-bytes (w ∷ ws) = omega (arith, length-bytes ws)

are-bytes : (ws : List ℕ) → All (λ w. w < 65536) ws → All (λ x. x < 256) (bytes_for ws)
unfolding bytes_for
are-bytes [] nil = nil
are-bytes (w ∷ ws) (cons h t) =
    let low : w % 256 < 256 = omega arith in
    let high : w / 256 < 256 = omega arith in
    cons low (cons high (are-bytes ws t))

word_first : (a b : ℕ) (t : List ℕ) → a < 256 → b < 256 → word_at (a ∷ b ∷ t) 0 ≡ a + b * 256
unfolding word_at
word_first a b t h k = omega arith

word-later : (a b : ℕ) (t : List ℕ) (i : ℕ) → word_at (a ∷ b ∷ t) (suc i) ≡ word_at t i
unfolding word_at
word-later a b t i =
    let e : suc i * 2 ≡ suc (suc (i * 2)) = omega arith in
    let f : suc i * 2 + 1 ≡ suc (suc (i * 2 + 1)) = omega arith in
    λ k. get_or (a ∷ b ∷ t) (e k) 0 % 256 + get_or (a ∷ b ∷ t) (f k) 0 % 256 * 256

word_bytes : (ws : List ℕ) (i : ℕ) → All (λ w. w < 65536) ws → i < length ws → word_at (bytes_for ws) i ≡ get_or ws i 0
unfolding bytes_for
word_bytes [] i h l = absurd (omega arith)
word_bytes (w ∷ ws) zero (cons h t) l = word_first (w % 256) (w / 256) (bytes_for ws) (omega arith) (omega arith) ∙ omega arith
word_bytes (w ∷ ws) (suc i) (cons h t) l = word-later (w % 256) (w / 256) (bytes_for ws) i ∙ word_bytes ws i t (omega arith)

pub any-words : WordsClaim
any-words ws h l = (bytes_for ws, (are-bytes ws h, ap words_of whole ∙ ext_get_or 0 (words_of (bytes_for ws)) ws same (λ i k. word-is (bytes_for ws) i (omega (arith, length-words (bytes_for ws))) ∙ word_bytes ws i h (omega (arith, same)))))
  where
    same : length (words_of (bytes_for ws)) ≡ length ws
    same = omega (arith, length-words (bytes_for ws), length-bytes ws)

    whole : looked_at (bytes_for ws) ≡ bytes_for ws
    whole = take_all (most_words * 2) (bytes_for ws) (omega (arith, length-bytes ws))
