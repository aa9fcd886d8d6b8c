-- The words of a tape that is lent as bytes.
use Rattle.std.specs.Prelude.{◌≡◌, List, map, ℕ, ◌/◌, ◌<◌, length, get_or}
use Rattle.std.proofs.lemmas.List.{length-map}
use Rattle.lists.specs.Search.{below}
use Rattle.lists.specs.Lengths.{length-below}
use Rattle.lists.specs.Members.{get_or-map-below}
use Rattle.lists.specs.All.{All, map_below}
use Rattle.memory.specs.Words.{word_at, word_at-lt}

unfoldable pub words_of : List ℕ → List ℕ
words_of t = map (word_at t) (below (length t / 2))

pub length-words : (t : List ℕ) → length (words_of t) ≡ length t / 2
unfolding words_of
length-words t = simp length-map (length-below (length t / 2))

pub word-is : (t : List ℕ) (k : ℕ) → k < length t / 2 → get_or (words_of t) k 0 ≡ word_at t k
unfolding words_of
word-is t k l = get_or-map-below (word_at t) (length t / 2) k 0 l

-- each is of 16 bits
pub words-short : (t : List ℕ) → All (λ w. w < 65536) (words_of t)
unfolding words_of
words-short t = map_below (λ w. w < 65536) (word_at t) (length t / 2) (λ i l. word_at-lt t i)
