-- One byte more of a line, what waits behind a line, and the words of a tape.
use Rattle.std.specs.Prelude.{◌≡◌, refl, false, List, [], ◌∷◌, ◌++◌, ℕ, zero, suc, ◌+◌, ◌-◌, ◌*◌, ◌/◌, ◌≤◌, ◌<◌, length, take, drop, get_or, set}
use Rattle.std.proofs.Common.{ap, sym, ◌∙◌, append_assoc, add-one, arith, take-suc, take-suc-set, drop-drop, get_or-take, ext_get_or, length-take-le}
use Rattle.std.proofs.Math.Decide.{ℕ_discrete}
use Rattle.std.proofs.Math.Seq.{take-nil}
use Rattle.memory.specs.Words.{word_at}
use Rattle.tape.specs.Tape.{words_of, length-words, word-is}
use Rattle.lines.specs.Stored.{length-first, first-is}
use Rattle.lines.specs.Said.{said}
use Rattle.lines.specs.declared.Line.{Line}
use Rattle.lines.specs.declared.Line.TheVariants.{Open, Read, Write, Turn, Collect, Malformed}
use Rattle.session.specs.Session.{ends}
use Rattle.stream.specs.Stream.{Plain}

-- a byte that is no newline leaves the bytes plain
pub plain_more : (bytes : List ℕ) (i n : ℕ) → Plain i bytes → (get_or bytes i 0 ≡ 10 → ⊥) → n ≤ i + 1 → Plain n bytes
plain_more bytes i n p q h j m e = elim (ℕ_discrete j i) [ yes w ↦ q (ap (λ x. get_or bytes x 0) (sym w) ∙ e) | no w ↦ p j (omega arith) e ]

-- a byte that is stored behind the line is added to it
pub appended : (line had bytes : List ℕ) (k i : ℕ) → k < length line → i < length bytes → take k line ≡ had ++ take i bytes →
    take (k + 1) (set line k (get_or bytes i 0)) ≡ had ++ take (i + 1) bytes
appended line had bytes k i f g e = rw (add-one k, add-one i, take-suc-set line k (get_or bytes i 0) f, e, take-suc bytes i 0 g, append_assoc)

pub most : (n : ℕ) (l : List ℕ) → length (take n l) ≤ n
most zero l = omega arith
most (suc n) [] = omega arith
most (suc n) (x ∷ l) = let r = most n l in omega arith

-- a place in a part of what was read lies before the part's end
pub behind : (l : List ℕ) (from to i : ℕ) → from ≤ to → i < length (take (to - from) l) → from + i + 1 ≤ to
behind l from to i h m = let r = most (to - from) l in omega arith

-- the first n without the first m
drop-take : (m n : ℕ) (l : List ℕ) → drop m (take n l) ≡ take (n - m) (drop m l)
drop-take zero n l = ap (λ k. take k l) (whole n)
  where
    whole : (n : ℕ) → n ≡ n - 0
    whole n = omega arith
drop-take (suc m) zero l = ap (λ k. take k (drop (suc m) l)) (none m)
  where
    none : (m : ℕ) → 0 ≡ 0 - suc m
    none m = omega arith
drop-take (suc m) (suc n) [] = sym (take-nil (suc n - suc m))
drop-take (suc m) (suc n) (x ∷ l) = drop-take m n l ∙ ap (λ k. take k (drop m l)) (less m n)
  where
    less : (m n : ℕ) → n - m ≡ suc n - suc m
    less m n = omega arith

-- what waits behind a newline at place i of what waited
pub waits-behind : (l : List ℕ) (from to i : ℕ) → take (to - (from + i + 1)) (drop (from + i + 1) l) ≡ drop (i + 1) (take (to - from) (drop from l))
waits-behind l from to i =
    let place : from + i + 1 ≡ from + (i + 1) = omega arith in
    let size : to - (from + i + 1) ≡ (to - from) - (i + 1) = omega arith in
    (λ j. take (size j) (drop (place j) l)) ∙ ap (take ((to - from) - (i + 1))) (sym (drop-drop (i + 1) from l)) ∙ sym (drop-take (i + 1) (to - from) (drop from l))

-- ---- Lines

-- a line that is not malformed does not end the session
pub ends-not : (l : Line) → (l ≡ Malformed → ⊥) → (b : List ℕ) → ends (said l b) ≡ false
unfolding ends
ends-not (Open h) n b = refl
ends-not (Read k) n b = refl
ends-not (Write k i) n b = refl
ends-not Turn n b = refl
ends-not Collect n b = refl
ends-not Malformed n b = absurd (n refl)

-- ---- The tape

word_first : (t : List ℕ) (k i : ℕ) → i < k → word_at (take (k * 2) t) i ≡ word_at t i
unfolding word_at
word_first t k i h = rw (get_or-take (k * 2) t (i * 2) 0 (omega arith), get_or-take (k * 2) t (i * 2 + 1) 0 (omega arith))

-- the words of the first bytes are the first words
pub words-first : (k : ℕ) (t : List ℕ) → k ≤ length t / 2 → words_of (take (k * 2) t) ≡ take k (words_of t)
words-first k t h = ext_get_or 0 _ _ (long ∙ sym (length-first k t h)) (λ i l. one i (rw long at l))
  where
    half : length (take (k * 2) t) / 2 ≡ k
    half = omega (arith, length-take-le (k * 2) t (omega arith))

    long : length (words_of (take (k * 2) t)) ≡ k
    long = length-words (take (k * 2) t) ∙ half

    one : (i : ℕ) → i < k → get_or (words_of (take (k * 2) t)) i 0 ≡ get_or (take k (words_of t)) i 0
    one i l = word-is (take (k * 2) t) i (rw half l) ∙ word_first t k i l ∙ sym (first-is k i t l h)
