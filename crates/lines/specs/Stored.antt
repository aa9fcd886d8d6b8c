-- Numbers and contents that the code stores, one at a time.
use Rattle.std.specs.Prelude.{◌≡◌, refl, List, [], ◌∷◌, ◌++◌, get_or, take, drop, set, Option, None, Some}
use Rattle.std.proofs.Math.Path.{ap, sym}
use Rattle.std.proofs.Common.{◌∙◌, add-one, length-set, drop_of_length-le, take-suc, take-suc-set, get_or-take, ext_get_or, length-take-le}
use Prim.Native.Nat.{ℕ, suc, ◌+◌, ◌-◌, ◌*◌, ◌/◌, ◌≤◌, ◌<◌}
use native.Mathlib.Omega.{arith}
use Rattle.std.proofs.Math.Decide.{dec_lt}
use Rattle.std.proofs.Math.ListN.{length}
use Rattle.std.proofs.Math.Seq.{drop-cons}
use Rattle.memory.specs.Words.{word_at, set_word, length-set_word, word_same, word-other}
use Rattle.tape.specs.Tape.{words_of, length-words, word-is}
use Rattle.lines.specs.Said.{exactly}
use Rattle.lines.specs.Lines.{number, also, numbers, up_to, hex_digit, pair, pairs, contents, contents_room}
use Rattle.lines.specs.Fields.{after, Cut, after-blank, after-end, some-field}
use Rattle.lines.specs.Numbers.{behind, behind-none, behind-all, behind_more, behind-not, behind-over, up_in, up-out, up_none, exactly_none, exactly-out, exactly-over}

-- ---- Words

-- the first k words are k
pub length-first : (k : ℕ) (t : List ℕ) → k ≤ length t / 2 → length (take k (words_of t)) ≡ k
length-first k t h = length-take-le k (words_of t) (rw (length-words t) h)

-- each of them is a word of the bytes
pub first-is : (k i : ℕ) (t : List ℕ) → i < k → k ≤ length t / 2 → get_or (take k (words_of t)) i 0 ≡ word_at t i
first-is k i t h u = get_or-take k (words_of t) i 0 h ∙ word-is t i (omega arith)

-- a word stored behind the first k
pub words_more : (t : List ℕ) (k v : ℕ) → k < length t / 2 → v < 65536 → take (k + 1) (words_of (set_word t k v)) ≡ take k (words_of t) ++ (v ∷ [])
words_more t k v h fits = rw (add-one k, take-suc (words_of t') k 0 (rw (length-words t') here), last, same)
  where
    t' : List ℕ
    t' = set_word t k v

    here : k < length t' / 2
    here = rw (length-set_word t k v) h

    last : get_or (words_of t') k 0 ≡ v
    last = word-is t' k here ∙ word_same t k v (omega arith) fits

    long : length (take k (words_of t')) ≡ k
    long = length-first k t' (omega (arith, here))

    same : take k (words_of t') ≡ take k (words_of t)
    same = ext_get_or 0 _ _ (long ∙ sym (length-first k t (omega arith))) (λ i l. one i (rw long at l))
      where
        one : (i : ℕ) → i < k → get_or (take k (words_of t')) i 0 ≡ get_or (take k (words_of t)) i 0
        one i l = first-is k i t' l (omega (arith, here)) ∙ word-other t k v i (λ e. omega arith) ∙ sym (first-is k i t l (omega arith))

-- ---- Numbers: the fields behind the letter say vs, up to place i

-- the field behind place i says v, and ends at place e
pub record Next (l : List ℕ) (i v e : ℕ) : Type 0 where
  pub more : i < e
  pub within : e ≤ length l
  pub small : v < 65536
  pub says : numbers (after (drop i l)) ≡ also (Some v) (numbers (after (drop e l)))

-- what the field from i + 1 to e says comes first
pub next-field : (l : List ℕ) (i e : ℕ) → i < length l → Cut l (i + 1) e → numbers (after (drop i l)) ≡ also (number (take (e - (i + 1)) (drop (i + 1) l))) (numbers (after (drop e l)))
unfolding numbers
next-field l i e h c = ap numbers (after-blank l i h ∙ c.field)

abbrev pub Passed : List ℕ → ℕ → List ℕ → Type 0
Passed l i vs = numbers (after (drop 1 l)) ≡ behind vs (numbers (after (drop i l)))

-- at first these are none
pub passed_none : (l : List ℕ) → Passed l 1 []
passed_none l = sym (behind-none _)

module _ (l : List ℕ) (i : ℕ) (vs : List ℕ) (p : Passed l i vs) where
  -- one more
  pub passed_more : (v e : ℕ) → Next l i v e → Passed l e (vs ++ (v ∷ []))
  passed_more v e n = p ∙ ap (behind vs) n.says ∙ behind_more vs v _

  -- all fields are passed
  pub passed-all : length l ≤ i → numbers (after (drop 1 l)) ≡ Some vs
  unfolding numbers
  passed-all h = p ∙ ap (λ fs. behind vs (numbers fs)) (after-end l i h) ∙ behind-all vs

  -- a field says no number
  pub passed-not : numbers (after (drop i l)) ≡ None → numbers (after (drop 1 l)) ≡ None
  unfolding behind
  passed-not h = p ∙ ap (behind vs) h

  -- there is room for no more
  pub passed-over : (n v e : ℕ) → Next l i v e → n ≤ length vs → up_to n (numbers (after (drop 1 l))) ≡ None
  passed-over n v e s h = ap (up_to n) (p ∙ ap (behind vs) s.says) ∙ behind-over n vs _ _ h

  -- fewer than n, and the next field, if there is one, says no number
  pub passed-short : (n : ℕ) → length vs < n → (i < length l → numbers (after (drop i l)) ≡ None) → exactly n (numbers (after (drop 1 l))) ≡ None
  passed-short n f h = go (dec_lt i (length l))
    where
      go : Dec (i < length l) → exactly n (numbers (after (drop 1 l))) ≡ None
      go (yes u) = ap (exactly n) (passed-not (h u)) ∙ exactly_none n
      go (no u) = ap (exactly n) (passed-all (omega arith)) ∙ exactly-out n vs (λ e. omega arith)

  -- n, and another field
  pub passed-long : (n : ℕ) → length vs ≡ n → i < length l → exactly n (numbers (after (drop 1 l))) ≡ None
  unfolding numbers
  passed-long n f h =
      ap (exactly n) (p ∙ ap (λ fs. behind vs (numbers fs)) (after-blank l i h))
      ∙ some-field (λ fs. exactly n (behind vs (numbers fs)) ≡ None) (λ g gs. exactly-over n vs (number g) (numbers gs) (omega arith)) (drop (i + 1) l)

-- ---- Contents: the first k pairs say the first k bytes
pub record Paired (s t₀ t : List ℕ) (k : ℕ) : Type 0 where
  pub kept : length t ≡ length t₀
  pub said : pairs s ≡ behind (take k t) (pairs (drop (k * 2) s))

-- a list of pairs is half as long as its digits
abbrev Halved : ℕ → Option (List ℕ) → Type 0
Halved n None = Unit {0}
Halved n (Some bs) = n ≡ length bs * 2

halved : (s : List ℕ) → Halved (length s) (pairs s)
unfolding pairs also
halved [] = refl
halved (x ∷ []) = tt
halved (x ∷ y ∷ ys) = go (pair (hex_digit x) (hex_digit y)) (pairs ys) (halved ys)
  where
    go : (a : Option ℕ) (o : Option (List ℕ)) → Halved (length ys) o → Halved (suc (suc (length ys))) (also a o)
    go None o h = tt
    go (Some v) None h = tt
    go (Some v) (Some vs) h = omega arith

contents-none : (s : List ℕ) → pairs s ≡ None → contents s ≡ None
unfolding contents
contents-none [] e = refl
contents-none (x ∷ xs) e = rw e (up_none contents_room)

-- digits that are no pairs, or too many
pub contents-not : (s : List ℕ) → ((n : ℕ) → length s ≡ n * 2 → 0 < n → n ≤ contents_room → ⊥) → contents s ≡ None
unfolding contents
contents-not [] h = refl
contents-not (x ∷ xs) h = go (pairs (x ∷ xs)) (halved (x ∷ xs))
  where
    go : (o : Option (List ℕ)) → Halved (length (x ∷ xs)) o → up_to contents_room o ≡ None
    go None q = up_none contents_room
    go (Some bs) q = elim (dec_lt contents_room (length bs)) [ yes l ↦ up-out contents_room bs l | no l ↦ absurd (h (length bs) q (omega arith) (omega arith)) ]

-- at first none is stored
pub paired_none : (s t : List ℕ) → Paired s t t 0
paired_none s t = record { kept = refl; said = sym (behind-none (pairs s)) }

-- all pairs are passed
pub paired-all : (s t₀ t : List ℕ) (k : ℕ) → Paired s t₀ t k → length s ≡ k * 2 → 0 < k → k ≤ contents_room → k ≤ length t → contents s ≡ Some (take k t)
unfolding contents pairs
paired-all [] t₀ t k p e h u f = absurd (omega arith)
paired-all (x ∷ xs) t₀ t k p e h u f =
    ap (up_to contents_room) (p.said ∙ ap (λ r. behind (take k t) (pairs r)) (drop_of_length-le (x ∷ xs) {i = k * 2} (omega arith)) ∙ behind-all (take k t))
    ∙ up_in contents_room (take k t) (omega (arith, length-take-le k t f))

module _ (s t₀ t : List ℕ) (k : ℕ) (p : Paired s t₀ t k) (h : k * 2 + 1 < length s) where
  next-pair : pairs (drop (k * 2) s) ≡ also (pair (hex_digit (get_or s (k * 2) 0)) (hex_digit (get_or s (k * 2 + 1) 0))) (pairs (drop ((k + 1) * 2) s))
  unfolding pairs
  next-pair =
      let e : k * 2 + 1 ≡ suc (k * 2) = omega arith in
      let f : (k + 1) * 2 ≡ suc (suc (k * 2)) = omega arith in
      rw (e, f, drop-cons s (k * 2) 0 (omega arith), drop-cons s (suc (k * 2)) 0 (omega arith))

  -- one more is stored
  pub paired-more : (v : ℕ) → Some v ≡ pair (hex_digit (get_or s (k * 2) 0)) (hex_digit (get_or s (k * 2 + 1) 0)) → k < length t → Paired s t₀ (set t k v) (k + 1)
  paired-more v r f = record {
    kept = length-set t k v ∙ p.kept;
    said = p.said ∙ ap (behind (take k t)) (next-pair ∙ ap (λ o. also o (pairs (drop ((k + 1) * 2) s))) (sym r)) ∙ behind_more _ v _ ∙ ap (λ w. behind w (pairs (drop ((k + 1) * 2) s))) (sym (rw (add-one k) (take-suc-set t k v f)));
  }

  -- a pair says no byte
  pub paired-not : None ≡ pair (hex_digit (get_or s (k * 2) 0)) (hex_digit (get_or s (k * 2 + 1) 0)) → contents s ≡ None
  paired-not r = contents-none s (p.said ∙ ap (behind (take k t)) (next-pair ∙ ap (λ o. also o (pairs (drop ((k + 1) * 2) s))) (sym r)) ∙ behind-not _ _)
