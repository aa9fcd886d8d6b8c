-- Numbers below 65,536 in lent bytes, two bytes each, low byte first. Every list of bytes decodes: a byte is read modulo 256, so that no law asks
-- anything of the list's elements.
use Rattle.std.specs.Prelude.{◌≡◌, refl, List, ℕ, ◌+◌, ◌*◌, ◌/◌, ◌%◌, ◌≤◌, ◌<◌, true, false, ltb, length, get_or, set, take, drop}
use Rattle.std.proofs.Common.{ap, sym, ◌∙◌, arith, lt-ltb, le-ltb, length-drop, get_or-take, get_or-drop, length-take-le}
use Rattle.std.proofs.Math.Path.{fun_ext}
use Rattle.std.proofs.Math.Decide.{ℕ_discrete, dec_lt}
use Rattle.std.proofs.Math.ListN.{length-set}
use Rattle.std.proofs.Math.Seq.{get_or-set_same, get_or-set_other}
use Rattle.lists.specs.Tables.{put, put_same, put_other}

-- number k of a list of bytes
unfoldable pub word_at : List ℕ → ℕ → ℕ
word_at m k = get_or m (k * 2) 0 % 256 + get_or m (k * 2 + 1) 0 % 256 * 256

-- the bytes after v is stored as number k
unfoldable pub set_word : List ℕ → ℕ → ℕ → List ℕ
set_word m k v = set (set m (k * 2) (v % 256)) (k * 2 + 1) (v / 256 % 256)

pub word_at-lt : (m : List ℕ) (k : ℕ) → word_at m k < 65536
unfolding word_at
word_at-lt m k = omega arith

pub length-set_word : (m : List ℕ) (k v : ℕ) → length (set_word m k v) ≡ length m
unfolding set_word
length-set_word m k v = simp length-set

module _ (m : List ℕ) (k v : ℕ) where
  pub word_same : k * 2 + 1 < length m → v < 65536 → word_at (set_word m k v) k ≡ v
  unfolding word_at set_word
  word_same h fits = rw (
    get_or-set_other (set m (k * 2) (v % 256)) (k * 2 + 1) (k * 2) (v / 256 % 256) 0 (λ e. omega arith),
    get_or-set_same m (k * 2) (v % 256) 0 (omega arith),
    get_or-set_same (set m (k * 2) (v % 256)) (k * 2 + 1) (v / 256 % 256) 0 (simp length-set h),
  ) (omega arith)

  pub word-other : (x : ℕ) → (x ≡ k → ⊥) → word_at (set_word m k v) x ≡ word_at m x
  unfolding word_at set_word
  word-other x ne = rw (
    get_or-set_other (set m (k * 2) (v % 256)) (k * 2 + 1) (x * 2) (v / 256 % 256) 0 (λ e. omega arith),
    get_or-set_other m (k * 2) (x * 2) (v % 256) 0 (λ e. omega arith),
    get_or-set_other (set m (k * 2) (v % 256)) (k * 2 + 1) (x * 2 + 1) (v / 256 % 256) 0 (λ e. omega arith),
    get_or-set_other m (k * 2) (x * 2 + 1) (v % 256) 0 (λ e. omega arith),
  )

-- ---- A table: n numbers from number `base` on, and 0 past them
unfoldable pub window : ℕ → ℕ → List ℕ → ℕ → ℕ
window base n m i = elim (ltb i n) [ true ↦ word_at m (base + i) | false ↦ 0 ]

module _ (base n : ℕ) (m : List ℕ) where
  pub window-in : (i : ℕ) → i < n → window base n m i ≡ word_at m (base + i)
  unfolding window
  window-in i h = rw (lt-ltb i n h, window)

  pub window-past : (i : ℕ) → n ≤ i → window base n m i ≡ 0
  unfolding window
  window-past i h = rw (le-ltb i n h, window)

-- a number stored in a table changes that entry
pub window-set : (base n : ℕ) (m : List ℕ) (i v : ℕ) → i < n → (base + i) * 2 + 1 < length m → v < 65536 → window base n (set_word m (base + i) v) ≡ put i v (window base n m)
window-set base n m i v h long fits = fun_ext (λ j. go j (ℕ_discrete j i) (dec_lt j n))
  where
    m' : List ℕ
    m' = set_word m (base + i) v

    go : (j : ℕ) → Dec (j ≡ i) → Dec (j < n) → window base n m' j ≡ put i v (window base n m) j
    go j (yes e) d = rw e (window-in base n m' i h ∙ word_same m (base + i) v long fits ∙ sym (put_same i v (window base n m)))
    go j (no e) (yes l) = window-in base n m' j l ∙ word-other m (base + i) v (base + j) (λ x. e (omega arith)) ∙ sym (window-in base n m j l) ∙ sym (put_other i v (window base n m) j e)
    go j (no e) (no l) = window-past base n m' j (omega arith) ∙ sym (window-past base n m j (omega arith)) ∙ sym (put_other i v (window base n m) j e)

-- a number stored elsewhere leaves it
pub window-else : (base n : ℕ) (m : List ℕ) (k v : ℕ) → (base ≤ k → k < base + n → ⊥) → window base n (set_word m k v) ≡ window base n m
window-else base n m k v h = fun_ext (λ j. go j (dec_lt j n))
  where
    go : (j : ℕ) → Dec (j < n) → window base n (set_word m k v) j ≡ window base n m j
    go j (yes l) = window-in base n (set_word m k v) j l ∙ word-other m k v (base + j) (λ e. h (omega arith) (omega arith)) ∙ sym (window-in base n m j l)
    go j (no l) = window-past base n (set_word m k v) j (omega arith) ∙ sym (window-past base n m j (omega arith))

-- ---- A part of the bytes: n numbers, given by f
pub record Numbers (bytes : List ℕ) (n : ℕ) (f : ℕ → ℕ) : Type 0 where
  pub size : length bytes ≡ n * 2
  pub number : (i : ℕ) → i < n → word_at bytes i ≡ f i

pub numbers_of_lem : (m : List ℕ) (k n : ℕ) → (k + n) * 2 ≤ length m → Numbers (take (n * 2) (drop (k * 2) m)) n (λ i. word_at m (k + i))
unfolding word_at
numbers_of_lem m k n h = record {
  size = length-take-le (n * 2) (drop (k * 2) m) (omega (arith, length-drop (k * 2) m));
  number = λ i l. rw (byte (i * 2) ((k + i) * 2) (omega arith) (omega arith), byte (i * 2 + 1) ((k + i) * 2 + 1) (omega arith) (omega arith)) refl;
}
  where
    byte : (x y : ℕ) → x < n * 2 → k * 2 + x ≡ y → get_or (take (n * 2) (drop (k * 2) m)) x 0 ≡ get_or m y 0
    byte x y l e = get_or-take (n * 2) (drop (k * 2) m) x 0 l ∙ get_or-drop (k * 2) m x 0 ∙ ap (λ z. get_or m z 0) e

pub numbers-by : (bytes : List ℕ) (n : ℕ) (f g : ℕ → ℕ) → Numbers bytes n f → ((i : ℕ) → i < n → f i ≡ g i) → Numbers bytes n g
numbers-by bytes n f g h e = record { size = h.size; number = λ i l. h.number i l ∙ e i l }
