-- A form's blocks as a loop goes through them: one more, and none.
use Rattle.std.specs.Int.{from_bool}
use Rattle.std.specs.Prelude.{◌≡◌, Bool, true, false, not, ℕ, ◌+◌, ◌-◌, ◌≤◌, ◌<◌, eqb, length, get_or, set}
use Rattle.std.proofs.Math.Path.{refl, ap, sym}
use Rattle.std.proofs.Common.{◌∙◌, arith}
use mathlib.Core.List.{List, [], ◌∷◌, ◌++◌}
use Rattle.lists.specs.Lengths.{bit}
use Rattle.lists.specs.Search.{keep, below, count, keep-yes, keep-no}
use Rattle.rules.specs.Form.Reading.{Spot, is_waiting}
use Rattle.rules.specs.Shape.{Shape}
use Rattle.forms.specs.At.{block_at, block_size, each_at, size_at, wait_count}
use Rattle.forms.specs.Blocks.{blocks_at, blocks_left, size_left, stands, marked, all_stand, waits-at}
use Rattle.forms.specs.Cells.{cell_at, cells_of}
use Rattle.forms.specs.Lists.{count_left, count_none}
use Rattle.forms.specs.Once.{mark_all}

module _ (p : List ℕ) (n b a : ℕ) where
  pub blocks-left : b < n → blocks_left p n b a ≡ block_at p 1 a ∷ blocks_left p n (b + 1) (a + block_size p 1 a)
  unfolding each_at
  blocks-left l = ap (λ ks. each_at (λ _. block_at p 1) (λ _. block_size p 1) ks a) (count_left n b l)

  pub blocks-none : n ≤ b → blocks_left p n b a ≡ []
  unfolding each_at
  blocks-none l = ap (λ ks. each_at (λ _. block_at p 1) (λ _. block_size p 1) ks a) (count_none n b l)

  pub size-left : b < n → size_left p n b a ≡ block_size p 1 a + size_left p n (b + 1) (a + block_size p 1 a)
  unfolding size_at
  size-left l = ap (λ ks. size_at (λ _. block_size p 1) ks a) (count_left n b l)

  pub size_none : n ≤ b → size_left p n b a ≡ 0
  unfolding size_at
  size_none l = ap (λ ks. size_at (λ _. block_size p 1) ks a) (count_none n b l)

-- at first all are left
pub blocks-all : (p : List ℕ) (n a : ℕ) → blocks_left p n 0 a ≡ blocks_at p n a
unfolding below
blocks-all p n a = let e : n - 0 ≡ n = omega arith in ap (λ k. each_at (λ _. block_at p 1) (λ _. block_size p 1) (count 0 k) a) e

pub size-all : (p : List ℕ) (n a : ℕ) → size_left p n 0 a ≡ size_at (λ _. block_size p 1) (below n) a
unfolding below
size-all p n a = let e : n - 0 ≡ n = omega arith in ap (λ k. size_at (λ _. block_size p 1) (count 0 k) a) e

-- how many wait
pub wait-left : (p : List ℕ) (n b a : ℕ) → b < n → wait_count (blocks_left p n b a) ≡ bit (is_waiting (block_at p 1 a)) + wait_count (blocks_left p n (b + 1) (a + block_size p 1 a))
unfolding wait_count bit
wait-left p n b a l = ap (λ xs. length (keep is_waiting xs)) (blocks-left p n b a l) ∙ go (is_waiting (block_at p 1 a)) refl
  where
    xs : List (ℕ × Spot)
    xs = blocks_left p n (b + 1) (a + block_size p 1 a)

    go : (t : Bool) → is_waiting (block_at p 1 a) ≡ t → length (keep is_waiting (block_at p 1 a ∷ xs)) ≡ bit t + length (keep is_waiting xs)
    go true e = rw (keep-yes is_waiting (block_at p 1 a) xs e) (omega arith)
    go false e = rw (keep-no is_waiting (block_at p 1 a) xs e) (omega arith)

pub wait-none : (p : List ℕ) (n b a : ℕ) → n ≤ b → wait_count (blocks_left p n b a) ≡ 0
unfolding wait_count keep
wait-none p n b a l = ap (λ xs. length (keep is_waiting xs)) (blocks-none p n b a l)

pub waits-is : (p : List ℕ) (a : ℕ) → is_waiting (block_at p 1 a) ≡ eqb (get_or p (a + 2) 0) 254
unfolding block_at is_waiting
waits-is p a = waits-at p 1 (a + 2)

-- a test as a number
pub bit_from : (t : Bool) → from_bool t ≡ bit t
unfolding bit
bit_from true = refl
bit_from false = refl

pub bit_not : (t : Bool) → from_bool (not t) ≡ 1 - bit t
unfolding bit
bit_not true = refl
bit_not false = refl

pub bit_low : (t : Bool) → bit t ≤ 1
unfolding bit
bit_low true = omega arith
bit_low false = omega arith

-- ---- Standing apart

module _ (h : Shape) (counter : ℕ → ℕ) (seen : List ℕ) (x : ℕ × Spot) (xs : List (ℕ × Spot)) where
  pub stand-more : stands h counter seen x ≡ true → all_stand h counter (marked h seen x) xs ≡ all_stand h counter seen (x ∷ xs)
  unfolding all_stand
  stand-more e = rw e

  pub stand-not : stands h counter seen x ≡ false → all_stand h counter seen (x ∷ xs) ≡ false
  unfolding all_stand
  stand-not e = rw e

  marked_append : (seen ys zs : List ℕ) → mark_all seen (ys ++ zs) ≡ mark_all (mark_all seen ys) zs
  unfolding mark_all
  marked_append seen [] zs = refl
  marked_append seen (y ∷ ys) zs = marked_append (set seen y 1) ys zs

  pub marked_more : mark_all (marked h seen x) (cells_of h xs) ≡ mark_all seen (cells_of h (x ∷ xs))
  unfolding cells_of
  marked_more = sym (marked_append seen (cell_at h x.0 x.1) (cells_of h xs))

pub stand-none : (h : Shape) (counter : ℕ → ℕ) (seen : List ℕ) → all_stand h counter seen [] ≡ true
unfolding all_stand
stand-none h counter seen = refl

pub marked-none : (h : Shape) (seen : List ℕ) → mark_all seen (cells_of h []) ≡ seen
unfolding cells_of mark_all
marked-none h seen = refl
