-- What an entry of a table reads, and what a number stored as one changes.
use Rattle.std.specs.Prelude.{◌≡◌, refl, Bool, true, false, List, ℕ, ◌+◌, ◌*◌, ◌≤◌, ◌<◌, eqb, length, if◌then◌else◌}
use Rattle.std.proofs.Common.{sym, ◌∙◌, arith, eq-eqb, ne_eqb}
use Rattle.std.proofs.Math.Path.{ap}
use Rattle.std.proofs.Math.Decide.{ℕ_discrete, dec_lt}
use Rattle.lists.specs.Tables.{put}
use Rattle.rules.specs.Shape.{Shape}
use Rattle.rules.specs.Memory.{needed}
use Rattle.memory.specs.Words.{word_at, set_word, word_at-lt, window, window-in, window-set, window-else}
use Rattle.memory.specs.Blocks.{blocks_at, block-else, drop-else}
use Rattle.memory.specs.Layout.{ends-before, ends-within}
use Rattle.memory.specs.declared.tables.Table.{Table}
use Rattle.memory.specs.Tables.{Tables, tables_of, tables_by, table_at, table-by, start_of, size_of, sizes, index, pick, with_table}

module _ (h : Shape) (m : List ℕ) (t : Table) where
  table_is : table_at t (tables_of h m) ≡ window (start_of h t) (size_of h t) m
  unfolding tables_of
  table_is = table-by (λ u. window (start_of h u) (size_of h u) m) _ _ t

  pub get-table : (i : ℕ) → i < size_of h t → table_at t (tables_of h m) i ≡ word_at m (start_of h t + i)
  get-table i l = ap (λ f. f i) table_is ∙ window-in (start_of h t) (size_of h t) m i l

  pub table-lt : (i : ℕ) → i < size_of h t → table_at t (tables_of h m) i < 65536
  table-lt i l = rw (get-table i l) (word_at-lt m (start_of h t + i))

-- what a table is changed to, and changed again
pub table-with : (t : Table) (f : ℕ → ℕ) (x : Tables) → table_at t (with_table t f x) ≡ f
table-with t f x = table-by (λ u. pick t u f (table_at u x)) _ _ t ∙ rw (eq-eqb (index t) (index t) refl)

pub table-again : (t : Table) (f g : ℕ → ℕ) (x : Tables) → with_table t g (with_table t f x) ≡ with_table t g x
table-again t f g x = λ k. tables_by (λ u. again (eqb (index t) (index u)) (table_at u x) k) x.blocks x.tail
  where
    again : (b : Bool) (y : ℕ → ℕ) → (if b then g else (if b then f else y)) ≡ (if b then g else y)
    again true y = refl
    again false y = refl

-- a table ends before the blocks
pub end-table : (h : Shape) (t : Table) → (start_of h t + size_of h t) * 2 ≤ blocks_at h
end-table h t = omega (arith, ends-within 0 (index t) (sizes h))

-- A number stored as entry i of table t changes that entry and nothing else
module _ (h : Shape) (m : List ℕ) (long : needed h ≤ length m) (t : Table) (i v : ℕ) (fits : v < 65536) (l : i < size_of h t) where
  abbrev m' : List ℕ
  m' = set_word m (start_of h t + i) v

  apart : (u : Table) → (index t ≡ index u → ⊥) → start_of h u ≤ start_of h t + i → start_of h t + i < start_of h u + size_of h u → ⊥
  apart u n a b = go (dec_lt (index t) (index u))
    where
      go : Dec (index t < index u) → ⊥
      go (yes k) = omega (arith, ends-before 0 (index t) (index u) (sizes h) k)
      go (no k) = omega (arith, ends-before 0 (index u) (index t) (sizes h) (omega arith))

  table-set : (u : Table) → window (start_of h u) (size_of h u) m' ≡ pick t u (put i v (table_at t (tables_of h m))) (window (start_of h u) (size_of h u) m)
  unfolding needed
  table-set u = go (ℕ_discrete (index t) (index u))
    where
      go : Dec (index t ≡ index u) → window (start_of h u) (size_of h u) m' ≡ pick t u (put i v (table_at t (tables_of h m))) (window (start_of h u) (size_of h u) m)
      go (yes e) = rw (eq-eqb (index t) (index u) e, ← e) (window-set (start_of h t) (size_of h t) m i v l (omega (arith, end-table h t)) fits ∙ ap (put i v) (sym (table_is h m t)))
      go (no n) = rw (ne_eqb (index t) (index u) n) (window-else (start_of h u) (size_of h u) m (start_of h t + i) v (apart u n))

  pub set-table : tables_of h m' ≡ with_table t (put i v (table_at t (tables_of h m))) (tables_of h m)
  unfolding tables_of
  set-table =
      let before : (start_of h t + i) * 2 + 1 < blocks_at h = omega (arith, end-table h t) in
      λ k. tables_by (λ u. table-set u k) (block-else h m (start_of h t + i) v before k) (drop-else h m (start_of h t + i) v before k)
