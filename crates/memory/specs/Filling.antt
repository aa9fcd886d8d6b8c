-- A table of which a run of entries becomes one number.
use Rattle.std.specs.Prelude.{◌≡◌, List, ℕ, ◌+◌, length, replicate}
use Rattle.std.proofs.Common.{sym, ap, ◌∙◌}
use Rattle.std.proofs.lemmas.List.{length-replicate, replicate-append-replicate}
use Rattle.lists.specs.Entries.{put-more, put_all-none}
use Rattle.lists.specs.Tables.{put, put_all}
use Rattle.rules.specs.Shape.{Shape}
use Rattle.memory.specs.declared.tables.Table.{Table}
use Rattle.memory.specs.Tables.{tables_of, table_at, with_table, table-own}
use Rattle.memory.specs.Stored.{table-with, table-again}

-- one entry more
pub fill-more : (a n v : ℕ) (f : ℕ → ℕ) → put (a + n) v (put_all a (replicate n v) f) ≡ put_all a (replicate (n + 1) v) f
fill-more a n v f =
    let e : length (replicate n v) ≡ n = length-replicate n v in
    rw (← replicate-append-replicate n 1 v) (ap (λ k. put (a + k) v (put_all a (replicate n v) f)) (sym e) ∙ put-more a (replicate n v) f v)

-- ---- Of table t of the memory m₀, the n entries from `base` on have become v
module _ (h : Shape) (t : Table) (base v : ℕ) (m₀ : List ℕ) where
  abbrev pub Filling : List ℕ → ℕ → Type 0
  Filling m n = tables_of h m ≡ with_table t (put_all base (replicate n v) (table_at t (tables_of h m₀))) (tables_of h m₀)

  pub filling-none : Filling m₀ 0
  filling-none = sym (table-own t (tables_of h m₀)) ∙ ap (λ f. with_table t f (tables_of h m₀)) (put_all-none base (table_at t (tables_of h m₀)))

  pub filling-more : (m m' : List ℕ) (n : ℕ) → tables_of h m' ≡ with_table t (put (base + n) v (table_at t (tables_of h m))) (tables_of h m) → Filling m n → Filling m' (n + 1)
  filling-more m m' n s c =
      let f = table_at t (tables_of h m₀) in
      let g = put_all base (replicate n v) f in
      let same : table_at t (tables_of h m) ≡ g = ap (table_at t) c ∙ table-with t g (tables_of h m₀) in
      s
      ∙ ap (λ x. with_table t (put (base + n) v (table_at t (tables_of h m))) x) c
      ∙ table-again t g (put (base + n) v (table_at t (tables_of h m))) (tables_of h m₀)
      ∙ ap (λ k. with_table t (put (base + n) v k) (tables_of h m₀)) same
      ∙ ap (λ k. with_table t k (tables_of h m₀)) (fill-more base n v f)
