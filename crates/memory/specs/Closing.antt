-- A table that closes up: the entries behind one of them move down by one, over it.
use Rattle.std.specs.Prelude.{◌≡◌, true, false, ◌&&◌, List, ℕ, ◌+◌, ◌≤◌, ◌<◌, leb, ltb}
use Rattle.std.proofs.Common.{sym, ap, ◌∙◌, arith}
use Rattle.std.proofs.Math.Path.{fun_ext}
use Rattle.std.proofs.Math.Decide.{ℕ_discrete, dec_lt}
use borrow.Author.Tests.{le-leb, lt-leb, lt-ltb, le-ltb}
use Rattle.lists.specs.Tables.{put, put_same, put_other}
use Rattle.rules.specs.Shape.{Shape}
use Rattle.memory.specs.declared.tables.Table.{Table}
use Rattle.memory.specs.Tables.{tables_of, table_at, with_table, table-own}
use Rattle.memory.specs.Stored.{table-with, table-again}
use Rattle.memory.specs.Fits.{fit}

-- the entries behind entry a, up to entry n, have moved down by one. One that is out of range moves as it is read, as 0
unfoldable pub closed_up : ℕ → ℕ → ℕ → (ℕ → ℕ) → ℕ → ℕ
closed_up bound a n f x = elim (leb a x && ltb x n) [ true ↦ fit bound (f (x + 1)) | false ↦ f x ]

module _ (bound a n : ℕ) (f : ℕ → ℕ) (x : ℕ) where
  pub closed-low : x < a → closed_up bound a n f x ≡ f x
  unfolding closed_up
  closed-low l = rw (lt-leb a x l, closed_up)

  pub closed_in : a ≤ x → x < n → closed_up bound a n f x ≡ fit bound (f (x + 1))
  unfolding closed_up
  closed_in l u = rw (le-leb a x l, lt-ltb x n u, closed_up)

  pub closed-past : a ≤ x → n ≤ x → closed_up bound a n f x ≡ f x
  unfolding closed_up
  closed-past l u = rw (le-leb a x l, le-ltb x n u, closed_up)

module _ (bound a : ℕ) (f : ℕ → ℕ) where
  -- none has moved
  closed_none : closed_up bound a a f ≡ f
  closed_none = fun_ext (λ x. go x (dec_lt x a))
    where
      go : (x : ℕ) → Dec (x < a) → closed_up bound a a f x ≡ f x
      go x (yes l) = closed-low bound a a f x l
      go x (no l) = closed-past bound a a f x (omega arith) (omega arith)

  -- one more moves
  closed-more : (i : ℕ) → a ≤ i → put i (fit bound (closed_up bound a i f (i + 1))) (closed_up bound a i f) ≡ closed_up bound a (i + 1) f
  closed-more i h = fun_ext (λ x. go x (ℕ_discrete x i) (dec_lt x a) (dec_lt x i))
    where
      g : ℕ → ℕ
      g = closed_up bound a i f

      go : (x : ℕ) → Dec (x ≡ i) → Dec (x < a) → Dec (x < i) → put i (fit bound (g (i + 1))) g x ≡ closed_up bound a (i + 1) f x
      go x (yes e) d k = rw e (put_same i (fit bound (g (i + 1))) g ∙ ap (fit bound) (closed-past bound a i f (i + 1) (omega arith) (omega arith)) ∙ sym (closed_in bound a (i + 1) f i h (omega arith)))
      go x (no e) (yes l) k = put_other i (fit bound (g (i + 1))) g x e ∙ closed-low bound a i f x l ∙ sym (closed-low bound a (i + 1) f x l)
      go x (no e) (no l) (yes u) = put_other i (fit bound (g (i + 1))) g x e ∙ closed_in bound a i f x (omega arith) u ∙ sym (closed_in bound a (i + 1) f x (omega arith) (omega arith))
      go x (no e) (no l) (no u) = put_other i (fit bound (g (i + 1))) g x e ∙ closed-past bound a i f x (omega arith) (omega arith) ∙ sym (closed-past bound a (i + 1) f x (omega arith) (omega arith))

-- ---- Table t of the memory m₀, closed up from entry a on as far as entry i
module _ (h : Shape) (t : Table) (bound a : ℕ) (m₀ : List ℕ) where
  abbrev pub Closing : List ℕ → ℕ → Type 0
  Closing m i = tables_of h m ≡ with_table t (closed_up bound a i (table_at t (tables_of h m₀))) (tables_of h m₀)

  pub closing-none : Closing m₀ a
  closing-none = sym (table-own t (tables_of h m₀)) ∙ ap (λ f. with_table t f (tables_of h m₀)) (sym (closed_none bound a (table_at t (tables_of h m₀))))

  pub closing-more : (m m' : List ℕ) (i v : ℕ) → a ≤ i → v ≡ fit bound (table_at t (tables_of h m) (i + 1)) → tables_of h m' ≡ with_table t (put i v (table_at t (tables_of h m))) (tables_of h m)
      → Closing m i → Closing m' (i + 1)
  closing-more m m' i v l e s c =
      let f = table_at t (tables_of h m₀) in
      let g = closed_up bound a i f in
      let same : table_at t (tables_of h m) ≡ g = ap (table_at t) c ∙ table-with t g (tables_of h m₀) in
      s
      ∙ ap (λ x. with_table t (put i v (table_at t (tables_of h m))) x) c
      ∙ table-again t g (put i v (table_at t (tables_of h m))) (tables_of h m₀)
      ∙ ap (λ k. with_table t (put i v k) (tables_of h m₀)) same
      ∙ ap (λ w. with_table t (put i w g) (tables_of h m₀)) (e ∙ ap (λ k. fit bound (k (i + 1))) same)
      ∙ ap (λ k. with_table t k (tables_of h m₀)) (closed-more bound a f i l)
