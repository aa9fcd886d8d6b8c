-- Numbers put into a table one after the other, from an entry on.
use denote.Param.Members.{Shared}
use Rattle.std.specs.Prelude.{◌≡◌, List, [], ◌∷◌, ℕ, ◌+◌, ◌<◌}
use Rattle.std.proofs.Common.{ap, sym, ◌∙◌}
use Rattle.lists.specs.Entries.{put_all-none, put_first}
use Rattle.lists.specs.Tables.{put, put_all}
use Rattle.memory.specs.declared.tables.Table.{Table}
use Rattle.memory.specs.Tables.{Tables, table_at, with_table, table-own}
use Rattle.memory.specs.Stored.{table-with, table-again}

unfoldable pub laid : Table → ℕ → List ℕ → Tables → Tables
laid t a [] x = x
laid t a (v ∷ vs) x = laid t (a + 1) vs (with_table t (put a v (table_at t x)) x)

-- f gives each of n numbers, and left says which are left from number i on
pub record Lays {F : Type 0} (g : Shared F (ℕ × Unit {0}) ℕ) (f : F) (n : ℕ) (left : ℕ → List ℕ) : Type 0 where
  pub may : (i : ℕ) → i < n → g.pre f (i, tt)
  pub next : (i x : ℕ) → i < n → g.post f (i, tt) x → (left i ≡ x ∷ left (i + 1)) × (x < 65536)
  pub end : left n ≡ []

-- one more of those that are left; and none is
pub laid-step : (t : Table) (k k' v : ℕ) (vs us : List ℕ) (x x' y : Tables) → k' ≡ k + 1 → us ≡ v ∷ vs → x' ≡ with_table t (put k v (table_at t x)) x → laid t k us x ≡ y → laid t k' vs x' ≡ y
unfolding laid
laid-step t k k' v vs us x x' y n u e l = (λ i. laid t (n i) vs (e i)) ∙ sym (ap (λ ws. laid t k ws x) u) ∙ l

pub laid_end : (t : Table) (k : ℕ) (us : List ℕ) (x y : Tables) → us ≡ [] → laid t k us x ≡ y → x ≡ y
unfolding laid
laid_end t k us x y u l = sym (ap (λ ws. laid t k ws x) u) ∙ l

-- all of them at once
pub laid-is : (t : Table) (a : ℕ) (vs : List ℕ) (x : Tables) → laid t a vs x ≡ with_table t (put_all a vs (table_at t x)) x
unfolding laid
laid-is t a [] x = sym (table-own t x) ∙ ap (λ f. with_table t f x) (put_all-none a (table_at t x))
laid-is t a (v ∷ vs) x =
    let f = put a v (table_at t x) in
    laid-is t (a + 1) vs (with_table t f x)
    ∙ ap (λ g. with_table t (put_all (a + 1) vs g) (with_table t f x)) (table-with t f x)
    ∙ table-again t f (put_all (a + 1) vs f) x
    ∙ ap (λ g. with_table t g x) (put_first a v vs (table_at t x))
