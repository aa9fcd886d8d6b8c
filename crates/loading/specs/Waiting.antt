-- Where no two records have one age, nor one block, the tables say of an age and of a block what its record does.
use Rattle.std.specs.Prelude.{◌≡◌, ℕ, ◌<◌}
use Rattle.std.proofs.Math.Path.{refl, ap, sym}
use Rattle.std.proofs.Common.{◌∙◌, inl, inr, eq-eqb, ne_eqb}
use mathlib.Core.List.{List, [], ◌∷◌, map}
use Rattle.std.proofs.Math.Option.{Option, none, some}
use Rattle.std.proofs.Math.Decide.{ℕ_discrete}
use Rattle.std.proofs.Math.Dec.{eqb}
use Rattle.lists.specs.All.{All, cons}
use Rattle.lists.specs.Distinct.{Mem, NoDup}
use Rattle.lists.specs.Search.{find, find-yes, find-no}
use Rattle.lists.specs.Tables.{put, put_same, put_other, put_has}
use Rattle.rules.specs.Form.Loading.{aged, of_block, block_in, bytes_in}
use Rattle.rules.specs.Form.Payload.{Waiter}
use Rattle.forms.specs.Facts.{ages_of, names_of}
use Rattle.loading.specs.Records.{by_key, by_age, by_block}

module _ {A : Type 0} (key : Waiter → ℕ) (value : Waiter → A) where
  -- what the record found has, or something else where there is none
  unfoldable value_in : A → Option Waiter → A
  value_in d none = d
  value_in d (some r) = value r

  pub key-else : (f : ℕ → A) (rs : List Waiter) (k : ℕ) → ¬ Mem k (map key rs) → by_key key value f rs k ≡ f k
  unfolding by_key
  key-else f [] k n = refl
  key-else f (r ∷ rs) k n = key-else (put (key r) (value r) f) rs k (λ m. n (inr m)) ∙ put_other (key r) (value r) f k (λ e. n (inl e))

  key-is : (f : ℕ → A) (rs : List Waiter) (k : ℕ) (d : A) → f k ≡ d → NoDup (map key rs) → by_key key value f rs k ≡ value_in d (find (λ (x : Waiter). eqb (key x) k) rs)
  unfolding by_key value_in find
  key-is f [] k d z n = z
  key-is f (r ∷ rs) k d z n = go (ℕ_discrete k (key r)) (λ e. key-is (put (key r) (value r) f) rs k d (put_other (key r) (value r) f k e ∙ z) n.1)
    where
      go : Dec (k ≡ key r) → ((k ≡ key r → ⊥) → by_key key value (put (key r) (value r) f) rs k ≡ value_in d (find (λ (x : Waiter). eqb (key x) k) rs))
          → by_key key value (put (key r) (value r) f) rs k ≡ value_in d (find (λ (x : Waiter). eqb (key x) k) (r ∷ rs))
      go (yes e) ih =
          key-else (put (key r) (value r) f) rs k (λ m. n.0 (rw e at m)) ∙ ap (put (key r) (value r) f) e ∙ put_same (key r) (value r) f
          ∙ sym (ap (value_in d) (find-yes (λ (x : Waiter). eqb (key x) k) r rs (eq-eqb (key r) k (sym e))))
      go (no e) ih = ih e ∙ sym (ap (value_in d) (find-no (λ (x : Waiter). eqb (key x) k) r rs (ne_eqb (key r) k (λ z. e (sym z)))))

-- by age, and by block
pub age-is : (f : ℕ → ℕ) (rs : List Waiter) (a : ℕ) → f a ≡ 0 → NoDup (ages_of rs) → by_age f rs a ≡ block_in (aged rs a)
unfolding aged
age-is f rs a z n = key-is (λ (r : Waiter). r.age) (λ (r : Waiter). r.block) f rs a 0 z n ∙ same (find (λ (r : Waiter). eqb r.age a) rs)
  where
    same : (o : Option Waiter) → value_in (λ (r : Waiter). r.age) (λ (r : Waiter). r.block) 0 o ≡ block_in o
    same none = unfold value_in block_in in refl
    same (some r) = unfold value_in block_in in refl

pub block-is : (f : ℕ → List ℕ) (rs : List Waiter) (b : ℕ) (d : List ℕ) → f b ≡ d → NoDup (names_of rs) → by_block f rs b ≡ bytes_in d (of_block rs b)
unfolding of_block
block-is f rs b d z n = key-is (λ (r : Waiter). r.block) (λ (r : Waiter). r.bytes) f rs b d z n ∙ same (find (λ (r : Waiter). eqb r.block b) rs)
  where
    same : (o : Option Waiter) → value_in (λ (r : Waiter). r.block) (λ (r : Waiter). r.bytes) d o ≡ bytes_in d o
    same none = unfold value_in bytes_in in refl
    same (some r) = unfold value_in bytes_in in refl

pub age-lt : (f : ℕ → ℕ) (rs : List Waiter) (N a : ℕ) → f a < N → All (λ b. b < N) (names_of rs) → by_age f rs a < N
unfolding by_key
age-lt f [] N a l k = l
age-lt f (r ∷ rs) N a l (cons h t) = age-lt (put r.age r.block f) rs N a (put_has (λ b. b < N) r.age r.block f a h l) t
