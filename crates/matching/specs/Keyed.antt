-- Hidden values, one for each key: a trade of the value at one key is a trade of them all.
use Rattle.std.specs.Prelude.{◌≡◌, ℕ}
use Rattle.std.proofs.Common.{ap}
use Rattle.std.proofs.Math.Logic.{ite}
use Rattle.std.proofs.Math.Decide.{ℕ_discrete}

-- a key is a pair of numbers
abbrev pub Key : Type 0
Key = ℕ × ℕ

pub key-discrete : (j k : Key) → Dec (j ≡ k)
key-discrete j k = go (ℕ_discrete j.0 k.0) (ℕ_discrete j.1 k.1)
  where
    go : Dec (j.0 ≡ k.0) → Dec (j.1 ≡ k.1) → Dec (j ≡ k)
    go (yes p) (yes q) = yes (λ i. (p i, q i))
    go (yes p) (no q) = no (λ e. q (ap (λ (x : Key). x.1) e))
    go (no p) d = no (λ e. p (ap (λ (x : Key). x.0) e))

module _ {A : Type 0} where
  -- the family with the value at k replaced
  unfoldable pub update : Key → A → (Key → A) → Key → A
  update k x f j = ite (key-discrete j k) x (f j)
