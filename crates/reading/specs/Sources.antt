-- Which levels are sources of the front job, as the code counts them.
use Rattle.std.specs.Prelude.{◌≡◌, refl, Bool, true, false, ◌&&◌, List, ◌∷◌, ℕ, ◌+◌, ◌≤◌, ◌<◌}
use Rattle.std.proofs.Math.Path.{ap, sym}
use Rattle.std.proofs.Common.{◌∙◌, arith}
use Rattle.std.proofs.Math.Decide.{dec_lt}
use Rattle.std.proofs.Math.Dec.{ltb, leb}
use borrow.Author.Tests.{eq-eqb, ne_eqb, lt-ltb, le-ltb, le-leb, lt-leb}
use Rattle.lists.specs.Search.{below, count}
use Rattle.rules.specs.Levels.{filled}
use Rattle.rules.specs.Jobs.{top_of}
use Rattle.rules.specs.Request.{is_front, is_source}
use Rattle.memory.specs.Fits.{shape_of, fit}
use Rattle.memory.specs.Tables.{tables_of}
use Rattle.client.specs.declared.Client.{Client}
use Rattle.client.specs.View.{rows, view, state_of}

-- the filled levels below n are sources, and no others
pub record Sources (c : Client) (m : List ℕ) (q n : ℕ) : Type 0 where
  pub end : n ≤ c.shape.l
  pub source : (ℓ : ℕ) → is_source (state_of c m) q ℓ ≡ (ltb ℓ n && filled ((state_of c m).counter q) ℓ)

module _ (c : Client) (m : List ℕ) (q : ℕ) where
  none_below : (ℓ : ℕ) → false ≡ (ltb ℓ 0 && filled ((state_of c m).counter q) ℓ)
  none_below ℓ = sym (ap (λ t. t && filled ((state_of c m).counter q) ℓ) (le-ltb ℓ 0 (omega arith)))

  pub no-job : c.jobs ≡ 0 → Sources c m q 0
  unfolding is_source is_front state_of view rows below count
  no-job e = record { end = omega arith; source = λ ℓ. no ℓ }
    where
      no : (ℓ : ℕ) → is_source (state_of c m) q ℓ ≡ (ltb ℓ 0 && filled ((state_of c m).counter q) ℓ)
      no ℓ = ap (λ n. is_front (rows (λ i. fit c.shape.p ((tables_of (shape_of c.shape) m).queue i)) n) q && (leb ℓ (top_of (state_of c m) q) && filled ((state_of c m).counter q) ℓ)) e ∙ none_below ℓ

  module _ (p : ℕ) (rest : List ℕ) (front : (state_of c m).queue ≡ p ∷ rest) where
    pub other-job : (p ≡ q → ⊥) → Sources c m q 0
    unfolding is_source is_front
    other-job n = record { end = omega arith; source = λ ℓ. no ℓ }
      where
        no : (ℓ : ℕ) → is_source (state_of c m) q ℓ ≡ (ltb ℓ 0 && filled ((state_of c m).counter q) ℓ)
        no ℓ = ap (λ qs. is_front qs q && (leb ℓ (top_of (state_of c m) q) && filled ((state_of c m).counter q) ℓ)) front ∙ rw (ne_eqb p q n) (none_below ℓ)

    pub own-job : p ≡ q → (t : ℕ) → t < c.shape.l → t ≡ top_of (state_of c m) q → Sources c m q (t + 1)
    unfolding is_source is_front
    own-job e t l s = record { end = omega arith; source = λ ℓ. yes ℓ }
      where
        up_to : (ℓ : ℕ) → leb ℓ t ≡ ltb ℓ (t + 1)
        up_to ℓ = go (dec_lt ℓ (t + 1))
          where
            go : Dec (ℓ < t + 1) → leb ℓ t ≡ ltb ℓ (t + 1)
            go (yes k) = le-leb ℓ t (omega arith) ∙ sym (lt-ltb ℓ (t + 1) k)
            go (no k) = lt-leb ℓ t (omega arith) ∙ sym (le-ltb ℓ (t + 1) (omega arith))

        yes : (ℓ : ℕ) → is_source (state_of c m) q ℓ ≡ (ltb ℓ (t + 1) && filled ((state_of c m).counter q) ℓ)
        yes ℓ = ap (λ qs. is_front qs q && (leb ℓ (top_of (state_of c m) q) && filled ((state_of c m).counter q) ℓ)) front
            ∙ rw (eq-eqb p q e) (ap (λ x. leb ℓ x && filled ((state_of c m).counter q) ℓ) (sym s) ∙ ap (λ x. x && filled ((state_of c m).counter q) ℓ) (up_to ℓ))

-- one level
module _ (c : Client) (m : List ℕ) (q n ℓ : ℕ) (s : Sources c m q n) where
  pub above : n ≤ ℓ → is_source (state_of c m) q ℓ ≡ false
  above l = s.source ℓ ∙ rw (le-ltb ℓ n l)

  -- a filled one
  pub marked : filled ((state_of c m).counter q) ℓ ≡ true → is_source (state_of c m) q ℓ ≡ ltb ℓ n
  marked f = s.source ℓ ∙ rw f (go (ltb ℓ n))
    where
      go : (t : Bool) → (t && true) ≡ t
      go true = refl
      go false = refl

  pub beneath : filled ((state_of c m).counter q) ℓ ≡ true → ℓ < n → is_source (state_of c m) q ℓ ≡ true
  beneath f l = marked f ∙ lt-ltb ℓ n l
