-- The block that has waited longest for a partition, by its place in the cache.
use Rattle.std.specs.Prelude.{◌≡◌, Bool, true, false, Option, Some, None, MatchOption, [], ℕ, zero, suc, ◌<◌, length, get_or, take, eqb}
use Rattle.std.proofs.Math.Path.{refl}
use Rattle.std.proofs.Common.{ap, ◌∙◌, arith}
use Rattle.lists.specs.Search.{keep, below, count, keep-no}
use Rattle.rules.specs.State.{State}
use Rattle.client.specs.View.{rows}
use Rattle.client.specs.Rows.{length-rows, get_d_rows, rows-cons, rows_take}

-- a block for q
abbrev pub waits_for : State → ℕ → ℕ → Bool
waits_for s q b = eqb (s.partition b) q

-- no block before place r waits for q, and the one there does
pub record LongestAt (s : State) (q r : ℕ) : Type 0 where
  pub inside : r < length s.waiting
  pub before : keep (waits_for s q) (take r s.waiting) ≡ []
  pub here : waits_for s q (get_or s.waiting r 0) ≡ true

-- ..or no block waits for q
abbrev pub Longest : State → ℕ → Option ℕ → Type 0
Longest s q r = MatchOption r (keep (waits_for s q) s.waiting ≡ []) (LongestAt s q)

kept-none : (p : ℕ → Bool) (g : ℕ → ℕ) (n : ℕ) → ((i : ℕ) → i < n → p (g i) ≡ false) → keep p (rows g n) ≡ []
kept-none p g zero h = unfold rows below count keep in refl
kept-none p g (suc n) h = ap (keep p) (rows-cons g n) ∙ keep-no p (g 0) _ (h 0 (omega arith)) ∙ kept-none p (λ i. g (suc i)) n (λ i l. h (suc i) (omega arith))

module _ (s : State) (q : ℕ) (g : ℕ → ℕ) (n : ℕ) (e : s.waiting ≡ rows g n) where
  pub longest-none : ((i : ℕ) → i < n → waits_for s q (g i) ≡ false) → Longest s q None
  longest-none b = ap (keep (waits_for s q)) e ∙ kept-none (waits_for s q) g n b

  pub longest-at : (r : ℕ) → r < n → ((i : ℕ) → i < r → waits_for s q (g i) ≡ false) → waits_for s q (g r) ≡ true → Longest s q (Some r)
  longest-at r l b h = record {
    inside = rw (e, length-rows) l;
    before = ap (λ xs. keep (waits_for s q) (take r xs)) e ∙ ap (keep (waits_for s q)) (rows_take g n r (omega arith)) ∙ kept-none (waits_for s q) g r b;
    here = ap (λ xs. waits_for s q (get_or xs r 0)) e ∙ ap (waits_for s q) (get_d_rows g n r 0 l) ∙ h;
  }
