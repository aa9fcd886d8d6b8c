-- The search of levels and their slots for the next unread one.
use Rattle.std.specs.Prelude.{◌≡◌, refl, Bool, true, false, ◌&&◌, List, eqb, leb, if◌then◌else◌}
use Rattle.std.proofs.Math.Path.{sym, ap}
use Rattle.std.proofs.Common.{◌∙◌, pow-suc, arith}
use Rattle.std.proofs.Math.Option.{Option, none, some}
use Prim.Native.Nat.{ℕ, zero, suc, ◌+◌, ◌*◌, ◌-◌, ◌^◌, ◌≤◌, ◌<◌}
use Rattle.std.proofs.Math.Nat.{sub-zero}
use Rattle.std.proofs.Math.Decide.{dec_lt}
use Rattle.std.proofs.Math.Numerals.{add-one}
use borrow.Author.Tests.{le-leb, lt-leb, eq-eqb, ne_eqb}
use Rattle.lists.specs.Tests.{and-false}
use Rattle.lists.specs.Search.{find}
use Rattle.rules.specs.Shape.{slots, cell, offset}
use Rattle.rules.specs.State.{State}
use Rattle.rules.proofs.Laws.Levels.{two-slots}
use Rattle.rules.specs.Levels.{filled}
use Rattle.rules.specs.Jobs.{top_of}
use Rattle.rules.specs.Blocks.{is_unread}
use Rattle.rules.specs.Rebuild.{unread, next_unread}
use Rattle.memory.specs.Tables.{tables_of}
use Rattle.memory.specs.Fits.{shape_of, fit}
use Rattle.client.specs.declared.Client.{Client}
use Rattle.client.specs.View.{view, state_of}
use Rattle.levels.specs.Walks.{first, first-hit, first-miss, first_done, first-skip, first-all, slots_from, places-from, from_step, from-done}
use Rattle.levels.specs.Slots.{unread-is}

abbrev pub is_next : State → ℕ → ℕ × ℕ → Bool
is_next s q p = leb s.cursor (offset p.0 p.1) && (filled (s.counter q) p.0 && is_unread s q p.0 p.1)

-- what the levels from ℓ up to t give
unfoldable pub from_level : State → ℕ → ℕ → ℕ → Option (ℕ × ℕ)
from_level s q t ℓ = find (is_next s q) (slots_from ℓ (t - ℓ))

-- what the slots of level ℓ from i up to n give, and the levels above it
unfoldable pub from_slot : State → ℕ → ℕ → ℕ → ℕ → ℕ → Option (ℕ × ℕ)
from_slot s q t ℓ n i = first (is_next s q) (λ i. (ℓ, i)) (slots_from (ℓ + 1) (t - (ℓ + 1))) n i

module _ (s : State) (q t ℓ : ℕ) where
  pub levels-done : t ≤ ℓ → from_level s q t ℓ ≡ none
  unfolding from_level find
  levels-done h = ap (find (is_next s q)) (from-done ℓ t h)

  pub level-done : (n i : ℕ) → n ≤ i → from_slot s q t ℓ n i ≡ from_level s q t (ℓ + 1)
  unfolding from_level from_slot
  level-done n i h = first_done (is_next s q) (λ i. (ℓ, i)) (slots_from (ℓ + 1) (t - (ℓ + 1))) n i h

module _ (c : Client) (m : List ℕ) (q t : ℕ) where
  pub levels-all : (n : ℕ) → n ≡ top_of (state_of c m) q → t ≡ n + 1 → from_level (state_of c m) q t 0 ≡ unread (state_of c m) q
  unfolding from_level unread next_unread
  levels-all n e d =
      let k : t ≡ suc (top_of (state_of c m) q) = d ∙ add-one n ∙ ap suc e in
      rw (sub-zero, k) (ap (find (is_next (state_of c m) q)) (sym (places-from (suc (top_of (state_of c m) q)))))

  -- the slots before `start` do not pass
  level-skip : (ℓ start : ℕ) → ℓ < t → ((j : ℕ) → j < start → is_next (state_of c m) q (ℓ, j) ≡ false) → from_level (state_of c m) q t ℓ ≡ from_slot (state_of c m) q t ℓ (slots ℓ) start
  unfolding from_level from_slot
  level-skip ℓ start h skips =
      ap (find (is_next (state_of c m) q)) (from_step ℓ t h)
      ∙ sym (first-all (is_next (state_of c m) q) (λ i. (ℓ, i)) (slots_from (ℓ + 1) (t - (ℓ + 1))) (slots ℓ))
      ∙ first-skip (is_next (state_of c m) q) (λ i. (ℓ, i)) (slots_from (ℓ + 1) (t - (ℓ + 1))) (slots ℓ) start skips

  -- those that have been gone over
  level-behind : (ℓ : ℕ) → ℓ < t → from_level (state_of c m) q t ℓ ≡ from_slot (state_of c m) q t ℓ (slots ℓ) (c.cursor - (slots ℓ - 2))
  unfolding state_of view offset
  level-behind ℓ h = level-skip ℓ (c.cursor - (slots ℓ - 2)) h (λ j l. rw (lt-leb c.cursor (slots ℓ - 2 + j) (omega arith)))

  -- and all of a level that is no source
  level-empty : (ℓ : ℕ) → ℓ < t → filled ((state_of c m).counter q) ℓ ≡ false → from_level (state_of c m) q t ℓ ≡ from_slot (state_of c m) q t ℓ (slots ℓ) (slots ℓ)
  level-empty ℓ h e = level-skip ℓ (slots ℓ) h (λ j l. and-false (leb (state_of c m).cursor (offset ℓ j)) (rw e))

  pub level-enter : (x ℓ n start : ℕ) → x ≡ (state_of c m).counter q → ℓ < t → n ≡ slots ℓ → start ≡ (if filled x ℓ then c.cursor - (n - 2) else n) → from_level (state_of c m) q t ℓ ≡ from_slot (state_of c m) q t ℓ n start
  level-enter x ℓ n start is h size e = go (filled x ℓ) refl e
    where
      go : (b : Bool) → filled x ℓ ≡ b → start ≡ (if b then c.cursor - (n - 2) else n) → from_level (state_of c m) q t ℓ ≡ from_slot (state_of c m) q t ℓ n start
      go true f e = rw (e, size) (level-behind ℓ h)
      go false f e = rw (e, size) (level-empty ℓ h (ap (λ y. filled y ℓ) (sym is) ∙ f))

  -- and so have the levels that end before the cursor
  pub levels-passed : (ℓ : ℕ) → 2 ^ (ℓ + 1) ≤ c.cursor + 2 → from_level (state_of c m) q t 0 ≡ from_level (state_of c m) q t ℓ
  levels-passed zero h = refl
  levels-passed (suc ℓ) h =
      let e : ℓ + 1 ≡ suc ℓ = omega arith in
      let n : suc ℓ + 1 ≡ suc (ℓ + 1) = omega arith in
      let p : 2 ^ (suc ℓ + 1) ≡ 2 ^ (ℓ + 1) * 2 = ap (λ x. 2 ^ x) n ∙ pow-suc 2 (ℓ + 1) in
      levels-passed ℓ (omega arith) ∙ rw (← e) (passed ℓ (omega arith))
    where
      passed : (ℓ : ℕ) → 2 * slots ℓ ≤ c.cursor + 2 → from_level (state_of c m) q t ℓ ≡ from_level (state_of c m) q t (ℓ + 1)
      passed ℓ h = go (dec_lt ℓ t)
        where
          go : Dec (ℓ < t) → from_level (state_of c m) q t ℓ ≡ from_level (state_of c m) q t (ℓ + 1)
          go (yes l) = level-behind ℓ l ∙ level-done (state_of c m) q t ℓ (slots ℓ) (c.cursor - (slots ℓ - 2)) (omega (arith, two-slots ℓ))
          go (no n) = levels-done (state_of c m) q t ℓ (omega arith) ∙ sym (levels-done (state_of c m) q t (ℓ + 1) (omega arith))

  -- slot i of a source has the mark x
  module _ (ℓ n base i x : ℕ) (source : filled ((state_of c m).counter q) ℓ ≡ true) (size : n ≡ slots ℓ) (start : base ≡ cell (shape_of c.shape) q ℓ 0) (inside : i < n) (ahead : c.cursor ≤ n - 2 + i)
      (marked : x ≡ fit 2 ((tables_of (shape_of c.shape) m).mark (base + i))) where
    next-is : is_next (state_of c m) q (ℓ, i) ≡ eqb x 1
    next-is = rw source (ap (λ b. b && is_unread (state_of c m) q ℓ i) past ∙ unread-is c m q ℓ base i x start marked)
      where
        past : leb (state_of c m).cursor (offset ℓ i) ≡ true
        past = unfold state_of view offset in (le-leb c.cursor (slots ℓ - 2 + i) (omega arith))

    pub slot-hit : x ≡ 1 → from_slot (state_of c m) q t ℓ n i ≡ some (ℓ, i)
    unfolding from_slot
    slot-hit e = first-hit (is_next (state_of c m) q) (λ i. (ℓ, i)) (slots_from (ℓ + 1) (t - (ℓ + 1))) n i inside (next-is ∙ eq-eqb x 1 e)

    pub slot-miss : (x ≡ 1 → ⊥) → from_slot (state_of c m) q t ℓ n i ≡ from_slot (state_of c m) q t ℓ n (i + 1)
    unfolding from_slot
    slot-miss e = first-miss (is_next (state_of c m) q) (λ i. (ℓ, i)) (slots_from (ℓ + 1) (t - (ℓ + 1))) n i inside (next-is ∙ ne_eqb x 1 e)

-- A slot from the first on that is to be looked at is one of a source, and ahead of the cursor
pub slot-source : (x cursor ℓ n start i : ℕ) → start ≡ (if filled x ℓ then cursor - (n - 2) else n) → start ≤ i → i < n → (filled x ℓ ≡ true) × (cursor ≤ n - 2 + i)
slot-source x cursor ℓ n start i e a b = go (filled x ℓ) e
  where
    go : (t : Bool) → start ≡ (if t then cursor - (n - 2) else n) → (t ≡ true) × (cursor ≤ n - 2 + i)
    go true e = (refl, omega arith)
    go false e = absurd (omega arith)
