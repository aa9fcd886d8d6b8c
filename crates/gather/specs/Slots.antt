-- What is gathered from one slot, and from one level, to the next.
use Rattle.std.specs.Prelude.{◌≡◌, Bool, true, false, length, take}
use Rattle.std.proofs.Math.Path.{refl, ap}
use Rattle.std.proofs.Common.{sym, ◌∙◌, arith, length-take-le}
use mathlib.Core.List.{List, [], ◌∷◌, ◌++◌, map, append-nil, append_assoc, map-append}
use Prim.Native.Nat.{ℕ, zero, suc, ◌+◌, ◌≤◌, ◌<◌}
use Rattle.std.proofs.Math.Numerals.{add-one}
use Rattle.std.proofs.Math.Decide.{dec_lt}
use Rattle.lists.specs.Search.{keep, below, count, keep-yes, keep-no}
use Rattle.lists.specs.Lengths.{below_last}
use Rattle.rules.specs.Shape.{slots, cell}
use Rattle.rules.specs.State.{State}
use Rattle.rules.specs.Levels.{filled, source_levels}
use Rattle.rules.specs.Jobs.{top_of}
use Rattle.rules.specs.Rebuild.{chosen, entries_in, gather_from, gathered}
use Rattle.memory.specs.Tables.{tables_of}
use Rattle.memory.specs.Fits.{shape_of, fit, fit-lt}
use Rattle.client.specs.declared.Client.{Client}
use Rattle.client.specs.View.{view, state_of}
use Rattle.levels.specs.Slots.{holds-is}
use Rattle.gather.specs.Gathered.{Ascending, added, slot_at, gathered_to, Gathers}
use Rattle.gather.specs.Kept.{from-ascends, from-entry, from_le}

entries-end : (at : ℕ → ℕ → ℕ) (ls : List ℕ) (ℓ : ℕ) → entries_in at (ls ++ (ℓ ∷ [])) ≡ entries_in at ls ++ map (at ℓ) (below (slots ℓ))
unfolding entries_in
entries-end at [] ℓ = append-nil (map (at ℓ) (below (slots ℓ)))
entries-end at (k ∷ ls) ℓ = ap (λ r. map (at k) (below (slots k)) ++ r) (entries-end at ls ℓ) ∙ sym (append_assoc (map (at k) (below (slots k))) (entries_in at ls) (map (at ℓ) (below (slots ℓ))))

keep-end : (p : ℕ → Bool) (xs : List ℕ) (x : ℕ) → keep p (xs ++ (x ∷ [])) ≡ keep p xs ++ keep p (x ∷ [])
unfolding keep
keep-end p [] x = refl
keep-end p (y ∷ ys) x = go (p y) refl (keep-end p ys x)
  where
    go : (t : Bool) → p y ≡ t → keep p (ys ++ (x ∷ [])) ≡ keep p ys ++ keep p (x ∷ []) → keep p (y ∷ (ys ++ (x ∷ []))) ≡ keep p (y ∷ ys) ++ keep p (x ∷ [])
    go true e ih = keep-yes p y (ys ++ (x ∷ [])) e ∙ ap (λ r. y ∷ r) ih ∙ ap (λ r. r ++ keep p (x ∷ [])) (sym (keep-yes p y ys e))
    go false e ih = keep-no p y (ys ++ (x ∷ [])) e ∙ ih ∙ ap (λ r. r ++ keep p (x ∷ [])) (sym (keep-no p y ys e))

module _ (s : State) (q : ℕ) where
  abbrev at : ℕ → ℕ → ℕ
  at = slot_at s q

  abbrev p : ℕ → Bool
  p = filled (s.counter q)

  -- the entries of the sources below level ℓ
  abbrev before : ℕ → List ℕ
  before ℓ = entries_in at (keep p (below ℓ))

  pub to-ascends : (ℓ j : ℕ) → Ascending (gathered_to s q ℓ j)
  unfolding gathered_to
  to-ascends ℓ j = from-ascends s.shape.N (chosen s q) (before ℓ ++ map (at ℓ) (below j))

  pub to_start : gathered_to s q 0 0 ≡ gather_from (chosen s q) [] s.shape.N
  unfolding gathered_to below count keep entries_in
  to_start = refl

  -- a slot more
  pub to-slot : (ℓ j : ℕ) → slot_at s q ℓ j ≤ s.shape.N → added (slot_at s q ℓ j) (gathered_to s q ℓ j) ≡ gathered_to s q ℓ (j + 1)
  unfolding gathered_to
  to-slot ℓ j h =
      from-entry s.shape.N (chosen s q) (before ℓ ++ map (at ℓ) (below j)) (at ℓ j) h
      ∙ ap (λ es. gather_from (chosen s q) es s.shape.N) (append_assoc (before ℓ) (map (at ℓ) (below j)) (at ℓ j ∷ []) ∙ ap (λ r. before ℓ ++ r) (sym (ap (map (at ℓ)) (below_last j) ∙ map-append (at ℓ) (below j) (j ∷ []))))

  pub to_slots : (ℓ j k : ℕ) → j ≤ k → length (gathered_to s q ℓ j) ≤ length (gathered_to s q ℓ k)
  to_slots ℓ j zero h = let e : j ≡ 0 = omega arith in rw e (omega arith)
  to_slots ℓ j (suc k) h = go (dec_lt j (suc k)) (to_slots ℓ j k)
    where
      one : length (gathered_to s q ℓ k) ≤ length (gathered_to s q ℓ (suc k))
      one = unfold gathered_to in (rw (← add-one k, below_last k, map-append (at ℓ) (below k) (k ∷ []), ← append_assoc (before ℓ) (map (at ℓ) (below k)) (map (at ℓ) (k ∷ []))) (from_le s.shape.N (chosen s q) (before ℓ ++ map (at ℓ) (below k)) (map (at ℓ) (k ∷ []))))

      go : Dec (j < suc k) → (j ≤ k → length (gathered_to s q ℓ j) ≤ length (gathered_to s q ℓ k)) → length (gathered_to s q ℓ j) ≤ length (gathered_to s q ℓ (suc k))
      go (yes l) ih = omega (arith, ih (omega arith), one)
      go (no l) ih = let e : j ≡ suc k = omega arith in rw e (omega arith)

  -- a level more
  next-filled : (ℓ : ℕ) → filled (s.counter q) ℓ ≡ true → before (ℓ + 1) ≡ before ℓ ++ map (at ℓ) (below (slots ℓ))
  unfolding keep
  next-filled ℓ e =
      ap (entries_in at) (ap (keep p) (below_last ℓ) ∙ keep-end p (below ℓ) ℓ ∙ ap (λ r. keep p (below ℓ) ++ r) (keep-yes p ℓ [] e)) ∙ entries-end at (keep p (below ℓ)) ℓ

  next-empty : (ℓ : ℕ) → filled (s.counter q) ℓ ≡ false → before (ℓ + 1) ≡ before ℓ
  unfolding keep
  next-empty ℓ e =
      ap (entries_in at) (ap (keep p) (below_last ℓ) ∙ keep-end p (below ℓ) ℓ ∙ ap (λ r. keep p (below ℓ) ++ r) (keep-no p ℓ [] e) ∙ append-nil (keep p (below ℓ)))

  to_level : (ℓ : ℕ) → gathered_to s q ℓ 0 ≡ gather_from (chosen s q) (before ℓ) s.shape.N
  unfolding gathered_to below count
  to_level ℓ = ap (λ es. gather_from (chosen s q) es s.shape.N) (append-nil (before ℓ))

  pub to-filled : (ℓ : ℕ) → filled (s.counter q) ℓ ≡ true → gathered_to s q ℓ (slots ℓ) ≡ gathered_to s q (ℓ + 1) 0
  to-filled ℓ e = same ∙ sym (to_level (ℓ + 1))
    where
      same : gathered_to s q ℓ (slots ℓ) ≡ gather_from (chosen s q) (before (ℓ + 1)) s.shape.N
      same = unfold gathered_to in (ap (λ es. gather_from (chosen s q) es s.shape.N) (sym (next-filled ℓ e)))

  pub to-empty : (ℓ : ℕ) → filled (s.counter q) ℓ ≡ false → gathered_to s q ℓ 0 ≡ gathered_to s q (ℓ + 1) 0
  to-empty ℓ e = to_level ℓ ∙ ap (λ es. gather_from (chosen s q) es s.shape.N) (sym (next-empty ℓ e)) ∙ sym (to_level (ℓ + 1))

  pub to-levels : (ℓ k : ℕ) → ℓ ≤ k → length (gathered_to s q ℓ 0) ≤ length (gathered_to s q k 0)
  to-levels ℓ zero h = let e : ℓ ≡ 0 = omega arith in rw e (omega arith)
  to-levels ℓ (suc k) h = go (dec_lt ℓ (suc k)) (filled (s.counter q) k) refl (to-levels ℓ k)
    where
      go : Dec (ℓ < suc k) → (t : Bool) → filled (s.counter q) k ≡ t → (ℓ ≤ k → length (gathered_to s q ℓ 0) ≤ length (gathered_to s q k 0)) → length (gathered_to s q ℓ 0) ≤ length (gathered_to s q (suc k) 0)
      go (yes l) true e ih = rw (← add-one k, ← to-filled k e) (omega (arith, ih (omega arith), to_slots k 0 (slots k) (omega arith)))
      go (yes l) false e ih = rw (← add-one k, ← to-empty k e) (ih (omega arith))
      go (no l) t e ih = let d : ℓ ≡ suc k = omega arith in rw d (omega arith)

  -- all of them
  pub to-all : (t : ℕ) → t ≡ top_of s q → gathered_to s q (t + 1) 0 ≡ gathered s q
  unfolding gathered source_levels slot_at
  to-all t e = to_level (t + 1) ∙ ap (λ n. gather_from (chosen s q) (before n) s.shape.N) (add-one t ∙ ap suc e)

-- ---- The list
module _ (blocks : List ℕ) (limit r : ℕ) (list : List ℕ) where
  pub gathers-here : take r list ≡ blocks → r ≤ length list → Gathers blocks limit r list
  gathers-here e l = record { all = λ _. e; more = λ h. omega (arith, ap length e, length-take-le r list l) }

  -- blocks that are more still
  pub gathers-more : (some : List ℕ) → take r list ≡ some → r ≤ length list → limit < r → length some ≤ length blocks → Gathers blocks limit r list
  gathers-more some e l h k = record { all = λ u. absurd (omega arith); more = λ _. omega (arith, ap length e, length-take-le r list l) }

-- ---- An entry read from the table
module _ (c : Client) (m : List ℕ) (q ℓ base j x : ℕ) (start : base ≡ cell (shape_of c.shape) q ℓ 0) (read : x ≡ fit (c.shape.n + 1) ((tables_of (shape_of c.shape) m).holds (base + j))) where
  pub gather-slot : (l : List ℕ) → l ≡ gathered_to (state_of c m) q ℓ j → added x l ≡ gathered_to (state_of c m) q ℓ (j + 1)
  gather-slot l e =
      let is : slot_at (state_of c m) q ℓ j ≡ x = unfold slot_at in (holds-is c m q ℓ base j x start read) in
      let small : x ≤ c.shape.n = rw read (omega (arith, fit-lt (c.shape.n + 1) ((tables_of (shape_of c.shape) m).holds (base + j)) (omega arith))) in
      ap (added x) e ∙ rw (← is) (to-slot (state_of c m) q ℓ j (rw is (unfold state_of view in small)))
