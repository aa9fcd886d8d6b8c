-- Document 02, P6: what the partition reader reads of a level is what documents 01 and 02 (P4) say in their own words, on every state; and a list of its
-- reads is those of the levels that cost one.
use Rattle.std.specs.Prelude.{◌≡◌, Bool, not, ◌&&◌, ◌||◌, ℕ, eqb, if◌then◌else◌}
use Rattle.std.proofs.Math.Path.{refl, ap}
use Rattle.std.proofs.Common.{sym, ◌∙◌, eqb-true}
use Rattle.std.proofs.Math.Bool.{true, false}
use mathlib.Core.List.{List, [], ◌∷◌}
use Rattle.std.proofs.Math.Option.{Option, none, some}
use Rattle.lists.specs.Search.{any, keep, or_else, below, member, keep-yes, keep-no}
use Rattle.rules.specs.Shape.{slots}
use Rattle.rules.specs.State.{Place, nowhere, stored, State}
use Rattle.rules.specs.Levels.{filled}
use Rattle.rules.specs.Blocks.{is_unread, found_at, look_up}
use Rattle.rules.specs.Request.{is_source}
use Rattle.rules.specs.Reader.{Condition, level_of, slot_of, condition_by, condition, conditions, dummy, lowest, fake_by, read_fake, is_cached_in, read_real, if_filled, is_level, read_level, add_read, each_level, read_levels, slot_read, costing, costs}
use Rattle.rules.specs.Laws.Reader.{if_unread, level_in, read_by, slot_in, slot_said, slots_of}

-- is it filled, a source, has it an unread slot
read-said : (full source left : Bool) (unread : ℕ → Bool) (d low : Option ℕ) (x : Place) (ℓ : ℕ)
    → read_by (condition_by full source left) (unread (slot_of x)) d low x ℓ ≡ (if costing (condition_by full source left) then slot_said source unread d low x ℓ else none)
unfolding condition_by costing if_filled is_level level_of slot_of is_cached_in fake_by slot_said or_else if_unread slot_in
read-said false source left unread d low x ℓ = refl
read-said true false left unread d low nowhere ℓ = refl
read-said true false left unread d low (stored m i) ℓ = go (eqb m ℓ)
  where
    go : (t : Bool) → (if t then some i else d) ≡ or_else (if t then some i else none) d
    go true = refl
    go false = refl
read-said true true false unread d low nowhere ℓ = refl
read-said true true false unread d low (stored m i) ℓ = go (eqb m ℓ)
  where
    go : (t : Bool) → ◌≡◌ {A = Option ℕ} (if t then none else none) none
    go true = refl
    go false = refl
read-said true true true unread d low nowhere ℓ = refl
read-said true true true unread d low (stored m i) ℓ = go (eqb m ℓ)
  where
    by : (t : Bool) → (if not t then low else some i) ≡ or_else (if t then some i else none) low
    by true = refl
    by false = refl

    go : (t : Bool) → (if t then (if not (unread i) then low else some i) else low) ≡ or_else (if_unread unread (if t then some i else none)) low
    go true = by (unread i)
    go false = refl

-- the block's slot matters only in its own level
pub read_same : (c : Condition) (unread unread' : ℕ → Bool) (d low : Option ℕ) (x : Place) (ℓ : ℕ) → ((i : ℕ) → x ≡ stored ℓ i → unread' i ≡ unread i)
    → read_by c (unread' (slot_of x)) d low x ℓ ≡ read_by c (unread (slot_of x)) d low x ℓ
unfolding is_level level_of slot_of
read_same c unread unread' d low nowhere ℓ h = refl
read_same c unread unread' d low (stored m i) ℓ h = go (eqb m ℓ) refl
  where
    at : Bool → Bool → Option ℕ
    at t u = if_filled c (if t then (if is_cached_in c u then fake_by d low c else some i) else fake_by d low c)

    go : (t : Bool) → eqb m ℓ ≡ t → at t (unread' i) ≡ at t (unread i)
    go true e = ap (at true) (h i (ap (λ k. stored k i) (eqb-true m ℓ e)))
    go false e = refl

-- ---- On every state
module _ (s : State) (q : ℕ) where
  pub costs-is : (ℓ : ℕ) → costs s q ℓ ≡ (filled (s.counter q) ℓ && (not (is_source s q ℓ) || any (is_unread s q ℓ) (below (slots ℓ))))
  unfolding costs condition
  costs-is ℓ = by (filled (s.counter q) ℓ) (is_source s q ℓ) (any (is_unread s q ℓ) (below (slots ℓ)))
    where
      by : (full source left : Bool) → costing (condition_by full source left) ≡ (full && (not source || left))
      by false source left = unfold costing condition_by in refl
      by true false left = unfold costing condition_by in refl
      by true true false = unfold costing condition_by in refl
      by true true true = unfold costing condition_by in refl

  pub slot_read-is : (x : Place) (ℓ : ℕ) → slot_read s q x ℓ ≡ (if costs s q ℓ then slot_said (is_source s q ℓ) (is_unread s q ℓ) (dummy s q ℓ) (lowest s q ℓ) x ℓ else none)
  unfolding costs slot_read read_level condition read_real read_fake
  slot_read-is x ℓ = read-said (filled (s.counter q) ℓ) (is_source s q ℓ) (any (is_unread s q ℓ) (below (slots ℓ))) (is_unread s q ℓ) (dummy s q ℓ) (lowest s q ℓ) x ℓ

  pub slot_read-none : (x : Place) (ℓ : ℕ) → costs s q ℓ ≡ false → slot_read s q x ℓ ≡ none
  slot_read-none x ℓ k = slot_read-is x ℓ ∙ rw k

  module _ (x : Place) (ℓ : ℕ) (k : costs s q ℓ ≡ true) where
    pub slot_read-source : is_source s q ℓ ≡ true → slot_read s q x ℓ ≡ or_else (if_unread (is_unread s q ℓ) (slot_in ℓ x)) (lowest s q ℓ)
    slot_read-source u = slot_read-is x ℓ ∙ rw (k, u) (unfold slot_said in refl)

    pub slot_read-other : is_source s q ℓ ≡ false → slot_read s q x ℓ ≡ or_else (slot_in ℓ x) (dummy s q ℓ)
    slot_read-other u = slot_read-is x ℓ ∙ rw (k, u) (unfold slot_said in refl)

-- levels of which nothing is read may be left out
pub slots_kept : (slot : ℕ → Option ℕ) (p : ℕ → Bool) → ((ℓ : ℕ) → p ℓ ≡ false → slot ℓ ≡ none) → (ℓs : List ℕ) → slots_of slot ℓs ≡ slots_of slot (keep p ℓs)
unfolding slots_of add_read
slots_kept slot p h [] = unfold keep in refl
slots_kept slot p h (ℓ ∷ ℓs) = go (p ℓ) refl (slots_kept slot p h ℓs)
  where
    go : (t : Bool) → p ℓ ≡ t → slots_of slot ℓs ≡ slots_of slot (keep p ℓs) → add_read ℓ (slot ℓ) (slots_of slot ℓs) ≡ slots_of slot (keep p (ℓ ∷ ℓs))
    go true k ih = ap (add_read ℓ (slot ℓ)) ih ∙ sym (ap (slots_of slot) (keep-yes p ℓ ℓs k))
    go false k ih = ap (λ o. add_read ℓ o (slots_of slot ℓs)) (h ℓ k) ∙ ih ∙ sym (ap (slots_of slot) (keep-no p ℓ ℓs k))

module _ (s : State) (b : ℕ) where
  abbrev q : ℕ
  q = s.partition b

  abbrev slot : ℕ → Option ℕ
  slot = slot_read s (s.partition b) (s.place b)

  pub reads-slots : (ℓs : List ℕ) → read_levels s b ℓs ≡ slots_of slot ℓs
  unfolding read_levels conditions each_level slots_of slot_read
  reads-slots [] = refl
  reads-slots (ℓ ∷ ℓs) = ap (add_read ℓ (read_level s q (s.place b) ℓ (condition s q ℓ))) (reads-slots ℓs)

  -- what turns go by gives the reader's list: the slot of each level that costs a read, in their order
  pub reads-are : (ℓs : List ℕ) → read_levels s b ℓs ≡ slots_of slot (keep (costs s q) ℓs)
  reads-are ℓs = reads-slots ℓs ∙ slots_kept slot (costs s q) (λ ℓ k. slot_read-none s q (s.place b) ℓ k) ℓs

pub found-level : (s : State) (b : ℕ) → level_in (look_up s b) ≡ level_of (s.place b)
unfolding look_up
found-level s b = by (s.place b) (member b s.waiting)
  where
    by : (x : Place) (t : Bool) → level_in (found_at x t) ≡ level_of x
    by nowhere true = unfold level_in found_at level_of in refl
    by nowhere false = unfold level_in found_at level_of in refl
    by (stored ℓ i) t = unfold level_in found_at level_of in refl
