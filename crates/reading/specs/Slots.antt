-- The slot that a look-up reads of a level, by the level and the number of its block's place.
use Rattle.std.specs.Prelude.{◌≡◌, Bool, not, ◌&&◌, List, ℕ, suc, ◌+◌, ◌-◌, ◌≤◌, ◌<◌, eqb, ltb, if◌then◌else◌}
use Rattle.std.proofs.Math.Path.{refl, sym}
use Rattle.std.proofs.Common.{ap, ◌∙◌, true≢false, arith, pow_pos, pow_mono, eqb-true, lt-ltb, le-ltb}
use Rattle.std.proofs.Math.Bool.{true, false}
use Rattle.std.proofs.Math.Option.{Option, none, some}
use Rattle.std.proofs.Math.Decide.{dec_lt}
use Rattle.rules.specs.Shape.{slots}
use Rattle.rules.specs.State.{State, Place, nowhere, stored}
use Rattle.rules.specs.Blocks.{is_unread}
use Rattle.rules.specs.Reader as Reader
use Rattle.rules.specs.Reader.{slot_of, unmarked, some_unread, condition, dummy, lowest, fake_by, read_fake, is_cached_in, read_real, if_filled, is_level, read_level, slot_read}
use Rattle.rules.specs.Laws.Range.{PlaceIn}
use Rattle.memory.specs.Fits.{shape_of, fit, fit-lt}
use Rattle.memory.specs.Tables.{tables_of}
use Rattle.client.specs.declared.Client.{Client}
use Rattle.std.specs.Prelude as code
use Rattle.std.specs.Option.{option_eq}
use Rattle.client.specs.View.{level_of, place_of, view, state_of, found_of}
use Rattle.client.specs.Changes.{level-is, level-le}
use Rattle.ready.specs.Usable.{Usable}
use Rattle.reading.specs.Conditions.{ReadAs}

-- a request is in hand, for a block of partition q
pub record Reads (c : Client) (m : List ℕ) (q : ℕ) : Type 0 where
  pub some : c.request.kind ≡ 0 → ⊥
  pub partition : q ≡ (state_of c m).partition c.request.block

pub reads-lt : (c : Client) (m : List ℕ) (q : ℕ) → Reads c m q → Usable c m → q < c.shape.p
unfolding state_of view
reads-lt c m q r u = rw r.partition (u.range.partitions c.request.block (u.asked r.some).0.block)

-- x is the number of its place
abbrev pub Placed : Client → List ℕ → ℕ → Type 0
Placed c m x = x ≡ fit (slots c.shape.l) ((tables_of (shape_of c.shape) m).place c.request.block)

pub placed-lt : (c : Client) (m : List ℕ) (x : ℕ) → Placed c m x → x < slots c.shape.l
placed-lt c m x e = rw e (fit-lt (slots c.shape.l) ((tables_of (shape_of c.shape) m).place c.request.block) (pow_pos (c.shape.l + 1)))

-- ---- The level where it resides

-- found by the number x of a place, whatever the number n of levels
abbrev pub LevelFound : ℕ → code.Option ℕ → Type 0
LevelFound x found = (n : ℕ) → x < slots n → found_of found ≡ Reader.level_of (place_of n x)

-- whether a level is the one found
pub found-is : (found : code.Option ℕ) (ℓ : ℕ) → option_eq eqb found (code.Some ℓ) ≡ is_level (found_of found) ℓ
unfolding is_level
found-is (code.Some k) ℓ = refl
found-is code.None ℓ = refl

-- the level of a slot's number
pub level-of : (n x ℓ : ℕ) → x < slots n → slots ℓ ≤ x → x < slots (suc ℓ) → level_of n x ≡ ℓ
level-of n x ℓ a b k =
    let e : x ≡ slots ℓ + (x - slots ℓ) = omega arith in
    ap (level_of n) e ∙ level-is n ℓ (x - slots ℓ) (below (dec_lt ℓ n)) (omega (arith, pow_mono {i = suc ℓ + 1} {j = suc (ℓ + 1)} (omega arith)))
  where
    below : Dec (ℓ < n) → ℓ < n
    below (yes l) = l
    below (no l) = absurd (omega (arith, pow_mono {i = n + 1} {j = ℓ + 1} (omega arith)))

module _ (n x : ℕ) where
  pub in-none : x < 2 → none ≡ Reader.level_of (place_of n x)
  unfolding place_of Reader.level_of
  in-none l = sym (rw (lt-ltb x 2 l))

  pub in-level : (ℓ : ℕ) → 2 ≤ x → x < slots n → slots ℓ ≤ x → x < slots (suc ℓ) → some ℓ ≡ Reader.level_of (place_of n x)
  unfolding place_of Reader.level_of
  in-level ℓ l a b k = sym (rw (le-ltb x 2 l, level-of n x ℓ a b k))

-- its slot there
pub record SlotIn (n ℓ x : ℕ) : Type 0 where
  pub begins : slots ℓ ≤ x
  pub ends : x - slots ℓ < slots ℓ
  pub slot : slot_of (place_of n x) ≡ x - slots ℓ

pub slot-in : (n ℓ x : ℕ) → PlaceIn n (place_of n x) → is_level (Reader.level_of (place_of n x)) ℓ ≡ true → SlotIn n ℓ x
unfolding place_of is_level Reader.level_of slot_of
slot-in n ℓ x h e = go (dec_lt x 2) h e
  where
    place : Place
    place = if ltb x 2 then nowhere else stored (level_of n x) (x - slots (level_of n x))

    go : Dec (x < 2) → PlaceIn n place → is_level (Reader.level_of place) ℓ ≡ true → SlotIn n ℓ x
    go (yes l) h e = absurd (true≢false (sym e ∙ rw (lt-ltb x 2 l)))
    go (no l) h e =
        let b = le-ltb x 2 (omega arith) in
        let p : PlaceIn n (stored (level_of n x) (x - slots (level_of n x))) = rw b at h in
        let z = eqb-true (level_of n x) ℓ (rw b at e) in
        record { begins = rw z at (level-le n x (omega arith)); ends = rw z at p.1; slot = rw (b, z) }

-- ---- What is read of level ℓ, which costs a read
module _ (s : State) (q ℓ : ℕ) where
  pub fake-is : (t : Bool) → ReadAs s q ℓ t → (if t then lowest s q ℓ else dummy s q ℓ) ≡ read_fake s q ℓ (condition s q ℓ)
  unfolding read_fake fake_by
  fake-is true e = sym (ap (fake_by (dummy s q ℓ) (lowest s q ℓ)) e)
  fake-is false e = sym (ap (fake_by (dummy s q ℓ) (lowest s q ℓ)) e)

  -- whether its block was cached in
  pub cached-is : (t unread : Bool) → ReadAs s q ℓ t → (not unread && t) ≡ is_cached_in (condition s q ℓ) unread
  unfolding is_cached_in
  cached-is t unread e = go t unread ∙ sym (ap (λ c. is_cached_in c unread) e)
    where
      go : (t u : Bool) → (not u && t) ≡ is_cached_in (if t then some_unread else unmarked) u
      go true true = refl
      go true false = refl
      go false true = refl
      go false false = refl

  module _ (i : ℕ) where
    pub real-fake : is_cached_in (condition s q ℓ) (is_unread s q ℓ i) ≡ true → read_fake s q ℓ (condition s q ℓ) ≡ read_real s q ℓ i (condition s q ℓ)
    unfolding read_real
    real-fake e = sym (rw e)

    pub real-own : is_cached_in (condition s q ℓ) (is_unread s q ℓ i) ≡ false → some i ≡ read_real s q ℓ i (condition s q ℓ)
    unfolding read_real
    real-own e = sym (rw e)

  module _ (place : Place) (t : Bool) (r : ReadAs s q ℓ t) where
    filled_is : (slot : Option ℕ) → slot ≡ if_filled (condition s q ℓ) slot
    unfolding if_filled
    filled_is slot = go t r
      where
        go : (t : Bool) → ReadAs s q ℓ t → slot ≡ if_filled (condition s q ℓ) slot
        go true e = sym (ap (λ c. if_filled c slot) e)
        go false e = sym (ap (λ c. if_filled c slot) e)

    pub level-real : (i : ℕ) → slot_of place ≡ i → is_level (Reader.level_of place) ℓ ≡ true → read_real s q ℓ i (condition s q ℓ) ≡ slot_read s q place ℓ
    unfolding slot_read read_level
    level-real i e k = filled_is _ ∙ sym (rw (k, e))

    pub level-fake : is_level (Reader.level_of place) ℓ ≡ false → read_fake s q ℓ (condition s q ℓ) ≡ slot_read s q place ℓ
    unfolding slot_read read_level
    level-fake k = filled_is _ ∙ sym (rw k)
