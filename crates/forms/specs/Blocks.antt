-- The blocks of a form, gone through one by one: each is in its place, and no other was in it.
use Rattle.std.specs.Prelude.{◌≡◌, ◌⊎◌, Bool, ◌&&◌, List, [], ◌∷◌, ℕ, suc, ◌+◌, ◌-◌, ◌*◌, ◌≤◌, ◌<◌, ltb, get_or, set, if◌then◌else◌}
use Rattle.std.proofs.Math.Path.{refl}
use Rattle.std.proofs.Common.{ap, sym, ◌∙◌, arith}
use Rattle.std.proofs.Math.Logic.{inl, inr}
use Rattle.std.proofs.Math.Bool.{true, false}
use Rattle.std.proofs.Math.Decide.{ℕ_discrete}
use Rattle.std.proofs.Math.Dec.{eqb}
use borrow.Author.Tests.{eqb-true, eq-eqb, ne_eqb, lt-ltb, le-ltb, ltb-true}
use Rattle.lists.specs.Search.{below, count}
use Rattle.lists.specs.Tests.{every, every-yes}
use Rattle.rules.specs.Form.Reading.{Spot, absent, waits, at, is_waiting}
use Rattle.rules.specs.Levels.{filled}
use Rattle.rules.specs.Shape.{Shape, slots, cell}
use Rattle.forms.specs.At.{number_at, numbers_at, spot_at, spot_size, block_at, block_size, each_at, size_at}
use Rattle.forms.specs.Bytes.{number-one}
use Rattle.forms.specs.Cells.{spot_in, placed_in, cell_at}
use Rattle.forms.specs.Lists.{numbers-at}
use Rattle.forms.specs.Once.{fresh_in, mark_all}

-- the n blocks from byte a on, and those from number b on
abbrev pub blocks_at : List ℕ → ℕ → ℕ → List (ℕ × Spot)
blocks_at p n a = each_at (λ _. block_at p 1) (λ _. block_size p 1) (below n) a

abbrev pub blocks_left : List ℕ → ℕ → ℕ → ℕ → List (ℕ × Spot)
blocks_left p n b a = each_at (λ _. block_at p 1) (λ _. block_size p 1) (count b (n - b)) a

abbrev pub size_left : List ℕ → ℕ → ℕ → ℕ → ℕ
size_left p n b a = size_at (λ _. block_size p 1) (count b (n - b)) a

-- the counters as the form has them
abbrev pub counter_in : List ℕ → ℕ → ℕ → ℕ
counter_in p n q = get_or (numbers_at p 2 n 13) q 0

-- no block was met in its cell
unfoldable pub is_free : Shape → List ℕ → ℕ × Spot → Bool
is_free h seen x = fresh_in (λ c. true) seen (cell_at h x.0 x.1)

unfoldable pub stands : Shape → (ℕ → ℕ) → List ℕ → ℕ × Spot → Bool
stands h counter seen x = placed_in h counter x && is_free h seen x

abbrev pub marked : Shape → List ℕ → ℕ × Spot → List ℕ
marked h seen x = mark_all seen (cell_at h x.0 x.1)

unfoldable pub all_stand : Shape → (ℕ → ℕ) → List ℕ → List (ℕ × Spot) → Bool
all_stand h counter seen [] = true
all_stand h counter seen (x ∷ xs) = stands h counter seen x && all_stand h counter (marked h seen x) xs

-- ---- One block

module _ (p : List ℕ) (w a : ℕ) where
  pub spot-none : 254 ≤ get_or p a 0 → get_or p a 0 < 256 → (spot_at p w a ≡ absent) ⊎ (spot_at p w a ≡ waits)
  unfolding spot_at
  spot-none l u = go (ℕ_discrete (get_or p a 0) 255)
    where
      go : Dec (get_or p a 0 ≡ 255) → (spot_at p w a ≡ absent) ⊎ (spot_at p w a ≡ waits)
      go (yes e) = inl (rw (eq-eqb (get_or p a 0) 255 e))
      go (no e) = inr (rw (ne_eqb (get_or p a 0) 255 e, eq-eqb (get_or p a 0) 254 (omega arith)))

  pub spot-at : get_or p a 0 < 254 → spot_at p w a ≡ at (get_or p a 0) (number_at p w (suc a))
  unfolding spot_at
  spot-at l = rw (ne_eqb (get_or p a 0) 255 (λ e. omega arith), ne_eqb (get_or p a 0) 254 (λ e. omega arith))

  pub size_none : 254 ≤ get_or p a 0 → get_or p a 0 < 256 → spot_size p w a ≡ 1
  unfolding spot_size
  size_none l u = go (ℕ_discrete (get_or p a 0) 255)
    where
      go : Dec (get_or p a 0 ≡ 255) → spot_size p w a ≡ 1
      go (yes e) = rw (eq-eqb (get_or p a 0) 255 e)
      go (no e) = rw (ne_eqb (get_or p a 0) 255 e, eq-eqb (get_or p a 0) 254 (omega arith))

  pub size-at : get_or p a 0 < 254 → spot_size p w a ≡ 1 + w
  unfolding spot_size
  size-at l = rw (ne_eqb (get_or p a 0) 255 (λ e. omega arith), ne_eqb (get_or p a 0) 254 (λ e. omega arith))

  pub waits-at : is_waiting (0, spot_at p w a) ≡ eqb (get_or p a 0) 254
  unfolding spot_at is_waiting
  waits-at = go (eqb (get_or p a 0) 255) (eqb (get_or p a 0) 254) refl refl
    where
      go : (t u : Bool) → eqb (get_or p a 0) 255 ≡ t → eqb (get_or p a 0) 254 ≡ u → is_waiting (0, if t then absent else (if u then waits else at (get_or p a 0) (number_at p w (suc a)))) ≡ u
      go true true e d = absurd (omega (arith, eqb-true (get_or p a 0) 255 e, eqb-true (get_or p a 0) 254 d))
      go true false e d = refl
      go false true e d = refl
      go false false e d = refl

-- a block's size
pub block-four : (p : List ℕ) (a : ℕ) → get_or p (a + 2) 0 < 254 → block_size p 1 a ≡ 4
unfolding block_size
block-four p a l = omega (arith, size-at p 1 (a + 2) l)

pub block-three : (p : List ℕ) (a : ℕ) → 254 ≤ get_or p (a + 2) 0 → get_or p (a + 2) 0 < 256 → block_size p 1 a ≡ 3
unfolding block_size
block-three p a l u = omega (arith, size_none p 1 (a + 2) l u)

module _ (h : Shape) (counter : ℕ → ℕ) (seen : List ℕ) where
  -- outside the partitions
  pub stand-far : (x : ℕ × Spot) → h.P ≤ x.0 → stands h counter seen x ≡ false
  unfolding stands placed_in
  stand-far x l = rw (le-ltb x.0 h.P l)

  -- nowhere, or waiting
  pub stand-none : (q : ℕ) (y : Spot) → q < h.P → (y ≡ absent) ⊎ (y ≡ waits) → (stands h counter seen (q, y) ≡ true) × (marked h seen (q, y) ≡ seen)
  unfolding stands placed_in spot_in is_free cell_at fresh_in mark_all
  stand-none q y l (inl e) = rw (e, lt-ltb q h.P l) (refl, refl)
  stand-none q y l (inr e) = rw (e, lt-ltb q h.P l) (refl, refl)

  -- in a slot
  abbrev in_slot : ℕ → ℕ → ℕ → Bool
  in_slot c ℓ i = every (ltb ℓ h.L ∷ ltb i (slots ℓ) ∷ filled c ℓ ∷ [])

  pub stand-bad : (q ℓ i : ℕ) → in_slot (counter q) ℓ i ≡ false → stands h counter seen (q, at ℓ i) ≡ false
  unfolding stands placed_in spot_in
  stand-bad q ℓ i e = go (ltb q h.P)
    where
      go : (t : Bool) → ((t && in_slot (counter q) ℓ i) && is_free h seen (q, at ℓ i)) ≡ false
      go true = rw e
      go false = refl

  pub stand-slot : (q ℓ i : ℕ) → q < h.P → in_slot (counter q) ℓ i ≡ true → stands h counter seen (q, at ℓ i) ≡ eqb (get_or seen (cell h q ℓ i) 0) 0
  unfolding stands placed_in spot_in is_free cell_at fresh_in
  stand-slot q ℓ i l e = rw (lt-ltb q h.P l, e) (last (eqb (get_or seen (cell h q ℓ i) 0) 0))
    where
      last : (t : Bool) → (t && true) ≡ t
      last true = refl
      last false = refl

  pub marked-slot : (q ℓ i : ℕ) → marked h seen (q, at ℓ i) ≡ set seen (cell h q ℓ i) 1
  unfolding cell_at mark_all
  marked-slot q ℓ i = refl

-- a block in a slot, by the numbers that are read
pub block-at : (p : List ℕ) (a q ℓ i : ℕ) → q ≡ number_at p 2 a → ℓ ≡ get_or p (a + 2) 0 → i ≡ get_or p (a + 3) 0 → ℓ < 254 → block_at p 1 a ≡ (q, at ℓ i)
unfolding block_at
block-at p a q ℓ i e d g k =
    let s : suc (a + 2) ≡ a + 3 = omega arith in
    let y : spot_at p 1 (a + 2) ≡ at ℓ i = spot-at p 1 (a + 2) (omega arith) ∙ rw (← d) (ap (at ℓ) (number-one p (suc (a + 2)) ∙ ap (λ j. get_or p j 0) s ∙ sym g)) in
    rw (← e, y)

-- the same by the numbers that are read
module _ (h : Shape) (p seen : List ℕ) (a : ℕ) where
  abbrev C : ℕ → ℕ
  C = counter_in p h.P

  abbrev X : ℕ × Spot
  X = block_at p 1 a

  pub placed-far : (q : ℕ) → q ≡ number_at p 2 a → h.P ≤ q → stands h C seen X ≡ false
  unfolding block_at
  placed-far q e l = stand-far h C seen X (omega arith)

  pub placed-none : (q ℓ : ℕ) → q ≡ number_at p 2 a → ℓ ≡ get_or p (a + 2) 0 → q < h.P → 254 ≤ ℓ → ℓ < 256 → (stands h C seen X ≡ true) × (marked h seen X ≡ seen)
  unfolding block_at
  placed-none q ℓ e d l k u = stand-none h C seen (number_at p 2 a) (spot_at p 1 (a + 2)) (omega arith) (spot-none p 1 (a + 2) (omega arith) (omega arith))

  module _ (q ℓ i c : ℕ) (e : q ≡ number_at p 2 a) (d : ℓ ≡ get_or p (a + 2) 0) (g : i ≡ get_or p (a + 3) 0) (n : c ≡ number_at p 2 (13 + q * 2)) (l : q < h.P) (k : ℓ < 254) where
    block-is : X ≡ (q, at ℓ i)
    block-is = block-at p a q ℓ i e d g k

    counter-is : C q ≡ c
    counter-is = numbers-at p 2 h.P 13 q l ∙ sym n

    pub placed-bad : in_slot h C seen c ℓ i ≡ false → stands h C seen X ≡ false
    placed-bad f = ap (stands h C seen) block-is ∙ stand-bad h C seen q ℓ i (ap (λ c. in_slot h C seen c ℓ i) counter-is ∙ f)

    pub placed-slot : in_slot h C seen c ℓ i ≡ true → stands h C seen X ≡ eqb (get_or seen (cell h q ℓ i) 0) 0
    placed-slot f = ap (stands h C seen) block-is ∙ stand-slot h C seen q ℓ i l (ap (λ c. in_slot h C seen c ℓ i) counter-is ∙ f)

    pub marked-is : marked h seen X ≡ set seen (cell h q ℓ i) 1
    marked-is = ap (marked h seen) block-is ∙ marked-slot h C seen q ℓ i

pub slot-facts : (h : Shape) (c ℓ i : ℕ) → every (ltb ℓ h.L ∷ ltb i (slots ℓ) ∷ filled c ℓ ∷ []) ≡ true → (ℓ < h.L) × (i < slots ℓ)
slot-facts h c ℓ i e = let y = every-yes _ e in (ltb-true ℓ h.L y.0, ltb-true i (slots ℓ) y.1.0)

pub slot-over : (L c ℓ i : ℕ) → L ≤ ℓ → every (ltb ℓ L ∷ ltb i (slots ℓ) ∷ filled c ℓ ∷ []) ≡ false
unfolding every
slot-over L c ℓ i l = rw (le-ltb ℓ L l)

pub slot-under : (L c ℓ i : ℕ) → ℓ < L → every (ltb ℓ L ∷ ltb i (slots ℓ) ∷ filled c ℓ ∷ []) ≡ (ltb i (slots ℓ) && filled c ℓ)
unfolding every
slot-under L c ℓ i l = rw (lt-ltb ℓ L l) (ap (λ t. ltb i (slots ℓ) && t) (last (filled c ℓ)))
  where
    last : (t : Bool) → (t && true) ≡ t
    last true = refl
    last false = refl
