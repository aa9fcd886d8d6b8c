-- The blocks of a form, put into the tables one after the other.
use Rattle.std.specs.Prelude.{◌≡◌, ◌⊎◌, List, [], ◌∷◌, ◌++◌, map, get_or}
use Rattle.std.proofs.Math.Path.{refl, ap, sym}
use Rattle.std.proofs.Common.{◌∙◌, inl, inr}
use Prim.Native.Nat.{ℕ, suc, ◌+◌, ◌*◌, ◌≤◌, ◌<◌}
use native.Mathlib.Omega.{arith}
use Rattle.lists.specs.Entries.{put_all-none, put_first}
use Rattle.lists.specs.Tables.{put, put_all}
use Rattle.rules.specs.Form.Loading.{lay_over, held_at, held_from}
use Rattle.rules.specs.Form.Reading.{Spot, absent, waits, at}
use Rattle.rules.specs.Shape.{Shape, slots, cell}
use Rattle.memory.specs.Tables.{Tables, with_partition, with_place, with_holds}
use Rattle.forms.specs.At.{number_at, spot_at, block_at}
use Rattle.forms.specs.Blocks.{spot-none, block-at}
use Rattle.forms.specs.Cells.{PlacedIn}

-- the number of a place in the table of places: 0 for nowhere
unfoldable pub place_number : Spot → ℕ
place_number absent = 0
place_number waits = 0
place_number (at ℓ i) = slots ℓ + i

-- "Each block's partition and place": block b has both, and the slot of its place holds it
unfoldable pub put_block : Shape → ℕ → ℕ × Spot → Tables → Tables
put_block h b x t = with_holds (lay_over t.holds (held_at h b x.0 x.1)) (with_place (put b (place_number x.1) t.place) (with_partition (put b x.0 t.partition) t))

unfoldable pub put_blocks : Shape → ℕ → List (ℕ × Spot) → Tables → Tables
put_blocks h b [] t = t
put_blocks h b (x ∷ xs) t = put_blocks h (b + 1) xs (put_block h b x t)

pub blocks-put : (h : Shape) (b : ℕ) (x : ℕ × Spot) (xs : List (ℕ × Spot)) (t : Tables) → put_blocks h (b + 1) xs (put_block h b x t) ≡ put_blocks h b (x ∷ xs) t
unfolding put_blocks
blocks-put h b x xs t = refl

pub no_blocks : (h : Shape) (b : ℕ) (t : Tables) → put_blocks h b [] t ≡ t
unfolding put_blocks
no_blocks h b t = refl

-- ---- One block, as it is put

-- one that has no slot
pub put-none : (h : Shape) (b q : ℕ) (y : Spot) (t : Tables) → (y ≡ absent) ⊎ (y ≡ waits) → put_block h b (q, y) t ≡ with_place (put b 0 t.place) (with_partition (put b q t.partition) t)
unfolding put_block place_number lay_over held_at
put-none h b q y t (inl e) = rw e
put-none h b q y t (inr e) = rw e

-- one that has one
pub put-slot : (h : Shape) (b q ℓ i : ℕ) (t : Tables)
    → put_block h b (q, at ℓ i) t ≡ with_holds (put (cell h q ℓ i) (suc b) t.holds) (with_place (put b (slots ℓ + i) t.place) (with_partition (put b q t.partition) t))
unfolding put_block place_number lay_over held_at
put-slot h b q ℓ i t = ap (λ f. with_holds f (with_place (put b (slots ℓ + i) t.place) (with_partition (put b q t.partition) t)))
    (sym (put_first (cell h q ℓ i) (suc b) [] t.holds) ∙ sym (put_all-none (cell h q ℓ i + 1) (put (cell h q ℓ i) (suc b) t.holds)))

-- ---- One block, by the numbers that are read

pub slot-in : (h : Shape) (p : List ℕ) (a q ℓ i : ℕ) (counter : ℕ → ℕ) → q ≡ number_at p 2 a → ℓ ≡ get_or p (a + 2) 0 → i ≡ get_or p (a + 3) 0 → ℓ < 254 → PlacedIn h counter (block_at p 1 a) → (q < h.P) × (ℓ < h.L) × (i < slots ℓ)
slot-in h p a q ℓ i counter e d g l k = let r : PlacedIn h counter (q, at ℓ i) = rw (block-at p a q ℓ i e d g l) at k in (r.0, r.1.0, r.1.1)

module _ (h : Shape) (p : List ℕ) (b a q ℓ : ℕ) (e : q ≡ number_at p 2 a) (d : ℓ ≡ get_or p (a + 2) 0) (t t₁ t₂ : Tables) (parted : t₁ ≡ with_partition (put b q t.partition) t) where
  pub none-put : 254 ≤ ℓ → ℓ < 256 → t₂ ≡ with_place (put b 0 t₁.place) t₁ → t₂ ≡ put_block h b (block_at p 1 a) t
  unfolding block_at
  none-put l u k =
      k ∙ ap (λ (x : Tables). with_place (put b 0 x.place) x) parted
      ∙ sym (put-none h b q (spot_at p 1 (a + 2)) t (spot-none p 1 (a + 2) (omega arith) (omega arith)))
      ∙ ap (λ n. put_block h b (n, spot_at p 1 (a + 2)) t) e

  module _ (i : ℕ) (g : i ≡ get_or p (a + 3) 0) (l : ℓ < 254) where
    pub slot-put : (x c : ℕ) (t₃ : Tables) → x ≡ slots ℓ + i → c ≡ q * slots h.L + x → t₂ ≡ with_place (put b x t₁.place) t₁ → t₃ ≡ with_holds (put c (b + 1) t₂.holds) t₂ → t₃ ≡ put_block h b (block_at p 1 a) t
    unfolding cell
    slot-put x c t₃ m n k w =
        let o : c ≡ cell h q ℓ i = omega arith in
        let z : b + 1 ≡ suc b = omega arith in
        w ∙ ap (λ (y : Tables). with_holds (put c (b + 1) y.holds) y) (k ∙ ap (λ (y : Tables). with_place (put b x y.place) y) parted)
        ∙ (λ j. with_holds (put (o j) (z j) t.holds) (with_place (put b (m j) t.place) (with_partition (put b q t.partition) t)))
        ∙ sym (put-slot h b q ℓ i t) ∙ ap (λ y. put_block h b y t) (sym (block-at p a q ℓ i e d g l))

-- ---- All of them at once

lay-then : (t : ℕ → ℕ) (xs ys : List (ℕ × List ℕ)) → lay_over (lay_over t xs) ys ≡ lay_over t (xs ++ ys)
unfolding lay_over
lay-then t [] ys = refl
lay-then t (x ∷ xs) ys = lay-then (put_all x.0 x.1 t) xs ys

abbrev pub blocks_laid : Shape → ℕ → List (ℕ × Spot) → Tables → Tables
blocks_laid h b xs t = with_holds (lay_over t.holds (held_from h b xs)) (with_place (put_all b (map (λ (x : ℕ × Spot). place_number x.1) xs) t.place) (with_partition (put_all b (map (λ (x : ℕ × Spot). x.0) xs) t.partition) t))

pub blocks-are : (h : Shape) (b : ℕ) (xs : List (ℕ × Spot)) (t : Tables) → put_blocks h b xs t ≡ blocks_laid h b xs t
unfolding put_blocks put_block held_from
blocks-are h b [] t = λ k. with_holds (none k) (with_place (put_all-none b t.place k) (with_partition (put_all-none b t.partition k) t))
  where
    none : t.holds ≡ lay_over t.holds []
    none = unfold lay_over in refl
blocks-are h b (x ∷ xs) t = blocks-are h (b + 1) xs (put_block h b x t) ∙ (λ k. with_holds (held k) (with_place (places k) (with_partition (parts k) t)))
  where
    next : b + 1 ≡ suc b
    next = omega arith

    held : lay_over (lay_over t.holds (held_at h b x.0 x.1)) (held_from h (b + 1) xs) ≡ lay_over t.holds (held_at h b x.0 x.1 ++ held_from h (suc b) xs)
    held = lay-then t.holds (held_at h b x.0 x.1) (held_from h (b + 1) xs) ∙ ap (λ c. lay_over t.holds (held_at h b x.0 x.1 ++ held_from h c xs)) next

    places : put_all (b + 1) (map (λ (x : ℕ × Spot). place_number x.1) xs) (put b (place_number x.1) t.place) ≡ put_all b (place_number x.1 ∷ map (λ (x : ℕ × Spot). place_number x.1) xs) t.place
    places = put_first b (place_number x.1) (map (λ (x : ℕ × Spot). place_number x.1) xs) t.place

    parts : put_all (b + 1) (map (λ (x : ℕ × Spot). x.0) xs) (put b x.0 t.partition) ≡ put_all b (x.0 ∷ map (λ (x : ℕ × Spot). x.0) xs) t.partition
    parts = put_first b x.0 (map (λ (x : ℕ × Spot). x.0) xs) t.partition
