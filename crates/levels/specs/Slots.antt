-- What the code reads of a slot, as the rules say it.
use Rattle.std.specs.Prelude.{◌≡◌, refl, List, ℕ, zero, suc, ◌+◌, ◌*◌, ◌<◌}
use Rattle.std.proofs.Common.{sym, ◌∙◌, arith, ne_eqb}
use Rattle.std.proofs.Math.Path.{ap}
use Rattle.std.proofs.Math.Dec.{eqb}
use Rattle.lists.specs.Search.{is_none}
use Rattle.lists.specs.Tables.{put}
use Rattle.rules.specs.Shape.{Shape, slots, cell}
use Rattle.rules.specs.Blocks.{named, holder, is_unread}
use Rattle.rules.specs.Turn.{mark_read}
use Rattle.rules.proofs.Laws.Layout.{stride-le, cell-from, offset-lt}
use Rattle.memory.specs.Tables.{tables_of, with_mark}
use Rattle.memory.specs.Fits.{shape_of, fit}
use Rattle.client.specs.declared.Client.{Client}
use Rattle.client.specs.View.{view, state_of}
use Rattle.client.specs.Changes.{cell-level, view-mark}
use Rattle.client.specs.Moves.{Stands, stands}

pub cell_room : (P L q ℓ i : ℕ) → q < P → ℓ < L → i < slots ℓ → q * slots L + slots ℓ + i < P * slots L
cell_room P L q ℓ i hq hℓ hi = omega (arith, stride-le P q (slots L) hq, offset-lt L ℓ i hℓ hi)

-- the cells of a level are within the tables
pub cell-lt : (h : Shape) (q ℓ base i : ℕ) → base ≡ cell h q ℓ 0 → q < h.P → ℓ < h.L → i < slots ℓ → base + i < h.P * slots h.L
unfolding cell
cell-lt h q ℓ base i e hq hℓ hi = omega (arith, cell_room h.P h.L q ℓ i hq hℓ hi)

none-zero : (x : ℕ) → is_none (named x) ≡ eqb x 0
unfolding is_none named
none-zero zero = refl
none-zero (suc x) = sym (ne_eqb (suc x) 0 (λ e. omega arith))

-- what an entry reads
module _ (c : Client) (m : List ℕ) (q ℓ base i x : ℕ) (start : base ≡ cell (shape_of c.shape) q ℓ 0) where
  here : base + i ≡ cell (shape_of c.shape) q ℓ i
  here = ap (λ y. y + i) start ∙ cell-from (shape_of c.shape) q ℓ i

  pub unread-is : x ≡ fit 2 ((tables_of (shape_of c.shape) m).mark (base + i)) → is_unread (state_of c m) q ℓ i ≡ eqb x 1
  unfolding is_unread state_of view
  unread-is e = rw (e, here)

  pub holds-is : x ≡ fit (c.shape.n + 1) ((tables_of (shape_of c.shape) m).holds (base + i)) → (state_of c m).holds (cell (state_of c m).shape q ℓ i) ≡ x
  unfolding state_of view
  holds-is e = rw (e, here)

  pub dummy-is : x ≡ fit (c.shape.n + 1) ((tables_of (shape_of c.shape) m).holds (base + i)) → is_none (holder (state_of c m) q ℓ i) ≡ eqb x 0
  unfolding holder
  dummy-is e = none-zero ((state_of c m).holds (cell (state_of c m).shape q ℓ i)) ∙ ap (λ y. eqb y 0) (holds-is e)

  pub order_is : (n : ℕ) → n ≡ slots ℓ → ℓ < c.shape.l → i < slots ℓ → x ≡ fit n ((tables_of (shape_of c.shape) m).order (base + i)) → (state_of c m).order (cell (state_of c m).shape q ℓ i) ≡ x
  unfolding state_of view
  order_is n size hℓ hi e = rw (e, here, size, cell-level (shape_of c.shape) q ℓ i hℓ hi)

-- a slot's mark is cleared
pub marked : (c : Client) (m m' : List ℕ) (q ℓ i x : ℕ) → x ≡ cell (shape_of c.shape) q ℓ i
    → tables_of (shape_of c.shape) m' ≡ with_mark (put x 0 (tables_of (shape_of c.shape) m).mark) (tables_of (shape_of c.shape) m)
    → Stands c m m' (mark_read q ℓ i (state_of c m))
unfolding state_of view tables_of mark_read
marked c m m' q ℓ i x e t = stands c m m' _ _ t refl (view-mark c (tables_of (shape_of c.shape) m) x 0 (omega arith) ∙ rw e)
