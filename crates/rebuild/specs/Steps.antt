-- Moves of client and memory by one entry of a table.
use Rattle.std.specs.Prelude.{◌≡◌, List, ℕ, ◌+◌, ◌≤◌, ◌<◌, replicate}
use Rattle.std.proofs.Math.Path.{refl}
use Rattle.std.proofs.Common.{ap, ◌∙◌, arith, pow_pos}
use Rattle.lists.specs.Search.{below, count}
use Rattle.lists.specs.Tables.{put, put_all}
use Rattle.rules.specs.Shape.{Shape, slots}
use Rattle.rules.specs.State.{State}
use Rattle.rules.specs.Setters.{set_place, set_order, set_mark, set_holds}
use Rattle.rules.specs.Rebuild.{cleared}
use Rattle.memory.specs.Fits.{shape_of, fit, fit-lt}
use Rattle.memory.specs.Tables.{tables_of, with_place, with_order, with_mark, with_holds}
use Rattle.client.specs.declared.Client.{Client}
use Rattle.client.specs.View.{place_of, level_at, view, state_of}
use Rattle.client.specs.Changes.{view-place, view-slot, view-holds}
use Rattle.client.specs.Moves.{Stands, stands, restated}
use Rattle.rebuild.specs.Target.{Within}
use Rattle.lists.specs.Entries.{put_all-none}
use Rattle.rebuild.specs.Fill.{fit-same, fill-below}

-- nothing is moved
pub stays : (c : Client) (m : List ℕ) → Stands c m m (state_of c m)
stays c m = record { state = refl; tail = refl }

-- a move from where another ended
pub moved : (c : Client) (m₀ m m' : List ℕ) (s : State) (F : State → State) → Stands c m₀ m s → Stands c m m' (F (state_of c m)) → Stands c m₀ m' (F s)
moved c m₀ m m' s F a b = record { state = b.state ∙ ap F a.state; tail = b.tail ∙ a.tail }

module _ (c : Client) (m m' : List ℕ) where
  abbrev H : Shape
  H = shape_of c.shape

  pub puts-place : (b v : ℕ) → v < slots H.L → tables_of H m' ≡ with_place (put b v (tables_of H m).place) (tables_of H m)
      → Stands c m m' (set_place (put b (place_of H.L v) (state_of c m).place) (state_of c m))
  unfolding state_of tables_of
  puts-place b v l e = stands c m m' _ _ e refl (view-place c (tables_of H m) b v l)

  pub puts-order : (x v : ℕ) → v < slots (level_at H x) → tables_of H m' ≡ with_order (put x v (tables_of H m).order) (tables_of H m)
      → Stands c m m' (set_order (put x v (state_of c m).order) (state_of c m))
  unfolding state_of tables_of
  puts-order x v l e = stands c m m' _ _ e refl (view-slot c (tables_of H m) x v l)

  pub puts-holds : (x v : ℕ) → v ≤ H.N → tables_of H m' ≡ with_holds (put x v (tables_of H m).holds) (tables_of H m)
      → Stands c m m' (set_holds (put x v (state_of c m).holds) (state_of c m))
  unfolding state_of tables_of
  puts-holds x v l e = stands c m m' _ _ e refl (view-holds c (tables_of H m) x v l)

-- what a cell's item reads
pub reads-order : (c : Client) (m : List ℕ) (n x : ℕ) → n ≡ slots (level_at (shape_of c.shape) x) → fit n ((tables_of (shape_of c.shape) m).order x) ≡ (state_of c m).order x
unfolding state_of view
reads-order c m n x e = ap (λ k. fit k ((tables_of (shape_of c.shape) m).order x)) e

-- a slot that was read
pub slot_lt : (h : Shape) (n x v : ℕ) → Within h n x → fit n v < n
slot_lt h n x v w = fit-lt n v (rw w.level (pow_pos (level_at h x + 1)))

pub exchanged : (c : Client) (m m' m'' : List ℕ) (n x y a b : ℕ) → Within (shape_of c.shape) n x → Within (shape_of c.shape) n y
    → a ≡ fit n ((tables_of (shape_of c.shape) m).order x) → b ≡ fit n ((tables_of (shape_of c.shape) m).order y)
    → tables_of (shape_of c.shape) m' ≡ with_order (put x b (tables_of (shape_of c.shape) m).order) (tables_of (shape_of c.shape) m)
    → tables_of (shape_of c.shape) m'' ≡ with_order (put y a (tables_of (shape_of c.shape) m').order) (tables_of (shape_of c.shape) m')
    → Stands c m m'' (set_order (put y ((state_of c m).order x) (put x ((state_of c m).order y) (state_of c m).order)) (state_of c m))
exchanged c m m' m'' n x y a b wx wy ea eb e d =
    let la : a < slots (level_at (shape_of c.shape) y) = rw (← wy.level, ea) (slot_lt (shape_of c.shape) n x _ wx) in
    let lb : b < slots (level_at (shape_of c.shape) x) = rw (← wx.level, eb) (slot_lt (shape_of c.shape) n y _ wy) in
    rw (← reads-order c m n x wx.level, ← ea, ← reads-order c m n y wy.level, ← eb)
    (moved c m m' m'' _ (λ s. set_order (put y a s.order) s) (puts-order c m m' x b lb e) (puts-order c m' m'' y a la d))

-- ---- Parts that are filled
abbrev pub marked : ℕ → ℕ → State → State
marked base n s = set_mark (put_all base (replicate n 1) s.mark) s

abbrev pub emptied : ℕ → ℕ → State → State
emptied base n s = set_holds (cleared base n s.holds) s

abbrev pub ordered : ℕ → List ℕ → State → State
ordered base o s = set_order (put_all base o s.order) s

module _ (c : Client) (m m' : List ℕ) (base n : ℕ) where
  abbrev h : Shape
  h = shape_of c.shape

  pub fills-mark : tables_of h m' ≡ with_mark (put_all base (replicate n 1) (tables_of h m).mark) (tables_of h m) → Stands c m m' (marked base n (state_of c m))
  unfolding state_of tables_of view
  fills-mark e = stands c m m' _ _ e refl (ap (λ f. set_mark f (state_of c m)) (fit-same (λ x. 2) base n 1 (tables_of h m).mark (λ x. omega arith)))

  pub fills-holds : tables_of h m' ≡ with_holds (put_all base (replicate n 0) (tables_of h m).holds) (tables_of h m) → Stands c m m' (emptied base n (state_of c m))
  unfolding state_of tables_of view cleared
  fills-holds e = stands c m m' _ _ e refl (ap (λ f. set_holds f (state_of c m)) (fit-same (λ x. h.N + 1) base n 0 (tables_of h m).holds (λ x. omega arith)))

module _ (c : Client) (m : List ℕ) (base : ℕ) where
  pub orders-start : Stands c m m (ordered base (below 0) (state_of c m))
  unfolding below count
  orders-start = restated (stays c m) (ap (λ f. set_order f (state_of c m)) (put_all-none base (state_of c m).order))

module _ (c : Client) (m₀ m m' : List ℕ) (base j : ℕ) where
  pub orders-more : (n : ℕ) → Within (shape_of c.shape) n (base + j) → j < n → Stands c m₀ m (ordered base (below j) (state_of c m₀))
      → tables_of (shape_of c.shape) m' ≡ with_order (put (base + j) j (tables_of (shape_of c.shape) m).order) (tables_of (shape_of c.shape) m)
      → Stands c m₀ m' (ordered base (below (j + 1)) (state_of c m₀))
  orders-more n w l a e =
      let k : j < slots (level_at (shape_of c.shape) (base + j)) = rw (← w.level) l in
      rw (← fill-below base j (state_of c m₀).order)
      (moved c m₀ m m' _ (λ s. set_order (put (base + j) j s.order) s) a (puts-order c m m' (base + j) j k e))
