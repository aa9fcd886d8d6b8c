-- What a call that begins well may go by.
use Rattle.std.specs.Prelude.{◌≡◌, Bool, ◌&&◌, ◌||◌, List, ℕ, ◌≤◌, ◌<◌, length, drop, ltb, if◌then◌else◌}
use Rattle.std.proofs.Math.Path.{refl, ap}
use Rattle.std.proofs.Common.{sym, ◌∙◌, true≢false, length-drop, length-take}
use Rattle.std.proofs.Math.Bool.{true, false}
use native.Mathlib.Omega.{arith}
use Rattle.std.proofs.Math.Dec.{eqb, leb}
use borrow.Author.Tests.{leb-true, leb-false, le-leb, lt-leb, eqb-true}
use Rattle.lists.specs.Tests.{and_l, and_r, every-yes, between}
use Rattle.rules.specs.Shape.{Shape, within}
use Rattle.rules.specs.Ranges.{in_range}
use Rattle.rules.specs.Memory.{needed}
use Rattle.rules.specs.Questions.{ready}
use Rattle.rules.specs.Laws.Range.{InRange}
use Rattle.rules.proofs.Laws.Kept.{given-in}
use Rattle.memory.specs.Blocks.{block_start, block-is}
use Rattle.memory.specs.Tables.{Tables, tables_of}
use Rattle.memory.specs.Fits.{shape_of, fits}
use Rattle.client.specs.declared.Client.{Client}
use Rattle.client.specs.View.{view, state_of}
use Rattle.client.specs.Ready.{request_fits, counts_fit, hand_fits, own_waits, Counts, counts-facts, Asked, asked-facts, in-range}
use Rattle.client.specs.Moves.{Room}

pub record Usable (c : Client) (m : List ℕ) : Type 0 where
  pub room : Room c m
  pub range : InRange (state_of c m)
  pub counts : Counts c
  pub places : c.shape.e ≤ c.shape.n
  pub window : c.shape.w ≤ 32
  pub jobs : c.jobs ≤ 64
  pub asked : (c.request.kind ≡ 0 → ⊥) → Asked (shape_of c.shape) c.request × (c.jobs ≤ 62)

-- the first part of the question: what is asked of the shape, and of the memory's length
unfoldable pub shape_fits : Shape → ℕ → Bool
shape_fits h len = within h && leb (needed h) len

-- the contents of a request lie whole in a memory that is long enough
asked-length : (h : Shape) (m : List ℕ) → needed h ≤ length m → length ((tables_of h m).blocks h.N) ≡ h.B
unfolding tables_of needed
asked-length h m l = ap length (block-is h m h.N (omega arith)) ∙ length-take h.B (drop (block_start h h.N) m)
    ∙ (let e = length-drop (block_start h h.N) m in omega arith)

-- two bounds of a shape
pub places-le : (c : Client) → within (shape_of c.shape) ≡ true → c.shape.e ≤ c.shape.n
unfolding within between
places-le c w = leb-true c.shape.e c.shape.n (and_r (leb 1 c.shape.e) (leb c.shape.e c.shape.n) (every-yes _ w).1.1.1.1.0)

window-le : (c : Client) → within (shape_of c.shape) ≡ true → c.shape.w ≤ 32
unfolding within between
window-le c w = leb-true c.shape.w 32 (and_r (leb 1 c.shape.w) (leb c.shape.w 32) (every-yes _ w).1.1.1.1.1.0)

module _ (c : Client) (m : List ℕ) where
  abbrev h : Shape
  h = shape_of c.shape

  abbrev t : Tables
  t = tables_of h m

  -- the question, part by part
  pub ready-is : within h ≡ true → needed h ≤ length m → ready (state_of c m) (length m) ≡ (counts_fit c && hand_fits c (own_waits c t))
  unfolding ready state_of view
  ready-is w l = ap (λ b. b && in_range (view c t)) (le-leb (needed h) (length m) l) ∙ in-range c t w (asked-length h m l)

  pub unready-shape : within h ≡ false → ready (state_of c m) (length m) ≡ false
  unfolding state_of view
  unready-shape w = go (ready (state_of c m) (length m)) refl
    where
      go : (b : Bool) → ready (state_of c m) (length m) ≡ b → b ≡ false
      go false e = refl
      go true e = absurd (true≢false (sym (given-in (state_of c m) (length m) e).shape ∙ w))

  pub unready-memory : length m < needed h → ready (state_of c m) (length m) ≡ false
  unfolding ready state_of view
  unready-memory l = ap (λ b. b && in_range (view c t)) (lt-leb (needed h) (length m) l)

  -- that part by itself
  pub unready-part : shape_fits h (length m) ≡ false → ready (state_of c m) (length m) ≡ false
  unfolding shape_fits
  unready-part e = go (within h) (leb (needed h) (length m)) refl refl e
    where
      go : (a b : Bool) → within h ≡ a → leb (needed h) (length m) ≡ b → (a && b) ≡ false → ready (state_of c m) (length m) ≡ false
      go true true u v e = absurd (true≢false e)
      go true false u v e = unready-memory (leb-false (needed h) (length m) v)
      go false b u v e = unready-shape u

  pub part-within : shape_fits h (length m) ≡ true → within h ≡ true
  unfolding shape_fits
  part-within e = and_l (within h) (leb (needed h) (length m)) e

  pub part-long : shape_fits h (length m) ≡ true → needed h ≤ length m
  unfolding shape_fits
  part-long e = leb-true (needed h) (length m) (and_r (within h) (leb (needed h) (length m)) e)

  long : ready (state_of c m) (length m) ≡ true → needed h ≤ length m
  unfolding ready state_of view
  long e = leb-true (needed h) (length m) (and_l (leb (needed h) (length m)) (in_range (view c t)) e)

  shaped : ready (state_of c m) (length m) ≡ true → within h ≡ true
  unfolding state_of view
  shaped e = (given-in (state_of c m) (length m) e).shape

  hand-facts : hand_fits c (own_waits c t) ≡ true → (c.jobs ≤ 64) × ((c.request.kind ≡ 0 → ⊥) → Asked h c.request × (c.jobs ≤ 62))
  unfolding hand_fits
  hand-facts e = go (eqb c.request.kind 0) refl e
    where
      go : (b : Bool) → eqb c.request.kind 0 ≡ b
          → (if b then leb c.jobs 64 else ((request_fits h c.request && leb c.jobs 62) && (ltb c.waiting c.shape.e || own_waits c t))) ≡ true
          → (c.jobs ≤ 64) × ((c.request.kind ≡ 0 → ⊥) → Asked h c.request × (c.jobs ≤ 62))
      go true k f = (leb-true c.jobs 64 f, λ n. absurd (n (eqb-true c.request.kind 0 k)))
      go false k f =
          let x = and_l (request_fits h c.request && leb c.jobs 62) (ltb c.waiting c.shape.e || own_waits c t) f in
          let j = leb-true c.jobs 62 (and_r (request_fits h c.request) (leb c.jobs 62) x) in
          (omega arith, λ n. (asked-facts h c.request (and_l (request_fits h c.request) (leb c.jobs 62) x), j))

  pub usable : ready (state_of c m) (length m) ≡ true → Usable c m
  usable e =
      let w = shaped e in
      let l = long e in
      let r : (counts_fit c && hand_fits c (own_waits c t)) ≡ true = sym (ready-is w l) ∙ e in
      let k = hand-facts (and_r (counts_fit c) (hand_fits c (own_waits c t)) r) in
      record {
        room = fits h (length m) w l;
        range = given-in (state_of c m) (length m) e;
        counts = counts-facts c (and_l (counts_fit c) (hand_fits c (own_waits c t)) r);
        places = places-le c w;
        window = window-le c w;
        jobs = k.0;
        asked = k.1;
      }
