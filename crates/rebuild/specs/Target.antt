-- A level's cells, and the order that stands in the tables for it.
use Rattle.std.specs.Prelude.{◌≡◌, List, map, length, get_or, replicate}
use Rattle.std.proofs.Common.{ap, sym, ◌∙◌, arith, ext_get_or}
use Prim.Native.Nat.{ℕ, suc, ◌+◌, ◌-◌, ◌*◌, ◌≤◌, ◌<◌}
use Rattle.std.proofs.Math.Nat.{mul-le-mul_right}
use Rattle.std.proofs.lemmas.List.{length-map}
use Rattle.std.proofs.Math.Pow.{pow_mono}
use Rattle.lists.specs.Search.{below}
use Rattle.lists.specs.Lengths.{length-below}
use Rattle.lists.specs.Members.{get_or-map-below}
use Rattle.lists.specs.Tables.{put_all}
use Rattle.rules.specs.Shape.{Shape, slots, cell}
use Rattle.rules.specs.State.{State}
use Rattle.rules.specs.Setters.{◌▷◌, set_place, set_order, set_mark, set_holds}
use Rattle.rules.specs.Rebuild.{new_place, new_holds}
use Rattle.rules.proofs.Laws.Layout.{cell-from}
use Rattle.client.specs.View.{level_at}
use Rattle.client.specs.Changes.{cell-level}
use Rattle.lists.specs.Entries.{put_all-at}

unfoldable pub order_in : State → ℕ → ℕ → List ℕ
order_in s q t = map (λ k. s.order (cell s.shape q t k)) (below (slots t))

-- a level of n slots from cell `base` on holds nothing
abbrev pub Empty : ℕ → ℕ → State → Type 0
Empty base n s = (i : ℕ) → i < n → s.holds (base + i) ≡ 0

-- the blocks bs are the first items of level t, whose cells are those from `base` on, in the order o
abbrev pub placed : ℕ → ℕ → List ℕ → List ℕ → State → State
placed base t bs o s = s ▷ set_place (new_place t bs o s.place) ▷ set_holds (put_all base (new_holds (slots t) bs o) s.holds)

-- level t of q is written, with the blocks bs in the order o
abbrev pub level_written : Shape → ℕ → ℕ → List ℕ → List ℕ → State → State
level_written h q t bs o s =
    s ▷ set_place (new_place t bs o s.place)
    ▷ set_order (put_all (cell h q t 0) o s.order)
    ▷ set_mark (put_all (cell h q t 0) (replicate (slots t) 1) s.mark)
    ▷ set_holds (put_all (cell h q t 0) (new_holds (slots t) bs o) s.holds)

-- x is the cell of a level of n slots
pub record Within (h : Shape) (n x : ℕ) : Type 0 where
  pub inside : x < h.P * slots h.L
  pub level : n ≡ slots (level_at h x)
  pub small : n ≤ 512

module _ (h : Shape) (q : ℕ) (hq : q < h.P) where
  -- levels below n of partition q
  pub sources-in : (n : ℕ) → n ≤ h.L → cell h q 0 0 + (slots n - 2) ≤ h.P * slots h.L
  unfolding cell
  sources-in n l = omega (arith, mul-le-mul_right (slots h.L) hq, pow_mono {i = n + 1} {j = h.L + 1} (omega arith), pow_mono {i = 1} {j = n + 1} (omega arith))

  pub level_in_lem : (t : ℕ) → t < h.L → cell h q t 0 + slots t ≤ h.P * slots h.L
  unfolding cell
  level_in_lem t l = omega (arith, mul-le-mul_right (slots h.L) hq, pow_mono {i = suc (t + 1)} {j = h.L + 1} (omega arith))

  pub within_level : (t base n i : ℕ) → t < h.L → h.L ≤ 8 → base ≡ cell h q t 0 → n ≡ slots t → i < n → Within h n (base + i)
  within_level t base n i l k e d b =
      let m : slots t ≤ slots 8 = pow_mono {i = t + 1} {j = 9} (omega arith) in
      let x : base + i < h.P * slots h.L = omega (arith, level_in_lem t l) in
      record {
        inside = x;
        level = d ∙ ap slots (sym (ap (level_at h) (ap (λ b. b + i) e ∙ cell-from h q t i) ∙ cell-level h q t i l (omega arith)));
        small = omega arith;
      }

-- ---- The order in the tables
pub length-order_in : (s : State) (q t : ℕ) → length (order_in s q t) ≡ slots t
unfolding order_in
length-order_in s q t = simp length-map (length-below (slots t))

-- its slots
pub order-at : (s : State) (q t base i : ℕ) → base ≡ cell s.shape q t 0 → i < slots t → get_or (order_in s q t) i 0 ≡ s.order (base + i)
unfolding order_in cell
order-at s q t base i e h =
    let d : cell s.shape q t i ≡ base + i = omega arith in
    get_or-map-below (λ k. s.order (cell s.shape q t k)) (slots t) i 0 h ∙ ap s.order d

-- an order that was written
pub order-put : (s : State) (q t base : ℕ) (o : List ℕ) (f : ℕ → ℕ) → base ≡ cell s.shape q t 0 → length o ≡ slots t → order_in (set_order (put_all base o f) s) q t ≡ o
order-put s q t base o f d e =
    ext_get_or 0 _ o (length-order_in _ q t ∙ sym e) (λ i h.
    let l : i < slots t = omega (arith, length-order_in (set_order (put_all base o f) s) q t) in
    order-at (set_order (put_all base o f) s) q t base i d l ∙ put_all-at base o f i (omega arith))
