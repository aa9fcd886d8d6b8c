-- The moves of the tables that place a level's blocks.
use Rattle.std.specs.Prelude.{◌≡◌, refl, List, [], ◌∷◌, ◌++◌, ℕ, suc, ◌+◌, ◌<◌, length, get_or}
use Rattle.std.proofs.Common.{ap, sym, ◌∙◌, arith}
use Rattle.std.proofs.lemmas.List.{length-replicate, get_or-replicate}
use Rattle.lists.specs.Distinct.{Mem, NoDup}
use Rattle.lists.specs.Tables.{put, put_all}
use Rattle.rules.specs.Shape.{Shape, slots, cell}
use Rattle.rules.specs.State.{State}
use Rattle.rules.specs.Setters.{set_place, set_holds}
use Rattle.rules.specs.Rebuild.{cleared, new_place, new_holds}
use Rattle.memory.specs.Fits.{shape_of, fit}
use Rattle.memory.specs.Tables.{tables_of, with_place, with_holds}
use Rattle.client.specs.declared.Client.{Client}
use Rattle.client.specs.View.{place_of, view, state_of}
use Rattle.rules.proofs.Laws.Layout.{offset-lt}
use Rattle.client.specs.Changes.{place_is}
use Rattle.client.specs.Moves.{Stands, restated}
use Rattle.lists.specs.Entries.{put_all-at}
use Rattle.rebuild.specs.Target.{order_in, Empty, placed, level_written, Within, length-order_in, order-at, order-put}
use Rattle.rebuild.specs.Steps.{stays, moved, puts-place, puts-holds, reads-order, slot_lt, marked, emptied, ordered}
use Rattle.rebuild.specs.Items.{place_none, place-more, holds-none, holds_more}

shape_is : (c : Client) (m : List ℕ) → shape_of c.shape ≡ (state_of c m).shape
unfolding state_of view
shape_is c m = refl

pub items-start : (c : Client) (m : List ℕ) (base t : ℕ) (o : List ℕ) → Empty base (slots t) (state_of c m) → Stands c m m (placed base t [] o (state_of c m))
items-start c m base t o e = restated (stays c m)
    (λ k. set_place (sym (place_none t o (state_of c m).place) k) (set_holds (holds-none base (slots t) o (state_of c m).holds e k) (state_of c m)))

-- block b becomes the next item, at the slot x that the order gives it
module _ (c : Client) (m₀ m m' m'' : List ℕ) (q t base n b x : ℕ) (xs : List ℕ) where
  abbrev h : Shape
  h = shape_of c.shape

  abbrev o : List ℕ
  o = order_in (state_of c m₀) q t

  module _ (level : t < h.L) (start : base ≡ cell h q t 0) (size : n ≡ slots t) (room : length xs < n) (w : Within h n (base + length xs))
      (read : x ≡ fit n ((tables_of h m).order (base + length xs))) (now : Stands c m₀ m (placed base t xs o (state_of c m₀))) where
    slot_is : get_or o (length xs) 0 ≡ x
    slot_is = order-at (state_of c m₀) q t base (length xs) (start ∙ ap (λ h. cell h q t 0) (shape_is c m₀)) (omega arith)
        ∙ sym (ap (λ (s : State). s.order (base + length xs)) now.state) ∙ sym (reads-order c m n (base + length xs) w.level) ∙ sym read

    slot-in : x < slots t
    slot-in = rw (← size, read) (slot_lt h n (base + length xs) _ w)

    slot-holds : NoDup o → put (base + x) (b + 1) (put_all base (new_holds (slots t) xs o) (state_of c m₀).holds) ≡ put_all base (new_holds (slots t) (xs ++ (b ∷ [])) o) (state_of c m₀).holds
    slot-holds u =
        let one : b + 1 ≡ suc b = omega arith in
        let k : get_or o (length xs) 0 < slots t = rw slot_is slot-in in
        rw (one, ← slot_is) (holds_more (slots t) b xs o (length-order_in (state_of c m₀) q t) u (omega arith) base (state_of c m₀).holds k)

    there : ¬ Mem b xs → put b (place_of h.L (n + x)) (new_place t xs o (state_of c m₀).place) ≡ new_place t (xs ++ (b ∷ [])) o (state_of c m₀).place
    there new = rw (size, place_is h.L t x level slot-in, ← slot_is) (place-more t b xs o (state_of c m₀).place new)

    pub items_more : b < h.N → ¬ Mem b xs → NoDup o
        → tables_of h m' ≡ with_holds (put (base + x) (b + 1) (tables_of h m).holds) (tables_of h m)
        → tables_of h m'' ≡ with_place (put b (n + x) (tables_of h m').place) (tables_of h m')
        → Stands c m₀ m'' (placed base t (xs ++ (b ∷ [])) o (state_of c m₀))
    items_more lb new u e d =
        let ln : n + x < slots h.L = rw size (offset-lt h.L t x level slot-in) in
        let first = moved c m₀ m m' _ (λ s. set_holds (put (base + x) (b + 1) s.holds) s) now (puts-holds c m m' (base + x) (b + 1) (omega arith) e) in
        let second = moved c m₀ m' m'' _ (λ s. set_place (put b (place_of h.L (n + x)) s.place) s) first (puts-place c m' m'' b (n + x) ln d) in
        restated second (λ k. set_place (there new k) (set_holds (slot-holds u k) (state_of c m₀)))

pub emptied-empty : (c : Client) (m m' : List ℕ) (base n : ℕ) → Stands c m m' (emptied base n (state_of c m)) → Empty base n (state_of c m')
unfolding cleared
emptied-empty c m m' base n a i l =
    ap (λ (s : State). s.holds (base + i)) a.state ∙ put_all-at base _ (state_of c m).holds i (rw (length-replicate {A = ℕ} n 0) l) ∙ get_or-replicate n i 0 0 l

-- ---- A level: marked and ordered, and then its blocks are placed
module _ (c : Client) (m₀ m₁ m₂ : List ℕ) (q t : ℕ) (o : List ℕ) (long : length o ≡ slots t)
    (b : Stands c m₀ m₁ (marked (cell (shape_of c.shape) q t 0) (slots t) (state_of c m₀)))
    (d : Stands c m₁ m₂ (ordered (cell (shape_of c.shape) q t 0) o (state_of c m₁))) where
  abbrev base : ℕ
  base = cell (shape_of c.shape) q t 0

  abbrev drawn : State
  drawn = ordered base o (marked base (slots t) (state_of c m₀))

  so_far : Stands c m₀ m₂ drawn
  so_far = moved c m₀ m₁ m₂ _ (ordered base o) b d

  drawn-order : order_in drawn q t ≡ o
  drawn-order = order-put (marked base (slots t) (state_of c m₀)) q t base o _ (ap (λ h. cell h q t 0) (shape_is c m₀)) long

  pub order-drawn : order_in (state_of c m₂) q t ≡ o
  order-drawn = ap (λ s. order_in s q t) so_far.state ∙ drawn-order

  -- it still holds nothing
  pub empty-drawn : Empty base (slots t) (state_of c m₀) → Empty base (slots t) (state_of c m₂)
  empty-drawn e i l = ap (λ (s : State). s.holds (base + i)) so_far.state ∙ e i l

  pub writes-level : (m₃ bs : List ℕ) → Stands c m₂ m₃ (placed base t bs (order_in (state_of c m₂) q t) (state_of c m₂)) → Stands c m₀ m₃ (level_written (shape_of c.shape) q t bs o (state_of c m₀))
  writes-level m₃ bs e = restated (moved c m₀ m₂ m₃ _ (λ s. placed base t bs (order_in s q t) s) so_far e) (ap (λ p. placed base t bs p drawn) drawn-order)
