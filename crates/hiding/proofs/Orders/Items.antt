-- The unread items and their slots after each call of the rules: they are what the middle machine says.
use Rattle.std.specs.Prelude.{◌≡◌, ℕ, ◌+◌, ◌-◌, ◌^◌, ◌≤◌, ◌<◌, length, replicate, take, drop}
use Rattle.std.proofs.Math.Path.{refl, ap, fun_ext}
use Rattle.std.proofs.Common.{sym, ◌∙◌, subst, pow_pos}
use mathlib.Core.List.{List, [], ◌∷◌, map}
use native.Mathlib.Omega.{arith}
use Rattle.std.proofs.Math.Decide.{dec_lt}
use Rattle.std.proofs.Math.ListN.{get_or, length-map}
use Rattle.lists.specs.All.{All, nil, cons}
use Rattle.lists.specs.Members.{mem_below, mem-map, get_or-map-below}
use Rattle.lists.specs.Tables.{put, put_all, put_other}
use Rattle.lists.specs.Places.{remove_at, map-remove, map_same, map-index_of, map-get_or}
use Rattle.lists.specs.Lengths.{length-below}
use Rattle.lists.specs.Search.{below, index_of}
use Rattle.lists.specs.Distinct.{Mem, NoDup, index}
use Rattle.rules.specs.Collect.{emptied}
use Rattle.rules.specs.State.{State, Place, nowhere, stored}
use Rattle.rules.specs.Draws.{new_order, Drew}
use Rattle.rules.specs.Jobs.{orders_bounds}
use Rattle.rules.proofs.Laws.Orders.{order-take, orders-split}
use Rattle.rules.specs.Rebuild.{item_holds, new_holds, cleared, fills, write_levels, new_marks, new_orders, new_held}
use Rattle.rules.specs.Laws.Range.{InRange}
use Rattle.rules.specs.Shape.{Shape, slots, cell}
use Rattle.matching.proofs.Order.{order-ok}
use Rattle.matching.specs.Keyed.{Key, key-discrete, update}
use Rattle.matching.proofs.Keyed.{update-is, update_same, update_other}
use Rattle.matching.specs.Reads.{Arranges}
use Rattle.reachable.proofs.Cells.{cleared-else, level-here}
use Rattle.hiding.specs.Machines.Middle.{new_items, items_written}
use Rattle.hiding.proofs.Orders.Trades.{orders_after}
use Rattle.hiding.specs.Machines.Rules.{item_slots, slots_in, items_in, orders_of, items_of}
use Rattle.hiding.proofs.Orders.Unread.{open-mem, open-key, open-read, open-written, level-other, Fitting}

-- ---- a new level

-- its items hold its blocks, then nothing
new_items_lem : (blocks o : List ℕ) (n : ℕ) → length o ≡ n → NoDup o → map (λ i. item_holds blocks (index_of i o)) o ≡ new_items n blocks
unfolding new_items item_holds
new_items_lem blocks o n e u = map-index_of (item_holds blocks) o u ∙ rw e

-- ---- items by slots

-- what the items hold follows their slots
items-update : (F : Key → ℕ → ℕ) (k : Key) (v : List ℕ) (slots₀ slots' : Key → List ℕ) → slots' ≡ update k v slots₀ →
    (λ (j : Key). map (F j) (slots' j)) ≡ update k (map (F k) v) (λ (j : Key). map (F j) (slots₀ j))
items-update F k v slots₀ slots' e =
    update-is k (map (F k) v) (λ j. map (F j) (slots₀ j)) (λ j. map (F j) (slots' j))
    (rw (e, update_same k v slots₀)) (λ j n. rw (e, update_other k v slots₀ j n))

-- ---- levels of q are written, over the tables
module _ (h : Shape) (q : ℕ) (a : q < h.P) where
  -- one level
  module _ (mark order holds : ℕ → ℕ) (fits : Fitting h (item_slots h order)) (t : ℕ) (b : t < h.L) (blocks o : List ℕ) (arr : Arranges (below (slots t)) o) where
    arr-lt : (z : ℕ) → Mem z o → z < slots t
    arr-lt z m = mem_below (slots t) z (arr.2 z m)

    arr-length : length o ≡ slots t
    arr-length = arr.0 ∙ length-below (slots t)

    abbrev mark' : ℕ → ℕ
    mark' = put_all (cell h q t 0) (replicate (slots t) 1) mark

    abbrev order' : ℕ → ℕ
    order' = put_all (cell h q t 0) o order

    abbrev holds' : ℕ → ℕ
    holds' = put_all (cell h q t 0) (new_holds (slots t) blocks o) holds

    new-slots : item_slots h order' (q, t) ≡ o
    unfolding item_slots
    new-slots =
        map_same (λ j. order' (cell h q t j)) (λ j. get_or o j 0) (below (slots t)) (λ z m. level-here h q t o order arr-length z (mem_below (slots t) z m))
        ∙ map-get_or o (slots t) arr-length

    old-slots : (k : Key) → ¬ (k ≡ (q, t)) → k.0 < h.P → k.1 < h.L → item_slots h order' k ≡ item_slots h order k
    unfolding item_slots
    old-slots k n c d =
        map_same (λ j. order' (cell h k.0 k.1 j)) (λ j. order (cell h k.0 k.1 j)) (below (slots k.1))
        (λ z m. level-other h q t o order arr-length k z b d n (mem_below (slots k.1) z m))

    -- its slots are slots of the level still
    pub fits-written : Fitting h (item_slots h order')
    fits-written k c d z m = go (key-discrete k (q, t))
      where
        go : Dec (k ≡ (q, t)) → z < slots k.1
        go (yes e) =
            let m' : Mem z o = subst (λ xs. Mem z xs) (ap (item_slots h order') e ∙ new-slots) m in
            subst (λ (x : Key). z < slots x.1) (sym e) (arr-lt z m')
        go (no e) = fits k c d z (subst (λ xs. Mem z xs) (old-slots k e c d) m)

    pub orders-written : slots_in h mark' order' ≡ update (q, t) o (slots_in h mark order)
    orders-written =
        open-written h mark (item_slots h order) q t (item_slots h order') a b fits
        (λ z m. arr-lt z (rw new-slots at m)) old-slots
        ∙ rw new-slots

    length-holds : length (new_holds (slots t) blocks o) ≡ slots t
    unfolding new_holds
    length-holds = length-map (below (slots t)) _ ∙ length-below (slots t)

    holds-new : (i : ℕ) → i < slots t → get_or (new_holds (slots t) blocks o) i 0 ≡ item_holds blocks (index_of i o)
    unfolding new_holds
    holds-new i l = get_or-map-below (λ i. item_holds blocks (index_of i o)) (slots t) i 0 l

    pub items-written : items_in h mark' order' holds' ≡ update (q, t) (new_items (slots t) blocks) (items_in h mark order holds)
    unfolding items_in
    items-written = update-is (q, t) (new_items (slots t) blocks) (items_in h mark order holds) (items_in h mark' order' holds') here there
      where
        here : map (λ i. holds' (cell h q t i)) (slots_in h mark' order' (q, t)) ≡ new_items (slots t) blocks
        here = rw (orders-written, update_same (q, t) o (slots_in h mark order))
            (map_same (λ i. holds' (cell h q t i)) (λ i. item_holds blocks (index_of i o)) o (λ z m.
            level-here h q t (new_holds (slots t) blocks o) holds length-holds z (arr-lt z m) ∙ holds-new z (arr-lt z m))
            ∙ new_items_lem blocks o (slots t) arr-length arr.1)

        there : (j : Key) → ¬ (j ≡ (q, t)) → map (λ i. holds' (cell h j.0 j.1 i)) (slots_in h mark' order' j) ≡ map (λ i. holds (cell h j.0 j.1 i)) (slots_in h mark order j)
        there j ne = rw (orders-written, update_other (q, t) o (slots_in h mark order) j ne)
            (map_same _ _ (slots_in h mark order j) (λ z m.
            let k = open-key h mark (item_slots h order) j.0 j.1 z m in
            let r = open-mem h mark (item_slots h order) j.0 j.1 z m in
            level-other h q t (new_holds (slots t) blocks o) holds length-holds j z b k.1 ne (fits j k.0 k.1 z r.0)))

  -- one after the other
  pub levels-written : (ls : List ℕ) → All (λ ℓ. ℓ < h.L) ls → (js bs : List ℕ) → Drew (orders_bounds ls) js → (mark order holds : ℕ → ℕ) → Fitting h (item_slots h order) →
      (slots_in h (new_marks h q ls mark) (new_orders h q (fills ls js bs) order) ≡ orders_after q ls js (slots_in h mark order))
      × (items_in h (new_marks h q ls mark) (new_orders h q (fills ls js bs) order) (new_held h q (fills ls js bs) holds) ≡ items_written q ls bs (items_in h mark order holds))
  unfolding new_marks new_orders new_held write_levels fills items_written
  levels-written [] nil js bs d mark order holds fits = (refl, refl)
  levels-written (ℓ ∷ ls) (cons b t) js bs d mark order holds fits =
      let w = orders-split ℓ ls js d in
      let o = new_order (2 ^ (ℓ + 1)) js in
      let arr : Arranges (below (slots ℓ)) o = rw (order-take (2 ^ (ℓ + 1)) js) at (order-ok (2 ^ (ℓ + 1)) (pow_pos (ℓ + 1)) (take (2 ^ (ℓ + 1) - 1) js) w.0) in
      let ih = levels-written ls t (drop (2 ^ (ℓ + 1) - 1) js) (drop (2 ^ ℓ) bs) w.1 (mark' mark order holds fits ℓ b (take (2 ^ ℓ) bs) o arr) (order' mark order holds fits ℓ b (take (2 ^ ℓ) bs) o arr) (holds' mark order holds fits ℓ b (take (2 ^ ℓ) bs) o arr) (fits-written mark order holds fits ℓ b (take (2 ^ ℓ) bs) o arr) in (
        ih.0 ∙ ap (orders_after q ls (drop (2 ^ (ℓ + 1) - 1) js)) (orders-written mark order holds fits ℓ b (take (2 ^ ℓ) bs) o arr ∙ ap (λ x. update (q, ℓ) x (slots_in h mark order)) (sym (order-take (2 ^ (ℓ + 1)) js))),
        ih.1 ∙ ap (items_written q ls (drop (2 ^ ℓ) bs)) (items-written mark order holds fits ℓ b (take (2 ^ ℓ) bs) o arr),
      )

module _ (s : State) (f : InRange s) where
  -- slots of items are slots of the level
  pub fits : Fitting s.shape (item_slots s.shape s.order)
  unfolding item_slots
  fits k a b z m =
      let r = mem-map (λ j. s.order (cell s.shape k.0 k.1 j)) z (below (slots k.1)) m in
      rw r.1.1 (f.orders k.0 k.1 r.0 a b (mem_below (slots k.1) r.0 r.1.0))

  -- ---- a read of slot x
  module _ (q ℓ x : ℕ) (u : NoDup (orders_of s (q, ℓ))) (m : Mem x (orders_of s (q, ℓ))) where
    abbrev pub slot_rank : ℕ
    slot_rank = index x (orders_of s (q, ℓ))

    pub orders-read : slots_in s.shape (put (cell s.shape q ℓ x) 0 s.mark) s.order ≡ update (q, ℓ) (remove_at slot_rank (orders_of s (q, ℓ))) (orders_of s)
    orders-read = open-read s.shape s.mark (item_slots s.shape s.order) q ℓ x fits u m

    pub items-read : items_in s.shape (put (cell s.shape q ℓ x) 0 s.mark) s.order s.holds ≡ update (q, ℓ) (remove_at slot_rank (items_of s (q, ℓ))) (items_of s)
    unfolding items_in
    items-read =
        items-update (λ j i. s.holds (cell s.shape j.0 j.1 i)) (q, ℓ) _ (orders_of s) _ orders-read
        ∙ rw (map-remove (λ i. s.holds (cell s.shape q ℓ i)) slot_rank (orders_of s (q, ℓ)))

  -- ---- the levels of q below n hold nothing more: they have no unread slot
  pub items-cleared : (q n : ℕ) → n ≤ s.shape.L → ((ℓ i : ℕ) → ℓ < n → i < slots ℓ → ¬ (s.mark (cell s.shape q ℓ i) ≡ 1)) →
      items_in s.shape s.mark s.order (cleared (cell s.shape q 0 0) (slots n - 2) s.holds) ≡ items_of s
  unfolding items_in
  items-cleared q n top spent = fun_ext (λ j. map_same _ _ (orders_of s j) (λ z m.
      let k = open-key s.shape s.mark (item_slots s.shape s.order) j.0 j.1 z m in
      let r = open-mem s.shape s.mark (item_slots s.shape s.order) j.0 j.1 z m in
      let l = fits j k.0 k.1 z r.0 in
      cleared-else s.shape q n s.holds j.0 j.1 z top k.1 l (λ e. unspent j.0 j.1 z e l r.1)))
    where
      unspent : (p ℓ z : ℕ) → p ≡ q → z < slots ℓ → s.mark (cell s.shape p ℓ z) ≡ 1 → n ≤ ℓ
      unspent p ℓ z e l m = go (dec_lt ℓ n)
        where
          go : Dec (ℓ < n) → n ≤ ℓ
          go (yes x) = absurd (spent ℓ z x l (rw e at m))
          go (no x) = omega arith

  -- ---- a block leaves its slot, which was read
  pub items_left : (p : ℕ) (x : Place) → ((ℓ i : ℕ) → x ≡ stored ℓ i → ¬ (s.mark (cell s.shape p ℓ i) ≡ 1)) →
      items_in s.shape s.mark s.order (emptied (cell s.shape p) x s.holds) ≡ items_of s
  unfolding items_in emptied
  items_left p nowhere n = refl
  items_left p (stored ℓ i) n = fun_ext (λ j. map_same _ _ (orders_of s j) (λ z m.
      let r = open-mem s.shape s.mark (item_slots s.shape s.order) j.0 j.1 z m in
      put_other (cell s.shape p ℓ i) 0 s.holds (cell s.shape j.0 j.1 z) (λ e. n ℓ i refl (rw (← e) r.1))))
