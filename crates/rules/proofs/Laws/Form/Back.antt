-- The form of a state that is at rest loads, and brings that state back but for what a form leaves out.
use Rattle.std.specs.Prelude.{◌≡◌, Bool, replicate}
use Rattle.std.proofs.Math.Path.{refl, ap, sym, fun_ext}
use Rattle.std.proofs.Common.{◌∙◌, pow_pos}
use Rattle.std.proofs.Math.Bool.{true, false}
use mathlib.Core.List.{List, [], ◌∷◌, ◌++◌, map}
use Rattle.std.proofs.Math.Option.{some}
use Prim.Native.Nat.{ℕ, zero, suc, ◌+◌, ◌-◌, ◌*◌, ◌≤◌, ◌<◌}
use native.Mathlib.Omega.{arith}
use Rattle.std.proofs.Math.Decide.{dec_lt, ℕ_discrete}
use Rattle.std.proofs.Math.ListN.{length, get_or, length-map, length-replicate, get_or-eq_default}
use Rattle.std.proofs.Math.Dec.{eqb}
use borrow.Author.Tests.{eq-eqb, le-leb, lt-ltb}
use Rattle.lists.specs.All.{All, nil, cons, all_map, below-below, below_all, yes-all, all_replicate, keep-passes}
use Rattle.lists.specs.Distinct.{Mem}
use Rattle.lists.specs.Lengths.{length-below, length-count}
use Rattle.lists.specs.Members.{member-mem, mem-member, mem-keep, keep-mem, below-mem, mem_below, mem-all, map-mem, all-mem}
use Rattle.lists.specs.Search.{keep, below, count, member, any}
use Rattle.lists.specs.Tests.{yes-every}
use Rattle.rules.specs.Blocks.{is_unread}
use Rattle.rules.specs.Form.Numbers.{little, each, form_of}
use Rattle.rules.specs.Form.Payload.{filled_levels, order_slots, read_marks, Waiter, waiters, payload, saved_form}
use Rattle.rules.specs.Form.Reading.{Spot, absent, Level, get_form, is_waiting}
use Rattle.rules.specs.Form.Sums.{block_count, summed, out_of_blocks}
use Rattle.rules.specs.Form.Loading
use Rattle.rules.specs.Form.Loading.{lay, block_at, place_of, held_at, held_from, orders_of, marks_of, of_block, bytes_in, loaded, stored_at, well_placed, is_permutation, are_marks, waits_at, checks, sound, is_sound, loads, state_in, loaded_form}
use Rattle.rules.proofs.Laws.Form.Reads.{spot-waits, spot_of, level_of, form_in, payload-read}
use Rattle.rules.specs.Laws.Form.Saveable.{FilledCell, Saveable, over, Agrees}
use Rattle.rules.proofs.Laws.Form.Sums.{blocks-back, blocks-summed, count-near}
use Rattle.rules.proofs.Laws.Form.Tables.{Some, here, some_left, some_right, some-map, some-each, mem-some, all-each, all-mapped, Fits, Covers, lay-has, lay-in, get_or-table, waiters-length, waiters-aged, waiters-each, waiters-any, waiters-bytes}
use Rattle.rules.specs.Laws.Range.{InRange}
use Rattle.rules.proofs.Laws.Range.{facts-range}
use Rattle.rules.proofs.Laws.RangeSetters.{in_bytes, in_order}
use Rattle.rules.specs.Levels.{filled}
use Rattle.rules.specs.Shape.{Shape, cell, slots}
use Rattle.rules.specs.State.{State, Place, nowhere, stored}

zero-plus : (i : ℕ) → 0 + i ≡ i
zero-plus i = omega arith

-- the cells of a level lie together
cell-plus : (h : Shape) (q ℓ j : ℕ) → cell h q ℓ 0 + j ≡ cell h q ℓ j
unfolding cell
cell-plus h q ℓ j = omega arith

map-map : {A B C : Type 0} (f : B → C) (g : A → B) (xs : List A) → map f (map g xs) ≡ map (λ x. f (g x)) xs
map-map f g [] = refl
map-map f g (x ∷ xs) = rw (map-map f g xs)

-- ---- Tables of a filled level

module _ (s : State) where
  abbrev h : Shape
  h = s.shape

  abbrev keys : List (ℕ × ℕ)
  keys = filled_levels h.P h.L s.counter

  -- a table's entries at the cells of each filled level
  abbrev laid : (ℕ → ℕ → List ℕ) → List (ℕ × List ℕ)
  laid xs = map (λ (k : ℕ × ℕ). (cell h k.0 k.1 0, xs k.0 k.1)) keys

  laid-fits : (g : ℕ → ℕ) (xs : ℕ → ℕ → List ℕ) → ((q ℓ j : ℕ) → j < length (xs q ℓ) → get_or (xs q ℓ) j 0 ≡ g (cell h q ℓ j)) → All (Fits g) (laid xs)
  laid-fits g xs e = all-mapped _ (every keys)
    where
      every : (ks : List (ℕ × ℕ)) → All (λ (k : ℕ × ℕ). Fits g (cell h k.0 k.1 0, xs k.0 k.1)) ks
      every [] = nil
      every (k ∷ ks) = cons (λ j l. e k.0 k.1 j l ∙ ap g (sym (cell-plus h k.0 k.1 j))) (every ks)

  laid-covers : (xs : ℕ → ℕ → List ℕ) → ((q ℓ : ℕ) → length (xs q ℓ) ≡ slots ℓ) → (c : ℕ) → FilledCell h s.counter c → Some (Covers c) (laid xs)
  unfolding filled_levels
  laid-covers xs l c k = some-map _ (some-each _ (below h.P) k.part (below-mem h.P k.part k.in_parts)
      (some-map (λ ℓ. (k.part, ℓ)) {xs = keep (filled (s.counter k.part)) (below h.L)} (mem-some _ k.level (mem-keep (filled (s.counter k.part)) (below h.L) k.level (below-mem h.L k.level k.in_levels) k.is_filled) covers)))
    where
      covers : (cell h k.part k.level 0 ≤ c) × (c < cell h k.part k.level 0 + length (xs k.part k.level))
      covers = (omega (arith, k.is_cell, cell-plus h k.part k.level k.slot), omega (arith, k.is_cell, cell-plus h k.part k.level k.slot, k.in_slots, l k.part k.level))

  order-length : (q ℓ : ℕ) → length (order_slots s q ℓ) ≡ slots ℓ
  unfolding order_slots
  order-length q ℓ = length-map (below (slots ℓ)) _ ∙ length-below (slots ℓ)

  abbrev unread_marks : ℕ → ℕ → List ℕ
  unread_marks q ℓ = map (λ m. 1 - m) (read_marks s q ℓ)

  mark-length : (q ℓ : ℕ) → length (unread_marks q ℓ) ≡ slots ℓ
  unfolding read_marks
  mark-length q ℓ = length-map (read_marks s q ℓ) _ ∙ length-map (below (slots ℓ)) _ ∙ length-below (slots ℓ)

  order-at : (q ℓ j : ℕ) → j < length (order_slots s q ℓ) → get_or (order_slots s q ℓ) j 0 ≡ s.order (cell h q ℓ j)
  order-at q ℓ j l = go (omega (arith, order-length q ℓ))
    where
      go : j < slots ℓ → get_or (order_slots s q ℓ) j 0 ≡ s.order (cell h q ℓ j)
      go v = unfold order_slots below in (get_or-table (λ k. s.order (cell h q ℓ k)) 0 (slots ℓ) j 0 v ∙ ap (λ k. s.order (cell h q ℓ k)) (zero-plus j))

  mark-at : (q ℓ j : ℕ) → j < slots ℓ → get_or (unread_marks q ℓ) j 0 ≡ 1 - (1 - s.mark (cell h q ℓ j))
  unfolding read_marks below
  mark-at q ℓ j v = ap (λ xs. get_or xs j 0) (map-map (λ m. 1 - m) (λ i. 1 - s.mark (cell h q ℓ i)) (count 0 (slots ℓ)))
      ∙ get_or-table (λ i. 1 - (1 - s.mark (cell h q ℓ i))) 0 (slots ℓ) j 0 v ∙ ap (λ k. 1 - (1 - s.mark (cell h q ℓ k))) (zero-plus j)

-- ---- What the slots hold

module _ (h : Shape) (holds : ℕ → ℕ) where
  spot-fits : (b p : ℕ) (m : Bool) (x : Place) → ((ℓ i : ℕ) → m ≡ false → x ≡ stored ℓ i → holds (cell h p ℓ i) ≡ suc b) → All (Fits holds) (held_at h b p (spot_of m x))
  unfolding held_at spot_of
  spot-fits b p true x f = nil
  spot-fits b p false nowhere f = nil
  spot-fits b p false (stored ℓ i) f = cons first nil
    where
      first : (j : ℕ) → j < 1 → get_or (suc b ∷ []) j 0 ≡ holds (cell h p ℓ i + j)
      first zero l = let e : cell h p ℓ i ≡ cell h p ℓ i + 0 = omega arith in sym (f ℓ i refl refl) ∙ ap holds e
      first (suc j) l = absurd (omega arith)

  append-all : {xs ys : List (ℕ × List ℕ)} → All (Fits holds) xs → All (Fits holds) ys → All (Fits holds) (xs ++ ys)
  append-all nil k = k
  append-all (cons a t) k = cons a (append-all t k)

  module _ (g : ℕ → ℕ) (m : ℕ → Bool) (x : ℕ → Place) where
    abbrev spots : ℕ → ℕ × Spot
    spots b = (g b, spot_of (m b) (x b))

    held_fits : (a n : ℕ) → ((b ℓ i : ℕ) → b < a + n → m b ≡ false → x b ≡ stored ℓ i → holds (cell h (g b) ℓ i) ≡ suc b) → All (Fits holds) (held_from h a (map spots (count a n)))
    unfolding held_from count
    held_fits a zero f = nil
    held_fits a (suc n) f = append-all (spot-fits a (g a) (m a) (x a) (λ ℓ i e y. f a ℓ i (omega arith) e y)) (held_fits (suc a) n (λ b ℓ i l. f b ℓ i (omega arith)))

    held-covers : (a n b ℓ i c : ℕ) → a ≤ b → b < a + n → m b ≡ false → x b ≡ stored ℓ i → c ≡ cell h (g b) ℓ i → Some (Covers c) (held_from h a (map spots (count a n)))
    unfolding held_from count held_at spot_of
    held-covers a zero b ℓ i c l u e y z = absurd (omega arith)
    held-covers a (suc n) b ℓ i c l u e y z = go (ℕ_discrete a b) (λ k. held-covers (suc a) n b ℓ i c k (omega arith) e y z)
      where
        one : (m : Bool) (x : Place) → m ≡ false → x ≡ stored ℓ i → Some (Covers c) (held_at h b (g b) (spot_of m x))
        one m x e y = let v : (cell h (g b) ℓ i ≤ c) × (c < cell h (g b) ℓ i + 1) = omega arith in rw (e, y) (here v)

        same : a ≡ b → Some (Covers c) (held_at h a (g a) (spot_of (m a) (x a)))
        same v = rw v (one (m b) (x b) e y)

        go : Dec (a ≡ b) → (suc a ≤ b → Some (Covers c) (held_from h (suc a) (map spots (count (suc a) n)))) → Some (Covers c) (held_at h a (g a) (spot_of (m a) (x a)) ++ held_from h (suc a) (map spots (count (suc a) n)))
        go (yes v) k = some_left _ (same v)
        go (no v) k = some_right (held_at h a (g a) (spot_of (m a) (x a))) (k (omega arith))

-- ---- The state

spot-place : (m : Bool) (x : Place) → (m ≡ true → x ≡ nowhere) → place_of (spot_of m x) ≡ x
unfolding place_of spot_of
spot-place true x f = sym (f refl)
spot-place false nowhere f = refl
spot-place false (stored ℓ i) f = refl

module _ (s : State) (k : Saveable s) where
  abbrev N : ℕ
  N = s.shape.N

  -- contents that are not waiting, and orders that are not filled, are zeros
  abbrev pub contents_of : ℕ → List ℕ
  contents_of b = bytes_in (replicate s.shape.B 0) (of_block (waiters s.bytes 0 s.waiting) b)

  abbrev pub orders_in : ℕ → ℕ
  orders_in = lay (orders_of s.shape (form_in s).levels)

  abbrev spot_at : ℕ → ℕ × Spot
  spot_at b = (s.partition b, spot_of (member b s.waiting) (s.place b))

  block_in_lem : (b : ℕ) → b < N → block_at (form_in s).blocks b ≡ spot_at b
  unfolding block_at below
  block_in_lem b hb = get_or-table spot_at 0 N b (0, absent) hb ∙ ap spot_at (zero-plus b)

  block_out : (b : ℕ) → N ≤ b → block_at (form_in s).blocks b ≡ (0, absent)
  unfolding block_at
  block_out b hb = get_or-eq_default (form_in s).blocks (0, absent) (rw (length-map (below N) spot_at, length-below N) hb)

  partition-is : (b : ℕ) → (block_at (form_in s).blocks b).0 ≡ s.partition b
  partition-is b = go (dec_lt b N)
    where
      go : Dec (b < N) → (block_at (form_in s).blocks b).0 ≡ s.partition b
      go (yes l) = ap (λ (x : ℕ × Spot). x.0) (block_in_lem b l)
      go (no l) = ap (λ (x : ℕ × Spot). x.0) (block_out b (omega arith)) ∙ sym (k.partitions b (omega arith))

  place_is : (b : ℕ) → place_of (block_at (form_in s).blocks b).1 ≡ s.place b
  unfolding place_of
  place_is b = go (dec_lt b N)
    where
      go : Dec (b < N) → place_of (block_at (form_in s).blocks b).1 ≡ s.place b
      go (yes l) = ap (λ (x : ℕ × Spot). place_of x.1) (block_in_lem b l) ∙ spot-place (member b s.waiting) (s.place b) (λ e. k.absent b (member-mem b s.waiting e))
      go (no l) = ap (λ (x : ℕ × Spot). place_of x.1) (block_out b (omega arith)) ∙ sym (k.places b (omega arith))

  counter-is : (q : ℕ) → get_or (form_in s).counters q 0 ≡ s.counter q
  unfolding below
  counter-is q = go (dec_lt q s.shape.P)
    where
      go : Dec (q < s.shape.P) → get_or (map s.counter (count 0 s.shape.P)) q 0 ≡ s.counter q
      go (yes l) = get_or-table s.counter 0 s.shape.P q 0 l ∙ ap s.counter (zero-plus q)
      go (no l) = get_or-eq_default (map s.counter (count 0 s.shape.P)) 0 (rw (length-map (count 0 s.shape.P) s.counter, length-count 0 s.shape.P) (omega arith)) ∙ sym (k.counters q (omega arith))

  waiting-is : map (λ a. Loading.block_in (Loading.aged (waiters s.bytes 0 s.waiting) a)) (below (length (waiters s.bytes 0 s.waiting))) ≡ s.waiting
  unfolding below
  waiting-is = rw (waiters-length s.bytes 0 s.waiting) (waiters-aged s.bytes 0 s.waiting)

  orders-are : orders_of s.shape (form_in s).levels ≡ laid s (order_slots s)
  unfolding orders_of
  orders-are = map-map (λ (l : Level). (cell s.shape l.partition l.level 0, l.order)) (level_of s) (keys s)

  orders-fit : All (Fits s.order) (orders_of s.shape (form_in s).levels)
  orders-fit = rw orders-are (laid-fits s s.order (order_slots s) (order-at s))

  order_is : (c : ℕ) → FilledCell s.shape s.counter c → orders_in c ≡ s.order c
  order_is c d = lay-in s.order c orders-fit covers
    where
      covers : Some (Covers c) (orders_of s.shape (form_in s).levels)
      covers = rw orders-are (laid-covers s (order_slots s) (order-length s) c d)

  abbrev twice : ℕ → ℕ
  twice c = 1 - (1 - s.mark c)

  marks-are : marks_of s.shape (form_in s).levels ≡ laid s (unread_marks s)
  unfolding marks_of
  marks-are = map-map (λ (l : Level). (cell s.shape l.partition l.level 0, map (λ m. 1 - m) l.marks)) (level_of s) (keys s)

  marks-fit : All (Fits twice) (laid s (unread_marks s))
  marks-fit = laid-fits s twice (unread_marks s) (λ q ℓ j l. mark-at s q ℓ j (omega (arith, mark-length s q ℓ)))

  mark-is : (c : ℕ) → lay (marks_of s.shape (form_in s).levels) c ≡ s.mark c
  mark-is c = ap (λ x. lay x c) marks-are ∙ go (ℕ_discrete (s.mark c) 0)
    where
      go : Dec (s.mark c ≡ 0) → lay (laid s (unread_marks s)) c ≡ s.mark c
      go (yes e) = lay-has (λ v. v ≡ s.mark c) twice c marks-fit (sym e) (omega arith)
      go (no n) =
          let d = k.marked c n in
          let u : s.mark c ≤ 1 = rw d.is_cell (k.range.marks d.part d.level d.slot d.in_parts d.in_levels d.in_slots) in
          lay-in twice c marks-fit (laid-covers s (unread_marks s) (mark-length s) c d) ∙ omega arith

  holds-fit : All (Fits s.holds) (held_from s.shape 0 (form_in s).blocks)
  unfolding below
  holds-fit = held_fits s.shape s.holds s.partition (λ b. member b s.waiting) s.place 0 N (λ b ℓ i l e y. (k.placed b ℓ i (omega arith) y).2)

  holds-is : (c : ℕ) → lay (held_from s.shape 0 (form_in s).blocks) c ≡ s.holds c
  holds-is c = go (ℕ_discrete (s.holds c) 0)
    where
      not-waiting : (b ℓ i : ℕ) → s.place b ≡ stored ℓ i → (t : Bool) → member b s.waiting ≡ t → t ≡ false
      not-waiting b ℓ i y true e = absurd (let v : stored ℓ i ≡ nowhere = sym y ∙ k.absent b (member-mem b s.waiting e) in let z : ◌≡◌ {A = ℕ} 0 1 = cc in omega arith)
      not-waiting b ℓ i y false e = refl

      go : Dec (s.holds c ≡ 0) → lay (held_from s.shape 0 (form_in s).blocks) c ≡ s.holds c
      go (yes e) = lay-has (λ v. v ≡ s.holds c) s.holds c holds-fit (sym e) refl
      go (no n) =
          let d = k.held c n in
          lay-in s.holds c holds-fit (unfold below in (held-covers s.shape s.holds s.partition (λ b. member b s.waiting) s.place 0 N d.0 d.1 d.2 c
          (omega arith) (omega (arith, d.3.0)) (not-waiting d.0 d.1 d.2 d.3.1 (member d.0 s.waiting) refl) d.3.1 d.3.2))

  -- "Loading a saved state brings that state back"
  pub loaded-is : loaded (form_in s) ≡ over contents_of orders_in s
  unfolding loaded
  loaded-is = λ i. record {
    shape = s.shape;
    partition = fun_ext partition-is i;
    place = fun_ext place_is i;
    bytes = contents_of;
    waiting = waiting-is i;
    counter = fun_ext counter-is i;
    order = orders_in;
    mark = fun_ext mark-is i;
    holds = fun_ext holds-is i;
    queue = s.queue;
    begun = sym k.unbegun i;
    cursor = sym k.unscanned i;
    sent = sym k.unsent i;
    outstanding = sym k.quiet i;
    request = sym k.idle i;
  }

  -- ---- Its form loads

  pub over-in : InRange (over contents_of orders_in s)
  over-in = in_order _ (in_bytes s k.range contents_of) orders_in (λ q ℓ i hq hℓ hi. lay-has (λ v. v < slots ℓ) s.order (cell s.shape q ℓ i) orders-fit (pow_pos (ℓ + 1)) (k.range.orders q ℓ i hq hℓ hi))

  pub agrees : Agrees s contents_of orders_in
  agrees = record {
    contents = λ b m. waiters-bytes s.bytes (replicate s.shape.B 0) 0 s.waiting b m;
    orders = λ q ℓ i hq hℓ e hi. order_is (cell s.shape q ℓ i) (record { part = q; level = ℓ; slot = i; in_parts = hq; in_levels = hℓ; is_filled = e; in_slots = hi; is_cell = refl });
  }

  -- what its filled levels have
  each_level_lem : {P : Level → Type 0} → ((q ℓ : ℕ) → q < s.shape.P → ℓ < s.shape.L → filled (s.counter q) ℓ ≡ true → P (level_of s (q, ℓ))) → All P (form_in s).levels
  unfolding filled_levels
  each_level_lem f = all-mapped (level_of s) (all-each _ (all_map (λ q hq. all-mapped (λ ℓ. (q, ℓ)) (mem-all (keep (filled (s.counter q)) (below s.shape.L))
      (λ ℓ m. f q ℓ hq (mem_below s.shape.L ℓ (keep-mem _ (below s.shape.L) ℓ m)) (all-mem (keep-passes (filled (s.counter q)) (below s.shape.L)) ℓ m)))) (below-below s.shape.P)))

  permutation : (q ℓ : ℕ) → q < s.shape.P → ℓ < s.shape.L → filled (s.counter q) ℓ ≡ true → is_permutation (level_of s (q, ℓ)) ≡ true
  unfolding is_permutation order_slots
  permutation q ℓ hq hℓ e = below_all _ (slots ℓ) (λ i hi. let d = k.each q ℓ i hq hℓ e hi in
      mem-member i _ (rw (← d.1.1) (map-mem (λ j. s.order (cell s.shape q ℓ j)) d.0 (below (slots ℓ)) (below-mem (slots ℓ) d.0 d.1.0))))

  marks-ok : (q ℓ : ℕ) → are_marks (level_of s (q, ℓ)) ≡ true
  unfolding are_marks read_marks
  marks-ok q ℓ = yes-all (all-mapped (λ i. 1 - s.mark (cell s.shape q ℓ i)) (all_map (λ i hi. le-leb (1 - s.mark (cell s.shape q ℓ i)) 1 (omega arith)) (below-below (slots ℓ))))

  well-placed : (b : ℕ) → b < N → (x : Place) → s.place b ≡ x → well_placed (over contents_of orders_in s) b x ≡ true
  unfolding well_placed is_unread
  well-placed b hb nowhere e = refl
  well-placed b hb (stored ℓ i) e = let d = k.placed b ℓ i hb e in yes-every _ (d.0, (eq-eqb _ 1 d.1, (eq-eqb _ (suc b) d.2, tt)))

  waits-at : (b : ℕ) → waits_at (form_in s).blocks b ≡ is_waiting (block_at (form_in s).blocks b)
  unfolding waits_at
  waits-at b = refl

  pub sound-form : (n : ℕ) → n < 508 → sound (form_in s, replicate n 0) ≡ true
  unfolding sound checks
  sound-form n l = rw loaded-is (yes-every _ (
    eq-eqb (form_of s.shape) (form_of s.shape) refl,
    (
      facts-range (over contents_of orders_in s) over-in,
      (
        yes-all (each_level_lem permutation),
        (
          yes-all (each_level_lem (λ q ℓ hq hℓ e. marks-ok q ℓ)),
          (
            below_all _ N (λ b hb. well-placed b hb (s.place b) refl),
            (
              yes-all (each_level_lem (λ q ℓ hq hℓ e. unfold stored_at in (le-leb _ _ (unfold stored_at in (k.room q ℓ))))),
              (
                below_all _ _ (λ a ha. waiters-each s.bytes 0 s.waiting a (omega arith) (omega (arith, waiters-length s.bytes 0 s.waiting))),
                (
                  yes-all (mem-all (keep (waits_at (form_in s).blocks) (below N)) waiter),
                  (
                    yes-all (all_map (λ x e. eq-eqb 0 x (sym e)) (all_replicate (λ x. x ≡ 0) n 0 refl)),
                    (lt-ltb (length (replicate n 0)) 508 (omega (arith, length-replicate {A = ℕ} n 0)), tt),
                  ),
                ),
              ),
            ),
          ),
        ),
      ),
    ),
  ))
    where
      waiter : (b : ℕ) → Mem b (keep (waits_at (form_in s).blocks) (below N)) → any (λ (r : Waiter). eqb r.block b) (waiters s.bytes 0 s.waiting) ≡ true
      waiter b m =
          let hb = mem_below N b (keep-mem (waits_at (form_in s).blocks) (below N) b m) in
          let e : waits_at (form_in s).blocks b ≡ true = all-mem (keep-passes (waits_at (form_in s).blocks) (below N)) b m in
          let w : member b s.waiting ≡ true = sym (spot-waits (s.partition b) (member b s.waiting) (s.place b)) ∙ ap is_waiting (sym (block_in_lem b hb)) ∙ sym (waits-at b) ∙ e in
          waiters-any s.bytes 0 s.waiting b (member-mem b s.waiting w)

  read_back : get_form (out_of_blocks (saved_form s)) ≡ some (form_in s, replicate (block_count (length (payload s)) * 508 - length (payload s)) 0)
  unfolding saved_form
  read_back = ap get_form (blocks-back (payload s)) ∙ payload-read s k.range k.once k.whole _

  payload-some : 0 < length (payload s)
  unfolding payload little
  payload-some = omega arith

  -- The form of a saveable state passes 17 and 18, and brings it back
  pub saved-summed : summed (saved_form s) ≡ true
  unfolding saved_form
  saved-summed = blocks-summed (payload s) payload-some

  pub saved-loads : loads (saved_form s) ≡ true
  unfolding loads is_sound
  saved-loads = ap is_sound read_back ∙ sound-form _ (count-near (length (payload s)))

  pub saved-back : loaded_form (saved_form s) ≡ over contents_of orders_in s
  unfolding loaded_form state_in
  saved-back = ap state_in read_back ∙ loaded-is
