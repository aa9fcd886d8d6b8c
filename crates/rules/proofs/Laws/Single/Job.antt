-- A job that runs alone does what document 01 says of it: its reads, the block that it takes, its draws and writes, its rebuild and its end.
use Rattle.std.specs.Prelude.{◌≡◌, not, ◌&&◌, ◌||◌, replicate, if◌then◌else◌}
use Rattle.std.proofs.Math.Path.{refl, ap, fun_ext}
use Rattle.std.proofs.Common.{sym, ◌∙◌, true≢false, take_all}
use Rattle.std.proofs.Math.Bool.{Bool, true, false}
use mathlib.Core.List.{List, [], ◌∷◌, ◌++◌, map}
use Rattle.std.proofs.Math.Option.{Option, none, some}
use Prim.Native.Nat.{ℕ, zero, suc, ◌+◌, ◌-◌, ◌^◌, ◌≤◌, ◌<◌, min}
use Rattle.std.proofs.Math.Decide.{dec_lt}
use native.Mathlib.Omega.{arith}
use Rattle.std.proofs.Math.ListN.{length, take, length-replicate, get_or-replicate, length-map}
use Rattle.std.proofs.Math.Dec.{eqb, ltb, leb}
use Rattle.std.proofs.Math.Pow.{pow_mono}
use borrow.Author.Tests.{eqb-true, eq-eqb, ltb-true, ltb-false}
use Rattle.lists.specs.Tests.{both_true, or_left}
use Rattle.lists.specs.Members.{keep_same}
use Rattle.lists.specs.Lengths.{length-below}
use Rattle.lists.specs.Tables.{put, put_all, put_all-in, put_all-before, put_all-behind}
use Rattle.lists.specs.All.{All, nil, cons, all_map, find-same}
use Rattle.lists.specs.Search.{any, member, find, keep, below, count, keep-yes, keep-no, find-yes, find-no}
use Rattle.rules.specs.Shape.{Shape, slots, cell, offset}
use Rattle.rules.specs.Setters.{set_begun}
use Rattle.rules.specs.Draws.{new_order, order_bounds}
use Rattle.rules.specs.State.{State, Command, cmd, write}
use Rattle.rules.specs.Blocks.{entries, blocks_in, is_unread}
use Rattle.rules.specs.Levels.{filled, grown, source_levels}
use Rattle.rules.specs.Jobs.{joined, top_of, levels_of, leave_queue, write_at, orders_bounds}
use Rattle.rules.specs.Turn.{idle, rebuild, write_next, command, step_bounds, next_write, write_step}
use Rattle.rules.specs.Completion.{job_done, end_job}
use Rattle.rules.specs.Questions.{possible}
use Rattle.rules.specs.Rebuild.{places, unread, next_unread, chosen, entries_in, gather_from, gathered, fills, new_place, new_places, write_levels, new_orders, new_marks, new_held, new_holds, cleared, leave, do_rebuild}
use Rattle.rules.proofs.Laws.Decided.{places-in}
use Rattle.rules.proofs.Laws.Levels.{two-slots}
use Rattle.rules.specs.Laws.Single.Rules.{trailing_ones, sources, target, grown_by_one, unread_of, chosen_one, listed, is_chosen, gathered_of, leave_one, rebuild_into}
use Rattle.rules.proofs.Laws.Single.Bits.{ones-filled, ones-empty}
use Rattle.rules.proofs.Laws.Single.Levels.{cases, one-grown, one-top, one-sources, one_written, one_holds, one-leaves}

find-front : {A : Type 0} (p : A → Bool) (xs ys : List A) → All (λ y. p y ≡ false) ys → find p (xs ++ ys) ≡ find p xs
find-front p [] [] nil = refl
find-front p [] (y ∷ ys) (cons k t) = find-no p y ys k ∙ find-front p [] ys t
find-front p (x ∷ xs) ys h = go (p x) refl (find-front p xs ys h)
  where
    go : (t : Bool) → p x ≡ t → find p (xs ++ ys) ≡ find p xs → find p (x ∷ (xs ++ ys)) ≡ find p (x ∷ xs)
    go true e ih = find-yes p x (xs ++ ys) e ∙ sym (find-yes p x xs e)
    go false e ih = find-no p x (xs ++ ys) e ∙ ih ∙ sym (find-no p x xs e)

-- slots of levels that lie together
count-append : (a m n : ℕ) → count a (m + n) ≡ count a m ++ count (a + m) n
unfolding count
count-append a zero n = let z : a + 0 ≡ a = omega arith in let y : 0 + n ≡ n = omega arith in rw (z, y)
count-append a (suc m) n =
    let z : a + suc m ≡ suc a + m = omega arith in
    let y : suc m + n ≡ suc (m + n) = omega arith in
    rw (z, y) (ap (λ xs. a ∷ xs) (count-append (suc a) m n))

map-shift : (f g : ℕ → ℕ) (k a m : ℕ) → ((i : ℕ) → f i ≡ g (k + i)) → map f (count a m) ≡ map g (count (k + a) m)
unfolding count
map-shift f g k a zero e = refl
map-shift f g k a (suc m) e =
    let z : suc (k + a) ≡ k + suc a = omega arith in
    rw (e a, z) (ap (λ xs. g (k + a) ∷ xs) (map-shift f g k (suc a) m e))

map-append : (f : ℕ → ℕ) (xs ys : List ℕ) → map f (xs ++ ys) ≡ map f xs ++ map f ys
map-append f [] ys = refl
map-append f (x ∷ xs) ys = ap (λ zs. f x ∷ zs) (map-append f xs ys)

double : (a : ℕ) → slots (suc a) ≡ slots a + slots a
double a = omega (arith, pow_mono {i = suc a + 1} {j = suc (a + 1)} (omega arith), pow_mono {i = suc (a + 1)} {j = suc a + 1} (omega arith))

entries_from : (holds : ℕ → ℕ) (h : Shape) (q a n : ℕ) → entries_in (λ ℓ i. holds (cell h q ℓ i)) (count a n) ≡ map (λ j. holds (cell h q 0 j)) (count (slots a - 2) (slots (a + n) - slots a))
unfolding entries_in count below
entries_from holds h q a zero =
    let z : a + 0 ≡ a = omega arith in
    let y : slots a - slots a ≡ 0 = omega arith in
    rw (z, y)
entries_from holds h q a (suc n) =
    let more = slots (suc a + n) - slots (suc a) in
    let wide = pow_mono {i = suc a + 1} {j = suc a + n + 1} (omega arith) in
    let k : a + suc n ≡ suc a + n = omega arith in
    let k' : slots (a + suc n) ≡ slots (suc a + n) = ap slots k in
    let e : slots (a + suc n) - slots a ≡ slots a + more = omega (arith, double a, wide) in
    let z : slots a - 2 + slots a ≡ slots (suc a) - 2 = omega (arith, double a, pow_mono {i = 1} {j = a + 1} (omega arith)) in
    let none_more : slots a - 2 + 0 ≡ slots a - 2 = omega arith in
    let first : map (λ i. holds (cell h q a i)) (count 0 (slots a)) ≡ map (λ j. holds (cell h q 0 j)) (count (slots a - 2) (slots a)) =
    map-shift (λ i. holds (cell h q a i)) (λ j. holds (cell h q 0 j)) (slots a - 2) 0 (slots a) (λ i. ap holds (shifted i)) ∙ ap (λ k. map (λ j. holds (cell h q 0 j)) (count k (slots a))) none_more in
    ap (λ xs. xs ++ entries_in (λ ℓ i. holds (cell h q ℓ i)) (count (suc a) n)) first
    ∙ ap (λ xs. map (λ j. holds (cell h q 0 j)) (count (slots a - 2) (slots a)) ++ xs) (entries_from holds h q (suc a) n ∙ ap (λ k. map (λ j. holds (cell h q 0 j)) (count k more)) (sym z))
    ∙ sym (map-append (λ j. holds (cell h q 0 j)) (count (slots a - 2) (slots a)) (count (slots a - 2 + slots a) more))
    ∙ ap (map (λ j. holds (cell h q 0 j))) (sym (count-append (slots a - 2) (slots a) more) ∙ ap (count (slots a - 2)) (sym e))
  where
    shifted : (i : ℕ) → cell h q a i ≡ cell h q 0 (slots a - 2 + i)
    shifted i = unfold cell in (omega (arith, pow_mono {i = 1} {j = a + 1} (omega arith)))

-- a level's cells are cleared and then written: they are written
absorbed : (h : Shape) (q t : ℕ) (xs : List ℕ) (f : ℕ → ℕ) → length xs ≡ slots t → put_all (cell h q t 0) xs (cleared (cell h q 0 0) (slots (suc t) - 2) f) ≡ put_all (cell h q t 0) xs (cleared (cell h q 0 0) (slots t - 2) f)
absorbed h q t xs f l = fun_ext (λ x. go x (dec_lt x (cell h q t 0)) (dec_lt x (cell h q t 0 + length xs)) (dec_lt x (cell h q 0 0)))
  where
    from : cell h q t 0 ≡ cell h q 0 0 + (slots t - 2)
    from = unfold cell in (omega (arith, two-slots t))

    none-there : (n x : ℕ) → cell h q 0 0 ≤ x → x < cell h q 0 0 + n → cleared (cell h q 0 0) n f x ≡ 0
    none-there n x a b = unfold cleared in (put_all-in (cell h q 0 0) (replicate n 0) f x a (omega (arith, length-replicate {A = ℕ} n 0)) ∙ get_or-replicate n (x - cell h q 0 0) 0 0 (omega arith))

    there-before : (n x : ℕ) → x < cell h q 0 0 → cleared (cell h q 0 0) n f x ≡ f x
    there-before n x a = unfold cleared in (put_all-before (cell h q 0 0) (replicate n 0) f x a)

    there-behind : (n x : ℕ) → cell h q 0 0 + n ≤ x → cleared (cell h q 0 0) n f x ≡ f x
    there-behind n x a = unfold cleared in (put_all-behind (cell h q 0 0) (replicate n 0) f x (omega (arith, length-replicate {A = ℕ} n 0)))

    go : (x : ℕ) → Dec (x < cell h q t 0) → Dec (x < cell h q t 0 + length xs) → Dec (x < cell h q 0 0)
        → put_all (cell h q t 0) xs (cleared (cell h q 0 0) (slots (suc t) - 2) f) x ≡ put_all (cell h q t 0) xs (cleared (cell h q 0 0) (slots t - 2) f) x
    go x (no a) (yes b) c = put_all-in (cell h q t 0) xs _ x (omega arith) b ∙ sym (put_all-in (cell h q t 0) xs _ x (omega arith) b)
    go x (yes a) b (yes c) = put_all-before (cell h q t 0) xs _ x a ∙ there-before (slots (suc t) - 2) x c ∙ sym (put_all-before (cell h q t 0) xs _ x a ∙ there-before (slots t - 2) x c)
    go x (yes a) b (no c) = put_all-before (cell h q t 0) xs _ x a ∙ none-there (slots (suc t) - 2) x (omega arith) (omega (arith, from, double t, two-slots t)) ∙ sym (put_all-before (cell h q t 0) xs _ x a ∙ none-there (slots t - 2) x (omega arith) (omega (arith, from)))
    go x (no a) (no b) c = put_all-behind (cell h q t 0) xs _ x (omega arith) ∙ there-behind (slots (suc t) - 2) x (omega (arith, from, double t, two-slots t)) ∙ sym (put_all-behind (cell h q t 0) xs _ x (omega arith) ∙ there-behind (slots t - 2) x (omega (arith, from)))

-- ---- A job that runs alone
module _ (s : State) (q : ℕ) (alone : joined s q ≡ 1) (h_l : 1 ≤ s.shape.L) (hc : s.counter q < 2 ^ s.shape.L) where
  abbrev h : Shape
  h = s.shape

  abbrev c : ℕ
  c = s.counter q

  pub alone-levels : levels_of s q ≡ target h c ∷ []
  unfolding levels_of
  alone-levels = rw alone (one_written h c h_l hc)

  pub alone-top : top_of s q ≡ target h c
  unfolding top_of
  alone-top = rw alone (one-top h c h_l hc)

  -- its reads
  pub alone-unread : unread s q ≡ unread_of s q
  unfolding unread next_unread unread_of
  alone-unread = rw alone-top (unfold target sources in (cases h c h_l hc (λ _. find test (places (suc (min (trailing_ones h.L c) (h.L - 1)))) ≡ find old (places (trailing_ones h.L c))) full less))
    where
      test : ℕ × ℕ → Bool
      test p = leb s.cursor (offset p.0 p.1) && (filled c p.0 && is_unread s q p.0 p.1)

      old : ℕ × ℕ → Bool
      old p = leb s.cursor (offset p.0 p.1) && is_unread s q p.0 p.1

      below-same : (n : ℕ) → n ≤ trailing_ones h.L c → find test (places n) ≡ find old (places n)
      below-same n l = find-same test old (all_map (λ p k. rw (ones-filled h.L c p.0 (omega (arith, k.0)))) (places-in n))

      full : c ≡ 2 ^ h.L - 1 → trailing_ones h.L c ≡ h.L → find test (places (suc (min (trailing_ones h.L c) (h.L - 1)))) ≡ find old (places (trailing_ones h.L c))
      full e w = let z : suc (min (trailing_ones h.L c) (h.L - 1)) ≡ trailing_ones h.L c = omega arith in rw z (below-same (trailing_ones h.L c) (omega arith))

      fails : (t : ℕ) → filled c t ≡ false → (xs : List ℕ) → All (λ p. test p ≡ false) (map (λ i. (t, i)) xs)
      fails t e [] = nil
      fails t e (x ∷ xs) = let here : test (t, x) ≡ false = rw e (and_no (leb s.cursor (offset t x))) in cons here (fails t e xs)
        where
          and_no : (b : Bool) → (b && false) ≡ false
          and_no true = refl
          and_no false = refl

      less : trailing_ones h.L c < h.L → find test (places (suc (min (trailing_ones h.L c) (h.L - 1)))) ≡ find old (places (trailing_ones h.L c))
      less l =
          let z : min (trailing_ones h.L c) (h.L - 1) ≡ trailing_ones h.L c = omega arith in
          rw z (unfold places in (find-front test (places (trailing_ones h.L c)) (map (λ i. (trailing_ones h.L c, i)) (below (slots (trailing_ones h.L c)))) (fails (trailing_ones h.L c) (ones-empty h.L c l) (below (slots (trailing_ones h.L c)))))
          ∙ below-same (trailing_ones h.L c) (omega arith))

  -- the block that it takes
  take-one : (p : ℕ → Bool) (xs : List ℕ) → take 1 (keep p xs) ≡ listed (find p xs)
  unfolding listed
  take-one p [] = unfold keep find in refl
  take-one p (x ∷ xs) = go (p x) refl (take-one p xs)
    where
      go : (t : Bool) → p x ≡ t → take 1 (keep p xs) ≡ listed (find p xs) → take 1 (keep p (x ∷ xs)) ≡ listed (find p (x ∷ xs))
      go true e ih = rw (keep-yes p x xs e, find-yes p x xs e)
      go false e ih = rw (keep-no p x xs e, find-no p x xs e) ih

  pub alone-chosen : chosen s q ≡ listed (chosen_one s q)
  unfolding chosen chosen_one
  alone-chosen = rw alone (go (ltb (blocks_in s q h.L) (2 ^ (h.L - 1))) refl)
    where
      go : (t : Bool) → ltb (blocks_in s q h.L) (2 ^ (h.L - 1)) ≡ t → take (min 1 (2 ^ (h.L - 1) - blocks_in s q h.L)) (keep (λ b. eqb (s.partition b) q) s.waiting) ≡ listed (if t then find (λ b. eqb (s.partition b) q) s.waiting else none)
      go true e = let z : min 1 (2 ^ (h.L - 1) - blocks_in s q h.L) ≡ 1 = omega (arith, ltb-true (blocks_in s q h.L) (2 ^ (h.L - 1)) e) in rw z (take-one (λ b. eqb (s.partition b) q) s.waiting)
      go false e = let z : min 1 (2 ^ (h.L - 1) - blocks_in s q h.L) ≡ 0 = omega (arith, ltb-false (blocks_in s q h.L) (2 ^ (h.L - 1)) e) in rw z (unfold listed in refl)

  -- the blocks that it gathers
  alone-sources : source_levels (top_of s q) c ≡ below (sources h c)
  unfolding top_of
  alone-sources = rw alone (one-sources h c h_l hc)

  chosen-member : (o : Option ℕ) (b : ℕ) → member b (listed o) ≡ is_chosen o b
  unfolding listed is_chosen member any
  chosen-member none b = refl
  chosen-member (some a) b = both_true (eqb b a || false) (eqb a b)
      (λ e. eq-eqb a b (sym (eqb-true b a (or-one e)))) (λ e. or_left (eqb b a) false (eq-eqb b a (sym (eqb-true a b e))))
    where
      or-one : (eqb b a || false) ≡ true → eqb b a ≡ true
      or-one e = go (eqb b a) refl e
        where
          go : (t : Bool) → eqb b a ≡ t → (t || false) ≡ true → t ≡ true
          go true k e = refl
          go false k e = absurd (true≢false (sym e))

  alone-entries : entries_in (λ ℓ i. s.holds (cell h q ℓ i)) (below (sources h c)) ≡ entries s q (sources h c)
  unfolding entries below
  alone-entries = entries_from s.holds h q 0 (sources h c) ∙ rw first
    where
      first : slots (0 + sources h c) - slots 0 ≡ slots (sources h c) - 2
      first = let z : 0 + sources h c ≡ sources h c = omega arith in ap (λ n. slots n - 2) z

  pub alone-gathered : gathered s q ≡ gathered_of s q
  unfolding gathered gather_from gathered_of
  alone-gathered = rw (alone-chosen, alone-sources, alone-entries) (keep_same _ _ (below h.N) (λ b m. ap (λ x. x || member (suc b) (entries s q (sources h c))) (chosen-member (chosen_one s q) b)))

  -- the rebuild, where the target holds what is gathered
  leave-listed : (o : Option ℕ) (xs : List ℕ) → leave (listed o) xs ≡ leave_one o xs
  unfolding leave listed leave_one
  leave-listed none xs = refl
  leave-listed (some b) xs = refl

  -- the target's cells are written after all
  alone-cleared : (xs : List ℕ) → length xs ≡ slots (target h c) → put_all (cell h q (target h c) 0) xs (cleared (cell h q 0 0) (slots (suc (target h c)) - 2) s.holds)
      ≡ put_all (cell h q (target h c) 0) xs (cleared (cell h q 0 0) (slots (sources h c) - 2) s.holds)
  unfolding target sources
  alone-cleared xs l = cases h c h_l hc (λ _. length xs ≡ slots (min (trailing_ones h.L c) (h.L - 1)) → put_all (cell h q (min (trailing_ones h.L c) (h.L - 1)) 0) xs (cleared (cell h q 0 0) (slots (suc (min (trailing_ones h.L c) (h.L - 1))) - 2) s.holds)
      ≡ put_all (cell h q (min (trailing_ones h.L c) (h.L - 1)) 0) xs (cleared (cell h q 0 0) (slots (trailing_ones h.L c) - 2) s.holds))
      (λ e w k. let z : suc (min (trailing_ones h.L c) (h.L - 1)) ≡ trailing_ones h.L c = omega arith in rw z)
      (λ w k. let z : min (trailing_ones h.L c) (h.L - 1) ≡ trailing_ones h.L c = omega arith in rw z (absorbed h q (trailing_ones h.L c) xs s.holds (k ∙ ap slots z))) l

  -- its draws, its writes, the late 2 and its end
  pub alone-draws : step_bounds (rebuild q (levels_of s q)) ≡ order_bounds (slots (target h c))
  unfolding step_bounds orders_bounds
  alone-draws = rw alone-levels (append-none (order_bounds (slots (target h c))))
    where
      append-none : (xs : List ℕ) → xs ++ [] ≡ xs
      append-none [] = refl
      append-none (x ∷ xs) = ap (λ ys. x ∷ ys) (append-none xs)

  pub alone-first : command (rebuild q (levels_of s q)) ≡ cmd write q (target h c) 0
  unfolding command
  alone-first = rw alone-levels

  pub alone-writes : write_step s q ≡ (if ltb s.sent (slots (target h c)) then write_next q (target h c) s.sent else idle)
  unfolding write_step next_write write_at
  alone-writes = rw alone-levels (go (ltb s.sent (2 ^ (target h c + 1))))
    where
      go : (t : Bool) → next_write q (if t then some (target h c, s.sent) else none) ≡ (if t then write_next q (target h c) s.sent else idle)
      go true = refl
      go false = refl

  pub alone-possible : possible s (rebuild q (levels_of s q)) ≡ leb (length (gathered_of s q)) (2 ^ target h c)
  unfolding possible
  alone-possible = rw (alone-levels, alone-gathered, (one_holds h c h_l hc).0)

  pub alone-done : job_done s q ≡ (eqb s.sent (slots (target h c)) && not (any (λ (d : Command). eqb d.kind write) s.outstanding))
  unfolding job_done
  alone-done = rw (alone-levels, (one_holds h c h_l hc).1)

  pub alone-ends : (rest : List ℕ) → s.queue ≡ q ∷ rest
      → ((end_job q s).counter ≡ put q (grown_by_one h c) s.counter) × ((end_job q s).queue ≡ rest) × ((end_job q s).begun ≡ 0) × ((end_job q s).cursor ≡ 0) × ((end_job q s).sent ≡ 0)
  unfolding end_job
  alone-ends rest e = (
    ap (λ j. put q (grown h c j) s.counter) alone ∙ ap (λ g. put q g s.counter) (one-grown h c h_l hc),
    ap (λ j. leave_queue q j s.queue) alone ∙ ap (leave_queue q 1) e ∙ one-leaves q rest,
    refl,
    refl,
    refl,
  )

  -- its tables
  module _ (js : List ℕ) (l : length (gathered s q) ≤ 2 ^ target h c) where
    abbrev t : ℕ
    t = target h c

    abbrev o : List ℕ
    o = new_order (slots t) js

    all_blocks : take (2 ^ t) (gathered s q) ≡ gathered_of s q
    all_blocks = take_all (2 ^ t) (gathered s q) l ∙ alone-gathered

    alone-places : new_places (fills (levels_of s q) js (gathered s q)) s.place ≡ new_place t (gathered_of s q) o s.place
    alone-places = rw alone-levels (unfold new_places fills in (ap (λ bs. new_place t bs o s.place) all_blocks))

    alone-orders : new_orders h q (fills (levels_of s q) js (gathered s q)) s.order ≡ put_all (cell h q t 0) o s.order
    alone-orders = rw alone-levels (unfold new_orders write_levels fills in refl)

    alone-marks : new_marks h q (levels_of s q) s.mark ≡ put_all (cell h q t 0) (replicate (slots t) 1) s.mark
    alone-marks = rw alone-levels (unfold new_marks write_levels in refl)

    holds-long : length (new_holds (slots t) (gathered_of s q) o) ≡ slots t
    unfolding new_holds
    holds-long = length-map (below (slots t)) _ ∙ length-below (slots t)

    alone-held : new_held h q (fills (levels_of s q) js (gathered s q)) (cleared (cell h q 0 0) (slots (suc (top_of s q)) - 2) s.holds)
        ≡ put_all (cell h q t 0) (new_holds (slots t) (gathered_of s q) o) (cleared (cell h q 0 0) (slots (sources h c) - 2) s.holds)
    alone-held = rw (alone-levels, alone-top) (unfold new_held write_levels fills in (ap (λ bs. put_all (cell h q t 0) (new_holds (slots t) bs o) (cleared (cell h q 0 0) (slots (suc t) - 2) s.holds)) all_blocks))
        ∙ alone-cleared (new_holds (slots t) (gathered_of s q) o) holds-long

    alone-waiting : leave (chosen s q) s.waiting ≡ leave_one (chosen_one s q) s.waiting
    alone-waiting = ap (λ bs. leave bs s.waiting) alone-chosen ∙ leave-listed (chosen_one s q) s.waiting

    -- The rebuild is document 01's, where its target holds what is gathered; it says besides that one job has begun
    pub alone-rebuild : do_rebuild q (levels_of s q) (fills (levels_of s q) js (gathered s q)) s ≡ set_begun 1 (rebuild_into q t o s)
    unfolding do_rebuild rebuild_into
    alone-rebuild = λ i. record {
      shape = s.shape;
      partition = s.partition;
      place = alone-places i;
      bytes = s.bytes;
      waiting = alone-waiting i;
      counter = s.counter;
      order = alone-orders i;
      mark = alone-marks i;
      holds = alone-held i;
      queue = s.queue;
      begun = alone i;
      cursor = s.cursor;
      sent = 1;
      outstanding = s.outstanding;
      request = s.request;
    }
