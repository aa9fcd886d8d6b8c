-- A form with these facts loads.
use Rattle.std.specs.Prelude.{◌≡◌, true, ℕ, suc, ◌+◌, ◌-◌, ◌≤◌, ◌<◌, leb}
use Rattle.std.proofs.Math.Path.{refl, ap, subst}
use Rattle.std.proofs.Common.{sym, ◌∙◌, arith, pow_pos}
use mathlib.Core.List.{List, [], ◌∷◌, map}
use Rattle.std.proofs.Math.Option.{Option, none, some}
use Rattle.std.proofs.Math.Dec.{eqb}
use Rattle.std.proofs.Math.ListN.{length, get_or, length-map}
use borrow.Author.Tests.{eq-eqb, le-leb, lt-ltb, leb-true}
use Rattle.lists.specs.All.{All, IfSome, nil, cons, all_map, all_both, all_get_d, below_all, yes-all, find-all, map_below}
use Rattle.lists.specs.Distinct.{Mem}
use Rattle.lists.specs.Lengths.{length-below}
use Rattle.lists.specs.Members.{mem-member, mem-all, all-mem, full-mem, mem-keep, below-mem, get_d_map}
use Rattle.lists.specs.Search.{keep, below, member, any, find}
use Rattle.lists.specs.Tests.{every-yes, yes-every, and_l, between}
use Rattle.rules.specs.Blocks.{is_unread}
use Rattle.rules.specs.Form.Loading.{block_at, place_of, loaded, lay, orders_of, marks_of, held_from, block_in, aged, well_placed, is_permutation, are_marks, waits_at, checks, sound}
use Rattle.rules.specs.Form.Numbers.{form_of}
use Rattle.rules.specs.Form.Payload.{Waiter}
use Rattle.rules.specs.Form.Reading.{Spot, absent, waits, at, Level, Form}
use Rattle.rules.proofs.Laws.Form.Tables.{Some, here, there, some-map, all-mapped, Covers}
use Rattle.rules.proofs.Laws.Layout.{cell-from, cell-inj}
use Rattle.rules.proofs.Laws.Levels.{partitions-pos}
use Rattle.rules.specs.Laws.Range.{InRange, PlaceIn}
use Rattle.rules.proofs.Laws.Range.{facts-range}
use Rattle.rules.specs.Levels.{filled}
use Rattle.rules.specs.Shape.{Shape, within, slots, cell}
use Rattle.rules.specs.State.{State}
use Rattle.forms.specs.At.{wait_count}
use Rattle.forms.specs.Cells.{SpotIn, PlacedIn, HeldBy, cells_of, each_at_lem, lay-held, lay-few}
use Rattle.forms.specs.Facts.{counter_of, ages_of, names_of, Known, Sized, Ordered, Unread, Made, Facts, some-both, unmapped, mem-any, cell_in, levels-known, level-there, wait-count}
use Rattle.forms.specs.Laid.{lay-every, lay-covered}
use Rattle.forms.specs.Once.{full}

blocks-some : (h : Shape) → within h ≡ true → 0 < h.N
unfolding within between
blocks-some h e = leb-true 1 h.N (and_l (leb 1 h.N) (leb h.N 4096) (every-yes _ e).0)

module _ (f : Form) (rest : List ℕ) (made : Made f) (k : Facts f rest) where
  abbrev h : Shape
  h = f.shape

  abbrev s : State
  s = loaded f

  blocks-pos : 0 < h.N
  blocks-pos = blocks-some h k.shape

  block-placed : (b : ℕ) → PlacedIn h (counter_of f) (block_at f.blocks b)
  unfolding block_at
  block-placed b = all_get_d b k.placed (partitions-pos h k.shape, tt)

  place_in : (c : ℕ) (y : Spot) → SpotIn h c y → PlaceIn h.L (place_of y)
  unfolding place_of
  place_in c absent p = tt
  place_in c waits p = tt
  place_in c (at ℓ i) p = (p.0, p.1)

  -- a level that covers a cell is that cell's, and the entry its slot's
  its_own : (q ℓ i : ℕ) → ℓ < h.L → i < slots ℓ → (l : Level) (n : ℕ) → n ≡ slots l.level → l.level < h.L
      → cell h l.partition l.level 0 ≤ cell h q ℓ i → cell h q ℓ i < cell h l.partition l.level 0 + n
      → (l.partition ≡ q) × (l.level ≡ ℓ) × (cell h q ℓ i - cell h l.partition l.level 0 ≡ i)
  its_own q ℓ i hℓ hi l n e hl a b =
      let j : ℕ = cell h q ℓ i - cell h l.partition l.level 0 in
      let hj : j < slots l.level = omega arith in
      cell-inj h l.partition q l.level ℓ j i hl hℓ hj hi (sym (cell-from h l.partition l.level j) ∙ omega arith)

  order-in : (q ℓ i : ℕ) → ℓ < h.L → i < slots ℓ → lay (orders_of h f.levels) (cell h q ℓ i) < slots ℓ
  unfolding orders_of
  order-in q ℓ i hℓ hi = lay-every (cell h q ℓ i) (λ v. v < slots ℓ) (λ c. 0) (all-mapped _ (all_map one (all_both (all_both (levels-known f made) made.sizes) k.orders))) (pow_pos (ℓ + 1))
    where
      one : (l : Level) → (Known h l × Sized l) × Ordered l
          → Covers (cell h q ℓ i) (cell h l.partition l.level 0, l.order) → get_or l.order (cell h q ℓ i - cell h l.partition l.level 0) 0 < slots ℓ
      one l t v =
          let o = its_own q ℓ i hℓ hi l (length l.order) t.0.1.0 t.0.0.1 v.0 v.1 in
          subst (λ m. get_or l.order (cell h q ℓ i - cell h l.partition l.level 0) 0 < slots m) o.1 (all_get_d (cell h q ℓ i - cell h l.partition l.level 0) t.1.1 (pow_pos (l.level + 1)))

  turned : (ms : List ℕ) → All (λ m. m ≤ 1) (map (λ m. 1 - m) ms)
  turned [] = nil
  turned (m ∷ ms) = let here : 1 - m ≤ 1 = omega arith in cons here (turned ms)

  mark-in : (c : ℕ) → lay (marks_of h f.levels) c ≤ 1
  unfolding marks_of
  mark-in c = lay-every c (λ v. v ≤ 1) (λ c. 0) (all-mapped _ (all_map one made.sizes)) (omega arith)
    where
      one : (l : Level) → Sized l → Covers c (cell h l.partition l.level 0, map (λ m. 1 - m) l.marks) → get_or (map (λ m. 1 - m) l.marks) (c - cell h l.partition l.level 0) 0 ≤ 1
      one l t v = all_get_d (c - cell h l.partition l.level 0) (turned l.marks) (omega arith)

  -- the slot of a block is unread
  mark-one : (q ℓ i : ℕ) → q < h.P → ℓ < h.L → i < slots ℓ → filled (counter_of f q) ℓ ≡ true → Mem (cell h q ℓ i) (cells_of h f.blocks) → lay (marks_of h f.levels) (cell h q ℓ i) ≡ 1
  unfolding marks_of
  mark-one q ℓ i hq hℓ hi fl m =
      lay-covered (cell h q ℓ i) (λ v. v ≡ 1) (λ c. 0) (all-mapped _ (all_map one (all_both (all_both (levels-known f made) made.sizes) k.unread)))
      (some-map _ (some-here (some-both (level-there f made q ℓ hq hℓ fl) made.sizes)))
    where
      some-here : {ls : List Level} → Some (λ (l : Level). ((l.partition ≡ q) × (l.level ≡ ℓ)) × Sized l) ls → Some (λ (l : Level). Covers (cell h q ℓ i) (cell h l.partition l.level 0, map (λ m. 1 - m) l.marks)) ls
      some-here (here {x = l} t) =
          let a : cell h q ℓ 0 ≡ cell h l.partition l.level 0 = rw (t.0.0, t.0.1) refl in
          let n : length (map (λ m. 1 - m) l.marks) ≡ slots ℓ = length-map l.marks (λ m. 1 - m) ∙ t.1.1 ∙ ap slots t.0.1 in
          let v : Covers (cell h q ℓ i) (cell h l.partition l.level 0, map (λ m. 1 - m) l.marks) = (omega (arith, cell-from h q ℓ i), omega (arith, cell-from h q ℓ i)) in
          here v
      some-here (there t) = there (some-here t)

      one : (l : Level) → (Known h l × Sized l) × Unread h (cells_of h f.blocks) l
          → Covers (cell h q ℓ i) (cell h l.partition l.level 0, map (λ m. 1 - m) l.marks) → get_or (map (λ m. 1 - m) l.marks) (cell h q ℓ i - cell h l.partition l.level 0) 0 ≡ 1
      one l t v =
          let n = length-map l.marks (λ m. 1 - m) ∙ t.0.1.1 in
          let o = its_own q ℓ i hℓ hi l (length (map (λ m. 1 - m) l.marks)) n t.0.0.1 v.0 v.1 in
          let j : ℕ = cell h q ℓ i - cell h l.partition l.level 0 in
          let hj : j < slots l.level = omega (arith, o.2, ap slots o.1) in
          let e : cell h l.partition l.level j ≡ cell h q ℓ i = sym (cell-from h l.partition l.level j) ∙ omega (arith, v.0) in
          get_d_map (λ m. 1 - m) l.marks j 0 0 (omega (arith, t.0.1.1)) ∙ ap (λ m. 1 - m) (t.1 j hj (subst (λ c. Mem c (cells_of h f.blocks)) (sym e) m))

  well-placed : (b : ℕ) → b < h.N → well_placed s b (s.place b) ≡ true
  unfolding loaded well_placed place_of is_unread block_at
  well-placed b hb = go (block_at f.blocks b).1 refl (block-placed b).1
    where
      there-b : b < length f.blocks
      there-b = omega (arith, made.blocks)

      here-b : 0 + b ≡ b
      here-b = omega arith

      go : (y : Spot) → (block_at f.blocks b).1 ≡ y → SpotIn h (counter_of f (block_at f.blocks b).0) y → well_placed s b (place_of y) ≡ true
      go absent e p = refl
      go waits e p = refl
      go (at ℓ i) e p = let held = each_at_lem (HeldBy h (lay (held_from h 0 f.blocks))) (0, absent) 0 f.blocks (lay-held h (λ c. 0) 0 f.blocks k.apart) b there-b ℓ i e ∙ ap suc here-b in
          yes-every _ (p.2, (eq-eqb _ 1 (mark-one (block_at f.blocks b).0 ℓ i (block-placed b).0 p.0 p.1 p.2 (cell_in h f.blocks b ℓ i there-b e)), (eq-eqb _ (suc b) held, tt)))

  -- ---- Records

  abbrev ws : List Waiter
  ws = f.waiters

  waits_in : All (λ b. b < h.N) (map (λ a. block_in (aged ws a)) (below (length ws)))
  unfolding aged block_in
  waits_in = map_below (λ b. b < h.N) (λ a. block_in (aged ws a)) (length ws) (λ a l. some_in (find (λ (r : Waiter). eqb r.age a) ws) (find-all (λ (r : Waiter). eqb r.age a) (all_map (λ r v. v.0) (unmapped (λ (r : Waiter). r.block) ws k.names_in))))
    where
      some_in : (o : Option Waiter) → IfSome (λ (r : Waiter). r.block < h.N) o → block_in o < h.N
      some_in none v = blocks-pos
      some_in (some r) v = v

  each-age : (a : ℕ) → a < length ws → any (λ (r : Waiter). eqb r.age a) ws ≡ true
  each-age a l = mem-any (λ (r : Waiter). r.age) ws a (full (ages_of ws) (below (length ws)) k.ages (λ x m. below-mem (length ws) x (all-mem k.ages_in x m))
      (omega (arith, length-below (length ws), length-map ws (λ (r : Waiter). r.age))) a (below-mem (length ws) a l))

  count-is : length (keep (waits_at f.blocks) (below h.N)) ≡ wait_count f.blocks
  count-is = ap (λ n. length (keep (waits_at f.blocks) (below n))) (sym made.blocks) ∙ wait-count f.blocks

  each-name : (b : ℕ) → Mem b (keep (waits_at f.blocks) (below h.N)) → any (λ (r : Waiter). eqb r.block b) ws ≡ true
  each-name b m = mem-any (λ (r : Waiter). r.block) ws b (full (names_of ws) (keep (waits_at f.blocks) (below h.N)) k.names
      (λ x v. let w = all-mem k.names_in x v in mem-keep (waits_at f.blocks) (below h.N) x (below-mem h.N x w.0) w.1)
      (omega (arith, count-is, made.waiters, length-map ws (λ (r : Waiter). r.block))) b m)

  in-range : InRange s
  unfolding loaded
  in-range = record {
    shape = k.shape;
    partitions = λ b l. (block-placed b).0;
    places = λ b l. place_in (counter_of f (block_at f.blocks b).0) (block_at f.blocks b).1 (block-placed b).1;
    counters = λ q l. all_get_d q k.counters (pow_pos h.L);
    orders = λ q ℓ i hq hℓ hi. order-in q ℓ i hℓ hi;
    marks = λ q ℓ i hq hℓ hi. mark-in (cell h q ℓ i);
    holds = λ q ℓ i hq hℓ hi. lay-few h (λ c. 0) h.N 0 f.blocks (cell h q ℓ i) (omega (arith, made.blocks)) (omega arith);
    waiting = waits_in;
    queue = k.queue;
    outstanding = nil;
    begun = omega arith;
    cursor = omega arith;
    sent = omega arith;
    free = omega arith;
    request = tt;
    jobs = k.jobs;
    cache = omega (arith, length-map (below (length ws)) (λ a. block_in (aged ws a)), length-below (length ws), made.waiters, k.waiting);
  }

  pub facts-sound : sound (f, rest) ≡ true
  unfolding sound checks loaded form_of is_permutation are_marks
  facts-sound = yes-every _ (
    eq-eqb f.number 1 k.number,
    (
      facts-range s in-range,
      (
        yes-all (all_map (λ l t. below_all (λ i. member i l.order) (slots l.level) (λ i hi. mem-member i l.order (full-mem (slots l.level) l.order t.0.0 t.1.0 t.1.1 i hi))) (all_both made.sizes k.orders)),
        (
          yes-all (all_map (λ l t. yes-all (all_map (λ m. le-leb m 1) t)) k.marks),
          (
            below_all (λ b. well_placed s b (s.place b)) h.N well-placed,
            (
              yes-all (all_map (λ l t. le-leb _ _ t) k.room),
              (
                below_all _ (length ws) each-age,
                (
                  yes-all (mem-all (keep (waits_at f.blocks) (below h.N)) each-name),
                  (yes-all (all_map (λ x e. eq-eqb 0 x (sym e)) k.zeros), (lt-ltb (length rest) 508 k.short, tt)),
                ),
              ),
            ),
          ),
        ),
      ),
    ),
  )
