-- A form that loads has these facts.
use Rattle.std.specs.Prelude.{◌≡◌}
use Rattle.std.proofs.Math.Path.{refl, ap, sym, subst}
use Rattle.std.proofs.Common.{◌∙◌}
use Rattle.std.proofs.Math.Bool.{true}
use mathlib.Core.List.{List, [], ◌∷◌, map}
use Prim.Native.Nat.{ℕ, suc, ◌+◌, ◌-◌, ◌≤◌, ◌<◌}
use native.Mathlib.Omega.{arith}
use Rattle.std.proofs.Math.Dec.{eqb, leb}
use Rattle.std.proofs.Math.ListN.{length, get_or, length-map}
use borrow.Author.Tests.{eqb-true, leb-true, ltb-true}
use Rattle.lists.specs.All.{All, nil, cons, all_map, all_both, all_yes, all-below, keep-passes}
use Rattle.lists.specs.Distinct.{Mem, NoDup}
use Rattle.lists.specs.Lengths.{length-below}
use Rattle.lists.specs.Members.{member-mem, mem-all, all-mem, keep-mem, mem_below, nodup-keep, nodup-below, get_d_map}
use Rattle.lists.specs.Search.{keep, below, member, any}
use Rattle.lists.specs.Tests.{every-yes}
use Rattle.rules.specs.Blocks.{is_unread}
use Rattle.rules.specs.Form.Loading.{block_at, place_of, loaded, lay, marks_of, held_from, block_in, aged, well_placed, is_permutation, are_marks, waits_at, checks, sound}
use Rattle.rules.specs.Form.Numbers.{form_of}
use Rattle.rules.specs.Form.Payload.{Waiter}
use Rattle.rules.specs.Form.Reading.{Spot, absent, waits, at, Level, Form}
use Rattle.rules.proofs.Laws.Form.Tables.{all-mapped, Covers}
use Rattle.rules.proofs.Laws.Layout.{cell-from}
use Rattle.rules.specs.Laws.Range.{InRange, PlaceIn}
use Rattle.rules.proofs.Laws.Range.{range-facts}
use Rattle.rules.specs.Levels.{filled}
use Rattle.rules.specs.Shape.{Shape, slots, cell}
use Rattle.rules.specs.State.{State}
use Rattle.forms.specs.At.{wait_count}
use Rattle.forms.specs.Cells.{SpotIn, PlacedIn, HeldBy, cells_of, at_each, held-apart}
use Rattle.forms.specs.Facts.{key_of, counter_of, ages_of, names_of, Sized, Ordered, Unread, Made, Facts, at_all, unmapped, any-mem, in_cell, levels-apart, wait-count}
use Rattle.forms.specs.Laid.{Pairs, none-pairs, more-pairs, Before, Ahead, lay-own}
use Rattle.forms.specs.Once.{full, full-nodup}

module _ (f : Form) (made : Made f) where
  abbrev h : Shape
  h = f.shape

  abbrev s : State
  s = loaded f

  abbrev ws : List Waiter
  ws = f.waiters

  -- what a block's place says, if all blocks are well placed
  record Stands (b ℓ i : ℕ) : Type 0 where
    is_filled : filled (counter_of f (block_at f.blocks b).0) ℓ ≡ true
    mark : lay (marks_of h f.levels) (cell h (block_at f.blocks b).0 ℓ i) ≡ 1
    held : lay (held_from h 0 f.blocks) (cell h (block_at f.blocks b).0 ℓ i) ≡ suc b

  stands : (b ℓ i : ℕ) → (block_at f.blocks b).1 ≡ at ℓ i → well_placed s b (s.place b) ≡ true → Stands b ℓ i
  unfolding loaded well_placed place_of is_unread
  stands b ℓ i e w = go (subst (λ y. well_placed s b (place_of y) ≡ true) e w)
    where
      go : well_placed s b (place_of (at ℓ i)) ≡ true → Stands b ℓ i
      go w = let y = every-yes _ w in record { is_filled = y.0; mark = eqb-true _ 1 y.1.0; held = eqb-true _ (suc b) y.1.1.0 }

  module _ (well : (b : ℕ) → b < h.N → well_placed s b (s.place b) ≡ true) where
    placed : InRange s → All (PlacedIn h (counter_of f)) f.blocks
    unfolding loaded block_at place_of
    placed r = at_all (0, absent) f.blocks (λ b l. (r.partitions b (omega (arith, made.blocks)), go b (omega (arith, made.blocks)) (block_at f.blocks b).1 refl (r.places b (omega (arith, made.blocks)))))
      where
        go : (b : ℕ) → b < h.N → (y : Spot) → (block_at f.blocks b).1 ≡ y → PlaceIn h.L (place_of (block_at f.blocks b).1) → SpotIn h (counter_of f (block_at f.blocks b).0) y
        go b l absent e p = tt
        go b l waits e p = tt
        go b l (at ℓ i) e p = let v = subst (λ y. PlaceIn h.L (place_of y)) e p in (v.0, v.1, (stands b ℓ i e (well b l)).is_filled)

    apart : NoDup (cells_of h f.blocks)
    unfolding block_at
    apart = held-apart h (lay (held_from h 0 f.blocks)) 0 f.blocks (at_each (HeldBy h (lay (held_from h 0 f.blocks))) (0, absent) 0 f.blocks (λ b l ℓ i e. (stands b ℓ i e (well b (omega (arith, made.blocks)))).held ∙ ap suc (plus b)))
      where
        plus : (b : ℕ) → b ≡ 0 + b
        plus b = omega arith

    levels-ahead : Pairs Ahead (marks_of h f.levels)
    unfolding marks_of
    levels-ahead = go f.levels (levels-apart f made) made.sizes
      where
        before : (l m : Level) → Sized l → Before h (counter_of f) (key_of l) (key_of m) → Ahead (cell h l.partition l.level 0, map (λ m. 1 - m) l.marks) (cell h m.partition m.level 0, map (λ m. 1 - m) m.marks)
        before l m t b = omega (arith, length-map l.marks (λ m. 1 - m), t.1)

        go : (ls : List Level) → Pairs (λ (l m : Level). Before h (counter_of f) (key_of l) (key_of m)) ls → All Sized ls → Pairs Ahead (marks_of h ls)
        go [] none-pairs nil = none-pairs
        go (l ∷ ls) (more-pairs a t) (cons z zs) = more-pairs (all-mapped _ (all_map (λ m b. before l m z b) a)) (go ls t zs)

    unread : All (Unread h (cells_of h f.blocks)) f.levels
    unfolding marks_of
    unread = all_map one (all_both made.sizes (unmapped _ f.levels (lay-own (λ c. 0) levels-ahead)))
      where
        one : (l : Level) → Sized l × ((c : ℕ) → Covers c (cell h l.partition l.level 0, map (λ m. 1 - m) l.marks) → lay (marks_of h f.levels) c ≡ get_or (map (λ m. 1 - m) l.marks) (c - cell h l.partition l.level 0) 0) → Unread h (cells_of h f.blocks) l
        one l t i hi m =
            let r = in_cell h f.blocks (cell h l.partition l.level i) m in
            let c : ℕ = cell h l.partition l.level i in
            let a = cell-from h l.partition l.level i in
            let n = length-map l.marks (λ m. 1 - m) in
            let e : c - cell h l.partition l.level 0 ≡ i = omega arith in
            let one = ap (lay (marks_of h f.levels)) r.is_cell ∙ (stands r.block r.level r.slot r.place (well r.block (omega (arith, made.blocks, r.in_blocks)))).mark in
            let own = t.1 c (omega arith, omega (arith, t.0.1)) ∙ ap (λ j. get_or (map (λ m. 1 - m) l.marks) j 0) e ∙ get_d_map (λ m. 1 - m) l.marks i 0 0 (omega (arith, t.0.1)) in
            omega (arith, one, own)

  count-is : length (keep (waits_at f.blocks) (below h.N)) ≡ wait_count f.blocks
  count-is = ap (λ n. length (keep (waits_at f.blocks) (below n))) (sym made.blocks) ∙ wait-count f.blocks

  ordered : (l : Level) → Sized l → is_permutation l ≡ true → Ordered l
  unfolding is_permutation
  ordered l t e =
      let n : ℕ = slots l.level in
      let sub : (x : ℕ) → Mem x (below n) → Mem x l.order = λ x m. member-mem x l.order (all-below (λ i. member i l.order) n e x (mem_below n x m)) in
      let few : length l.order ≤ length (below n) = omega (arith, t.0, length-below n) in
      (full-nodup (below n) l.order (nodup-below n) sub few, mem-all l.order (λ x m. mem_below n x (full (below n) l.order (nodup-below n) sub few x m)))

  module _ (each-age : (a : ℕ) → a < length ws → any (λ (r : Waiter). eqb r.age a) ws ≡ true) where
    age-sub : (x : ℕ) → Mem x (below (length ws)) → Mem x (ages_of ws)
    age-sub x m = any-mem (λ (r : Waiter). r.age) ws x (each-age x (mem_below (length ws) x m))

    age-few : length (ages_of ws) ≤ length (below (length ws))
    age-few = omega (arith, length-below (length ws), length-map ws (λ (r : Waiter). r.age))

    ages : NoDup (ages_of ws)
    ages = full-nodup (below (length ws)) (ages_of ws) (nodup-below (length ws)) age-sub age-few

    ages_in : All (λ a. a < length ws) (ages_of ws)
    ages_in = mem-all (ages_of ws) (λ x m. mem_below (length ws) x (full (below (length ws)) (ages_of ws) (nodup-below (length ws)) age-sub age-few x m))

  abbrev waiting : List ℕ
  waiting = keep (waits_at f.blocks) (below h.N)

  module _ (each-name : All (λ b. any (λ (r : Waiter). eqb r.block b) ws ≡ true) waiting) where
    name-sub : (x : ℕ) → Mem x waiting → Mem x (names_of ws)
    name-sub x m = any-mem (λ (r : Waiter). r.block) ws x (all-mem each-name x m)

    name-few : length (names_of ws) ≤ length waiting
    name-few = omega (arith, count-is, made.waiters, length-map ws (λ (r : Waiter). r.block))

    waiting-once : NoDup waiting
    waiting-once = nodup-keep (waits_at f.blocks) (below h.N) (nodup-below h.N)

    names : NoDup (names_of ws)
    names = full-nodup waiting (names_of ws) waiting-once name-sub name-few

    names_in : All (λ b. (b < h.N) × (waits_at f.blocks b ≡ true)) (names_of ws)
    names_in = mem-all (names_of ws) (λ x m. let v = full waiting (names_of ws) waiting-once name-sub name-few x m in
        (mem_below h.N x (keep-mem (waits_at f.blocks) (below h.N) x v), all-mem (keep-passes (waits_at f.blocks) (below h.N)) x v))

  pub sound-facts : (rest : List ℕ) → sound (f, rest) ≡ true → Facts f rest
  unfolding sound checks loaded form_of are_marks
  sound-facts rest e =
      let y = every-yes (checks (f, rest)) e in
      let r = range-facts s y.1.0 in
      let well = all-below (λ b. well_placed s b (s.place b)) h.N y.1.1.1.1.0 in
      let age = all-below (λ a. any (λ (r : Waiter). eqb r.age a) ws) (length ws) y.1.1.1.1.1.1.0 in
      let name = all_yes (λ b. any (λ (r : Waiter). eqb r.block b) ws) waiting y.1.1.1.1.1.1.1.0 in
      record {
        number = eqb-true f.number 1 y.0;
        shape = r.shape;
        counters = at_all 0 f.counters (λ q l. r.counters q (omega (arith, made.counters)));
        jobs = r.jobs;
        queue = r.queue;
        placed = placed well r;
        apart = apart well;
        waiting = omega (arith, r.cache, length-map (below (length ws)) (λ a. block_in (aged ws a)), length-below (length ws), made.waiters);
        orders = all_map (λ l t. ordered l t.0 t.1) (all_both made.sizes (all_yes is_permutation f.levels y.1.1.0));
        marks = all_map (λ l t. all_map (λ m. leb-true m 1) (all_yes (λ m. leb m 1) l.marks t)) (all_yes are_marks f.levels y.1.1.1.0);
        unread = unread well;
        room = all_map (λ l t. leb-true _ _ t) (all_yes _ f.levels y.1.1.1.1.1.0);
        ages = ages age;
        ages_in = ages_in age;
        names = names name;
        names_in = names_in name;
        zeros = all_map (λ x t. sym (eqb-true 0 x t)) (all_yes (eqb 0) rest y.1.1.1.1.1.1.1.1.0);
        short = ltb-true (length rest) 508 y.1.1.1.1.1.1.1.1.1.0;
      }
