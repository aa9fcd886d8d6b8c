-- The state that client and memory stand for when all of a form is put into cleared tables.
use Rattle.std.specs.Prelude.{◌≡◌, length}
use Rattle.std.proofs.Math.Path.{refl, ap, fun_ext}
use Rattle.std.proofs.Common.{sym, ◌∙◌, pow_pos, lt-ltb, le-ltb}
use mathlib.Core.List.{List, [], ◌∷◌, map}
use Rattle.std.proofs.Math.Option.{none}
use Prim.Native.Nat.{ℕ, zero, suc, ◌+◌, ◌-◌, ◌^◌, ◌≤◌, ◌<◌}
use Rattle.std.proofs.Math.Decide.{dec_lt}
use native.Mathlib.Omega.{arith}
use Rattle.std.proofs.Math.ListN.{get_or, replicate}
use Rattle.lists.specs.All.{all_map, all_both, all_get_d}
use Rattle.lists.specs.Distinct.{Mem}
use Rattle.lists.specs.Members.{all-mem}
use Rattle.lists.specs.Places.{map-get_or, map_same}
use Rattle.lists.specs.Search.{below, count}
use Rattle.lists.specs.Tables.{put_all, put_all-in, put_all-behind}
use Rattle.rules.specs.Form.Loading as F
use Rattle.rules.specs.Form.Loading.{block_at, lay, held_from, orders_of, marks_of, loaded, aged, of_block, block_in}
use Rattle.rules.specs.Form.Payload.{Waiter}
use Rattle.rules.specs.Form.Reading.{Spot, absent, waits, at, Level, Form}
use Rattle.rules.proofs.Laws.Form.Tables.{Covers, all-mapped}
use Rattle.rules.proofs.Laws.Layout.{offset-lt}
use Rattle.rules.specs.Shape.{Shape, slots, cell}
use Rattle.rules.specs.State.{Place}
use Rattle.memory.specs.declared.Shape.{Shape as Numbers}
use Rattle.memory.specs.declared.tables.Table.TheVariants.{Queue, Counter}
use Rattle.memory.specs.Fits.{shape_of, Fits, fits, fit, fit-in, fit-zero}
use Rattle.memory.specs.Parts.{empty}
use Rattle.memory.specs.Tables.{Tables, with_queue, with_waiting, with_blocks}
use Rattle.rules.specs.Memory.{needed}
use Rattle.client.specs.declared.Client.{Client}
use Rattle.client.specs.View.{view, rows, request_of, bytes_in, place_of, level_at, command_by}
use Rattle.client.specs.Changes.{place_is, place-nowhere, cell-level}
use Rattle.client.specs.Moves.{resting_client}
use Rattle.forms.specs.Bytes.{get_d_past}
use Rattle.forms.specs.Cells.{PlacedIn, SpotIn, lay-few}
use Rattle.forms.specs.Facts.{counter_of, names_of, Known, Sized, Ordered, Made, Facts, levels-known}
use Rattle.forms.specs.Laid.{lay-every}
use Rattle.loading.specs.Laid.{laid, laid-is}
use Rattle.loading.specs.Blocks.{place_number, put_blocks, blocks_laid, blocks-are}
use Rattle.loading.specs.Levels.{put_levels}
use Rattle.loading.specs.Records.{put_records, by_age, by_block, records-are}
use Rattle.loading.specs.Waiting.{key-else, age-is, age-lt, block-is}

-- the parts of a form in the order in which they are put
unfoldable pub put_form : Form → Tables → Tables
put_form f t = let h = f.shape in put_records f.waiters (put_levels h f.levels (put_blocks h 0 f.blocks (laid Queue 0 f.queue (laid Counter 0 f.counters t))))

-- ---- Lists read as tables

get_or-mapped : {A : Type 0} (g : A → ℕ) (xs : List A) (d : A) (k : ℕ) → g d ≡ 0 → get_or (map g xs) k 0 ≡ g (get_or xs k d)
get_or-mapped g [] d k e = sym e
get_or-mapped g (x ∷ xs) d zero e = refl
get_or-mapped g (x ∷ xs) d (suc k) e = get_or-mapped g xs d k e

-- into a table of zeros
entry-is : (xs : List ℕ) (j : ℕ) → put_all 0 xs (λ _. 0) j ≡ get_or xs j 0
entry-is xs j = go (dec_lt j (length xs))
  where
    go : Dec (j < length xs) → put_all 0 xs (λ _. 0) j ≡ get_or xs j 0
    go (yes l) = let e : j - 0 ≡ j = omega arith in put_all-in 0 xs (λ _. 0) j (omega arith) (omega arith) ∙ ap (λ k. get_or xs k 0) e
    go (no l) = put_all-behind 0 xs (λ _. 0) j (omega arith) ∙ sym (get_d_past xs j (omega arith))

module _ (h : Numbers) (number : ℕ) (cs qs : List ℕ) (xs : List (ℕ × Spot)) (ls : List Level) (ws : List Waiter) where
  abbrev H : Shape
  H = shape_of h

  abbrev f : Form
  f = record { number = number; shape = H; counters = cs; queue = qs; blocks = xs; levels = ls; waiters = ws }

  abbrev C : Client
  C = resting_client h (length qs) (length ws)

  -- all at once
  abbrev done : List ℕ → Tables
  done rest = record {
    queue = put_all 0 qs (λ _. 0);
    kinds = λ _. 0;
    spots = λ _. 0;
    counter = put_all 0 cs (λ _. 0);
    partition = put_all 0 (map (λ (x : ℕ × Spot). x.0) xs) (λ _. 0);
    place = put_all 0 (map (λ (x : ℕ × Spot). place_number x.1) xs) (λ _. 0);
    waiting = by_age (λ _. 0) ws;
    order = lay (orders_of H ls);
    holds = lay (held_from H 0 xs);
    mark = lay (marks_of H ls);
    blocks = by_block (λ _. replicate h.b 0) ws;
    tail = rest;
  }

  filled_is : (rest : List ℕ) → put_form f (empty H rest) ≡ done rest
  unfolding put_form empty put_levels
  filled_is rest =
      let last : Tables → Tables = λ (t : Tables). with_blocks (by_block t.blocks ws) (with_waiting (by_age t.waiting ws) t) in
      let t : Tables = laid Counter 0 cs (empty H rest) in
      records-are ws (put_levels H ls (put_blocks H 0 xs (laid Queue 0 qs t)))
      ∙ ap (λ t. last (put_levels H ls t)) (blocks-are H 0 xs (laid Queue 0 qs t))
      ∙ ap (λ t. last (put_levels H ls (blocks_laid H 0 xs t))) (laid-is Queue 0 qs t)
      ∙ ap (λ (t : Tables). last (put_levels H ls (blocks_laid H 0 xs (with_queue (put_all 0 qs t.queue) t)))) (laid-is Counter 0 cs (empty H rest))

  module _ {rest : List ℕ} (made : Made f) (k : Facts f rest) where
    room : Fits H (needed H)
    room = fits H (needed H) k.shape (omega arith)

    placed : (b : ℕ) → PlacedIn H (counter_of f) (block_at xs b)
    unfolding block_at
    placed b = all_get_d b k.placed (room.some_partitions, tt)

    partition-is : ◌≡◌ {A = ℕ → ℕ} (λ b. fit h.p (put_all 0 (map (λ (x : ℕ × Spot). x.0) xs) (λ _. 0) b)) (λ b. (block_at xs b).0)
    unfolding block_at
    partition-is = fun_ext (λ b. ap (fit h.p) (entry-is (map (λ (x : ℕ × Spot). x.0) xs) b ∙ get_or-mapped (λ (x : ℕ × Spot). x.0) xs (0, absent) b refl) ∙ fit-in h.p (block_at xs b).0 (placed b).0)

    spot_is : (c : ℕ) (y : Spot) → SpotIn H c y → place_of h.l (fit (slots h.l) (place_number y)) ≡ F.place_of y
    unfolding place_number F.place_of
    spot_is c absent s = ap (place_of h.l) (fit-zero (slots h.l)) ∙ place-nowhere h.l
    spot_is c waits s = ap (place_of h.l) (fit-zero (slots h.l)) ∙ place-nowhere h.l
    spot_is c (at ℓ i) s = ap (place_of h.l) (fit-in (slots h.l) (slots ℓ + i) (offset-lt h.l ℓ i s.0 s.1)) ∙ place_is h.l ℓ i s.0 s.1

    place-as : ◌≡◌ {A = ℕ → Place} (λ b. place_of h.l (fit (slots h.l) (put_all 0 (map (λ (x : ℕ × Spot). place_number x.1) xs) (λ _. 0) b))) (λ b. F.place_of (block_at xs b).1)
    unfolding block_at place_number
    place-as = fun_ext (λ b.
        ap (λ n. place_of h.l (fit (slots h.l) n)) (entry-is (map (λ (x : ℕ × Spot). place_number x.1) xs) b ∙ get_or-mapped (λ (x : ℕ × Spot). place_number x.1) xs (0, absent) b refl)
        ∙ spot_is (counter_of f (block_at xs b).0) (block_at xs b).1 (placed b).1)

    named : (b : ℕ) → h.n ≤ b → ¬ Mem b (names_of ws)
    named b l m = omega (arith, (all-mem k.names_in b m).0)

    bytes-are : bytes_in H (by_block (λ _. replicate h.b 0) ws) ≡ (λ b. F.bytes_in (replicate h.b 0) (of_block ws b))
    unfolding bytes_in
    bytes-are = fun_ext (λ b. go b (dec_lt b h.n))
      where
        go : (b : ℕ) → Dec (b < h.n) → bytes_in H (by_block (λ _. replicate h.b 0) ws) b ≡ F.bytes_in (replicate h.b 0) (of_block ws b)
        go b (yes l) = rw (lt-ltb b h.n l) (block-is (λ _. replicate h.b 0) ws b (replicate h.b 0) refl k.names)
        go b (no l) = rw (le-ltb b h.n (omega arith)) (sym (key-else (λ (r : Waiter). r.block) (λ (r : Waiter). r.bytes) (λ _. replicate h.b 0) ws b (named b (omega arith))) ∙ block-is (λ _. replicate h.b 0) ws b (replicate h.b 0) refl k.names)

    waiting-are : rows (λ i. fit h.n (by_age (λ _. 0) ws i)) (length ws) ≡ map (λ a. block_in (aged ws a)) (below (length ws))
    unfolding rows
    waiting-are = map_same _ _ (below (length ws)) (λ a m.
        fit-in h.n (by_age (λ _. 0) ws a) (age-lt (λ _. 0) ws h.n a room.some_blocks (all_map (λ b v. v.0) k.names_in))
        ∙ age-is (λ _. 0) ws a refl k.ages)

    counter-is : ◌≡◌ {A = ℕ → ℕ} (λ q. fit (2 ^ h.l) (put_all 0 cs (λ _. 0) q)) (λ q. get_or cs q 0)
    counter-is = fun_ext (λ q. ap (fit (2 ^ h.l)) (entry-is cs q) ∙ fit-in (2 ^ h.l) (get_or cs q 0) (all_get_d q k.counters (pow_pos h.l)))

    -- a level's cell has its slots
    level-cell : (l : Level) (c : ℕ) → Known H l → cell H l.partition l.level 0 ≤ c → c < cell H l.partition l.level 0 + slots l.level → level_at H c ≡ l.level
    unfolding cell
    level-cell l c v a b =
        let i : ℕ = c - cell H l.partition l.level 0 in
        let e : c ≡ cell H l.partition l.level i = omega arith in
        ap (level_at H) e ∙ cell-level H l.partition l.level i v.1 (omega arith)

    order_is : ◌≡◌ {A = ℕ → ℕ} (λ x. fit (slots (level_at H x)) (lay (orders_of H ls) x)) (lay (orders_of H ls))
    unfolding orders_of
    order_is = fun_ext (λ x. lay-every x (λ v. fit (slots (level_at H x)) v ≡ v) (λ _. 0) (all-mapped (λ (l : Level). (cell H l.partition l.level 0, l.order)) (all_map (one x) (all_both (all_both (levels-known f made) made.sizes) k.orders))) (fit-zero (slots (level_at H x))))
      where
        one : (x : ℕ) (l : Level) → (Known H l × Sized l) × Ordered l → Covers x (cell H l.partition l.level 0, l.order) → fit (slots (level_at H x)) (get_or l.order (x - cell H l.partition l.level 0) 0) ≡ get_or l.order (x - cell H l.partition l.level 0) 0
        one x l t v =
            let e = level-cell l x t.0.0 v.0 (omega (arith, v.1, t.0.1.0)) in
            ap (λ n. fit (slots n) (get_or l.order (x - cell H l.partition l.level 0) 0)) e
            ∙ fit-in (slots l.level) (get_or l.order (x - cell H l.partition l.level 0) 0) (all_get_d (x - cell H l.partition l.level 0) t.1.1 (omega arith))

    mark-is : ◌≡◌ {A = ℕ → ℕ} (λ x. fit 2 (lay (marks_of H ls) x)) (lay (marks_of H ls))
    unfolding marks_of
    mark-is = fun_ext (λ x. lay-every x (λ v. fit 2 v ≡ v) (λ _. 0) (all-mapped (λ (l : Level). (cell H l.partition l.level 0, map (λ m. 1 - m) l.marks)) (all_map (one x) (levels-known f made))) (fit-zero 2))
      where
        one : (x : ℕ) (l : Level) → Known H l → Covers x (cell H l.partition l.level 0, map (λ m. 1 - m) l.marks) → fit 2 (get_or (map (λ m. 1 - m) l.marks) (x - cell H l.partition l.level 0) 0) ≡ get_or (map (λ m. 1 - m) l.marks) (x - cell H l.partition l.level 0) 0
        one x l t v = fit-in 2 _ (omega (arith, get_or-mapped (λ m. 1 - m) l.marks 1 (x - cell H l.partition l.level 0) refl))

    holds-is : ◌≡◌ {A = ℕ → ℕ} (λ x. fit (h.n + 1) (lay (held_from H 0 xs) x)) (lay (held_from H 0 xs))
    holds-is = fun_ext (λ x. fit-in (h.n + 1) (lay (held_from H 0 xs) x) (omega (arith, lay-few H (λ _. 0) h.n 0 xs x (omega (arith, made.blocks)) (omega arith))))

    queue-is : rows (λ i. fit h.p (put_all 0 qs (λ _. 0) i)) (length qs) ≡ qs
    unfolding rows
    queue-is =
        map_same _ (λ j. get_or qs j 0) (below (length qs)) (λ i m. ap (fit h.p) (entry-is qs i) ∙ fit-in h.p (get_or qs i 0) (all_get_d i k.queue room.some_partitions))
        ∙ map-get_or qs (length qs) refl

    -- it is the form's
    pub restored : (tail : List ℕ) → view C (put_form f (empty H tail)) ≡ loaded f
    unfolding view loaded request_of
    restored tail = ap (view C) (filled_is tail) ∙ (λ i. record {
      shape = H;
      partition = partition-is i;
      place = place-as i;
      bytes = bytes-are i;
      waiting = waiting-are i;
      counter = counter-is i;
      order = order_is i;
      mark = mark-is i;
      holds = holds-is i;
      queue = queue-is i;
      begun = 0;
      cursor = 0;
      sent = 0;
      outstanding = none_out i;
      request = none;
    })
      where
        none_out : rows (λ i. command_by H 0 0) 0 ≡ []
        none_out = unfold rows below count in refl

  -- what is past the tables stays
  pub restored-tail : (rest : List ℕ) → (put_form f (empty H rest)).tail ≡ rest
  restored-tail rest = ap (λ (t : Tables). t.tail) (filled_is rest)
