-- All that the code asks of a payload, and that a form loads exactly if each answer is yes.
use Rattle.std.specs.Prelude.{◌≡◌, Option, Some, None, Bool, List, [], ◌∷◌, eqb, replicate, if◌then◌else◌}
use Rattle.std.proofs.Math.Path.{refl, ap, sym}
use Rattle.std.proofs.Common.{◌∙◌, subst, true≢false}
use Rattle.std.proofs.Math.Bool.{true, false}
use Rattle.std.proofs.Math.Option.{none, some}
use Prim.Native.Nat.{ℕ, zero, suc, ◌+◌, ◌-◌, ◌*◌, ◌^◌, ◌≤◌, ◌<◌}
use native.Mathlib.Omega.{arith}
use Rattle.std.proofs.Math.Dec.{leb, ltb}
use Rattle.std.proofs.Math.ListN.{length, get_or, drop, length-replicate, length-drop}
use borrow.Author.Tests.{eqb-true, eq-eqb, leb-true, le-leb, ltb-true, lt-ltb}
use Rattle.lists.specs.All.{All, all_map, all_both, all_yes, yes-all}
use Rattle.lists.specs.Distinct.{NoDup}
use Rattle.lists.specs.Lengths.{bit}
use Rattle.lists.specs.Search.{all, below, count}
use Rattle.lists.specs.Tests.{every, Yes, every-yes, yes-every}
use Rattle.rules.specs.Form.Loading
use Rattle.rules.specs.Form.Loading.{is_sound, loads, loaded, stored_at, waits_at, state_in, loaded_form}
use Rattle.rules.specs.Form.Numbers.{each, slot_width}
use Rattle.rules.specs.Form.Payload.{filled_levels}
use Rattle.rules.specs.Form.Reading.{Spot, absent, Level, Form}
use Rattle.rules.specs.Form.Sums.{out_of_blocks}
use Rattle.rules.proofs.Laws.Form.Reads.{small}
use Rattle.rules.specs.Shape.{Shape, within, slots}
use Rattle.memory.specs.Fits.{fits}
use Rattle.rules.specs.Memory.{needed}
use Rattle.forms.specs.At.{number_at, numbers_at, level_at, level_size, block_at, block_size, waiter_at, each_at, size_at, wait_count, shape_in, jobs_in, counters_in, keys_in, blocks_in, levels_from, records_from, size_in, form_at, form-read}
use Rattle.forms.specs.Blocks.{blocks_at, counter_in, all_stand}
use Rattle.forms.specs.Bytes.{number-one}
use Rattle.forms.specs.Cells.{cells_of}
use Rattle.forms.specs.Decide.{Stood, stand-facts, facts-stand, fits-facts, facts-fits}
use Rattle.forms.specs.Facts.{ages_of, names_of, Known, Sized, Ordered, Unread, Made, Facts, levels-known}
use Rattle.forms.specs.Held.{held-stored}
use Rattle.forms.specs.Levels.{level_fits}
use Rattle.forms.specs.Lists.{length-numbers, made_at}
use Rattle.forms.specs.Once.{fresh_in, mark_all, Once, fresh-once, once-fresh, none_seen}
use Rattle.forms.specs.Passes.{passed, holds_behind, keys_of, keys-are}
use Rattle.forms.specs.Records.{numbers_by, names-are, ages-are, away, away-at, length-away}
use Rattle.forms.specs.Sound.{facts-sound}
use Rattle.forms.specs.Told.{sound-facts}

-- ---- The questions

module _ (p : List ℕ) where
  -- n records from byte a on, of the blocks from byte b on, and zeros behind them
  abbrev pub records_end : ℕ → ℕ → ℕ → ℕ
  records_end B n a = a + n * (4 + B)

  unfoldable pub records_fit : ℕ → ℕ → ℕ → ℕ → ℕ → Bool
  records_fit N B b n a = every
      (leb (records_end B n a) (length p)
      ∷ ltb (length p - records_end B n a) 508
      ∷ fresh_in (λ x. ltb x N) (away (replicate 4096 0) 0 (blocks_at p N b)) (numbers_by p (4 + B) n a)
      ∷ fresh_in (λ x. ltb x n) (replicate 4096 0) (numbers_by p (4 + B) n (a + 2))
      ∷ all (eqb 0) (drop (records_end B n a) p) ∷ [])

  -- the blocks from byte b on, the levels and the records
  abbrev pub met_in : Shape → ℕ → List ℕ
  met_in h b = mark_all (replicate 32768 0) (cells_of h (blocks_at p h.N b))

  abbrev pub behind_blocks : Shape → ℕ → ℕ
  behind_blocks h b = b + size_at (λ _. block_size p 1) (below h.N) b

  abbrev pub behind_levels : Shape → ℕ → Option ℕ
  behind_levels h b = passed h p (met_in h b) (each (keys_of h.L (counter_in p h.P)) (below h.P)) (behind_blocks h b)

  unfoldable pub body_fits : Shape → ℕ → Bool
  body_fits h b = every
      (all_stand h (counter_in p h.P) (replicate 32768 0) (blocks_at p h.N b)
      ∷ leb (wait_count (blocks_at p h.N b)) h.E
      ∷ holds_behind (behind_levels h b) (records_fit h.N h.B b (wait_count (blocks_at p h.N b))) ∷ [])

  pub record Asked (h : Shape) : Type 0 where
    pub number : get_or p 0 0 ≡ 1
    pub shape : within h ≡ true
    pub counters : all (λ x. ltb x (2 ^ h.L)) (numbers_at p 2 h.P 13) ≡ true
    pub jobs : number_at p 2 (13 + h.P * 2) ≤ 64
    pub queue : all (λ x. ltb x h.P) (numbers_at p 2 (number_at p 2 (13 + h.P * 2)) (13 + h.P * 2 + 2)) ≡ true
    pub body : body_fits h (13 + h.P * 2 + 2 + number_at p 2 (13 + h.P * 2) * 2) ≡ true

-- ---- The form, with slots of w bytes

module _ (p : List ℕ) where
  abbrev pub h : Shape
  h = shape_in p

  abbrev pub from : ℕ
  from = 13 + h.P * 2 + 2 + number_at p 2 (13 + h.P * 2) * 2

  abbrev pub blocks_w : ℕ → List (ℕ × Spot)
  blocks_w w = each_at (λ _. block_at p w) (λ _. block_size p w) (below h.N) from

  abbrev pub levels_w : ℕ → ℕ
  levels_w w = from + size_at (λ _. block_size p w) (below h.N) from

  abbrev pub keys : List (ℕ × ℕ)
  keys = filled_levels h.P h.L (counter_in p h.P)

  abbrev pub records_w : ℕ → ℕ
  records_w w = levels_w w + size_at (level_size w) keys (levels_w w)

  abbrev pub form_w : ℕ → Form
  form_w w = record {
    number = number_at p 1 0;
    shape = h;
    counters = numbers_at p 2 h.P 13;
    queue = numbers_at p 2 (number_at p 2 (13 + h.P * 2)) (13 + h.P * 2 + 2);
    blocks = blocks_w w;
    levels = each_at (level_at p w) (level_size w) keys (levels_w w);
    waiters = each_at (λ _. waiter_at p h.B) (λ _ _. 4 + h.B) (below (wait_count (blocks_w w))) (records_w w);
  }

  abbrev pub size_w : ℕ → ℕ
  size_w w = records_w w + size_at (λ _ _. 4 + h.B) (below (wait_count (blocks_w w))) (records_w w)

  form-w : number_at p 1 0 ≡ 1 → form_at p ≡ form_w 1
  unfolding form_at counters_in blocks_in keys_in jobs_in levels_from records_from slot_width
  form-w e = ap form_w e

  size-w : number_at p 1 0 ≡ 1 → size_in p ≡ size_w 1
  unfolding size_in counters_in blocks_in keys_in jobs_in levels_from records_from slot_width
  size-w e = ap size_w e

  size-by : (B n b a : ℕ) → size_at (λ _ _. 4 + B) (count b n) a ≡ n * (4 + B)
  unfolding size_at count
  size-by B zero b a = omega arith
  size-by B (suc n) b a = omega (arith, size-by B n (suc b) (a + (4 + B)))

  pub size-records : (w : ℕ) → size_w w ≡ records_end p h.B (wait_count (blocks_w w)) (records_w w)
  unfolding below
  size-records w = ap (λ k. records_w w + k) (size-by h.B (wait_count (blocks_w w)) 0 (records_w w))

  number-at-one : (form_at p).number ≡ number_at p 1 0
  unfolding form_at
  number-at-one = refl

  -- ---- Yes to all, from the facts, and back

  abbrev n : ℕ
  n = wait_count (blocks_w 1)

  abbrev seen : List ℕ
  seen = mark_all (replicate 32768 0) (cells_of h (blocks_w 1))

  behind-yes : all (level_fits h seen) (form_w 1).levels ≡ true → behind_levels p h from ≡ Some (records_w 1)
  unfolding passed
  behind-yes e = ap (λ ks. passed h p seen ks (levels_w 1)) (keys-are h.P h.L (counter_in p h.P)) ∙ rw e

  behind-no : all (level_fits h seen) (form_w 1).levels ≡ false → behind_levels p h from ≡ None
  unfolding passed
  behind-no e = ap (λ ks. passed h p seen ks (levels_w 1)) (keys-are h.P h.L (counter_in p h.P)) ∙ rw e

  module _ (made : Made (form_w 1)) (inside : within h ≡ true) where
    few : h.P * slots h.L ≤ 32768
    few = (fits h (needed h) inside (omega arith)).cells

    eight : h.L ≤ 8
    eight = (fits h (needed h) inside (omega arith)).levels

    blocks-few : length (blocks_w 1) ≤ 4096
    blocks-few = omega (arith, made.blocks, (fits h (needed h) inside (omega arith)).blocks)

    away-is : (b : ℕ) → b < h.N → get_or (away (replicate 4096 0) 0 (blocks_w 1)) b 0 ≡ 1 - bit (waits_at (blocks_w 1) b)
    unfolding waits_at Loading.block_at
    away-is b l =
        let e : b ≡ 0 + b = omega arith in
        ap (λ j. get_or (away (replicate 4096 0) 0 (blocks_w 1)) j 0) e ∙ away-at (replicate 4096 0) 0 (blocks_w 1) (0, absent) b (omega (arith, blocks-few, length-replicate {A = ℕ} 4096 0)) (omega (arith, made.blocks))

    -- the records
    names-yes : NoDup (names_of (form_w 1).waiters) → All (λ b. (b < h.N) × (waits_at (blocks_w 1) b ≡ true)) (names_of (form_w 1).waiters) → fresh_in (λ x. ltb x h.N) (away (replicate 4096 0) 0 (blocks_w 1)) (numbers_by p (4 + h.B) n (records_w 1)) ≡ true
    unfolding bit
    names-yes d k = rw (← names-are p h.B n (records_w 1)) (once-fresh (λ x. ltb x h.N) (away (replicate 4096 0) 0 (blocks_w 1)) (all_map (λ b v. lt-ltb b h.N v.0) k) d (all_map (λ b v. away-is b v.0 ∙ ap (λ t. 1 - bit t) v.1) k))

    ages-yes : NoDup (ages_of (form_w 1).waiters) → All (λ a. a < length (form_w 1).waiters) (ages_of (form_w 1).waiters) → fresh_in (λ x. ltb x n) (replicate 4096 0) (numbers_by p (4 + h.B) n (records_w 1 + 2)) ≡ true
    ages-yes d k = rw (← ages-are p h.B n (records_w 1)) (once-fresh (λ x. ltb x n) (replicate 4096 0) (all_map (λ a v. lt-ltb a n (omega (arith, made.waiters))) k) d (none_seen 4096 (ages_of (form_w 1).waiters)))

    abbrev cs : List ℕ
    cs = cells_of h (blocks_w 1)

    levels-yes : {rest : List ℕ} → Facts (form_w 1) rest → all (level_fits h seen) (form_w 1).levels ≡ true
    levels-yes k = yes-all (all_map one (all_both (all_both (levels-known (form_w 1) made) made.sizes) (all_both (all_both k.orders k.marks) (all_both k.unread k.room))))
      where
        one : (l : Level) → (Known h l × Sized l) × ((Ordered l × All (λ m. m ≤ 1) l.marks) × (Unread h cs l × (length (stored_at (loaded (form_w 1)) l.partition l.level) ≤ 2 ^ l.level))) → level_fits h seen l ≡ true
        one l t = facts-fits h cs few eight l t.0.0 t.0.1 (record {
          ordered = t.1.0.0;
          marks = t.1.0.1;
          unread = t.1.1.0;
          held = omega (arith, held-stored (form_w 1) made few k.placed k.apart l.partition l.level t.0.0.1, t.1.1.1);
        })

    told : size_w 1 ≤ length p → number_at p 1 0 ≡ 1 → Facts (form_w 1) (drop (size_w 1) p) → Asked p h
    unfolding body_fits records_fit
    told size one k = record {
      number = sym (number-one p 0) ∙ one;
      shape = inside;
      counters = yes-all (all_map (λ c v. lt-ltb c (2 ^ h.L) v) k.counters);
      jobs = omega (arith, k.jobs, length-numbers p 2 (number_at p 2 (13 + h.P * 2)) (13 + h.P * 2 + 2));
      queue = yes-all (all_map (λ q v. lt-ltb q h.P v) k.queue);
      body = yes-every _ (
        facts-stand h (counter_in p h.P) (replicate 32768 0) k.placed k.apart (none_seen 32768 (cells_of h (blocks_w 1))),
        (le-leb n h.E k.waiting, (rw (behind-yes (levels-yes k)) records, tt)),
      );
    }
      where
        records : records_fit p h.N h.B from n (records_w 1) ≡ true
        records = yes-every _ (
          le-leb (records_end p h.B n (records_w 1)) (length p) (omega (arith, size-records 1)),
          (
            lt-ltb (length p - records_end p h.B n (records_w 1)) 508 (omega (arith, size-records 1, k.short, length-drop (size_w 1) p)),
            (names-yes k.names k.names_in, (ages-yes k.ages k.ages_in, (rw (← size-records 1) (yes-all (all_map (λ x e. eq-eqb 0 x (sym e)) k.zeros)), tt))),
          ),
        )

    -- ..and back
    levels-facts : Stood h (counter_in p h.P) (replicate 32768 0) (blocks_w 1) → all (level_fits h seen) (form_w 1).levels ≡ true
        → All (λ (l : Level). (Ordered l × All (λ m. m ≤ 1) l.marks) × (Unread h cs l × (length (stored_at (loaded (form_w 1)) l.partition l.level) ≤ 2 ^ l.level))) (form_w 1).levels
    levels-facts st e = all_map one (all_both (all_both (levels-known (form_w 1) made) made.sizes) (all_yes (level_fits h seen) (form_w 1).levels e))
      where
        one : (l : Level) → (Known h l × Sized l) × (level_fits h seen l ≡ true) → (Ordered l × All (λ m. m ≤ 1) l.marks) × (Unread h cs l × (length (stored_at (loaded (form_w 1)) l.partition l.level) ≤ 2 ^ l.level))
        one l t =
            let r = fits-facts h cs few eight l t.0.0 t.0.1 t.1 in
            ((r.ordered, r.marks), (r.unread, omega (arith, r.held, held-stored (form_w 1) made few st.placed st.once l.partition l.level t.0.0.1)))

    built : Asked p h → (size_w 1 ≤ length p) × Facts (form_w 1) (drop (size_w 1) p)
    unfolding body_fits records_fit bit
    built k = go (all (level_fits h seen) (form_w 1).levels) refl (every-yes _ k.body)
      where
        go : (t : Bool) → all (level_fits h seen) (form_w 1).levels ≡ t → Yes
            (all_stand h (counter_in p h.P) (replicate 32768 0) (blocks_at p h.N from)
            ∷ leb n h.E
            ∷ holds_behind (behind_levels p h from) (records_fit p h.N h.B from n) ∷ []) → (size_w 1 ≤ length p) × Facts (form_w 1) (drop (size_w 1) p)
        go false e y = absurd (true≢false (sym y.1.1.0 ∙ ap (λ k. holds_behind k (records_fit p h.N h.B from n)) (behind-no e)))
        go true e y = (
          omega (arith, size-records 1, leb-true (records_end p h.B n (records_w 1)) (length p) r.0),
          record {
            number = number-one p 0 ∙ k.number;
            shape = inside;
            counters = all_map (λ c v. ltb-true c (2 ^ h.L) v) (all_yes (λ x. ltb x (2 ^ h.L)) (numbers_at p 2 h.P 13) k.counters);
            jobs = omega (arith, k.jobs, length-numbers p 2 (number_at p 2 (13 + h.P * 2)) (13 + h.P * 2 + 2));
            queue = all_map (λ q v. ltb-true q h.P v) (all_yes (λ x. ltb x h.P) (numbers_at p 2 (number_at p 2 (13 + h.P * 2)) (13 + h.P * 2 + 2)) k.queue);
            placed = st.placed;
            apart = st.once;
            waiting = leb-true n h.E y.1.0;
            orders = all_map (λ l t. t.0.0) levels;
            marks = all_map (λ l t. t.0.1) levels;
            unread = all_map (λ l t. t.1.0) levels;
            room = all_map (λ l t. t.1.1) levels;
            ages = rw (ages-are p h.B n (records_w 1)) ages.once;
            ages_in = rw (ages-are p h.B n (records_w 1)) (all_map (λ x v. omega (arith, ltb-true x n v, made.waiters)) ages.pass);
            names = rw (names-are p h.B n (records_w 1)) names.once;
            names_in = rw (names-are p h.B n (records_w 1)) (all_map (λ x v. waiting-is x (ltb-true x h.N v.0) v.1) (all_both names.pass names.unseen));
            zeros = rw (size-records 1) (all_map (λ x v. sym (eqb-true 0 x v)) (all_yes (eqb 0) (drop (records_end p h.B n (records_w 1)) p) r.1.1.1.1.0));
            short = omega (arith, size-records 1, length-drop (size_w 1) p, ltb-true (length p - records_end p h.B n (records_w 1)) 508 r.1.0);
          },
        )
          where
            st : Stood h (counter_in p h.P) (replicate 32768 0) (blocks_w 1)
            st = stand-facts h (counter_in p h.P) (replicate 32768 0) (blocks_w 1) (omega (arith, few, length-replicate {A = ℕ} 32768 0)) y.0

            levels : All (λ (l : Level). (Ordered l × All (λ m. m ≤ 1) l.marks) × (Unread h cs l × (length (stored_at (loaded (form_w 1)) l.partition l.level) ≤ 2 ^ l.level))) (form_w 1).levels
            levels = levels-facts st e

            r : Yes
                (leb (records_end p h.B n (records_w 1)) (length p)
                ∷ ltb (length p - records_end p h.B n (records_w 1)) 508
                ∷ fresh_in (λ x. ltb x h.N) (away (replicate 4096 0) 0 (blocks_w 1)) (numbers_by p (4 + h.B) n (records_w 1))
                ∷ fresh_in (λ x. ltb x n) (replicate 4096 0) (numbers_by p (4 + h.B) n (records_w 1 + 2))
                ∷ all (eqb 0) (drop (records_end p h.B n (records_w 1)) p) ∷ [])
            r = every-yes _ (subst (λ k. holds_behind k (records_fit p h.N h.B from n) ≡ true) (behind-yes e) y.1.1.0)

            long : length (away (replicate 4096 0) 0 (blocks_w 1)) ≡ 4096
            long = length-away (replicate 4096 0) 0 (blocks_w 1) ∙ length-replicate {A = ℕ} 4096 0

            few-waiting : n ≤ 4096
            few-waiting = omega (arith, leb-true n h.E y.1.0, (small h inside).cache, (small h inside).blocks)

            names : Once (λ x. ltb x h.N) (away (replicate 4096 0) 0 (blocks_w 1)) (numbers_by p (4 + h.B) n (records_w 1))
            names = fresh-once (λ x. ltb x h.N) (away (replicate 4096 0) 0 (blocks_w 1)) (numbers_by p (4 + h.B) n (records_w 1)) (λ x v. omega (arith, ltb-true x h.N v, long, (small h inside).blocks)) r.1.1.0

            ages : Once (λ x. ltb x n) (replicate 4096 0) (numbers_by p (4 + h.B) n (records_w 1 + 2))
            ages = fresh-once (λ x. ltb x n) (replicate 4096 0) (numbers_by p (4 + h.B) n (records_w 1 + 2)) (λ x v. omega (arith, ltb-true x n v, few-waiting, length-replicate {A = ℕ} 4096 0)) r.1.1.1.0

            waiting-is : (b : ℕ) → b < h.N → get_or (away (replicate 4096 0) 0 (blocks_w 1)) b 0 ≡ 0 → (b < h.N) × (waits_at (blocks_w 1) b ≡ true)
            waiting-is b l z = (l, yes_of (waits_at (blocks_w 1) b) (sym (away-is b l) ∙ z))
              where
                yes_of : (t : Bool) → 1 - bit t ≡ 0 → t ≡ true
                yes_of true o = refl
                yes_of false o = absurd (omega arith)

-- ---- A form loads exactly if all is answered yes

module _ (bs : List ℕ) where
  abbrev P : List ℕ
  P = out_of_blocks bs

  loads-is : loads bs ≡ is_sound (if leb (size_in P) (length P) then some (form_at P, drop (size_in P) P) else none)
  unfolding loads
  loads-is = ap is_sound (form-read P)

  -- where it is read at all
  read-facts : loads bs ≡ true → (size_in P ≤ length P) × Facts (form_at P) (drop (size_in P) P)
  unfolding is_sound
  read-facts e = go (leb (size_in P) (length P)) refl (sym loads-is ∙ e)
    where
      go : (t : Bool) → leb (size_in P) (length P) ≡ t → is_sound (if t then some (form_at P, drop (size_in P) P) else none) ≡ true → (size_in P ≤ length P) × Facts (form_at P) (drop (size_in P) P)
      go true l y = (leb-true (size_in P) (length P) l, sound-facts (form_at P) (made_at P) (drop (size_in P) P) y)
      go false l y = absurd (true≢false (sym y))

  facts-read : size_in P ≤ length P → Facts (form_at P) (drop (size_in P) P) → loads bs ≡ true
  unfolding is_sound
  facts-read l k = loads-is ∙ rw (le-leb (size_in P) (length P) l) (facts-sound (form_at P) (drop (size_in P) P) (made_at P) k)

  one_of : (rest : List ℕ) → Facts (form_at P) rest → number_at P 1 0 ≡ 1
  unfolding form_at
  one_of rest k = k.number

  made_one : number_at P 1 0 ≡ 1 → Made (form_w P 1)
  made_one e = subst Made (form-w P e) (made_at P)

  -- ..with slots of one byte
  pub loads-facts : loads bs ≡ true → (size_w P 1 ≤ length P) × Facts (form_w P 1) (drop (size_w P 1) P)
  loads-facts e =
      let r = read-facts e in
      let one = one_of (drop (size_in P) P) r.1 in
      let s = size-w P one in
      (omega (arith, r.0, s), subst (λ g. Facts g (drop (size_w P 1) P)) (form-w P one) (subst (λ z. Facts (form_at P) (drop z P)) s r.1))

  pub loads-made : loads bs ≡ true → Made (form_w P 1)
  loads-made e = made_one (loads-facts e).1.number

  -- the state that it brings
  pub loads-state : loads bs ≡ true → loaded_form bs ≡ loaded (form_w P 1)
  unfolding loaded_form state_in
  loads-state e =
      let r = read-facts e in
      ap state_in (form-read P) ∙ rw (le-leb (size_in P) (length P) r.0) (ap loaded (form-w P (one_of (drop (size_in P) P) r.1)))

  pub loads-asked : loads bs ≡ true → Asked P (shape_in P)
  loads-asked e = let r = loads-facts e in told P (loads-made e) r.1.shape r.0 r.1.number r.1

  pub asked-loads : Asked P (shape_in P) → loads bs ≡ true
  asked-loads k =
      let one = number-one P 0 ∙ k.number in
      let s = size-w P one in
      let r = built P (made_one one) k.shape k in
      facts-read (omega (arith, r.0, s)) (subst (λ z. Facts (form_at P) (drop z P)) (sym s) (subst (λ g. Facts g (drop (size_w P 1) P)) (sym (form-w P one)) r.1))

-- the same by a shape that is the form's
pub loads-told : (bs : List ℕ) (h : Shape) → h ≡ shape_in (out_of_blocks bs) → loads bs ≡ true → Asked (out_of_blocks bs) h
loads-told bs h e y = subst (Asked (out_of_blocks bs)) (sym e) (loads-asked bs y)

pub told-loads : (bs : List ℕ) (h : Shape) → h ≡ shape_in (out_of_blocks bs) → Asked (out_of_blocks bs) h → loads bs ≡ true
told-loads bs h e k = asked-loads bs (subst (Asked (out_of_blocks bs)) e k)

-- an answer that is no
pub refused : (t u : Bool) → t ≡ false → (u ≡ true → t ≡ true) → false ≡ u
refused t true e f = absurd (true≢false (sym (f refl) ∙ e))
refused t false e f = refl
