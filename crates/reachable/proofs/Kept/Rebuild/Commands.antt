-- A rebuild keeps the invariant: the commands outstanding, and all of it together.
use Rattle.std.specs.Prelude.{◌≡◌, refl, ◌⊎◌, Bool, List, ◌∷◌, ℕ, suc, ◌≤◌, ◌<◌, ◌-◌, eqb, get_or}
use Rattle.std.proofs.Math.Path.{ap, sym, subst}
use Rattle.std.proofs.Common.{◌∙◌, inr, arith}
use Rattle.std.proofs.Math.Logic.{inl, ⊎_elim}
use Rattle.std.proofs.Math.Bool.{true, false}
use Rattle.std.proofs.Math.Option.{some}
use Rattle.std.proofs.Math.ListN.{length, replicate}
use Rattle.std.proofs.lemmas.List.{length-map}
use borrow.Author.Tests.{eqb-false}
use Rattle.lists.specs.All.{nil, cons, all_append, all_map, all_both, drop-snoc, all_get_d, all_replicate}
use Rattle.lists.specs.Totals.{total-same}
use Rattle.std.proofs.Math.Decide.{dec_lt}
use Rattle.rules.specs.Rebuild
use Rattle.reachable.proofs.Fills.{In, level_of, written-where}
use Rattle.lists.specs.Search.{below}
use Rattle.lists.specs.Lengths.{length-below}
use Rattle.lists.specs.Tables.{put_all, put_all-has}
use Rattle.rules.specs.Laws.Form.Saveable.{FilledCell}
use Rattle.lists.specs.Distinct.{Mem, index}
use Rattle.lists.specs.Members.{all-mem, dec_mem}
use Rattle.rules.specs.Jobs.{joined, top_of, levels_of}
use Rattle.rules.specs.Laws.Range.{InRange, CommandIn}
use Rattle.rules.specs.Levels.{filled, top_level, written_levels}
use Rattle.rules.specs.Rebuild.{gathered, do_rebuild, Fill}
use Rattle.rules.specs.Blocks.{reads_of}
use Rattle.rules.specs.Request
use Rattle.rules.specs.Request.{is_front}
use Rattle.rules.specs.Shape.{slots, Shape, cell}
use Rattle.rules.specs.State.{State, Command, write, Request, cmd, stored}
use Rattle.rules.specs.Turn
use Rattle.reachable.proofs.Blocks.{gathered-lt, place-lt, stored-inj, chosen-waits}
use Rattle.reachable.proofs.Consequences.{levels-first, sources-read, block-lt, joined-joins}
use Rattle.reachable.specs.Invariant.{Reached, Unworn, Unread, Own, Fetched, Reading, Commands, Tidy, SlotCell}
use Rattle.rules.specs.Form.Loading.{stored_at}
use Rattle.reachable.proofs.Kept.Rebuild.Counts.{room-kept, full-kept}
use Rattle.reachable.proofs.Kept.Rebuild.Drawing.{Drawing, front-lt, level-lt, fill-fits, place_in, in-levels, written_is, partition-in, place_out, above-target, stays, count-q, jobs, waiting_kept, orders-kept}
use Rattle.reachable.proofs.Kept.Rebuild.Holds.{agree-kept, taken-kept}
use Rattle.reachable.proofs.Kept.Rebuild.Marks.{marks-fit, mark-here, mark-else, items_kept, begun_kept, reads_kept}
use Rattle.reachable.specs.Live
use Rattle.reachable.specs.Live.{Gathers, counted, drawn, pending, write_number}
use Rattle.reachable.proofs.Live.{joined-begun, source-none, front-eq, front-is, counted-calm}
use Rattle.reachable.proofs.Outstanding.{apart_snoc}
use Rattle.reachable.proofs.Slots.{gathered-why}
use Rattle.reachable.specs.Terms.{Apart}
use Rattle.reachable.proofs.Writes.{number-here, number-first}

module _ (s : State) (f : Reached s) (q : ℕ) (ls : List ℕ) (xs : List Fill) (d : Drawing s q ls xs) where
  -- the first write is that of the highest level's first slot
  first : (rest : List ℕ) × (ls ≡ top_of s q ∷ rest)
  first = let x = levels-first s f q d.step.rest d.step.front in (x.0, d.step.goal ∙ x.1)

  head_in : (l rest : List ℕ) (t : ℕ) → l ≡ t ∷ rest → Mem (get_or l 0 0) l × (write_number l (get_or l 0 0) 0 < 1)
  head_in l rest t e = rw e (inl refl, omega (arith, number-here t rest t 0 refl))

  pub top_in : Mem (get_or ls 0 0) ls
  top_in = (head_in ls first.0 (top_of s q) first.1).0

  pub goal-first : Mem (get_or ls 0 0) (written_levels s.shape (s.counter q) (joined s q)) × (write_number (written_levels s.shape (s.counter q) (joined s q)) (get_or ls 0 0) 0 < 1)
  unfolding levels_of
  goal-first = subst (λ l. Mem (get_or ls 0 0) l × (write_number l (get_or ls 0 0) 0 < 1)) d.step.goal (head_in ls first.0 (top_of s q) first.1)

  -- ..and no other write is sent with it
  pub first-write : (ℓ i : ℕ) → Mem ℓ ls → i < slots ℓ → write_number (written_levels s.shape (s.counter q) (joined s q)) ℓ i < 1 → (ℓ ≡ get_or ls 0 0) × (i ≡ 0)
  unfolding levels_of
  first-write ℓ i m hi l = number-first ls ℓ i m hi (subst (λ w. write_number w ℓ i < 1) (sym d.step.goal) l) first.0 (top_of s q) first.1

module _ (s : State) (f : Reached s) (q : ℕ) (ls : List ℕ) (xs : List Fill) (d : Drawing s q ls xs) (range : InRange (Turn.send (cmd write q (get_or ls 0 0) 0) (do_rebuild q ls xs s))) where
  abbrev h : Shape
  h = s.shape

  abbrev s' : State
  s' = Turn.send (cmd write q (get_or ls 0 0) 0) (do_rebuild q ls xs s)

  unread-kept : Unread s'
  unfolding Turn.send do_rebuild
  unread-kept b m j hx e = go (dec_mem b (gathered s q))
    where
      y : (m < h.L) × (j < slots m)
      y = (place-lt h.L m j (s'.place b) (range.places b hx) e)

      go : Dec (Mem b (gathered s q)) → (s'.mark (cell h (s.partition b) m j) ≡ 1) ⊎ (Own s b m ⊎ Gathers s' (s.partition b) m)
      go (yes k) =
          let x = d.home b k in
          let w = stored-inj x.0.level m (get_or x.0.order (index b x.0.blocks) 0) j (sym (place_in s f q ls xs d b x.0 x.1.0 x.1.1) ∙ e) in
          inl (mark-here s f q ls xs d (s.partition b) m j (sym (partition-in s f q ls xs d b k), subst (λ ℓ. Mem ℓ ls) w.0 (in-levels s f q ls xs d x.0 x.1.0)) y.1)
      go (no k) =
          let e'' = sym (place_out s f q ls xs d b k) ∙ e in
          let above = above-target s f q ls xs d b m j hx k e'' in
          ⊎_elim (λ z. inl (mark-else s f q ls xs d (s.partition b) m j y.0 y.1 (λ w. let l = above (sym w.0) in omega (arith, (written_is s f q ls xs d m w.1).0)) ∙ z))
          (λ z. ⊎_elim (λ a. inr (inl a))
          (λ a. let v = front-eq (s.partition b) q s.queue d.step.rest d.step.front a.0 in
          absurd (omega (arith, above v, not-above v a.2.0 a.2.1))) z)
          (f.unread b m j hx e'')
        where
          not-above : s.partition b ≡ q → (s.begun ≡ 0 → ⊥) → m ≤ top_level h (s.counter (s.partition b)) s.begun → m ≤ top_of s q
          not-above v n l = unfold top_of in (rw (joined-begun s f.running q (rw d.step.front (front-is q d.step.rest)) n, ← v) l)

  -- the request that has passed a level is for another partition
  fetched-kept : Fetched s'
  unfolding Turn.send do_rebuild Request.held
  fetched-kept r m j e p l =
      let hx = block-lt s f r e in
      let hq = all-mem f.range.queue q (rw d.step.front (inl refl)) in
      let unheld : Request.held r ≡ false = ⊎_elim (λ z. absurd (omega arith)) (λ u. u) (f.unheld r e) in
      let away : ¬ (s.partition r.block ≡ q) = d.step.apart r e unheld in
      let out : ¬ Mem r.block (gathered s q) = λ k. ⊎_elim (λ c. away (chosen-waits s q r.block c).0) (λ c. away c.0) (gathered-why s f q hq d.step.calm r.block k) in
      let old : s.place r.block ≡ stored m j = sym (place_out s f q ls xs d r.block out) ∙ p in
      let y = place-lt h.L m j (s.place r.block) (f.range.places r.block hx) old in
      mark-else s f q ls xs d (s.partition r.block) m j y.0 y.1 (λ w. away (sym w.0)) ∙ f.fetched r m j e old l

  reading-still : (c : Command) → Reading s c → eqb c.partition q ≡ false → CommandIn h c → Reading s' c
  unfolding Turn.send do_rebuild
  reading-still c a k z = record {
    kind = a.kind;
    is_read = mark-else s f q ls xs d c.partition c.level c.slot z.level z.slot (λ w. eqb-false c.partition q k (sym w.0)) ∙ a.is_read;
    full = a.full;
    whose = ⊎_elim inl (λ n. absurd (eqb-false c.partition q k (front-eq c.partition q s.queue d.step.rest d.step.front n.0))) a.whose;
  }

  apart-kept : Apart s'.outstanding
  unfolding Turn.send do_rebuild
  apart-kept = apart_snoc (cmd write q (get_or ls 0 0) 0) f.apart (all_map (λ c k w. eqb-false c.partition q k w.0) d.step.quiet)

  commands-kept : Commands s'
  unfolding Turn.send do_rebuild
  commands-kept = all_append
      (all_map (λ c k. ⊎_elim (λ a. inl (reading-still c a k.1.0 k.1.1)) (λ a. absurd (a.busy d.step.calm)) k.0) (all_both f.commands (all_both d.step.quiet f.range.outstanding)))
      (cons (inr (record { kind = refl; front = rw d.step.front (front-is q d.step.rest); busy = λ e. omega arith; goal = (goal-first s f q ls xs d).0; slot = (goal-first s f q ls xs d).1 })) nil)

  -- the front job is not that of a request that is not held
  other : (x : Request) → s.request ≡ some x → Request.held x ≡ false → ¬ (is_front s.queue (s.partition x.block) ≡ true)
  other x e k a = d.step.apart x e k (front-eq (s.partition x.block) q s.queue d.step.rest d.step.front a)

  unworn-kept : Unworn s'
  unfolding Turn.send do_rebuild reads_of
  unworn-kept x e k ℓ l hℓ full n =
      let same = total-same (slots ℓ) (λ j. 1 - s'.mark (cell h (s.partition x.block) ℓ j)) (λ j. 1 - s.mark (cell h (s.partition x.block) ℓ j))
      (λ j hj. ap (λ v. 1 - v) (mark-else s f q ls xs d (s.partition x.block) ℓ j hℓ hj (λ w. d.step.apart x e k (sym w.0)))) in
      omega (arith, same, f.unworn x e k ℓ l hℓ full (source-none s (s.partition x.block) ℓ (by (is_front s.queue (s.partition x.block)) refl)))
    where
      by : (t : Bool) → is_front s.queue (s.partition x.block) ≡ t → is_front s.queue (s.partition x.block) ≡ false
      by true a = absurd (other x e k a)
      by false a = a

  -- an unread slot is one of a written level, or was unread before: then its level is no source, as these have been read throughout
  marked-kept : (c : ℕ) → ¬ (s'.mark c ≡ 0) → FilledCell h (counted s') c
  unfolding Turn.send do_rebuild counted drawn Rebuild.new_marks
  marked-kept c n = ⊎_elim here old (written-where h q (λ ℓ. ℓ) (λ ℓ. replicate (slots ℓ) 1) ls (marks-fit s f q ls xs d) s.mark c)
    where
      here : (ℓ : ℕ) × (i : ℕ) × (Mem ℓ ls × (i < slots ℓ) × (c ≡ cell h q ℓ i)) → FilledCell h (counted s') c
      here w = record {
        part = q;
        level = w.0;
        slot = w.1;
        in_parts = front-lt s f q ls xs d;
        in_levels = level-lt s f q ls xs d w.0 w.2.0;
        is_filled = ap (λ g. filled g w.0) (count-q s f q ls xs d) ∙ (written_is s f q ls xs d w.0 w.2.0).1;
        in_slots = w.2.1;
        is_cell = w.2.2;
      }

      old : s'.mark c ≡ s.mark c → FilledCell h (counted s') c
      old e = record {
        part = x.part;
        level = x.level;
        slot = x.slot;
        in_parts = x.in_parts;
        in_levels = x.in_levels;
        is_filled = stays s f q ls xs d x.part x.level x.in_levels (λ w. above w (dec_lt (top_of s q) x.level)) ∙ x.is_filled;
        in_slots = x.in_slots;
        is_cell = x.is_cell;
      }
        where
          x : FilledCell h (counted s) c
          x = f.tidy.marked c (λ z. n (e ∙ z))

          above : x.part ≡ q → Dec (top_of s q < x.level) → top_of s q < x.level
          above w (yes l) = l
          above w (no l) =
              let full : filled (s.counter q) x.level ≡ true = ap (λ g. filled g x.level) (sym (ap (counted s) w ∙ counted-calm s q d.step.calm)) ∙ x.is_filled in
              absurd (n (e ∙ ap s.mark (x.is_cell ∙ ap (λ p. cell h p x.level x.slot) w) ∙ sources-read s f q ls d.step x.level x.slot (omega arith) full x.in_slots))

  held_kept : (c : ℕ) → ¬ (s'.holds c ≡ 0) → SlotCell h c
  unfolding Turn.send do_rebuild Rebuild.new_held Rebuild.cleared
  held_kept c n = ⊎_elim here old (written-where h q level_of (λ (x : Fill). Rebuild.new_holds (slots x.level) x.blocks x.order) xs (λ x m. (fill-fits s f q ls xs d x m, many x)) _ c)
    where
      many : (x : Fill) → length (Rebuild.new_holds (slots x.level) x.blocks x.order) ≡ slots x.level
      many x = unfold Rebuild.new_holds in (length-map (below (slots x.level)) _ ∙ length-below (slots x.level))

      zeros : (n i : ℕ) → ◌≡◌ {A = ℕ} (get_or (replicate n 0) i 0) 0
      zeros n i = let z : ◌≡◌ {A = ℕ} 0 0 = refl in all_get_d i (all_replicate (λ x. x ≡ 0) n 0 z) z

      here : (x : Fill) × (i : ℕ) × (In x xs × (i < slots x.level) × (c ≡ cell h q x.level i)) → SlotCell h c
      here w = record { part = q; level = w.0.level; slot = w.1; in_parts = front-lt s f q ls xs d; in_levels = fill-fits s f q ls xs d w.0 w.2.0; in_slots = w.2.1; is_cell = w.2.2 }

      old : s'.holds c ≡ put_all (cell h q 0 0) (replicate (slots (suc (top_of s q)) - 2) 0) s.holds c → SlotCell h c
      old e = put_all-has (λ v. ¬ (v ≡ 0) → SlotCell h c) (cell h q 0 0) (replicate (slots (suc (top_of s q)) - 2) 0) s.holds c
          (λ l u n. absurd (n (zeros (slots (suc (top_of s q)) - 2) (c - cell h q 0 0)))) (f.tidy.held c) (λ z. n (e ∙ z))

  tidy-kept : Tidy s'
  unfolding Turn.send do_rebuild
  tidy-kept = record {
    partitions = f.tidy.partitions;
    places = λ b l. place_out s f q ls xs d b (λ m. omega (arith, gathered-lt s q b m)) ∙ f.tidy.places b l;
    counters = f.tidy.counters;
    marked = marked-kept;
    held = held_kept;
    whole = f.tidy.whole;
  }

  pub rebuild-kept : Reached s'
  unfolding Turn.send do_rebuild counted drawn stored_at Live.stored_in pending Request.held
  rebuild-kept = record {
    range = range;
    waiting = waiting_kept s f q ls xs d;
    orders = orders-kept s f q ls xs d;
    items = items_kept s f q ls xs d;
    agree = agree-kept s f q ls xs d;
    room = room-kept s f q ls xs d;
    full = full-kept s f q ls xs d;
    taken = taken-kept s f q ls xs d;
    begun = begun_kept s f q ls xs d;
    running = λ n. (q, d.step.rest, (d.step.front, joined-joins s f q d.step.rest d.step.front));
    unbegun = λ e. absurd (omega (arith, (jobs s f q ls xs d).0));
    reads = reads_kept s f q ls xs d;
    unheld = f.unheld;
    released = λ x e k. ⊎_elim inl (λ a. absurd (other x e k a.0)) (f.released x e k);
    unworn = unworn-kept;
    unawaited = λ x e k. drop-snoc x.awaits s.outstanding (cmd write q (get_or ls 0 0) 0) (all_map (λ c a w. absurd (other x e k (a w).0.0)) (f.unawaited x e k)) (λ w. absurd (d.step.apart x e k (sym w)));
    unread = unread-kept;
    fetched = fetched-kept;
    scanned = λ p ℓ i a z. absurd (omega arith);
    apart = apart-kept;
    commands = commands-kept;
    tidy = tidy-kept;
  }
