-- A request's read keeps the invariant.
use Rattle.std.specs.Prelude.{◌≡◌, ◌⊎◌, Bool, List, [], ◌∷◌, ◌++◌, length, drop, if◌then◌else◌}
use Rattle.std.proofs.Math.Path.{refl, ap, sym, subst}
use Rattle.std.proofs.Common.{◌∙◌, arith, drop_of_length-le}
use Rattle.std.proofs.Math.Logic.{inl, inr, ⊎_elim}
use Rattle.std.proofs.Math.Bool.{true, false}
use Rattle.std.proofs.Math.Option.{none, some}
use Prim.Native.Nat.{ℕ, suc, ◌+◌, ◌%◌, ◌^◌, ◌≤◌, ◌<◌}
use Rattle.std.proofs.Math.Decide.{ℕ_discrete, dec_lt}
use Rattle.std.proofs.Math.ListN.{length-append}
use Rattle.lists.specs.All.{All, nil, cons, all_append, all_map}
use Rattle.lists.specs.Distinct.{Mem}
use Rattle.lists.specs.Tables.{put, put_same, put_other}
use Rattle.rules.specs.Jobs.{queued, joined, top_of, slot_count}
use Rattle.rules.proofs.Laws.Layout.{cell-inj}
use Rattle.rules.specs.Laws.Range.{InRange}
use Rattle.rules.specs.Levels.{filled, written_levels}
use Rattle.rules.specs.Laws.Reader.{slot_in, if_unread}
use Rattle.rules.specs.Request
use Rattle.rules.specs.Shape.{slots, Shape, cell}
use Rattle.rules.specs.State.{State, Command, read, Request, cmd, stored}
use Rattle.rules.specs.Turn
use Rattle.rules.specs.Turn.{read_for_request, do_step}
use Rattle.reachable.proofs.Begins.{Begins, request-begins, gathers-still, source-still, alone-still, undrawn-still, counted-still, busy-still, begun-still, unbegun-still, running-still}
use Rattle.reachable.proofs.Blocks.{place-lt, stored-inj}
use Rattle.reachable.proofs.Consequences.{front-calm, released-count, joins-front, costless-read, read-mark, block-lt, slot-own, dummy-free, own-slot, still_read, read-apart, request-unread, read-items}
use Rattle.reachable.proofs.Decided.{OwnSlot, DummySlot, ItemSlot, RequestReads, slot-here, if-unread}
use Rattle.reachable.specs.Invariant.{Reached, Reads, Unheld, Released, Unworn, Aside, Unawaited, Unread, Own, Reading, WriteOf, Commands, Fetched, Tidy}
use Rattle.rules.specs.Form.Loading.{stored_at}
use Rattle.reachable.specs.Live
use Rattle.rules.specs.Blocks
use Rattle.rules.specs.Blocks.{reads_of}
use Rattle.rules.specs.Request.{is_front}
use Rattle.reachable.specs.Live.{counted, drawn, pending, passed_by, Source, Gathers, Alone}
use Rattle.reachable.proofs.Live.{front_rest, source-why, source-gathers}
use Rattle.reachable.proofs.Outstanding.{apart_snoc}
use Rattle.reachable.proofs.Pending.{pending-more, bit-no, bit-yes, passed-why, passed-level, mark-same, mark-more}
use Rattle.reachable.specs.Terms.{Apart}

module _ (s : State) (f : Reached s) (q ℓ i : ℕ) (d : RequestReads s q ℓ i) (hℓ : ℓ < s.shape.L) (hi : i < slots ℓ) (js : List ℕ) where
  abbrev h : Shape
  h = s.shape

  abbrev r : Request
  r = d.asked

  abbrev r' : Request
  r' = record { kind = r.kind; block = r.block; bytes = r.bytes; next = r.next; evict = r.evict; level = suc ℓ; found = r.found; awaits = suc (length s.outstanding) }

  abbrev s' : State
  s' = do_step (read_for_request q ℓ i) js s

  -- a read of a source's slot begins the run
  abbrev j' : ℕ
  j' = if Request.is_source s q ℓ then joined s q else s.begun

  begins : Begins s j'
  begins = request-begins s f q ℓ i d

  still-gathers : (p m : ℕ) → Gathers s p m → Gathers s' p m
  unfolding do_step Turn.mark_read Turn.send
  still-gathers p m g = gathers-still s j' f begins p m g

  source-same : (p m : ℕ) → Request.is_source s' p m ≡ Request.is_source s p m
  unfolding do_step Turn.mark_read Turn.send Request.is_source top_of joined
  source-same p m = source-still s j' f begins p m

  now-gathers : Request.is_source s q ℓ ≡ true → Gathers s' q ℓ
  now-gathers u = source-gathers s' (unfold do_step Turn.mark_read Turn.send in (running-still s j' f begins)) q ℓ (unfold do_step Turn.mark_read Turn.send in (front-calm s f q ℓ i d)) some-jobs (source-same q ℓ ∙ u)
    where
      some-jobs : s'.begun ≡ 0 → ⊥
      some-jobs e =
          let w = front_rest s.queue q (source-why s q ℓ u).0 in
          let z : j' ≡ 0 = unfold do_step Turn.mark_read Turn.send in e in
          omega (arith, (joins-front s f q w.0 w.1).0, sym (ap (λ t. if t then joined s q else s.begun) u) ∙ z)

  counted-kept : counted s' ≡ counted s
  unfolding do_step Turn.mark_read Turn.send counted drawn
  counted-kept = counted-still s j' f begins

  calm : is_front s.queue q ≡ true → s.sent ≡ 0
  calm = front-calm s f q ℓ i d

  hb : r.block < h.N
  hb = block-lt s f r d.in_hand

  own-cell : cell h (s.partition r.block) ℓ i ≡ cell h q ℓ i
  own-cell = ap (λ p. cell h p ℓ i) d.part

  passed : s'.request ≡ some r'
  unfolding do_step Turn.mark_read Turn.send Request.pass_level
  passed = ap (Request.pass_level ℓ (suc (length s.outstanding))) d.in_hand

  marks : (c : ℕ) → s'.mark c ≡ put (cell h q ℓ i) 0 s.mark c
  unfolding do_step Turn.mark_read Turn.send
  marks c = refl

  reads_kept : Reads s'
  unfolding do_step Turn.mark_read Turn.send pending
  reads_kept p m hp hm e = ⊎_elim (λ g. inl (still-gathers p m g)) (λ k. inr (go (ℕ_discrete p q) (ℕ_discrete m ℓ) k)) (f.reads p m hp hm (rw counted-kept at e))
    where
      still : passed_by s.partition s.request p m ≡ true → passed_by s.partition s'.request p m ≡ true
      still k =
          let w = passed-why s.partition s.request r p m d.in_hand k in
          passed-level s.partition s.request r ℓ (suc (length s.outstanding)) p m d.in_hand w.0 (omega (arith, d.left))

      more : pending s p m ≤ pending s' p m
      more = pending-more s s' p m (omega (arith, ap (λ qs. queued qs p) (undrawn-still s j' f begins))) still

      same : counted s' p % 2 ^ m ≡ counted s p % 2 ^ m
      same = ap (λ c. c p % 2 ^ m) counted-kept

      old : ((p ≡ q) × (m ≡ ℓ) → ⊥) → reads_of s.shape s.mark p m ≤ counted s p % 2 ^ m + pending s p m → reads_of s.shape s'.mark p m ≤ counted s' p % 2 ^ m + pending s' p m
      old n k = omega (arith, mark-same s.shape q ℓ i hℓ hi s.mark p m hm n, more, same)

      go : Dec (p ≡ q) → Dec (m ≡ ℓ) → reads_of s.shape s.mark p m ≤ counted s p % 2 ^ m + pending s p m → reads_of s.shape s'.mark p m ≤ counted s' p % 2 ^ m + pending s' p m
      go (no a) b k = old (λ w. a w.0) k
      go (yes a) (no b) k = old (λ w. b w.1) k
      go (yes a) (yes b) k = omega (
        arith,
        same,
        ap (λ qs. queued qs p) (undrawn-still s j' f begins),
        mark-more s.shape q ℓ i hℓ hi s.mark p m hm,
        bit-no (passed_by s.partition s.request p m) (λ j. let w = passed-why s.partition s.request r p m d.in_hand j in omega (arith, d.left, w.1)),
        bit-yes (passed_by s.partition s'.request p m) (passed-level s.partition s.request r ℓ (suc (length s.outstanding)) p m d.in_hand (d.part ∙ sym a) (omega arith)),
      )

  the : (x : Request) → s'.request ≡ some x → r' ≡ x
  the x e = cc (passed, e)

  released-kept : Released s'
  unfolding do_step Turn.mark_read Turn.send
  released-kept x e k = subst (λ (y : Request). (¬ Mem (s.partition y.block) s.queue) ⊎ Alone s' (s.partition y.block)) (the x e) (⊎_elim inl (λ a. inr (alone-still s j' f begins (s.partition r.block) a)) (f.released r d.in_hand d.unheld))

  -- of the levels above the one read nothing is read
  unworn-kept : Unworn s'
  unfolding do_step Turn.mark_read Turn.send
  unworn-kept x e k = subst (λ (y : Request). (m : ℕ) → y.level ≤ m → m < h.L → filled (s.counter (s.partition y.block)) m ≡ true → Request.is_source s' (s.partition y.block) m ≡ false → reads_of h s'.mark (s.partition y.block) m < 2 ^ m) (the x e) above
    where
      above : (m : ℕ) → suc ℓ ≤ m → m < h.L → filled (s.counter (s.partition r.block)) m ≡ true → Request.is_source s' (s.partition r.block) m ≡ false → reads_of h s'.mark (s.partition r.block) m < 2 ^ m
      above m l hm full n = omega (arith, mark-same h q ℓ i hℓ hi s.mark (s.partition r.block) m hm (λ w. omega (arith, w.1)), f.unworn r d.in_hand d.unheld m (omega (arith, d.left)) hm full (sym (source-same (s.partition r.block) m) ∙ n))

  -- all that is outstanding now is awaited
  unawaited-kept : Unawaited s'
  unfolding do_step Turn.mark_read Turn.send
  unawaited-kept x e k = subst (λ (y : Request). All (Aside s' y) (drop y.awaits (s.outstanding ++ (cmd read q ℓ i ∷ [])))) (the x e)
      (rw (drop_of_length-le (s.outstanding ++ (cmd read q ℓ i ∷ [])) {i = suc (length s.outstanding)} (rw length-append (omega arith))) nil)

  unheld-kept : Unheld s'
  unfolding Request.held
  unheld-kept x e =
      let w : x ≡ r' = cc (passed, e) in
      inr (rw w (unfold do_step Turn.mark_read Turn.send in d.unheld))

  own-still : (b m : ℕ) → Own s b m → Own s' b m
  unfolding do_step Turn.mark_read Turn.send
  own-still b m o =
      let w : o.0 ≡ r = cc (o.1.0, d.in_hand) in
      (r', (passed, sym (ap (λ (x : Request). x.block) w) ∙ o.1.1, omega (arith, o.1.2, d.left, ap (λ (x : Request). x.level) w)))

  unread-kept : Unread s'
  unfolding do_step Turn.mark_read Turn.send
  unread-kept b m j hx e = go (ℕ_discrete (cell h p m j) (cell h q ℓ i))
    where
      p : ℕ
      p = s.partition b

      y : (m < h.L) × (j < slots m)
      y = place-lt h.L m j (s.place b) (f.range.places b hx) e

      go : Dec (cell h p m j ≡ cell h q ℓ i) → (s'.mark (cell h p m j) ≡ 1) ⊎ (Own s' b m ⊎ Gathers s' p m)
      go (no n) = old (f.unread b m j hx e)
        where
          old : (s.mark (cell h p m j) ≡ 1) ⊎ (Own s b m ⊎ Gathers s p m) → (s'.mark (cell h p m j) ≡ 1) ⊎ (Own s' b m ⊎ Gathers s' p m)
          old (inl k) = inl (marks (cell h p m j) ∙ put_other (cell h q ℓ i) 0 s.mark (cell h p m j) n ∙ k)
          old (inr (inl o)) = inr (inl (own-still b m o))
          old (inr (inr k)) = inr (inr (still-gathers p m k))
      go (yes n) =
          let z = cell-inj h p q m ℓ j i y.0 hℓ y.1 hi n in
          let a = (f.agree.placed b m j hx e).1 in
          ⊎_elim
          (λ k. let a' = (f.agree.placed r.block ℓ i hb (slot-own ℓ i (s.place r.block) k.0)).1 in
          let v : suc b ≡ suc r.block = sym a ∙ ap s.holds (n ∙ sym own-cell) ∙ a' in
          inr (inl (r', (passed, omega (arith, v), omega (arith, z.1)))))
          (⊎_elim (λ k. absurd (omega (arith, sym a ∙ ap s.holds n ∙ (dummy-free s q ℓ i k.2).1)))
          (λ k. inr (inr (rw (z.0, z.1) (now-gathers k.0)))))
          d.slot

  -- the read passes its level; of the levels before it that it has not passed, those that are filled have been read throughout
  request-passed : (m j : ℕ) → s.place r.block ≡ stored m j → m < suc ℓ → s'.mark (cell h (s.partition r.block) m j) ≡ 0
  request-passed m j e l = go (ℕ_discrete m ℓ) (dec_lt m r.level)
    where
      hq : s.partition r.block < h.P
      hq = f.range.partitions r.block hb

      y : (m < h.L) × (j < slots m)
      y = place-lt h.L m j (s.place r.block) (f.range.places r.block hb) e

      still : s.mark (cell h (s.partition r.block) m j) ≡ 0 → s'.mark (cell h (s.partition r.block) m j) ≡ 0
      still k = marks (cell h (s.partition r.block) m j) ∙ still_read (cell h q ℓ i) (cell h (s.partition r.block) m j) s.mark k

      -- the block's slot is the one that is read, or it was read before
      here : m ≡ ℓ → OwnSlot s r.block q ℓ i ⊎ (DummySlot s r.block q ℓ i ⊎ ItemSlot s r.block q ℓ i) → s'.mark (cell h (s.partition r.block) m j) ≡ 0
      here w (inl k) =
          let v : stored ℓ i ≡ stored m j = sym (slot-own ℓ i (s.place r.block) k.0) ∙ e in
          let z : i ≡ j = (stored-inj ℓ m i j v).1 in
          let same : cell h (s.partition r.block) m j ≡ cell h q ℓ i = rw (w, ← z) own-cell in
          marks (cell h (s.partition r.block) m j) ∙ ap (put (cell h q ℓ i) 0 s.mark) same ∙ put_same (cell h q ℓ i) 0 s.mark
      here w (inr (inl k)) =
          let v : slot_in ℓ (stored ℓ j) ≡ none = ap (slot_in ℓ) (ap (λ n. stored n j) (sym w) ∙ sym e) ∙ k.1 in
          absurd (own-slot ℓ j v)
      here w (inr (inr k)) = still (gone (Blocks.is_unread s q ℓ j) refl)
        where
          gone : (t : Bool) → Blocks.is_unread s q ℓ j ≡ t → s.mark (cell h (s.partition r.block) m j) ≡ 0
          gone true u =
              let v : slot_in ℓ (s.place r.block) ≡ some j = ap (slot_in ℓ) (e ∙ ap (λ n. stored n j) w) ∙ slot-here ℓ j in
              let x : some j ≡ none = sym (if-unread (Blocks.is_unread s q ℓ) j u) ∙ ap (if_unread (Blocks.is_unread s q ℓ)) (sym v) ∙ k.1 in
              let z : ◌≡◌ {A = ℕ} 0 1 = cc in absurd (omega arith)
          gone false u =
              let v = read-mark s q ℓ j u in
              let same : s.mark (cell h (s.partition r.block) m j) ≡ s.mark (cell h q ℓ j) = rw (w, d.part) in
              omega (arith, f.range.marks (s.partition r.block) m j hq y.0 y.1)

      go : Dec (m ≡ ℓ) → Dec (m < r.level) → s'.mark (cell h (s.partition r.block) m j) ≡ 0
      go (yes w) c = here w d.slot
      go (no w) (yes c) = still (f.fetched r m j d.in_hand e c)
      go (no w) (no c) =
          let full : filled (s.counter (s.partition r.block)) m ≡ true = ap (λ n. filled n m) (sym (released-count s f r d.in_hand d.unheld)) ∙ (f.agree.placed r.block m j hb e).0 in
          still (costless-read s f (s.partition r.block) m j hq y.0 y.1 full (rw d.part (d.first m (omega arith) (omega arith))))

  apart-kept : Apart s'.outstanding
  unfolding do_step Turn.mark_read Turn.send
  apart-kept = apart_snoc (cmd read q ℓ i) f.apart (read-apart s f q ℓ i (request-unread s f q ℓ i d) (λ c a w. a.busy (calm (rw w at a.front))))

  reading-still : (c : Command) → Reading s c → Reading s' c
  unfolding do_step Turn.mark_read Turn.send
  reading-still c a = record {
    kind = a.kind;
    is_read = still_read (cell h q ℓ i) (cell h c.partition c.level c.slot) s.mark a.is_read;
    full = a.full;
    whose = ⊎_elim (λ k. let w = passed-why s.partition s.request r c.partition c.level d.in_hand k in
        inl (passed-level s.partition s.request r ℓ (suc (length s.outstanding)) c.partition c.level d.in_hand w.0 (omega (arith, w.1, d.left)))) (λ g. inr (still-gathers c.partition c.level g)) a.whose;
  }

  reading-new : Reading s' (cmd read q ℓ i)
  unfolding do_step Turn.mark_read Turn.send
  reading-new = record {
    kind = refl;
    is_read = put_same (cell h q ℓ i) 0 s.mark;
    full = d.full;
    whose = inl (passed-level s.partition s.request r ℓ (suc (length s.outstanding)) q ℓ d.in_hand d.part (omega arith));
  }

  commands-kept : Commands s'
  unfolding do_step Turn.mark_read Turn.send
  commands-kept = all_append (all_map (λ c k. ⊎_elim (λ a. inl (reading-still c a)) (λ a. inr (subst (λ n. WriteOf h s.counter s.queue n s.sent c) (sym (busy-still s j' f begins a.busy)) a)) k) f.commands) (cons (inl reading-new) nil)

  fetched-kept : Fetched s'
  unfolding do_step Turn.mark_read Turn.send
  fetched-kept x m j e p l = let w : r' ≡ x = cc (passed, e) in
      subst (λ (y : Request). s.place y.block ≡ stored m j → m < y.level → s'.mark (cell h (s.partition y.block) m j) ≡ 0) w (request-passed m j) p l

  tidy-kept : Tidy s'
  unfolding do_step Turn.mark_read Turn.send
  tidy-kept = record {
    partitions = f.tidy.partitions;
    places = f.tidy.places;
    counters = f.tidy.counters;
    marked = λ c n. rw counted-kept (f.tidy.marked c (λ z. n (still_read (cell h q ℓ i) c s.mark z)));
    held = f.tidy.held;
    whole = f.tidy.whole;
  }

  pub request-read-kept : InRange s' → Reached s'
  unfolding do_step Turn.mark_read Turn.send stored_at Live.stored_in
  request-read-kept range = record {
    range = range;
    waiting = f.waiting;
    orders = rw counted-kept f.orders;
    items = rw counted-kept (read-items s f (cell h q ℓ i));
    agree = rw counted-kept f.agree;
    room = f.room;
    full = f.full;
    taken = f.taken;
    begun = λ n. let x = f.begun n in (x.0, x.1, (x.2.0, subst (λ j. s.sent ≤ slot_count (written_levels h (s.counter x.0) j)) (sym (busy-still s j' f begins n)) x.2.1));
    running = running-still s j' f begins;
    unbegun = unbegun-still s j' f begins;
    reads = reads_kept;
    unheld = unheld-kept;
    released = released-kept;
    unworn = unworn-kept;
    unawaited = unawaited-kept;
    unread = unread-kept;
    fetched = fetched-kept;
    scanned = λ p m j a z l hj c.
        let n : s.begun ≡ 0 → ⊥ = λ k. omega (arith, (f.unbegun k).0) in
        still_read (cell h q ℓ i) (cell h p m j) s.mark (f.scanned p m j a z (subst (λ n. Source h (s.counter p) n m) (begun-still s j' f begins n) l) hj c);
    apart = apart-kept;
    commands = commands-kept;
    tidy = tidy-kept;
  }
