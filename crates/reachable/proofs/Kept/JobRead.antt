-- A job's read keeps the invariant.
use Rattle.std.specs.Prelude.{◌≡◌, ◌⊎◌, true, false, List, ℕ, ◌+◌, ◌%◌, ◌^◌, ◌≤◌, ◌<◌}
use Rattle.std.proofs.Math.Path.{refl, ap, sym}
use Rattle.std.proofs.Common.{◌∙◌, subst}
use Rattle.std.proofs.Math.Logic.{inl, inr, ⊎_elim}
use Rattle.std.proofs.Math.Bool.{true≢false}
use Rattle.std.proofs.Math.Option.{some}
use native.Mathlib.Omega.{arith}
use Rattle.std.proofs.Math.Decide.{ℕ_discrete, dec_lt}
use borrow.Author.Tests.{eqb-false}
use Rattle.lists.specs.All.{nil, cons, all_append, all_map, drop-snoc}
use Rattle.lists.specs.Lengths.{bit}
use Rattle.lists.specs.Members.{all-mem}
use Rattle.lists.specs.Tables.{put, put_same, put_other}
use Rattle.rules.specs.Blocks
use Rattle.rules.specs.Blocks.{reads_of}
use Rattle.rules.proofs.Laws.Layout.{cell-inj}
use Rattle.rules.specs.Jobs.{queued, joined, top_of}
use Rattle.rules.proofs.Laws.Levels.{levels-pos, top_lt}
use Rattle.rules.specs.Levels.{top_level}
use Rattle.rules.specs.Laws.Range.{InRange}
use Rattle.rules.specs.Request
use Rattle.rules.specs.Request.{is_front}
use Rattle.rules.specs.Shape.{slots, cell, offset}
use Rattle.rules.specs.State.{State, read, Request, cmd, stored}
use Rattle.rules.specs.Turn
use Rattle.rules.specs.Turn.{read_for_job, do_step}
use Rattle.reachable.proofs.Begins.{Begins, job-begins, gathers-still, source-still, alone-still, undrawn-still, counted-still, running-still}
use Rattle.reachable.proofs.Blocks.{place-lt}
use Rattle.reachable.proofs.Cells.{offset-cell}
use Rattle.reachable.proofs.Consequences.{behind-read, still_read, read-apart, job-unread, read-items, joins-front}
use Rattle.reachable.proofs.Decided.{JobReads}
use Rattle.rules.specs.Form.Loading.{stored_at}
use Rattle.reachable.specs.Invariant.{Reached, Reads, Unread, Own, Scanned, Commands}
use Rattle.reachable.specs.Live
use Rattle.reachable.specs.Live.{counted, drawn, pending, Gathers, passed_by}
use Rattle.reachable.proofs.Live.{front-is, front-eq, front-mem, joined-begun, source_is}
use Rattle.reachable.proofs.Outstanding.{apart_snoc}
use Rattle.reachable.proofs.Pending.{mark-same}
use Rattle.reachable.specs.Terms.{Apart}

module _ (s : State) (f : Reached s) (q ℓ i : ℕ) (d : JobReads s q ℓ i) (hℓ : ℓ < s.shape.L) (js : List ℕ) where
  abbrev s' : State
  s' = do_step (read_for_job q ℓ i) js s

  front : is_front s.queue q ≡ true
  front = rw d.front (front-is q d.rest)

  begins : Begins s (joined s q)
  begins = job-begins s q ℓ i d

  still-gathers : (p m : ℕ) → Gathers s p m → Gathers s' p m
  unfolding do_step Turn.mark_read Turn.send
  still-gathers p m g = gathers-still s (joined s q) f begins p m g

  job-gathers : Gathers s' q ℓ
  unfolding do_step Turn.mark_read Turn.send top_of
  job-gathers = (front, d.calm, ((λ e. omega (arith, (joins-front s f q d.rest d.front).0)), d.source, d.full))

  counted-kept : counted s' ≡ counted s
  unfolding do_step Turn.mark_read Turn.send counted drawn
  counted-kept = counted-still s (joined s q) f begins

  pending-kept : (p m : ℕ) → pending s' p m ≡ pending s p m
  unfolding do_step Turn.mark_read Turn.send pending
  pending-kept p m = ap (λ qs. queued qs p + bit (passed_by s.partition s.request p m)) (undrawn-still s (joined s q) f begins)

  marks : s'.mark ≡ put (cell s.shape q ℓ i) 0 s.mark
  unfolding do_step Turn.mark_read Turn.send
  marks = refl

  reads_kept : Reads s'
  unfolding do_step Turn.send Turn.mark_read
  reads_kept p m hp hm e = ⊎_elim (λ g. inl (still-gathers p m g)) (λ k. go (ℕ_discrete p q) (ℕ_discrete m ℓ) k) (f.reads p m hp hm (rw counted-kept at e))
    where
      old : ((p ≡ q) × (m ≡ ℓ) → ⊥) → reads_of s.shape s.mark p m ≤ counted s p % 2 ^ m + pending s p m → Gathers s' p m ⊎ (reads_of s.shape s'.mark p m ≤ counted s' p % 2 ^ m + pending s' p m)
      old n k = inr (omega (arith, ap (λ x. reads_of s.shape x p m) marks, mark-same s.shape q ℓ i hℓ d.slot s.mark p m hm n, pending-kept p m, ap (λ x. x p % 2 ^ m) counted-kept))

      go : Dec (p ≡ q) → Dec (m ≡ ℓ) → reads_of s.shape s.mark p m ≤ counted s p % 2 ^ m + pending s p m → Gathers s' p m ⊎ (reads_of s.shape s'.mark p m ≤ counted s' p % 2 ^ m + pending s' p m)
      go (no a) b k = old (λ w. a w.0) k
      go (yes a) (no b) k = old (λ w. b w.1) k
      go (yes a) (yes b) k = inl (subst (λ x. Gathers s' x m) (sym a) (subst (λ x. Gathers s' q x) (sym b) job-gathers))

  unread-kept : Unread s'
  unfolding do_step Turn.mark_read Turn.send
  unread-kept b m j hx e = go (ℕ_discrete (cell s.shape (s.partition b) m j) (cell s.shape q ℓ i))
    where
      y : (m < s.shape.L) × (j < slots m)
      y = place-lt s.shape.L m j (s.place b) (f.range.places b hx) e

      go : Dec (cell s.shape (s.partition b) m j ≡ cell s.shape q ℓ i) → (put (cell s.shape q ℓ i) 0 s.mark (cell s.shape (s.partition b) m j) ≡ 1) ⊎ (Own s b m ⊎ Gathers s' (s.partition b) m)
      go (yes n) = let z = cell-inj s.shape (s.partition b) q m ℓ j i y.0 hℓ y.1 d.slot n in inr (inr (subst (λ x. Gathers s' x m) (sym z.0) (subst (λ x. Gathers s' q x) (sym z.1) job-gathers)))
      go (no n) = ⊎_elim (λ k. inl (put_other (cell s.shape q ℓ i) 0 s.mark (cell s.shape (s.partition b) m j) n ∙ k)) (λ k. inr (⊎_elim inl (λ g. inr (still-gathers (s.partition b) m g)) k)) (f.unread b m j hx e)

  -- what the job has gone over is read: what it had before, what was no longer unread, and the slot that it reads now
  scanned-kept : Scanned s'
  unfolding do_step Turn.mark_read Turn.send Blocks.is_unread
  scanned-kept p m j a z l hj c = go (dec_lt (offset m j) s.cursor) (dec_lt (offset m j) (offset ℓ i))
    where
      v : p ≡ q
      v = front-eq p q s.queue d.rest d.front a

      hm : m < s.shape.L
      hm = omega (arith, l.1, top_lt s.shape (s.counter p) (joined s q) (levels-pos s.shape f.range.shape))

      mark-le : s.mark (cell s.shape p m j) ≤ 1
      mark-le = f.range.marks p m j (all-mem f.range.queue p (front-mem s.queue p a)) hm hj

      -- a job that has gone over something has begun
      begun : offset m j < s.cursor → s.begun ≡ 0 → ⊥
      begun x e = omega (arith, (f.unbegun e).0)

      go : Dec (offset m j < s.cursor) → Dec (offset m j < offset ℓ i) → put (cell s.shape q ℓ i) 0 s.mark (cell s.shape p m j) ≡ 0
      go (yes x) _ = still_read (cell s.shape q ℓ i) (cell s.shape p m j) s.mark
          (f.scanned p m j a z (begun x, subst (λ n. m ≤ top_level s.shape (s.counter p) n) (joined-begun s f.running q front (begun x)) l.1, l.2) hj x)
      go (no x) (yes y) =
          let u : Blocks.is_unread s q m j ≡ false = d.next m j (unfold top_of in (rw v at l.1)) (rw v at l.2) hj (omega arith) y in
          let u' : s.mark (cell s.shape q m j) ≡ 1 → ⊥ = eqb-false (s.mark (cell s.shape q m j)) 1 u in
          let same : s.mark (cell s.shape p m j) ≡ s.mark (cell s.shape q m j) = ap (λ r. s.mark (cell s.shape r m j)) v in
          let none : s.mark (cell s.shape p m j) ≡ 0 = zero_of u' same in
          still_read (cell s.shape q ℓ i) (cell s.shape p m j) s.mark none
        where
          zero_of : (s.mark (cell s.shape q m j) ≡ 1 → ⊥) → s.mark (cell s.shape p m j) ≡ s.mark (cell s.shape q m j) → s.mark (cell s.shape p m j) ≡ 0
          zero_of n e = omega (arith, mark-le)
      go (no x) (no y) =
          let e : offset m j ≡ offset ℓ i = omega arith in
          let same : cell s.shape p m j ≡ cell s.shape q ℓ i = offset-cell s.shape p m j (offset ℓ i) e ∙ ap (λ r. cell s.shape r 0 (offset ℓ i)) v ∙ sym (offset-cell s.shape q ℓ i (offset ℓ i) refl) in
          ap (put (cell s.shape q ℓ i) 0 s.mark) same ∙ put_same (cell s.shape q ℓ i) 0 s.mark

  apart-kept : Apart s'.outstanding
  unfolding do_step Turn.mark_read Turn.send
  apart-kept = apart_snoc (cmd read q ℓ i) f.apart (read-apart s f q ℓ i (job-unread s f q ℓ i d) (λ c a w. a.busy d.calm))

  commands-kept : Commands s'
  unfolding do_step Turn.mark_read Turn.send
  commands-kept = all_append
      (all_map (λ c k. ⊎_elim
      (λ a. inl (record { kind = a.kind; is_read = still_read (cell s.shape q ℓ i) (cell s.shape c.partition c.level c.slot) s.mark a.is_read; full = a.full; whose = ⊎_elim inl (λ g. inr (still-gathers c.partition c.level g)) a.whose }))
      (λ a. absurd (a.busy d.calm)) k) f.commands)
      (cons (inl (record { kind = refl; is_read = put_same (cell s.shape q ℓ i) 0 s.mark; full = d.full; whose = inr job-gathers })) nil)

  -- where a request is not held, its block's slot has been read before, by it or for the job
  not_own : (r : Request) → s.request ≡ some r → Request.held r ≡ false → q ≡ s.partition r.block → ¬ (s.place r.block ≡ stored ℓ i)
  not_own r e k w p =
      let z = behind-read s f r ℓ i e k (d.behind r e k) p in
      omega (arith, sym (job-unread s f q ℓ i d) ∙ ap (λ x. s.mark (cell s.shape x ℓ i)) w ∙ z)

  -- the level read is a source, and sources stay
  source-same : (p m : ℕ) → Request.is_source s p m ≡ Request.is_source s' p m
  unfolding do_step Turn.mark_read Turn.send Request.is_source top_of joined
  source-same p m = sym (source-still s (joined s q) f begins p m)

  other : (m : ℕ) (x : Request) → Request.is_source s' (s.partition x.block) m ≡ false → ¬ ((s.partition x.block ≡ q) × (m ≡ ℓ))
  unfolding do_step Turn.mark_read Turn.send
  other m x n w = true≢false (sym (ap (λ p. Request.is_source s p m) w.0 ∙ ap (Request.is_source s q) w.1 ∙ source_is s q ℓ front d.source d.full) ∙ source-same (s.partition x.block) m ∙ n)

  pub job-read-kept : InRange s' → Reached s'
  unfolding do_step Turn.mark_read Turn.send stored_at Live.stored_in Request.held
  job-read-kept range = record {
    range = range;
    waiting = f.waiting;
    orders = rw counted-kept f.orders;
    items = rw counted-kept (read-items s f (cell s.shape q ℓ i));
    agree = rw counted-kept f.agree;
    room = f.room;
    full = f.full;
    taken = f.taken;
    begun = λ n. absurd (n d.calm);
    running = running-still s (joined s q) f begins;
    unbegun = λ e. absurd (omega (arith, (joins-front s f q d.rest d.front).0));
    reads = reads_kept;
    unheld = f.unheld;
    released = λ x e k. ⊎_elim inl (λ a. inr (alone-still s (joined s q) f begins (s.partition x.block) a)) (f.released x e k);
    unworn = λ x e k m l hm full n. omega (arith, mark-same s.shape q ℓ i hℓ d.slot s.mark (s.partition x.block) m hm (λ w. other m x n w), f.unworn x e k m l hm full (source-same (s.partition x.block) m ∙ n));
    unawaited = λ x e k. drop-snoc x.awaits s.outstanding (cmd read q ℓ i) (all_map (λ c a w. (still-gathers (s.partition x.block) c.level (a w).0, (a w).1)) (f.unawaited x e k)) (λ w. (rw (← w) job-gathers, λ p. not_own x e k w p));
    unread = unread-kept;
    fetched = λ r m j e p l. still_read (cell s.shape q ℓ i) (cell s.shape (s.partition r.block) m j) s.mark (f.fetched r m j e p l);
    scanned = scanned-kept;
    apart = apart-kept;
    commands = commands-kept;
    tidy = record {
      partitions = f.tidy.partitions;
      places = f.tidy.places;
      counters = f.tidy.counters;
      marked = λ c n. rw counted-kept (f.tidy.marked c (λ z. n (still_read (cell s.shape q ℓ i) c s.mark z)));
      held = f.tidy.held;
      whole = f.tidy.whole;
    };
  }
