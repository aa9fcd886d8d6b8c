-- A completion keeps the invariant; the last write of a job ends it.
use Rattle.std.specs.Prelude.{◌≡◌, ◌⊎◌, Bool, List, [], ◌∷◌, ℕ, ◌%◌, ◌^◌, ◌≤◌, eqb, length, if◌then◌else◌}
use Rattle.std.proofs.Math.Path.{refl, ap, sym, fun_ext}
use Rattle.std.proofs.Common.{◌∙◌, subst, true≢false, arith, eq-eqb}
use Rattle.std.proofs.Math.Logic.{inl, inr, ⊎_elim}
use Rattle.std.proofs.Math.Bool.{true, false}
use Rattle.std.proofs.Math.Option.{Option, none, some, map}
use Rattle.std.proofs.Math.Decide.{ℕ_discrete}
use Rattle.lists.specs.All.{All, all_map, all_without, all_both, drop-without}
use Rattle.lists.specs.Search.{without, first_left}
use Rattle.lists.specs.Tables.{put, put_same, put_other, put_has}
use Rattle.lists.specs.Members.{all-mem}
use Rattle.rules.specs.Completion
use Rattle.rules.specs.Laws.Range.{InRange}
use Rattle.rules.specs.Jobs.{queued, joined, top_of, leave_queue}
use Rattle.rules.specs.Levels.{grown, filled}
use Rattle.rules.specs.Request
use Rattle.rules.specs.Setters.{set_bytes, set_outstanding, set_request}
use Rattle.rules.specs.State.{State, Command, write, Request}
use Rattle.reachable.proofs.Consequences.{reading-away, busy-begun, done-why}
use Rattle.reachable.specs.Invariant.{Reached, Reading, Writing, Unawaited, Reads, Commands, Tidy}
use Rattle.reachable.specs.Live
use Rattle.rules.specs.Request.{is_front}
use Rattle.reachable.specs.Live.{counted, drawn, pending, undrawn}
use Rattle.reachable.proofs.Live.{counted-calm, counted-drawn, front-is, counted-other, front-eq, joined-begun, source-none, not-front}
use Rattle.reachable.proofs.Kept.Carry.{carry-kept}
use Rattle.rules.specs.Form.Loading.{stored_at}
use Rattle.reachable.proofs.Outstanding.{apart-without}
use Rattle.reachable.proofs.Pending.{pending-more, undrawn-rest, leave-queue-mem}
use Rattle.reachable.specs.Terms.{Apart}

-- A state that differs in its outstanding commands and in the contents of blocks: no other fact reads them
outside_kept : (s : State) → Reached s → (y : ℕ → List ℕ) → ((b : ℕ) → length (y b) ≡ s.shape.B) → (os : List Command) → Apart os → All (λ c. Reading s c ⊎ Writing s c) os → Unawaited (set_outstanding os s)
    → InRange (set_bytes y (set_outstanding os s)) → Reached (set_bytes y (set_outstanding os s))
unfolding counted drawn stored_at Live.stored_in pending Request.held Request.is_source top_of joined
outside_kept s f y whole os apart commands unawaited range = record {
  range = range;
  waiting = f.waiting;
  orders = f.orders;
  items = f.items;
  agree = f.agree;
  room = f.room;
  full = f.full;
  taken = f.taken;
  begun = f.begun;
  running = f.running;
  unbegun = f.unbegun;
  reads = f.reads;
  unheld = f.unheld;
  released = f.released;
  unworn = f.unworn;
  unawaited = unawaited;
  unread = f.unread;
  fetched = f.fetched;
  scanned = f.scanned;
  apart = apart;
  commands = commands;
  tidy = record { partitions = f.tidy.partitions; places = f.tidy.places; counters = f.tidy.counters; marked = f.tidy.marked; held = f.tidy.held; whole = whole };
}

-- A command completed: it is awaited no more
pub completed-kept : (s : State) → Reached s → (c : Command) → InRange (Completion.completed c s) → Reached (Completion.completed c s)
unfolding Completion.completed Request.held
completed-kept s f c range = go s.request refl range
  where
    os : List Command
    os = without (Completion.is_command c) s.outstanding

    apart : Apart os
    apart = apart-without (Completion.is_command c) f.apart

    commands : All (λ c. Reading s c ⊎ Writing s c) os
    commands = all_without (Completion.is_command c) f.commands

    go : (o : Option Request) → s.request ≡ o → InRange (set_outstanding os (set_request (map (Completion.awaits_less c s.outstanding) o) s))
        → Reached (set_outstanding os (set_request (map (Completion.awaits_less c s.outstanding) o) s))
    go none e range = subst (λ (o : Option Request). InRange (set_outstanding os (set_request o s)) → Reached (set_outstanding os (set_request o s))) e
        (outside_kept s f s.bytes f.tidy.whole os apart commands (λ r w. let z : ◌≡◌ {A = ℕ} 0 1 = cc in absurd (omega arith))) range
    go (some r) e range = carry-kept s f r e r.found (first_left (Completion.is_command c) r.awaits s.outstanding) os apart commands (f.unheld r e)
        (λ k. (f.released r e k, (f.unworn r e k, drop-without (Completion.is_command c) r.awaits s.outstanding (f.unawaited r e k)))) range

-- ..with the bytes that a read brings
pub bytes-kept : (s : State) → Reached s → (o : Option ℕ) (bs : List ℕ) → length bs ≡ s.shape.B → InRange (Completion.gather_bytes o bs s) → Reached (Completion.gather_bytes o bs s)
unfolding Completion.gather_bytes
bytes-kept s f none bs l range = f
bytes-kept s f (some b) bs l range = outside_kept s f (put b bs s.bytes) (λ x. put_has (λ v. length v ≡ s.shape.B) b bs s.bytes x l (f.tidy.whole x)) s.outstanding f.apart f.commands f.unawaited range

-- The end of a job
module _ (s : State) (f : Reached s) (q : ℕ) (rest : List ℕ) (front : s.queue ≡ q ∷ rest) (busy : s.sent ≡ 0 → ⊥)
    (quiet : All (λ (c : Command). eqb c.kind write ≡ false) s.outstanding) where
  abbrev e' : State
  e' = Completion.end_job q s

  same-jobs : joined s q ≡ s.begun
  same-jobs = joined-begun s f.running q (rw front (front-is q rest)) (busy-begun s f busy)

  pub counted-kept : counted e' ≡ counted s
  counted-kept = fun_ext (λ p. go p (ℕ_discrete p q))
    where
      go : (p : ℕ) → Dec (p ≡ q) → counted e' p ≡ counted s p
      go p (yes w) = unfold Completion.end_job in (counted-calm e' p refl ∙ ap (put q (grown s.shape (s.counter q) (joined s q)) s.counter) w ∙ put_same q (grown s.shape (s.counter q) (joined s q)) s.counter
          ∙ ap (grown s.shape (s.counter q)) same-jobs ∙ sym (ap (counted s) w ∙ counted-drawn s q (rw front (front-is q rest)) busy))
      go p (no w) = unfold Completion.end_job in (counted-calm e' p refl ∙ put_other q (grown s.shape (s.counter q) (joined s q)) s.counter p w ∙ sym (counted-other s p (other p w)))
        where
          other : (p : ℕ) → ¬ (p ≡ q) → is_front s.queue p ≡ false
          other p w = by (is_front s.queue p) refl
            where
              by : (t : Bool) → is_front s.queue p ≡ t → is_front s.queue p ≡ false
              by true k = absurd (w (front-eq p q s.queue rest front k))
              by false k = k

  left_over : undrawn s.queue s.begun s.sent ≡ leave_queue q (joined s q) s.queue
  left_over = ap (λ qs. undrawn qs s.begun s.sent) front ∙ undrawn-rest q rest s.begun s.sent busy ∙ ap (leave_queue q s.begun) (sym front) ∙ ap (λ j. leave_queue q j s.queue) (sym same-jobs)

  reads_kept : Reads e'
  unfolding Completion.end_job undrawn
  reads_kept p m hp hm e = ⊎_elim (λ g. absurd (busy g.1)) (λ k. inr (omega (arith, more, ap (λ c. c p % 2 ^ m) counted-kept))) (f.reads p m hp hm (rw counted-kept at e))
    where
      more : pending s p m ≤ pending e' p m
      more = pending-more s e' p m (omega (arith, ap (λ qs. queued qs p) left_over)) (λ k. k)

  -- an outstanding read is the request's, of another partition
  reading-still : (c : Command) → Reading s c → Reading e' c
  unfolding Completion.end_job
  reading-still c a = record {
    kind = a.kind;
    is_read = a.is_read;
    full = ap (λ n. filled n c.level) (put_other q (grown s.shape (s.counter q) (joined s q)) s.counter c.partition other) ∙ a.full;
    whose = ⊎_elim inl (λ n. absurd (busy n.1)) a.whose;
  }
    where
      other : ¬ (c.partition ≡ q)
      other w = reading-away s f c a busy (rw (w, front) (front-is q rest))

  commands-kept : Commands e'
  unfolding Completion.end_job
  commands-kept = all_map (λ c k. ⊎_elim (λ a. inl (reading-still c a)) (λ a. absurd (true≢false (sym (eq-eqb c.kind write a.kind) ∙ k.1))) k.0) (all_both f.commands quiet)

  -- the job that ends is not of the partition of a request that is not held
  other : (x : Request) → s.request ≡ some x → Request.held x ≡ false → ¬ (s.partition x.block ≡ q)
  other x e k w = ⊎_elim (λ n. n (rw (front, w) (inl refl))) (λ a. busy a.2) (f.released x e k)

  tidy-kept : Tidy e'
  unfolding Completion.end_job Request.held
  tidy-kept = record {
    partitions = f.tidy.partitions;
    places = f.tidy.places;
    counters = λ p l. put_other q (grown s.shape (s.counter q) (joined s q)) s.counter p (λ w. omega (arith, w, all-mem f.range.queue q (rw front (inl refl)))) ∙ f.tidy.counters p l;
    marked = rw counted-kept f.tidy.marked;
    held = f.tidy.held;
    whole = f.tidy.whole;
  }

  end_kept : InRange e' → Reached e'
  unfolding Completion.end_job stored_at Live.stored_in
  end_kept range = record {
    range = range;
    waiting = f.waiting;
    orders = rw counted-kept f.orders;
    items = rw counted-kept f.items;
    agree = rw counted-kept f.agree;
    room = f.room;
    full = f.full;
    taken = f.taken;
    begun = λ n. absurd (n refl);
    running = λ n. absurd (n refl);
    unbegun = λ e. (refl, refl);
    reads = reads_kept;
    unheld = f.unheld;
    released = λ x e k. ⊎_elim (λ n. inl (λ m. n (leave-queue-mem (s.partition x.block) q (joined s q) s.queue m))) (λ a. absurd (busy a.2)) (f.released x e k);
    unworn = λ x e k ℓ l hℓ full n. f.unworn x e k ℓ l hℓ (rw (put_other q (grown s.shape (s.counter q) (joined s q)) s.counter (s.partition x.block) (other x e k)) at full) (⊎_elim (λ m. source-none s (s.partition x.block) ℓ (not-front s.queue (s.partition x.block) m)) (λ a. absurd (busy a.2)) (f.released x e k));
    unawaited = λ x e k. all_map (λ c a w. absurd (busy (a w).0.1)) (f.unawaited x e k);
    unread = λ b m j hx e. ⊎_elim inl (λ k. ⊎_elim (λ o. inr (inl o)) (λ n. absurd (busy n.1)) k) (f.unread b m j hx e);
    fetched = f.fetched;
    scanned = λ p m j a z l hj c. absurd (omega arith);
    apart = f.apart;
    commands = commands-kept;
    tidy = tidy-kept;
  }

pub finish_job-kept : (s : State) → Reached s → (l : List ℕ) → s.queue ≡ l → InRange (Completion.finish_job l s) → Reached (Completion.finish_job l s)
unfolding Completion.finish_job
finish_job-kept s f [] e range = f
finish_job-kept s f (q ∷ l) e range = go (Completion.job_done s q) refl range
  where
    go : (t : Bool) → Completion.job_done s q ≡ t → InRange (if t then Completion.end_job q s else s) → Reached (if t then Completion.end_job q s else s)
    go true k range = let w = done-why s f q l e k in end_kept s f q l e w.1 w.2 range
    go false k range = f
