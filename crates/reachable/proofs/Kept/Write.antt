-- A job's further write keeps the invariant.
use Rattle.std.specs.Prelude.{◌≡◌, refl, List, ℕ, suc, ◌%◌, ◌^◌, ◌≤◌, ◌<◌}
use Rattle.std.proofs.Math.Path.{ap, fun_ext}
use Rattle.std.proofs.Math.Logic.{inl, inr, ⊎_elim}
use Rattle.std.proofs.Common.{arith}
use borrow.Author.Tests.{ne_eqb}
use Rattle.lists.specs.All.{nil, cons, all_append, all_map, drop-snoc}
use Rattle.lists.specs.Distinct.{Mem}
use Rattle.rules.specs.Jobs.{queued, joined, top_of}
use Rattle.rules.specs.Laws.Range.{InRange}
use Rattle.rules.specs.Levels.{written_levels}
use Rattle.rules.specs.Request
use Rattle.rules.specs.Shape.{slots}
use Rattle.rules.specs.State.{State, write, cmd}
use Rattle.rules.specs.Turn
use Rattle.rules.specs.Turn.{write_next, do_step}
use Rattle.reachable.proofs.Consequences.{reading-away, busy-begun, next-write}
use Rattle.reachable.proofs.Decided.{Writes}
use Rattle.rules.specs.Form.Loading.{stored_at}
use Rattle.reachable.specs.Invariant.{Reached, Reads, Commands}
use Rattle.reachable.specs.Live
use Rattle.reachable.specs.Live.{counted, drawn, pending, write_number}
use Rattle.reachable.proofs.Live.{front-is}
use Rattle.reachable.proofs.Outstanding.{apart_snoc}
use Rattle.reachable.proofs.Pending.{pending-more, undrawn-busy}
use Rattle.reachable.specs.Terms.{Apart}
use Rattle.reachable.proofs.Writes.{number_lt}

module _ (s : State) (f : Reached s) (q t i : ℕ) (d : Writes s q t i) (js : List ℕ) where
  abbrev s' : State
  s' = do_step (write_next q t i) js s

  next : Mem t (written_levels s.shape (s.counter q) s.begun) × (i < slots t) × (write_number (written_levels s.shape (s.counter q) s.begun) t i ≡ s.sent)
  next = next-write s f q t i d

  pub counted-kept : counted s' ≡ counted s
  unfolding do_step Turn.send counted drawn
  counted-kept = fun_ext (λ p. rw (ne_eqb s.sent 0 d.busy, ne_eqb (suc s.sent) 0 (omega arith)))

  reads_kept : Reads s'
  unfolding do_step Turn.send
  reads_kept p m hp hm e = ⊎_elim (λ g. absurd (d.busy g.1)) (λ k. inr (omega (arith, more, ap (λ c. c p % 2 ^ m) counted-kept))) (f.reads p m hp hm (rw counted-kept at e))
    where
      more : pending s p m ≤ pending s' p m
      more = pending-more s s' p m (omega (arith, ap (λ qs. queued qs p) (undrawn-busy s.queue s.begun (suc s.sent) s.sent (λ z. omega arith) d.busy))) (λ k. k)

  apart-kept : Apart s'.outstanding
  unfolding do_step Turn.send
  apart-kept = apart_snoc (cmd write q t i) f.apart (all_map (λ c k w. ⊎_elim
      (λ a. reading-away s f c a d.busy (rw (w.0, d.front) (front-is q d.rest)))
      (λ a. omega (arith, rw (w.0, w.1, w.2) at a.slot, next.2)) k) f.commands)

  commands-kept : Commands s'
  unfolding do_step Turn.send
  commands-kept = all_append
      (all_map (λ c k. ⊎_elim
      (λ a. inl (record { kind = a.kind; is_read = a.is_read; full = a.full; whose = ⊎_elim inl (λ n. absurd (d.busy n.1)) a.whose }))
      (λ a. inr (record { kind = a.kind; front = a.front; busy = λ e. omega arith; goal = a.goal; slot = omega (arith, a.slot) })) k) f.commands)
      (cons (inr (record { kind = refl; front = rw d.front (front-is q d.rest); busy = λ e. omega arith; goal = next.0; slot = omega (arith, next.2) })) nil)

  pub write_kept : InRange s' → Reached s'
  unfolding do_step Turn.send stored_at Live.stored_in Request.held Request.is_source top_of joined
  write_kept range = record {
    range = range;
    waiting = f.waiting;
    orders = rw counted-kept f.orders;
    items = rw counted-kept f.items;
    agree = rw counted-kept f.agree;
    room = f.room;
    full = f.full;
    taken = f.taken;
    begun = λ n. (q, d.rest, (d.front, omega (arith, next.2, number_lt (written_levels s.shape (s.counter q) s.begun) t i next.0 next.1)));
    running = f.running;
    unbegun = λ e. absurd (busy-begun s f d.busy e);
    reads = reads_kept;
    unheld = f.unheld;
    released = λ x e k. ⊎_elim inl (λ a. absurd (d.busy a.2)) (f.released x e k);
    unworn = λ x e k ℓ l hℓ full n. f.unworn x e k ℓ l hℓ full n;
    unawaited = λ x e k. drop-snoc x.awaits s.outstanding (cmd write q t i) (all_map (λ c a w. absurd (d.busy (a w).0.1)) (f.unawaited x e k))
        (λ w. absurd (⊎_elim (λ n. n (rw (← w, d.front) (inl refl))) (λ a. d.busy a.2) (f.released x e k)));
    unread = λ b m j hx e. ⊎_elim inl (λ k. ⊎_elim (λ o. inr (inl o)) (λ n. absurd (d.busy n.1)) k) (f.unread b m j hx e);
    fetched = f.fetched;
    scanned = λ p m j a z. absurd (omega arith);
    apart = apart-kept;
    commands = commands-kept;
    tidy = record {
      partitions = f.tidy.partitions;
      places = f.tidy.places;
      counters = f.tidy.counters;
      marked = rw counted-kept f.tidy.marked;
      held = f.tidy.held;
      whole = f.tidy.whole;
    };
  }
