-- A request that is accepted keeps the invariant.
use Rattle.std.specs.Prelude.{◌≡◌, List, ℕ, ◌≤◌}
use Rattle.std.proofs.Common.{ap, sym, ◌∙◌, inl, inr, ⊎_elim, true≢false, arith}
use Rattle.std.proofs.Math.Option.{none, some}
use Rattle.lists.specs.All.{all_map}
use Rattle.lists.specs.Search
use Rattle.rules.specs.Laws.Range.{InRange}
use Rattle.rules.specs.Request
use Rattle.rules.specs.State.{State, Request}
use Rattle.rules.specs.Form.Loading.{stored_at}
use Rattle.reachable.specs.Invariant.{Reached}
use Rattle.reachable.specs.Live
use Rattle.reachable.specs.Live.{counted, drawn, pending}
use Rattle.reachable.proofs.Pending.{passed_none, pending-more}

pub accept-kept : (s : State) → Reached s → s.request ≡ none → (k b : ℕ) (bs js : List ℕ) → InRange (Request.accept k b bs js s) → Reached (Request.accept k b bs js s)
unfolding Request.accept Request.held Search.is_none counted drawn stored_at Live.stored_in
accept-kept s f e k b bs js range = record {
  range = range;
  waiting = f.waiting;
  orders = f.orders;
  items = f.items;
  agree = f.agree;
  room = f.room;
  full = f.full;
  taken = f.taken;
  begun = f.begun;
  running = f.running;
  unbegun = f.unbegun;
  reads = λ p m hp hm l. ⊎_elim inl (λ n. inr (omega (arith, more p m))) (f.reads p m hp hm l);
  unheld = λ r w. inl (sym (ap (λ (x : Request). x.level) (first w)));
  released = λ r w k. absurd (true≢false (ap Request.held (first w) ∙ k));
  unworn = λ r w k. absurd (true≢false (ap Request.held (first w) ∙ k));
  unawaited = λ r w k. absurd (true≢false (ap Request.held (first w) ∙ k));
  unread = λ x m j hx y. ⊎_elim inl (λ n. ⊎_elim (λ o. absurd (no-request o.0 o.1.0)) (λ n. inr (inr n)) n) (f.unread x m j hx y);
  fetched = λ r m j w p l. absurd (omega (arith, l, ap (λ (x : Request). x.level) (first w)));
  scanned = f.scanned;
  apart = f.apart;
  commands = all_map (λ c n. ⊎_elim
      (λ a. inl (record { kind = a.kind; is_read = a.is_read; full = a.full; whose = ⊎_elim (λ p. absurd (true≢false (sym p ∙ passed_none s.partition s.request c.partition c.level e))) inr a.whose }))
      inr n) f.commands;
  tidy = record { partitions = f.tidy.partitions; places = f.tidy.places; counters = f.tidy.counters; marked = f.tidy.marked; held = f.tidy.held; whole = f.tidy.whole };
}
  where
    more : (p m : ℕ) → pending s p m ≤ pending (Request.accept k b bs js s) p m
    more p m = pending-more s (Request.accept k b bs js s) p m (omega arith) (λ y. absurd (true≢false (sym y ∙ passed_none s.partition s.request p m e)))

    first : {x y : Request} → some x ≡ some y → x ≡ y
    first w = cc

    no-request : (r : Request) → s.request ≡ some r → ⊥
    no-request r w = let z : ◌≡◌ {A = ℕ} 0 1 = cc in omega arith
