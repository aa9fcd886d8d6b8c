-- A state that differs in what the request in hand carries, but not in its block and its level, and in the outstanding commands.
use Rattle.std.specs.Prelude.{◌≡◌, refl, ◌⊎◌, List, ℕ, ◌+◌, ◌^◌, ◌≤◌, ◌<◌, drop}
use Rattle.std.proofs.Math.Path.{ap, subst}
use Rattle.std.proofs.Common.{sym, ◌∙◌, arith}
use Rattle.std.proofs.Math.Logic.{inl, inr, ⊎_elim}
use Rattle.std.proofs.Math.Bool.{true, false}
use Rattle.std.proofs.Math.Option.{Option, some}
use Rattle.lists.specs.All.{All, all_map}
use Rattle.lists.specs.Distinct.{Mem}
use Rattle.lists.specs.Lengths.{bit}
use Rattle.rules.specs.Blocks.{reads_of}
use Rattle.rules.specs.Laws.Range.{InRange}
use Rattle.rules.specs.Levels.{filled}
use Rattle.rules.specs.Jobs.{queued, joined, top_of}
use Rattle.rules.specs.Request.{held, is_source}
use Rattle.rules.specs.Setters.{set_request, set_outstanding}
use Rattle.rules.specs.Shape.{cell}
use Rattle.rules.specs.State.{State, Command, Request, Found, stored}
use Rattle.rules.specs.Form.Loading.{stored_at}
use Rattle.reachable.specs.Invariant.{Reached, Reading, Writing, Own, Aside}
use Rattle.reachable.specs.Live
use Rattle.reachable.specs.Live.{counted, drawn, pending, passed_by, undrawn, Alone}
use Rattle.reachable.specs.Terms.{Apart}

abbrev pub carrying : Option Found → ℕ → Request → Request
carrying x n r = record { kind = r.kind; block = r.block; bytes = r.bytes; next = r.next; evict = r.evict; level = r.level; found = x; awaits = n }

-- what is asked of a request that is not held
abbrev pub Loose : State → Request → ℕ → List Command → Type 0
Loose s r n os = ((¬ Mem (s.partition r.block) s.queue) ⊎ Alone s (s.partition r.block))
    × (((ℓ : ℕ) → r.level ≤ ℓ → ℓ < s.shape.L → filled (s.counter (s.partition r.block)) ℓ ≡ true → is_source s (s.partition r.block) ℓ ≡ false → reads_of s.shape s.mark (s.partition r.block) ℓ < 2 ^ ℓ)
    × All (Aside s r) (drop n os))

module _ (s : State) (f : Reached s) (r : Request) (in_hand : s.request ≡ some r) (x : Option Found) (n : ℕ) (os : List Command) (apart : Apart os)
    (commands : All (λ c. Reading s c ⊎ Writing s c) os) (sent : (r.level ≡ 0) ⊎ (held (carrying x n r) ≡ false)) (loose : held (carrying x n r) ≡ false → Loose s r n os) where
  abbrev s' : State
  s' = set_outstanding os (set_request (some (carrying x n r)) s)

  passed-same : (p m : ℕ) → passed_by s.partition s.request p m ≡ passed_by s.partition s'.request p m
  unfolding passed_by
  passed-same p m = ap (λ o. passed_by s.partition o p m) in_hand

  pending-same : (p m : ℕ) → pending s p m ≡ pending s' p m
  unfolding pending
  pending-same p m = ap (λ t. queued (undrawn s.queue s.begun s.sent) p + bit t) (passed-same p m)

  own_same : (b ℓ : ℕ) → Own s b ℓ → Own s' b ℓ
  own_same b ℓ o =
      let w : o.0 ≡ r = cc (o.1.0, in_hand) in
      (carrying x n r, (refl, sym (ap (λ (y : Request). y.block) w) ∙ o.1.1, omega (arith, o.1.2, ap (λ (y : Request). y.level) w)))

  reading-same : (c : Command) → Reading s c → Reading s' c
  reading-same c a = record { kind = a.kind; is_read = a.is_read; full = a.full; whose = ⊎_elim (λ k. inl (sym (passed-same c.partition c.level) ∙ k)) inr a.whose }

  the : (y : Request) → s'.request ≡ some y → carrying x n r ≡ y
  the y e = cc

  pub carry-kept : InRange s' → Reached s'
  unfolding counted drawn stored_at Live.stored_in is_source top_of joined
  carry-kept range = record {
    range = range;
    waiting = f.waiting;
    orders = f.orders;
    items = f.items;
    agree = f.agree;
    room = f.room;
    full = f.full;
    taken = f.taken;
    begun = f.begun;
    running = f.running;
    unbegun = f.unbegun;
    reads = λ p m hp hm e. ⊎_elim inl (λ k. inr (omega (arith, pending-same p m))) (f.reads p m hp hm e);
    unheld = λ y e. subst (λ (y : Request). (y.level ≡ 0) ⊎ (held y ≡ false)) (the y e) sent;
    released = λ y e. subst (λ (y : Request). held y ≡ false → (¬ Mem (s.partition y.block) s.queue) ⊎ Alone s (s.partition y.block)) (the y e) (λ k. (loose k).0);
    unworn = λ y e. subst (λ (y : Request). held y ≡ false → (ℓ : ℕ) → y.level ≤ ℓ → ℓ < s.shape.L → filled (s.counter (s.partition y.block)) ℓ ≡ true → is_source s (s.partition y.block) ℓ ≡ false → reads_of s.shape s.mark (s.partition y.block) ℓ < 2 ^ ℓ) (the y e) (λ k. (loose k).1.0);
    unawaited = λ y e. subst (λ (y : Request). held y ≡ false → All (Aside s y) (drop y.awaits os)) (the y e) (λ k. (loose k).1.1);
    unread = λ b m j hx e. ⊎_elim inl (λ k. inr (⊎_elim (λ o. inl (own_same b m o)) inr k)) (f.unread b m j hx e);
    fetched = λ y m j e. subst (λ (y : Request). s.place y.block ≡ stored m j → m < y.level → s.mark (cell s.shape (s.partition y.block) m j) ≡ 0) (the y e) (f.fetched r m j in_hand);
    scanned = f.scanned;
    apart = apart;
    commands = all_map (λ c k. ⊎_elim (λ a. inl (reading-same c a)) inr k) commands;
    tidy = record {
      partitions = f.tidy.partitions;
      places = f.tidy.places;
      counters = f.tidy.counters;
      marked = f.tidy.marked;
      held = f.tidy.held;
      whole = f.tidy.whole;
    };
  }
