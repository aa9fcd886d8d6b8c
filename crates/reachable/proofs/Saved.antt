-- A state that calls left and that is at rest can be saved, and what its form brings has the invariant again.
use Rattle.std.specs.Prelude.{◌≡◌, refl, true, List, [], ◌∷◌, ℕ, zero, suc, ◌<◌, replicate}
use Rattle.std.proofs.Common.{ap, sym, ◌∙◌, ⊎_elim, true≢false, arith, eqb-true}
use Rattle.std.proofs.Math.Option.{Option, none, some}
use Rattle.std.proofs.Math.ListN.{length, length-replicate}
use Rattle.lists.specs.All.{IfSome, find-all}
use Rattle.lists.specs.Search
use Rattle.lists.specs.Tests.{every-yes}
use Rattle.rules.specs.Form.Loading.{stored_at, bytes_in, of_block}
use Rattle.rules.specs.Form.Payload.{Waiter, waiters}
use Rattle.rules.specs.Jobs.{joined, top_of}
use Rattle.rules.proofs.Laws.Form.Back.{contents_of, orders_in, over-in, agrees}
use Rattle.rules.specs.Laws.Form.Saveable.{Saveable, over}
use Rattle.rules.proofs.Laws.Form.Tables.{waiters-all}
use Rattle.rules.specs.Laws.Range.{InRange}
use Rattle.rules.specs.Levels.{filled}
use Rattle.rules.specs.Questions.{at_rest}
use Rattle.rules.specs.Request
use Rattle.rules.specs.Shape.{cell, slots}
use Rattle.rules.specs.State.{State, Command, Request, stored}
use Rattle.reachable.proofs.Consequences.{untouched}
use Rattle.reachable.specs.Invariant.{Reached, Own}
use Rattle.reachable.specs.Live
use Rattle.reachable.specs.Live.{counted, drawn, pending}
use Rattle.reachable.proofs.Live.{counted-calm}

-- "While a request is in hand, a command outstanding or a job begun": none is
pub record Rests (s : State) : Type 0 where
  pub idle : s.request ≡ none
  pub quiet : s.outstanding ≡ []
  pub unbegun : s.begun ≡ 0

pub rest-facts : (s : State) → at_rest s ≡ true → Rests s
unfolding at_rest
rest-facts s e =
    let y = every-yes _ e in
    record {
      idle = none_of s.request y.0;
      quiet = nil-of s.outstanding (eqb-true (length s.outstanding) 0 y.1.0);
      unbegun = eqb-true s.begun 0 y.1.1.0;
    }
  where
    none_of : (o : Option Request) → Search.is_none o ≡ true → o ≡ none
    none_of none k = refl
    none_of (some r) k = absurd (true≢false (sym (unfold Search.is_none in k)))

    nil-of : (cs : List Command) → length cs ≡ 0 → cs ≡ []
    nil-of [] k = refl
    nil-of (c ∷ cs) k = absurd (omega arith)

module _ (s : State) (f : Reached s) (r : Rests s) where
  calm : (q ℓ : ℕ) → filled (counted s q) ℓ ≡ filled (s.counter q) ℓ
  calm q ℓ = ap (λ c. filled c ℓ) (counted-calm s q (f.unbegun r.unbegun).1)

  -- no block's slot was read
  unread-all : (b ℓ i : ℕ) → b < s.shape.N → s.place b ≡ stored ℓ i → s.mark (cell s.shape (s.partition b) ℓ i) ≡ 1
  unread-all b ℓ i hb e = ⊎_elim (λ k. k) (λ o. absurd (own o)) (untouched s f b ℓ i hb e r.unbegun)
    where
      own : Own s b ℓ → ⊥
      own o = let z : none ≡ some o.0 = sym r.idle ∙ o.1.0 in let v : ◌≡◌ {A = ℕ} 0 1 = cc in omega arith

  block_held : (c : ℕ) → ¬ (s.holds c ≡ 0) → (v : ℕ) → s.holds c ≡ v → (b : ℕ) × (ℓ : ℕ) × (i : ℕ) × ((b < s.shape.N) × (s.place b ≡ stored ℓ i) × (c ≡ cell s.shape (s.partition b) ℓ i))
  block_held c n zero e = absurd (n e)
  block_held c n (suc b) e =
      let d = f.tidy.held c n in
      let e' : s.holds (cell s.shape d.part d.level d.slot) ≡ suc b = ap s.holds (sym d.is_cell) ∙ e in
      let a = f.agree.held d.part d.level d.slot b d.in_parts d.in_levels d.in_slots e' in
      let l = f.range.holds d.part d.level d.slot d.in_parts d.in_levels d.in_slots in
      (b, d.level, d.slot, (omega (arith, e'), a.1, d.is_cell ∙ ap (λ p. cell s.shape p d.level d.slot) (sym a.0)))

  pub saveable : Saveable s
  saveable = record {
    range = f.range;
    idle = r.idle;
    quiet = r.quiet;
    unbegun = r.unbegun;
    unscanned = (f.unbegun r.unbegun).0;
    unsent = (f.unbegun r.unbegun).1;
    once = f.waiting.once;
    absent = f.waiting.absent;
    whole = λ b m. f.tidy.whole b;
    each = λ q ℓ i hq hℓ e hi. f.orders.each q ℓ i hq hℓ (calm q ℓ ∙ e) hi;
    placed = λ b ℓ i hb e. let a = f.agree.placed b ℓ i hb e in (sym (calm (s.partition b) ℓ) ∙ a.0, unread-all b ℓ i hb e, a.1);
    room = f.room;
    partitions = f.tidy.partitions;
    places = f.tidy.places;
    counters = f.tidy.counters;
    marked = λ c n. let d = f.tidy.marked c n in record {
      part = d.part;
      level = d.level;
      slot = d.slot;
      in_parts = d.in_parts;
      in_levels = d.in_levels;
      is_filled = sym (calm d.part d.level) ∙ d.is_filled;
      in_slots = d.in_slots;
      is_cell = d.is_cell;
    };
    held = λ c n. block_held c n (s.holds c) refl;
  }

-- Other contents and other orders, which are the same in live levels
pub over-kept : (s : State) → Reached s → (y : ℕ → List ℕ) (o : ℕ → ℕ) → ((b : ℕ) → length (y b) ≡ s.shape.B)
    → ((q ℓ k : ℕ) → q < s.shape.P → ℓ < s.shape.L → filled (counted s q) ℓ ≡ true → k < slots ℓ → o (cell s.shape q ℓ k) ≡ s.order (cell s.shape q ℓ k))
    → InRange (over y o s) → Reached (over y o s)
unfolding counted drawn stored_at Live.stored_in pending Request.held Request.is_source top_of joined
over-kept s f y o whole same range = record {
  range = range;
  waiting = f.waiting;
  orders = record {
    one = λ q ℓ j k hq hℓ e hj hk z. f.orders.one q ℓ j k hq hℓ e hj hk (sym (same q ℓ j hq hℓ e hj) ∙ z ∙ same q ℓ k hq hℓ e hk);
    each = λ q ℓ i hq hℓ e hi. let x = f.orders.each q ℓ i hq hℓ e hi in (x.0, (x.1.0, same q ℓ x.0 hq hℓ e x.1.0 ∙ x.1.1));
  };
  items = λ q ℓ hq hℓ e. let x = f.items q ℓ hq hℓ e in (
    x.0,
    record {
      few = x.1.few;
      blocks = λ k l hk z. ap (λ i. s.mark (cell s.shape q ℓ i)) (same q ℓ k hq hℓ e hk) ∙ x.1.blocks k l hk (ap (λ i. s.holds (cell s.shape q ℓ i)) (sym (same q ℓ k hq hℓ e hk)) ∙ z);
      dummies = λ k l hk. ap (λ i. s.holds (cell s.shape q ℓ i)) (same q ℓ k hq hℓ e hk) ∙ x.1.dummies k l hk;
    },
  );
  agree = f.agree;
  room = f.room;
  full = f.full;
  taken = f.taken;
  begun = f.begun;
  running = f.running;
  unbegun = f.unbegun;
  reads = f.reads;
  unheld = f.unheld;
  released = f.released;
  unworn = f.unworn;
  unawaited = f.unawaited;
  unread = f.unread;
  fetched = f.fetched;
  scanned = f.scanned;
  apart = f.apart;
  commands = f.commands;
  tidy = record { partitions = f.tidy.partitions; places = f.tidy.places; counters = f.tidy.counters; marked = f.tidy.marked; held = f.tidy.held; whole = whole };
}

module _ (s : State) (f : Reached s) (r : Rests s) where
  abbrev k : Saveable s
  k = saveable s f r

  contents-whole : (b : ℕ) → length (contents_of s k b) ≡ s.shape.B
  unfolding of_block bytes_in
  contents-whole b = go (of_block (waiters s.bytes 0 s.waiting) b) (find-all _ (waiters-all s.bytes (λ r. length r.bytes ≡ s.shape.B) s.waiting 0 (λ x a m l u. f.tidy.whole x)))
    where
      go : (o : Option Waiter) → IfSome (λ r. length r.bytes ≡ s.shape.B) o → length (bytes_in (replicate s.shape.B 0) o) ≡ s.shape.B
      go none h = length-replicate s.shape.B 0
      go (some r) h = h

  pub loaded-kept : Reached (over (contents_of s k) (orders_in s k) s)
  loaded-kept = over-kept s f (contents_of s k) (orders_in s k) contents-whole
      (λ q ℓ j hq hℓ e hj. (agrees s k).orders q ℓ j hq hℓ (sym (calm s f r q ℓ) ∙ e) hj) (over-in s k)
