-- Every accepted call leaves each number of the state in its range.
use Rattle.std.specs.Prelude.{◌≡◌, refl, true, List, ℕ, ◌-◌, ◌^◌, length, leb, ltb}
use Rattle.std.proofs.Math.Option.{Option, none, some}
use Rattle.std.proofs.Common.{eqb-true, eq-eqb, leb-true, le-leb, ltb-true, lt-ltb}
use Rattle.lists.specs.Tests.{and-true, and_l, and_r, every-yes, yes-every}
use Rattle.lists.specs.All.{IfSome, all_map, all_yes, yes-all, all-below, below_all}
use Rattle.rules.specs.Shape.{Shape, slots}
use Rattle.rules.specs.State.{State, Command, Place, nowhere, stored, Found, found_nowhere, found_cache, found_level, Request}
use Rattle.rules.specs.Ranges
use Rattle.rules.specs.Ranges.{in_range, ranges, others}
use Rattle.rules.specs.Laws.Waiting.{Waits}
use Rattle.rules.specs.Laws.Range.{CommandIn, FoundIn, InRange, JobsIn, PlaceIn, RequestIn}

place_in : (top : ℕ) (x : Place) → Ranges.range_place top x ≡ true → PlaceIn top x
unfolding Ranges.range_place
place_in top nowhere h = tt
place_in top (stored ℓ i) h = (ltb-true ℓ top (and_l (ltb ℓ top) (ltb i (slots ℓ)) h), ltb-true i (slots ℓ) (and_r (ltb ℓ top) (ltb i (slots ℓ)) h))

in_place_lem : (top : ℕ) (x : Place) → PlaceIn top x → Ranges.range_place top x ≡ true
unfolding Ranges.range_place
in_place_lem top nowhere h = refl
in_place_lem top (stored ℓ i) h = and-true (lt-ltb ℓ top h.0) (lt-ltb i (slots ℓ) h.1)

command-in : (h : Shape) (c : Command) → Ranges.range_command h c ≡ true → CommandIn h c
unfolding Ranges.range_command
command-in h c e = let y = every-yes _ e in record { kind = y.0; partition = ltb-true c.partition h.P y.1.0; level = ltb-true c.level h.L y.1.1.0; slot = ltb-true c.slot (slots c.level) y.1.1.1.0 }

in-command : (h : Shape) (c : Command) → CommandIn h c → Ranges.range_command h c ≡ true
unfolding Ranges.range_command
in-command h c k = yes-every _ (k.kind, (lt-ltb c.partition h.P k.partition, (lt-ltb c.level h.L k.level, (lt-ltb c.slot (slots c.level) k.slot, tt))))

found_in : (top : ℕ) (x : Option Found) → Ranges.range_found top x ≡ true → FoundIn top x
unfolding Ranges.range_found
found_in top none h = tt
found_in top (some found_nowhere) h = tt
found_in top (some found_cache) h = tt
found_in top (some (found_level ℓ)) h = ltb-true ℓ top h

in-found : (top : ℕ) (x : Option Found) → FoundIn top x → Ranges.range_found top x ≡ true
unfolding Ranges.range_found
in-found top none h = refl
in-found top (some found_nowhere) h = refl
in-found top (some found_cache) h = refl
in-found top (some (found_level ℓ)) h = lt-ltb ℓ top h

request-in : (h : Shape) (r : Option Request) → Ranges.range_request h r ≡ true → IfSome (RequestIn h) r
unfolding Ranges.range_request
request-in h none e = tt
request-in h (some r) e = let y = every-yes _ e in record {
  kind = y.0;
  block = ltb-true r.block h.N y.1.0;
  bytes = eqb-true _ _ y.1.1.0;
  next = ltb-true r.next h.P y.1.1.1.0;
  evict = ltb-true r.evict h.P y.1.1.1.1.0;
  level = leb-true r.level h.L y.1.1.1.1.1.0;
  found = found_in h.L r.found y.1.1.1.1.1.1.0;
  awaits = leb-true r.awaits h.W y.1.1.1.1.1.1.1.0;
}

in-request : (h : Shape) (r : Option Request) → IfSome (RequestIn h) r → Ranges.range_request h r ≡ true
unfolding Ranges.range_request
in-request h none k = refl
in-request h (some r) k = yes-every _ (k.kind, (lt-ltb r.block h.N k.block, (eq-eqb _ _ k.bytes, (lt-ltb r.next h.P k.next, (lt-ltb r.evict h.P k.evict, (le-leb r.level h.L k.level, (in-found h.L r.found k.found, (le-leb r.awaits h.W k.awaits, tt))))))))

jobs-in : (qs : List ℕ) (r : Option Request) → Ranges.queue_fits qs r ≡ true → JobsIn qs r
unfolding Ranges.queue_fits
jobs-in qs none e = leb-true (length qs) 64 e
jobs-in qs (some r) e = leb-true (length qs) 62 e

in-jobs : (qs : List ℕ) (r : Option Request) → JobsIn qs r → Ranges.queue_fits qs r ≡ true
unfolding Ranges.queue_fits
in-jobs qs none k = le-leb (length qs) 64 k
in-jobs qs (some r) k = le-leb (length qs) 62 k

cache-in : (e : ℕ) (xs : List ℕ) (r : Option Request) → Ranges.cache_fits e xs r ≡ true → Waits e xs r
unfolding Ranges.cache_fits
cache-in e xs none h = leb-true (length xs) e h
cache-in e xs (some r) h = (leb-true (length xs) e (and_l (leb (length xs) e) (ltb (length (others xs r.block)) e) h), ltb-true (length (others xs r.block)) e (and_r (leb (length xs) e) (ltb (length (others xs r.block)) e) h))

in-cache : (e : ℕ) (xs : List ℕ) (r : Option Request) → Waits e xs r → Ranges.cache_fits e xs r ≡ true
unfolding Ranges.cache_fits
in-cache e xs none k = le-leb (length xs) e k
in-cache e xs (some r) k = and-true (le-leb (length xs) e k.0) (lt-ltb (length (others xs r.block)) e k.1)

pub range-facts : (s : State) → in_range s ≡ true → InRange s
unfolding in_range ranges Ranges.each_cell
range-facts s e = let h = s.shape in let y = every-yes (ranges s) e in record {
  shape = y.0;
  partitions = λ b k. ltb-true (s.partition b) h.P (all-below (λ b. ltb (s.partition b) h.P) h.N y.1.0 b k);
  places = λ b k. place_in h.L (s.place b) (all-below (λ b. Ranges.range_place h.L (s.place b)) h.N y.1.1.0 b k);
  counters = λ q k. ltb-true (s.counter q) (2 ^ h.L) (all-below (λ q. ltb (s.counter q) (2 ^ h.L)) h.P y.1.1.1.0 q k);
  orders = λ q ℓ i hq hℓ hi. ltb-true _ _ (all-below _ (slots ℓ) (all-below _ h.L (all-below _ h.P y.1.1.1.1.0 q hq) ℓ hℓ) i hi);
  marks = λ q ℓ i hq hℓ hi. leb-true _ _ (all-below _ (slots ℓ) (all-below _ h.L (all-below _ h.P y.1.1.1.1.1.0 q hq) ℓ hℓ) i hi);
  holds = λ q ℓ i hq hℓ hi. leb-true _ _ (all-below _ (slots ℓ) (all-below _ h.L (all-below _ h.P y.1.1.1.1.1.1.0 q hq) ℓ hℓ) i hi);
  waiting = all_map (λ b. ltb-true b h.N) (all_yes _ s.waiting y.1.1.1.1.1.1.1.0);
  queue = all_map (λ q. ltb-true q h.P) (all_yes _ s.queue y.1.1.1.1.1.1.1.1.0);
  outstanding = all_map (command-in h) (all_yes _ s.outstanding y.1.1.1.1.1.1.1.1.1.0);
  begun = leb-true _ _ y.1.1.1.1.1.1.1.1.1.1.0;
  cursor = leb-true _ _ y.1.1.1.1.1.1.1.1.1.1.1.0;
  sent = leb-true _ _ y.1.1.1.1.1.1.1.1.1.1.1.1.0;
  free = leb-true _ _ y.1.1.1.1.1.1.1.1.1.1.1.1.1.0;
  request = request-in h s.request y.1.1.1.1.1.1.1.1.1.1.1.1.1.1.0;
  jobs = jobs-in s.queue s.request y.1.1.1.1.1.1.1.1.1.1.1.1.1.1.1.0;
  cache = cache-in h.E s.waiting s.request y.1.1.1.1.1.1.1.1.1.1.1.1.1.1.1.1.0;
}

pub facts-range : (s : State) → InRange s → in_range s ≡ true
unfolding in_range ranges Ranges.each_cell
facts-range s f = let h = s.shape in yes-every (ranges s) (
  f.shape,
  (
    below_all (λ b. ltb (s.partition b) h.P) h.N (λ b k. lt-ltb _ _ (f.partitions b k)),
    (
      below_all (λ b. Ranges.range_place h.L (s.place b)) h.N (λ b k. in_place_lem _ _ (f.places b k)),
      (
        below_all (λ q. ltb (s.counter q) (2 ^ h.L)) h.P (λ q k. lt-ltb _ _ (f.counters q k)),
        (
          below_all _ h.P (λ q hq. below_all _ h.L (λ ℓ hℓ. below_all _ (slots ℓ) (λ i hi. lt-ltb _ _ (f.orders q ℓ i hq hℓ hi)))),
          (
            below_all _ h.P (λ q hq. below_all _ h.L (λ ℓ hℓ. below_all _ (slots ℓ) (λ i hi. le-leb _ _ (f.marks q ℓ i hq hℓ hi)))),
            (
              below_all _ h.P (λ q hq. below_all _ h.L (λ ℓ hℓ. below_all _ (slots ℓ) (λ i hi. le-leb _ _ (f.holds q ℓ i hq hℓ hi)))),
              (
                yes-all (all_map (λ b k. lt-ltb b h.N k) f.waiting),
                (
                  yes-all (all_map (λ q k. lt-ltb q h.P k) f.queue),
                  (
                    yes-all (all_map (in-command h) f.outstanding),
                    (
                      le-leb _ _ f.begun,
                      (
                        le-leb _ _ f.cursor,
                        (
                          le-leb _ _ f.sent,
                          (
                            le-leb _ _ f.free,
                            (
                              in-request h s.request f.request,
                              (
                                in-jobs s.queue s.request f.jobs,
                                (in-cache h.E s.waiting s.request f.cache, tt),
                              ),
                            ),
                          ),
                        ),
                      ),
                    ),
                  ),
                ),
              ),
            ),
          ),
        ),
      ),
    ),
  ),
)
