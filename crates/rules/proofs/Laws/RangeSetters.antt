-- A state with one field changed is in range if the new field is. WRITTEN BY gen/range_setters.py.
use Rattle.std.specs.Prelude.{List, ℕ, ◌-◌, ◌^◌, ◌≤◌, ◌<◌, length}
use Rattle.std.proofs.Math.Option.{Option}
use Rattle.rules.specs.Shape.{cell, slots}
use Rattle.rules.specs.State.{State, Command, Place, Request}
use Rattle.rules.specs.Setters.{set_partition, set_place, set_bytes, set_counter, set_order, set_mark, set_holds, set_waiting, set_queue, set_begun, set_cursor, set_sent, set_outstanding, set_request}
use Rattle.lists.specs.All.{All, IfSome}
use Rattle.rules.specs.Laws.Waiting.{Waits}
use Rattle.rules.specs.Laws.Range.{PlaceIn, CommandIn, RequestIn, JobsIn, InRange}

module _ (s : State) (f : InRange s) where
  pub in_partition : (x : ℕ → ℕ) → ((b : ℕ) → b < s.shape.N → x b < s.shape.P) → InRange (set_partition x s)
  in_partition x a = record { shape = f.shape; partitions = a; places = f.places; counters = f.counters; orders = f.orders; marks = f.marks; holds = f.holds; waiting = f.waiting; queue = f.queue; outstanding = f.outstanding; begun = f.begun; cursor = f.cursor; sent = f.sent; free = f.free; request = f.request; jobs = f.jobs; cache = f.cache }

  pub in_place : (x : ℕ → Place) → ((b : ℕ) → b < s.shape.N → PlaceIn s.shape.L (x b)) → InRange (set_place x s)
  in_place x a = record { shape = f.shape; partitions = f.partitions; places = a; counters = f.counters; orders = f.orders; marks = f.marks; holds = f.holds; waiting = f.waiting; queue = f.queue; outstanding = f.outstanding; begun = f.begun; cursor = f.cursor; sent = f.sent; free = f.free; request = f.request; jobs = f.jobs; cache = f.cache }

  pub in_bytes : (x : ℕ → List ℕ) → InRange (set_bytes x s)
  in_bytes x = record { shape = f.shape; partitions = f.partitions; places = f.places; counters = f.counters; orders = f.orders; marks = f.marks; holds = f.holds; waiting = f.waiting; queue = f.queue; outstanding = f.outstanding; begun = f.begun; cursor = f.cursor; sent = f.sent; free = f.free; request = f.request; jobs = f.jobs; cache = f.cache }

  pub in_counter : (x : ℕ → ℕ) → ((q : ℕ) → q < s.shape.P → x q < 2 ^ s.shape.L) → InRange (set_counter x s)
  in_counter x a = record { shape = f.shape; partitions = f.partitions; places = f.places; counters = a; orders = f.orders; marks = f.marks; holds = f.holds; waiting = f.waiting; queue = f.queue; outstanding = f.outstanding; begun = f.begun; cursor = f.cursor; sent = f.sent; free = f.free; request = f.request; jobs = f.jobs; cache = f.cache }

  pub in_order : (x : ℕ → ℕ) → ((q ℓ i : ℕ) → q < s.shape.P → ℓ < s.shape.L → i < slots ℓ → x (cell s.shape q ℓ i) < slots ℓ) → InRange (set_order x s)
  in_order x a = record { shape = f.shape; partitions = f.partitions; places = f.places; counters = f.counters; orders = a; marks = f.marks; holds = f.holds; waiting = f.waiting; queue = f.queue; outstanding = f.outstanding; begun = f.begun; cursor = f.cursor; sent = f.sent; free = f.free; request = f.request; jobs = f.jobs; cache = f.cache }

  pub in_mark : (x : ℕ → ℕ) → ((q ℓ i : ℕ) → q < s.shape.P → ℓ < s.shape.L → i < slots ℓ → x (cell s.shape q ℓ i) ≤ 1) → InRange (set_mark x s)
  in_mark x a = record { shape = f.shape; partitions = f.partitions; places = f.places; counters = f.counters; orders = f.orders; marks = a; holds = f.holds; waiting = f.waiting; queue = f.queue; outstanding = f.outstanding; begun = f.begun; cursor = f.cursor; sent = f.sent; free = f.free; request = f.request; jobs = f.jobs; cache = f.cache }

  pub in_holds : (x : ℕ → ℕ) → ((q ℓ i : ℕ) → q < s.shape.P → ℓ < s.shape.L → i < slots ℓ → x (cell s.shape q ℓ i) ≤ s.shape.N) → InRange (set_holds x s)
  in_holds x a = record { shape = f.shape; partitions = f.partitions; places = f.places; counters = f.counters; orders = f.orders; marks = f.marks; holds = a; waiting = f.waiting; queue = f.queue; outstanding = f.outstanding; begun = f.begun; cursor = f.cursor; sent = f.sent; free = f.free; request = f.request; jobs = f.jobs; cache = f.cache }

  pub in_waiting : (x : List ℕ) → (All (λ b. b < s.shape.N) x) → (Waits s.shape.E x s.request) → InRange (set_waiting x s)
  in_waiting x a b = record { shape = f.shape; partitions = f.partitions; places = f.places; counters = f.counters; orders = f.orders; marks = f.marks; holds = f.holds; waiting = a; queue = f.queue; outstanding = f.outstanding; begun = f.begun; cursor = f.cursor; sent = f.sent; free = f.free; request = f.request; jobs = f.jobs; cache = b }

  pub in_queue : (x : List ℕ) → (All (λ q. q < s.shape.P) x) → (JobsIn x s.request) → InRange (set_queue x s)
  in_queue x a b = record { shape = f.shape; partitions = f.partitions; places = f.places; counters = f.counters; orders = f.orders; marks = f.marks; holds = f.holds; waiting = f.waiting; queue = a; outstanding = f.outstanding; begun = f.begun; cursor = f.cursor; sent = f.sent; free = f.free; request = f.request; jobs = b; cache = f.cache }

  pub in_begun : (x : ℕ) → (x ≤ 64) → InRange (set_begun x s)
  in_begun x a = record { shape = f.shape; partitions = f.partitions; places = f.places; counters = f.counters; orders = f.orders; marks = f.marks; holds = f.holds; waiting = f.waiting; queue = f.queue; outstanding = f.outstanding; begun = a; cursor = f.cursor; sent = f.sent; free = f.free; request = f.request; jobs = f.jobs; cache = f.cache }

  pub in_cursor : (x : ℕ) → (x ≤ slots s.shape.L - 2) → InRange (set_cursor x s)
  in_cursor x a = record { shape = f.shape; partitions = f.partitions; places = f.places; counters = f.counters; orders = f.orders; marks = f.marks; holds = f.holds; waiting = f.waiting; queue = f.queue; outstanding = f.outstanding; begun = f.begun; cursor = a; sent = f.sent; free = f.free; request = f.request; jobs = f.jobs; cache = f.cache }

  pub in_sent : (x : ℕ) → (x ≤ slots s.shape.L - 2) → InRange (set_sent x s)
  in_sent x a = record { shape = f.shape; partitions = f.partitions; places = f.places; counters = f.counters; orders = f.orders; marks = f.marks; holds = f.holds; waiting = f.waiting; queue = f.queue; outstanding = f.outstanding; begun = f.begun; cursor = f.cursor; sent = a; free = f.free; request = f.request; jobs = f.jobs; cache = f.cache }

  pub in_outstanding : (x : List Command) → (All (CommandIn s.shape) x) → (length x ≤ s.shape.W) → InRange (set_outstanding x s)
  in_outstanding x a b = record { shape = f.shape; partitions = f.partitions; places = f.places; counters = f.counters; orders = f.orders; marks = f.marks; holds = f.holds; waiting = f.waiting; queue = f.queue; outstanding = a; begun = f.begun; cursor = f.cursor; sent = f.sent; free = b; request = f.request; jobs = f.jobs; cache = f.cache }

  pub in_request : (x : Option Request) → (IfSome (RequestIn s.shape) x) → (JobsIn s.queue x) → (Waits s.shape.E s.waiting x) → InRange (set_request x s)
  in_request x a b c = record { shape = f.shape; partitions = f.partitions; places = f.places; counters = f.counters; orders = f.orders; marks = f.marks; holds = f.holds; waiting = f.waiting; queue = f.queue; outstanding = f.outstanding; begun = f.begun; cursor = f.cursor; sent = f.sent; free = f.free; request = a; jobs = b; cache = c }
