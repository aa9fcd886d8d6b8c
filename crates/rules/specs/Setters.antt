-- A state with one field changed. WRITTEN BY gen/setters.py: antt has no record update.
use Rattle.std.specs.Prelude.{List, ℕ}
use Rattle.std.proofs.Math.Option.{Option}
use Rattle.rules.specs.Shape.{Shape}
use Rattle.rules.specs.State.{Command, Place, Request, State}

infixl 5 ◌▷◌
-- `s ▷ f ▷ g` is s, then f, then g
abbrev pub ◌▷◌ : State → (State → State) → State
s ▷ f = f s

abbrev pub set_shape : Shape → State → State
set_shape x s = record { shape = x; partition = s.partition; place = s.place; bytes = s.bytes; waiting = s.waiting; counter = s.counter; order = s.order; mark = s.mark; holds = s.holds; queue = s.queue; begun = s.begun; cursor = s.cursor; sent = s.sent; outstanding = s.outstanding; request = s.request }

abbrev pub set_partition : (ℕ → ℕ) → State → State
set_partition x s = record { shape = s.shape; partition = x; place = s.place; bytes = s.bytes; waiting = s.waiting; counter = s.counter; order = s.order; mark = s.mark; holds = s.holds; queue = s.queue; begun = s.begun; cursor = s.cursor; sent = s.sent; outstanding = s.outstanding; request = s.request }

abbrev pub set_place : (ℕ → Place) → State → State
set_place x s = record { shape = s.shape; partition = s.partition; place = x; bytes = s.bytes; waiting = s.waiting; counter = s.counter; order = s.order; mark = s.mark; holds = s.holds; queue = s.queue; begun = s.begun; cursor = s.cursor; sent = s.sent; outstanding = s.outstanding; request = s.request }

abbrev pub set_bytes : (ℕ → List ℕ) → State → State
set_bytes x s = record { shape = s.shape; partition = s.partition; place = s.place; bytes = x; waiting = s.waiting; counter = s.counter; order = s.order; mark = s.mark; holds = s.holds; queue = s.queue; begun = s.begun; cursor = s.cursor; sent = s.sent; outstanding = s.outstanding; request = s.request }

abbrev pub set_waiting : List ℕ → State → State
set_waiting x s = record { shape = s.shape; partition = s.partition; place = s.place; bytes = s.bytes; waiting = x; counter = s.counter; order = s.order; mark = s.mark; holds = s.holds; queue = s.queue; begun = s.begun; cursor = s.cursor; sent = s.sent; outstanding = s.outstanding; request = s.request }

abbrev pub set_counter : (ℕ → ℕ) → State → State
set_counter x s = record { shape = s.shape; partition = s.partition; place = s.place; bytes = s.bytes; waiting = s.waiting; counter = x; order = s.order; mark = s.mark; holds = s.holds; queue = s.queue; begun = s.begun; cursor = s.cursor; sent = s.sent; outstanding = s.outstanding; request = s.request }

abbrev pub set_order : (ℕ → ℕ) → State → State
set_order x s = record { shape = s.shape; partition = s.partition; place = s.place; bytes = s.bytes; waiting = s.waiting; counter = s.counter; order = x; mark = s.mark; holds = s.holds; queue = s.queue; begun = s.begun; cursor = s.cursor; sent = s.sent; outstanding = s.outstanding; request = s.request }

abbrev pub set_mark : (ℕ → ℕ) → State → State
set_mark x s = record { shape = s.shape; partition = s.partition; place = s.place; bytes = s.bytes; waiting = s.waiting; counter = s.counter; order = s.order; mark = x; holds = s.holds; queue = s.queue; begun = s.begun; cursor = s.cursor; sent = s.sent; outstanding = s.outstanding; request = s.request }

abbrev pub set_holds : (ℕ → ℕ) → State → State
set_holds x s = record { shape = s.shape; partition = s.partition; place = s.place; bytes = s.bytes; waiting = s.waiting; counter = s.counter; order = s.order; mark = s.mark; holds = x; queue = s.queue; begun = s.begun; cursor = s.cursor; sent = s.sent; outstanding = s.outstanding; request = s.request }

abbrev pub set_queue : List ℕ → State → State
set_queue x s = record { shape = s.shape; partition = s.partition; place = s.place; bytes = s.bytes; waiting = s.waiting; counter = s.counter; order = s.order; mark = s.mark; holds = s.holds; queue = x; begun = s.begun; cursor = s.cursor; sent = s.sent; outstanding = s.outstanding; request = s.request }

abbrev pub set_begun : ℕ → State → State
set_begun x s = record { shape = s.shape; partition = s.partition; place = s.place; bytes = s.bytes; waiting = s.waiting; counter = s.counter; order = s.order; mark = s.mark; holds = s.holds; queue = s.queue; begun = x; cursor = s.cursor; sent = s.sent; outstanding = s.outstanding; request = s.request }

abbrev pub set_cursor : ℕ → State → State
set_cursor x s = record { shape = s.shape; partition = s.partition; place = s.place; bytes = s.bytes; waiting = s.waiting; counter = s.counter; order = s.order; mark = s.mark; holds = s.holds; queue = s.queue; begun = s.begun; cursor = x; sent = s.sent; outstanding = s.outstanding; request = s.request }

abbrev pub set_sent : ℕ → State → State
set_sent x s = record { shape = s.shape; partition = s.partition; place = s.place; bytes = s.bytes; waiting = s.waiting; counter = s.counter; order = s.order; mark = s.mark; holds = s.holds; queue = s.queue; begun = s.begun; cursor = s.cursor; sent = x; outstanding = s.outstanding; request = s.request }

abbrev pub set_outstanding : List Command → State → State
set_outstanding x s = record { shape = s.shape; partition = s.partition; place = s.place; bytes = s.bytes; waiting = s.waiting; counter = s.counter; order = s.order; mark = s.mark; holds = s.holds; queue = s.queue; begun = s.begun; cursor = s.cursor; sent = s.sent; outstanding = x; request = s.request }

abbrev pub set_request : Option Request → State → State
set_request x s = record { shape = s.shape; partition = s.partition; place = s.place; bytes = s.bytes; waiting = s.waiting; counter = s.counter; order = s.order; mark = s.mark; holds = s.holds; queue = s.queue; begun = s.begun; cursor = s.cursor; sent = s.sent; outstanding = s.outstanding; request = x }
