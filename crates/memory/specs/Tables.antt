-- The tables that lie in the lent memory, one after the other, then the blocks; what is past them is the tail. Written by gen/tables.py.
use Rattle.std.specs.Prelude.{◌≡◌, refl, List, [], ◌∷◌, ℕ, ◌+◌, ◌^◌, eqb, drop, if◌then◌else◌}
use Rattle.rules.specs.Shape.{Shape, slots}
use Rattle.rules.specs.Memory.{needed}
use Rattle.memory.specs.Words.{window}
use Rattle.memory.specs.Blocks.{cells, block_table}
use Rattle.memory.specs.Layout.{starts_at, size_at}
use Rattle.memory.specs.declared.tables.Table.{Table}
use Rattle.memory.specs.declared.tables.Table.TheVariants.{Queue, Kinds, Spots, Counter, Partition, Place, Waiting, Order, Holds, Mark}

-- the sizes of the tables, in the order in which they lie, and the place of a table in that order
abbrev pub sizes : Shape → List ℕ
sizes h = 64 ∷ 32 ∷ 32 ∷ 64 ∷ h.N ∷ h.N ∷ h.N ∷ cells h ∷ cells h ∷ cells h ∷ []

abbrev pub index : Table → ℕ
index Queue = 0
index Kinds = 1
index Spots = 2
index Counter = 3
index Partition = 4
index Place = 5
index Waiting = 6
index Order = 7
index Holds = 8
index Mark = 9

-- where a table starts, and how many entries it has, in numbers of two bytes
abbrev pub start_of : Shape → Table → ℕ
start_of h t = starts_at 0 (index t) (sizes h)

abbrev pub size_of : Shape → Table → ℕ
size_of h t = size_at (index t) (sizes h)

-- what the entries of a table are below: one that is not reads as 0. Where a number has two values, or the bound is that of a level, it is what each
-- number of two bytes is below
abbrev pub bound_of : Shape → Table → ℕ
bound_of h Queue = h.P
bound_of h Kinds = 65536
bound_of h Spots = 65536
bound_of h Counter = 2 ^ h.L
bound_of h Partition = h.P
bound_of h Place = slots h.L
bound_of h Waiting = h.N
bound_of h Order = 65536
bound_of h Holds = h.N + 1
bound_of h Mark = 2

pub record Tables : Type 0 where
  pub queue : ℕ → ℕ  -- partitions of the jobs, front first
  pub kinds : ℕ → ℕ  -- partition and kind of the outstanding commands
  pub spots : ℕ → ℕ  -- level and slot of the outstanding commands
  pub counter : ℕ → ℕ  -- of a partition
  pub partition : ℕ → ℕ  -- of a block
  pub place : ℕ → ℕ  -- of a block
  pub waiting : ℕ → ℕ  -- the waiting blocks, longest waiting first
  pub order : ℕ → ℕ  -- slot of an item, by the item's cell
  pub holds : ℕ → ℕ  -- block in a slot, by the slot's cell
  pub mark : ℕ → ℕ  -- whether a slot is unread, by its cell
  pub blocks : ℕ → List ℕ  -- contents of a block; entry N has those of a request in hand
  pub tail : List ℕ

-- all tables at once, and one of them
abbrev pub tables_by : (Table → ℕ → ℕ) → (ℕ → List ℕ) → List ℕ → Tables
tables_by f b l = record {
  queue = f Queue;
  kinds = f Kinds;
  spots = f Spots;
  counter = f Counter;
  partition = f Partition;
  place = f Place;
  waiting = f Waiting;
  order = f Order;
  holds = f Holds;
  mark = f Mark;
  blocks = b;
  tail = l;
}

abbrev pub table_at : Table → Tables → ℕ → ℕ
table_at Queue x = x.queue
table_at Kinds x = x.kinds
table_at Spots x = x.spots
table_at Counter x = x.counter
table_at Partition x = x.partition
table_at Place x = x.place
table_at Waiting x = x.waiting
table_at Order x = x.order
table_at Holds x = x.holds
table_at Mark x = x.mark

pub table-by : (f : Table → ℕ → ℕ) (b : ℕ → List ℕ) (l : List ℕ) (t : Table) → table_at t (tables_by f b l) ≡ f t
table-by f b l Queue = refl
table-by f b l Kinds = refl
table-by f b l Spots = refl
table-by f b l Counter = refl
table-by f b l Partition = refl
table-by f b l Place = refl
table-by f b l Waiting = refl
table-by f b l Order = refl
table-by f b l Holds = refl
table-by f b l Mark = refl

-- the tables of the memory
unfoldable pub tables_of : Shape → List ℕ → Tables
tables_of h m = tables_by (λ t. window (start_of h t) (size_of h t) m) (block_table h m) (drop (needed h) m)

-- x where it stands for table t, y where it stands for another
abbrev pub pick : Table → Table → (ℕ → ℕ) → (ℕ → ℕ) → ℕ → ℕ
pick t u x y = if eqb (index t) (index u) then x else y

-- the tables with table t changed
abbrev pub with_table : Table → (ℕ → ℕ) → Tables → Tables
with_table t x y = tables_by (λ u. pick t u x (table_at u y)) y.blocks y.tail

-- a table changed to what it is
pub table-own : (t : Table) (x : Tables) → with_table t (table_at t x) x ≡ x
table-own Queue x = refl
table-own Kinds x = refl
table-own Spots x = refl
table-own Counter x = refl
table-own Partition x = refl
table-own Place x = refl
table-own Waiting x = refl
table-own Order x = refl
table-own Holds x = refl
table-own Mark x = refl

-- where each table starts, and the tables with one of them changed, by its own name
abbrev pub queue_at : Shape → ℕ
queue_at h = start_of h Queue

abbrev pub kinds_at : Shape → ℕ
kinds_at h = start_of h Kinds

abbrev pub spots_at : Shape → ℕ
spots_at h = start_of h Spots

abbrev pub counter_at : Shape → ℕ
counter_at h = start_of h Counter

abbrev pub partition_at : Shape → ℕ
partition_at h = start_of h Partition

abbrev pub place_at : Shape → ℕ
place_at h = start_of h Place

abbrev pub waiting_at : Shape → ℕ
waiting_at h = start_of h Waiting

abbrev pub order_at : Shape → ℕ
order_at h = start_of h Order

abbrev pub holds_at : Shape → ℕ
holds_at h = start_of h Holds

abbrev pub mark_at : Shape → ℕ
mark_at h = start_of h Mark

abbrev pub with_queue : (ℕ → ℕ) → Tables → Tables
with_queue x t = record { queue = x; kinds = t.kinds; spots = t.spots; counter = t.counter; partition = t.partition; place = t.place; waiting = t.waiting; order = t.order; holds = t.holds; mark = t.mark; blocks = t.blocks; tail = t.tail }

abbrev pub with_kinds : (ℕ → ℕ) → Tables → Tables
with_kinds x t = record { queue = t.queue; kinds = x; spots = t.spots; counter = t.counter; partition = t.partition; place = t.place; waiting = t.waiting; order = t.order; holds = t.holds; mark = t.mark; blocks = t.blocks; tail = t.tail }

abbrev pub with_spots : (ℕ → ℕ) → Tables → Tables
with_spots x t = record { queue = t.queue; kinds = t.kinds; spots = x; counter = t.counter; partition = t.partition; place = t.place; waiting = t.waiting; order = t.order; holds = t.holds; mark = t.mark; blocks = t.blocks; tail = t.tail }

abbrev pub with_counter : (ℕ → ℕ) → Tables → Tables
with_counter x t = record { queue = t.queue; kinds = t.kinds; spots = t.spots; counter = x; partition = t.partition; place = t.place; waiting = t.waiting; order = t.order; holds = t.holds; mark = t.mark; blocks = t.blocks; tail = t.tail }

abbrev pub with_partition : (ℕ → ℕ) → Tables → Tables
with_partition x t = record { queue = t.queue; kinds = t.kinds; spots = t.spots; counter = t.counter; partition = x; place = t.place; waiting = t.waiting; order = t.order; holds = t.holds; mark = t.mark; blocks = t.blocks; tail = t.tail }

abbrev pub with_place : (ℕ → ℕ) → Tables → Tables
with_place x t = record { queue = t.queue; kinds = t.kinds; spots = t.spots; counter = t.counter; partition = t.partition; place = x; waiting = t.waiting; order = t.order; holds = t.holds; mark = t.mark; blocks = t.blocks; tail = t.tail }

abbrev pub with_waiting : (ℕ → ℕ) → Tables → Tables
with_waiting x t = record { queue = t.queue; kinds = t.kinds; spots = t.spots; counter = t.counter; partition = t.partition; place = t.place; waiting = x; order = t.order; holds = t.holds; mark = t.mark; blocks = t.blocks; tail = t.tail }

abbrev pub with_order : (ℕ → ℕ) → Tables → Tables
with_order x t = record { queue = t.queue; kinds = t.kinds; spots = t.spots; counter = t.counter; partition = t.partition; place = t.place; waiting = t.waiting; order = x; holds = t.holds; mark = t.mark; blocks = t.blocks; tail = t.tail }

abbrev pub with_holds : (ℕ → ℕ) → Tables → Tables
with_holds x t = record { queue = t.queue; kinds = t.kinds; spots = t.spots; counter = t.counter; partition = t.partition; place = t.place; waiting = t.waiting; order = t.order; holds = x; mark = t.mark; blocks = t.blocks; tail = t.tail }

abbrev pub with_mark : (ℕ → ℕ) → Tables → Tables
with_mark x t = record { queue = t.queue; kinds = t.kinds; spots = t.spots; counter = t.counter; partition = t.partition; place = t.place; waiting = t.waiting; order = t.order; holds = t.holds; mark = x; blocks = t.blocks; tail = t.tail }

abbrev pub with_blocks : (ℕ → List ℕ) → Tables → Tables
with_blocks x t = record { queue = t.queue; kinds = t.kinds; spots = t.spots; counter = t.counter; partition = t.partition; place = t.place; waiting = t.waiting; order = t.order; holds = t.holds; mark = t.mark; blocks = x; tail = t.tail }

abbrev pub with_tail : List ℕ → Tables → Tables
with_tail x t = record { queue = t.queue; kinds = t.kinds; spots = t.spots; counter = t.counter; partition = t.partition; place = t.place; waiting = t.waiting; order = t.order; holds = t.holds; mark = t.mark; blocks = t.blocks; tail = x }
