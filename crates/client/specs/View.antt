-- The state of the rules that a client and the lent memory stand for. Every content of the memory stands for one.
use Rattle.std.specs.Prelude.{true, false, List, [], map, ℕ, zero, suc, ◌+◌, ◌-◌, ◌%◌, ◌^◌, replicate, ltb, leb, eqb, if◌then◌else◌}
use Rattle.std.specs.Prelude as code
use Rattle.std.proofs.Math.Option.{Option, none, some}
use Rattle.lists.specs.Search.{below}
use Rattle.rules.specs.Shape.{Shape, slots}
use Rattle.rules.specs.State as R
use Rattle.rules.specs.State.{State, Command, cmd, read, write, Place, nowhere, stored}
use Rattle.memory.specs.Tables.{Tables, tables_of}
use Rattle.memory.specs.Fits.{shape_of, fit}
use Rattle.client.specs.declared.Client.{Client}
use Rattle.client.specs.declared.Request.{Request}

-- A slot as one number, slots(level) + slot: its level among `levels`
unfoldable pub level_of : ℕ → ℕ → ℕ
level_of zero x = 0
level_of (suc n) x = elim (leb (slots n) x) [ true ↦ n | false ↦ level_of n x ]

-- the place that a number says: 0 and 1 are nowhere
unfoldable pub place_of : ℕ → ℕ → Place
place_of levels x = if ltb x 2 then nowhere else stored (level_of levels x) (x - slots (level_of levels x))

-- the first number of an outstanding command is its partition, which is below this, and so much more for a write
abbrev pub write_from : ℕ
write_from = 64

-- an outstanding command, by this number and that of its slot, level 0 slot 0 for numbers that say none
unfoldable pub spot_of : ℕ → ℕ → ℕ
spot_of levels x = if ltb (fit (slots levels) x) 2 then 2 else fit (slots levels) x

unfoldable pub command_by : Shape → ℕ → ℕ → Command
command_by h a x =
    let y = spot_of h.L x in
    cmd (if ltb a write_from then read else write) (fit h.P (a % write_from)) (level_of h.L y) (y - slots (level_of h.L y))

-- the level of a cell
unfoldable pub level_at : Shape → ℕ → ℕ
level_at h x = level_of h.L (x % slots h.L)

-- where a block was found, by the number by which an answer tells it; of a request, by its own number: 0 while it is held, and then one more
unfoldable pub found_as : ℕ → R.Found
found_as zero = R.found_nowhere
found_as (suc zero) = R.found_cache
found_as (suc (suc ℓ)) = R.found_level ℓ

unfoldable pub found_by : ℕ → Option R.Found
found_by zero = none
found_by (suc n) = some (found_as n)

-- a request in hand, with these contents if it is a write; of kind 0 there is none
abbrev pub hand_by : Request → List ℕ → R.Request
hand_by r bs = record {
  kind = r.kind;
  block = r.block;
  bytes = if eqb r.kind write then bs else [];
  next = r.next;
  evict = r.evict;
  level = r.level;
  found = found_by r.found;
  awaits = r.awaits;
}

unfoldable pub request_of : Request → List ℕ → Option R.Request
request_of r bs = if eqb r.kind 0 then none else some (hand_by r bs)

-- contents of the blocks below N
unfoldable pub bytes_in : Shape → (ℕ → List ℕ) → ℕ → List ℕ
bytes_in h f b = if ltb b h.N then f b else replicate h.B 0

-- the first n entries of a table, read by g
unfoldable pub rows : {A : Type 0} → (ℕ → A) → ℕ → List A
rows g n = map g (below n)

unfoldable pub view : Client → Tables → State
view c t = let h = shape_of c.shape in record {
  shape = h;
  partition = λ b. fit h.P (t.partition b);
  place = λ b. place_of h.L (fit (slots h.L) (t.place b));
  bytes = bytes_in h t.blocks;
  waiting = rows (λ i. fit h.N (t.waiting i)) c.waiting;
  counter = λ q. fit (2 ^ h.L) (t.counter q);
  order = λ x. fit (slots (level_at h x)) (t.order x);
  mark = λ x. fit 2 (t.mark x);
  holds = λ x. fit (h.N + 1) (t.holds x);
  queue = rows (λ i. fit h.P (t.queue i)) c.jobs;
  begun = c.begun;
  cursor = c.cursor;
  sent = c.sent;
  outstanding = rows (λ i. command_by h (t.kinds i) (t.spots i)) c.out;
  request = request_of c.request (t.blocks h.N);
}

-- by the bytes of the memory
unfoldable pub state_of : Client → List ℕ → State
state_of c m = view c (tables_of (shape_of c.shape) m)

-- what a search found, as the rules say it
abbrev pub found_of : {A : Type 0} → code.Option A → Option A
found_of (code.Some x) = some x
found_of code.None = none
