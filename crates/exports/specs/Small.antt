-- What an accepted call reports and leaves is small enough for the bytes in which it is handed back.
use Rattle.std.specs.Prelude.{◌≡◌, refl, Bool, true, false, List, ℕ, ◌+◌, ◌-◌, ◌%◌, ◌≤◌, ◌<◌, length, get_or, eqb, leb, if◌then◌else◌}
use Rattle.std.proofs.Common.{ap, mod-eq_of_lt, arith, pow_mono, pow_pos, eqb-true, leb-true, eq-eqb}
use Rattle.std.proofs.Math.Option
use Rattle.std.proofs.Math.Option.{Option, none, some}
use Rattle.lists.specs.Tests.{and_r, every-yes, between}
use Rattle.lists.specs.All.{IfSome, all_get_d}
use Rattle.rules.specs.Shape.{Shape, within, slots}
use Rattle.rules.specs.Collect.{carried}
use Rattle.rules.specs.State.{State, Command, cmd, Found, found_nowhere, found_cache, found_level, found_number}
use Rattle.rules.specs.State as R
use Rattle.rules.specs.Ranges.{is_kind}
use Rattle.rules.specs.Turn.{Step, idle, no_dummy, read_for_request, read_for_job, rebuild, write_next, decide, command}
use Rattle.rules.specs.Questions.{Ask, opening, request, turn, completion, collect, save, load, questions}
use Rattle.rules.specs.Run.{sent_command, handed_found}
use Rattle.rules.proofs.Laws.Answers.{Passed}
use Rattle.rules.specs.Laws.Range.{InRange, FoundIn, RequestIn, JobsIn}
use Rattle.rules.proofs.Laws.Levels.{levels-pos}
use Rattle.rules.proofs.Laws.Waiting.{waits-le}
use Rattle.rules.specs.Setters.{set_request}
use Rattle.rules.specs.Laws.Decided.{StepIn}
use Rattle.rules.proofs.Laws.Decided.{decide-in}
use Rattle.rules.proofs.Laws.Kept.{given-in}
use Rattle.memory.specs.Fits.{shape_of, parts-le, fit}
use Rattle.memory.specs.Tables.{tables_of}
use Rattle.client.specs.declared.Client.{Client}
use Rattle.client.specs.declared.Request.{Request}
use Rattle.client.specs.View.{state_of, view, hand_by, request_of, command_by}
use Rattle.client.specs.Ready.{range-found}
use Rattle.client.specs.Rows.{length-rows}
use Rattle.memory.specs.declared.Shape as M
use Rattle.codec.specs.Codec.{low_shape, low_request, low_client}

-- ---- Commands

levels-le : (h : Shape) → within h ≡ true → h.L ≤ 8
unfolding within between
levels-le h w = leb-true h.L 8 (and_r (leb 1 h.L) (leb h.L 8) (every-yes _ w).1.1.0)

blocks-le : (h : Shape) → within h ≡ true → h.N ≤ 4096
unfolding within between
blocks-le h w = leb-true h.N 4096 (and_r (leb 1 h.N) (leb h.N 4096) (every-yes _ w).0)

partitions-le : (h : Shape) → within h ≡ true → h.P ≤ 64
unfolding within
partitions-le h w = (parts-le h.P (every-yes _ w).1.0).1

slots_small : (h : Shape) (ℓ : ℕ) → within h ≡ true → ℓ < h.L → slots ℓ ≤ 256
slots_small h ℓ w l = let k = levels-le h w in pow_mono {i = ℓ + 1} {j = 8} (omega arith)

pub record SmallCommand (c : Command) : Type 0 where
  pub kind : c.kind < 4
  pub partition : c.partition < 64
  pub level : c.level < 16
  pub slot : c.slot < 2048

cell-small : (s : State) → InRange s → (k q ℓ i : ℕ) → k < 4 → (q < s.shape.P) × (ℓ < s.shape.L) × (i < slots ℓ) → SmallCommand (cmd k q ℓ i)
cell-small s f k q ℓ i l h =
    let a = levels-le s.shape f.shape in
    let b = slots_small s.shape ℓ f.shape h.1 in
    let p = partitions-le s.shape f.shape in
    record { kind = l; partition = omega arith; level = omega arith; slot = omega arith }

no-command : SmallCommand (cmd 0 0 0 0)
no-command = record { kind = omega arith; partition = omega arith; level = omega arith; slot = omega arith }

step_small : (s : State) → InRange s → (x : Step) → StepIn s x → SmallCommand (command x)
unfolding command
step_small s f idle h = no-command
step_small s f no_dummy h = no-command
step_small s f (read_for_request q ℓ i) h = cell-small s f 1 q ℓ i (omega arith) h
step_small s f (read_for_job q ℓ i) h = cell-small s f 1 q ℓ i (omega arith) (h.0, h.1, h.2)
step_small s f (rebuild q ls) h = cell-small s f 2 q (get_or ls 0 0) 0 (omega arith) (h.0, all_get_d 0 h.1 (levels-pos s.shape f.shape), pow_pos (get_or ls 0 0 + 1))
step_small s f (write_next q t i) h = cell-small s f 2 q t i (omega arith) (h.0, h.1, h.2)

-- of an accepted call
pub accepted-small : (s : State) (a : Ask) (m : ℕ) (ws : List ℕ) (n : ℕ) → Passed (questions s a m ws n) → SmallCommand (sent_command s a)
unfolding questions sent_command
accepted-small s (opening h) m ws n p = no-command
accepted-small s (request k b bs) m ws n p = no-command
accepted-small s turn m ws n p = let f = given-in s m p.0 in step_small s f (decide s) (decide-in s f)
accepted-small s (completion c bs) m ws n p = no-command
accepted-small s collect m ws n p = no-command
accepted-small s save m ws n p = no-command
accepted-small s (load form) m ws n p = no-command

-- ---- Where a block was found: nowhere, in the cache, or in one of at most eight levels

carried-below : (h : Shape) (o : Option R.Request) → IfSome (RequestIn h) o → found_number (carried o) < h.L + 2
unfolding carried found_number
carried-below h none f = omega arith
carried-below h (some r) f = go r.found f.found
  where
    go : (x : Option Found) → FoundIn h.L x → found_number (Option.get_or x found_nowhere) < h.L + 2
    go none k = omega arith
    go (some found_nowhere) k = omega arith
    go (some found_cache) k = omega arith
    go (some (found_level ℓ)) k = omega (arith, k)

-- an accepted call names no level from L on
pub found_below : (s : State) (a : Ask) (m : ℕ) (ws : List ℕ) (n : ℕ) → Passed (questions s a m ws n) → found_number (handed_found s a) < s.shape.L + 2
unfolding questions handed_found found_number
found_below s (opening h) m ws n p = omega arith
found_below s (request k b bs) m ws n p = omega arith
found_below s turn m ws n p = omega arith
found_below s (completion c bs) m ws n p = omega arith
found_below s collect m ws n p = carried-below s.shape s.request (given-in s m p.0).request
found_below s save m ws n p = omega arith
found_below s (load form) m ws n p = omega arith

pub accepted-found : (s : State) (a : Ask) (m : ℕ) (ws : List ℕ) (n : ℕ) → Passed (questions s a m ws n) → found_number (handed_found s a) < 16
unfolding questions handed_found found_number
accepted-found s (opening h) m ws n p = omega arith
accepted-found s (request k b bs) m ws n p = omega arith
accepted-found s turn m ws n p = omega arith
accepted-found s (completion c bs) m ws n p = omega arith
accepted-found s collect m ws n p =
    let f = given-in s m p.0 in
    let l = levels-le s.shape f.shape in
    omega (arith, carried-below s.shape s.request f.request)
accepted-found s save m ws n p = omega arith
accepted-found s (load form) m ws n p = omega arith

-- ---- The client's numbers

low : (x : ℕ) → x < 65536 → x % 65536 ≡ x
low x l = mod-eq_of_lt l

others-le : (h : Shape) → within h ≡ true → (h.B ≤ 512) × (h.E ≤ h.N) × (h.W ≤ 32)
unfolding within between
others-le h w =
    let y = every-yes _ w in (
      leb-true h.B 512 (and_r (leb 1 h.B) (leb h.B 512) y.1.1.1.0),
      leb-true h.E h.N (and_r (leb 1 h.E) (leb h.E h.N) y.1.1.1.1.0),
      leb-true h.W 32 (and_r (leb 1 h.W) (leb h.W 32) y.1.1.1.1.1.0),
    )

-- a request that is not in hand is none, whatever its numbers; the numbers of one in hand are small
request-low : (r : Request) (bs : List ℕ) (h : Shape) → within h ≡ true → IfSome (RequestIn h) (request_of r bs) → request_of (low_request r) bs ≡ request_of r bs
unfolding request_of
request-low r bs h w f = go (eqb r.kind 0) refl f
  where
    go : (t : Bool) → eqb r.kind 0 ≡ t → IfSome (RequestIn h) (if t then none else some (hand_by r bs))
        → (if eqb (r.kind % 65536) 0 then none else some (hand_by (low_request r) bs)) ≡ (if t then none else some (hand_by r bs))
    go true e f =
        let z : r.kind ≡ 0 = eqb-true r.kind 0 e in
        let k : r.kind % 65536 ≡ 0 = rw z in
        rw (eq-eqb (r.kind % 65536) 0 k)
    go false e f =
        let k = kind-le f in
        let n = blocks-le h w in
        let p = partitions-le h w in
        let l = levels-le h w in
        let x = range-found h.L r.found f.found in
        let y = others-le h w in
        rw (
          low r.kind (omega arith),
          e,
          low r.block (omega (arith, f.block)),
          low r.next (omega (arith, f.next)),
          low r.evict (omega (arith, f.evict)),
          low r.level (omega (arith, f.level)),
          low r.found (omega arith),
          low r.awaits (omega (arith, f.awaits, y)),
        )
      where
        kind-le : RequestIn h (hand_by r bs) → r.kind ≤ 2
        kind-le f = unfold is_kind between in (leb-true r.kind 2 (and_r (leb 1 r.kind) (leb r.kind 2) f.kind))

jobs-le : (qs : List ℕ) (o : Option R.Request) → JobsIn qs o → length qs ≤ 64
jobs-le qs none h = h
jobs-le qs (some r) h = omega arith

-- the numbers of a shape within bounds are small
pub low-shape : (h : M.Shape) → within (shape_of h) ≡ true → low_shape h ≡ h
low-shape h f =
    let g = shape_of h in
    let n : h.n ≤ 4096 = blocks-le g f in
    let p : h.p ≤ 64 = partitions-le g f in
    let l : h.l ≤ 8 = levels-le g f in
    let y : (h.b ≤ 512) × (h.e ≤ h.n) × (h.w ≤ 32) = others-le g f in
    rw (low h.n (omega arith), low h.p (omega arith), low h.l (omega arith), low h.b (omega arith), low h.e (omega arith), low h.w (omega arith))

-- a client that stands for a state in range stands for the same with its numbers modulo 2^16
pub low-client : (c : Client) (m : List ℕ) → InRange (state_of c m) → state_of (low_client c) m ≡ state_of c m
unfolding state_of view
low-client c m f =
    let h = shape_of c.shape in
    let n : c.shape.n ≤ 4096 = blocks-le h f.shape in
    let p : c.shape.p ≤ 64 = partitions-le h f.shape in
    let l : c.shape.l ≤ 8 = levels-le h f.shape in
    let y : (c.shape.b ≤ 512) × (c.shape.e ≤ c.shape.n) × (c.shape.w ≤ 32) = others-le h f.shape in
    let jobs : c.jobs ≤ 64 = omega (arith, jobs-le (state_of c m).queue (state_of c m).request f.jobs, length-rows (λ i. fit h.P ((tables_of h m).queue i)) c.jobs) in
    let waiting : c.waiting ≤ c.shape.e = omega (arith, waits-le h.E (state_of c m).waiting (state_of c m).request f.cache, length-rows (λ i. fit h.N ((tables_of h m).waiting i)) c.waiting) in
    let out : c.out ≤ c.shape.w = omega (arith, f.free, length-rows (λ i. command_by h ((tables_of h m).kinds i) ((tables_of h m).spots i)) c.out) in
    let cells : slots c.shape.l ≤ 512 = pow_mono {i = c.shape.l + 1} {j = 9} (omega arith) in
    let begun : c.begun ≤ 64 = f.begun in
    let cursor : c.cursor ≤ slots c.shape.l - 2 = f.cursor in
    let sent : c.sent ≤ slots c.shape.l - 2 = f.sent in
    rw (
      low c.shape.n (omega arith),
      low c.shape.p (omega arith),
      low c.shape.l (omega arith),
      low c.shape.b (omega arith),
      low c.shape.e (omega arith),
      low c.shape.w (omega arith),
      low c.jobs (omega arith),
      low c.begun (omega arith),
      low c.cursor (omega arith),
      low c.sent (omega arith),
      low c.waiting (omega arith),
      low c.out (omega arith),
    ) (ap (λ o. set_request o (state_of c m)) (request-low c.request ((tables_of h m).blocks h.N) h f.shape f.request))
