-- Document 01: "memory long enough, each number of the state in its range". Every entry of a table decodes to a number in range, so the question asks
-- only the client's numbers, in constant time but where the cache is full; of a run of jobs also the counter of the front job's partition.
use Rattle.std.specs.Prelude.{◌≡◌, Bool, ◌&&◌, ◌||◌, List, [], ◌∷◌, map, ℕ, zero, suc, ◌+◌, ◌-◌, ◌%◌, ◌^◌, ◌≤◌, ◌<◌, length, ltb, if◌then◌else◌}
use Rattle.std.proofs.Math.Path.{refl, sym}
use Rattle.std.proofs.Common.{◌∙◌, true≢false, arith, pow_mono, pow_pos}
use Rattle.std.proofs.Math.Bool.{true, false}
use Rattle.std.proofs.Math.Option.{Option, none, some}
use Rattle.std.proofs.Math.Decide.{dec_lt}
use Rattle.std.proofs.Math.Dec.{leb, eqb}
use borrow.Author.Tests.{ltb-true, lt-ltb, le-ltb, leb-true, le-leb}
use Rattle.lists.specs.Tests.{between, every-yes, and_l, and_r, and-true, both_true}
use Rattle.lists.specs.Search.{below, member}
use Rattle.lists.specs.All.{All, nil, cons, IfSome}
use Rattle.rules.specs.Shape.{Shape, within, slots, cell}
use Rattle.rules.specs.State as R
use Rattle.rules.specs.State.{read, write, nowhere, stored}
use Rattle.rules.specs.Ranges.{is_kind, bytes_of, in_range}
use Rattle.rules.proofs.Laws.Levels.{levels-pos, partitions-pos}
use Rattle.rules.specs.Laws.Waiting.{Waits}
use Rattle.rules.proofs.Laws.Waiting.{waits-le, others-room, room-others}
use Rattle.rules.specs.Laws.Range.{PlaceIn, FoundIn, CommandIn, RequestIn, JobsIn, InRange}
use Rattle.rules.proofs.Laws.Range.{range-facts, facts-range}
use Rattle.memory.specs.Tables.{Tables}
use Rattle.memory.specs.Fits.{shape_of, fit, fit-lt}
use Rattle.client.specs.declared.Client.{Client}
use Rattle.client.specs.declared.Request.{Request}
use Rattle.client.specs.View.{level_of, place_of, spot_of, command_by, found_as, found_by, hand_by, request_of, rows, view, write_from}
use Rattle.client.specs.Readings.{jobs-are, waiting-are, out-are}
use Rattle.client.specs.Changes.{cell-level}

-- the numbers of a request in hand
unfoldable pub request_fits : Shape → Request → Bool
request_fits h r =
    ((((((leb 1 r.kind && leb r.kind 2) && ltb r.block h.N) && ltb r.next h.P) && ltb r.evict h.P) && leb r.level h.L) && ltb r.found (h.L + 3))
    && leb r.awaits h.W

-- with a request in hand at most 62 jobs, and fewer than E blocks besides its own; `waits`: its own is among them
unfoldable pub hand_fits : Client → Bool → Bool
hand_fits c waits = if eqb c.request.kind 0 then leb c.jobs 64 else ((request_fits (shape_of c.shape) c.request && leb c.jobs 62) && (ltb c.waiting c.shape.e || waits))

unfoldable pub counts_fit : Client → Bool
counts_fit c =
    (((leb c.begun 64 && leb c.cursor (slots c.shape.l - 2)) && leb c.sent (slots c.shape.l - 2)) && leb c.out c.shape.w) && leb c.waiting c.shape.e

-- the request's block is among those that wait
unfoldable pub own_waits : Client → Tables → Bool
own_waits c t = member c.request.block (view c t).waiting

-- ---- What tables decode to is in range

level-lt : (n x : ℕ) → 0 < n → level_of n x < n
unfolding level_of
level-lt zero x h = absurd (omega arith)
level-lt (suc n) x h = go (leb (slots n) x) refl (dec_lt 0 n) (level-lt n x)
  where
    go : (t : Bool) → leb (slots n) x ≡ t → Dec (0 < n) → (0 < n → level_of n x < n) → level_of (suc n) x < suc n
    go true e d ih = rw (e, level_of) (omega arith)
    go false e (yes l) ih = rw (e, level_of) (omega (arith, ih l))
    go false e (no l) ih = let z : n ≡ 0 = omega arith in rw (e, level_of, z) (unfold level_of in (omega arith))

-- a number of at least 2 and below slots(n) has its slot below slots(its level)
slot_lt : (n x : ℕ) → 2 ≤ x → x < slots n → (slots (level_of n x) ≤ x) × (x - slots (level_of n x) < slots (level_of n x))
unfolding level_of
slot_lt zero x h k = absurd (omega arith)
slot_lt (suc n) x h k = go (leb (slots n) x) refl (slot_lt n x h)
  where
    go : (t : Bool) → leb (slots n) x ≡ t → (x < slots n → (slots (level_of n x) ≤ x) × (x - slots (level_of n x) < slots (level_of n x)))
        → (slots (level_of (suc n) x) ≤ x) × (x - slots (level_of (suc n) x) < slots (level_of (suc n) x))
    go true e ih = let l = leb-true (slots n) x e in rw (e, level_of) (omega (arith, pow_mono {i = suc n + 1} {j = suc (n + 1)} (omega arith)))
    go false e ih = rw (e, level_of) (ih (below_of e))
      where
        below_of : leb (slots n) x ≡ false → x < slots n
        below_of e = go2 (dec_lt x (slots n))
          where
            go2 : Dec (x < slots n) → x < slots n
            go2 (yes l) = l
            go2 (no l) = absurd (true≢false (sym (le-leb (slots n) x (omega arith)) ∙ e))

place-range : (n x : ℕ) → 0 < n → x < slots n → PlaceIn n (place_of n x)
unfolding place_of
place-range n x p l = go (dec_lt x 2)
  where
    go : Dec (x < 2) → PlaceIn n (if ltb x 2 then nowhere else stored (level_of n x) (x - slots (level_of n x)))
    go (yes k) = rw (lt-ltb x 2 k) tt
    go (no k) = rw (le-ltb x 2 (omega arith)) (level-lt n x p, (slot_lt n x (omega arith) l).1)

spot-range : (n x : ℕ) → 0 < n → (2 ≤ spot_of n x) × (spot_of n x < slots n)
unfolding spot_of
spot-range n x p = go (dec_lt (fit (slots n) x) 2)
  where
    go : Dec (fit (slots n) x < 2) → (2 ≤ (if ltb (fit (slots n) x) 2 then 2 else fit (slots n) x)) × ((if ltb (fit (slots n) x) 2 then 2 else fit (slots n) x) < slots n)
    go (yes k) = rw (lt-ltb (fit (slots n) x) 2 k) (omega arith, omega (arith, pow_mono {i = 2} {j = n + 1} (omega arith)))
    go (no k) = rw (le-ltb (fit (slots n) x) 2 (omega arith)) (omega arith, fit-lt (slots n) x (pow_pos (n + 1)))

pub command-range : (h : Shape) (a x : ℕ) → 0 < h.L → 0 < h.P → CommandIn h (command_by h a x)
unfolding command_by is_kind
command-range h a x l p = record {
  kind = go (ltb a write_from);
  partition = fit-lt h.P (a % write_from) p;
  level = level-lt h.L (spot_of h.L x) l;
  slot = let s = spot-range h.L x l in (slot_lt h.L (spot_of h.L x) s.0 s.1).1;
}
  where
    go : (t : Bool) → between read write (if t then read else write) ≡ true
    go true = unfold between in refl
    go false = unfold between in refl

rows_all : {A : Type 0} (P : A → Type 0) (g : ℕ → A) (n : ℕ) → ((i : ℕ) → P (g i)) → All P (rows g n)
unfolding rows
rows_all P g n h = go (below n)
  where
    go : (xs : List ℕ) → All P (map g xs)
    go [] = nil
    go (x ∷ xs) = cons (h x) (go xs)

-- ---- The client's numbers, as facts

pub record Counts (c : Client) : Type 0 where
  pub begun : c.begun ≤ 64
  pub cursor : c.cursor ≤ slots c.shape.l - 2
  pub sent : c.sent ≤ slots c.shape.l - 2
  pub out : c.out ≤ c.shape.w
  pub waiting : c.waiting ≤ c.shape.e

pub counts-facts : (c : Client) → counts_fit c ≡ true → Counts c
unfolding counts_fit
counts-facts c e =
    let j = leb c.begun 64 in
    let k = leb c.cursor (slots c.shape.l - 2) in
    let n = leb c.sent (slots c.shape.l - 2) in
    let a = and_l _ (leb c.waiting c.shape.e) e in
    let b = and_l _ (leb c.out c.shape.w) a in
    let d = and_l (j && k) n b in
    record {
      begun = leb-true _ _ (and_l j k d);
      cursor = leb-true _ _ (and_r j k d);
      sent = leb-true _ _ (and_r (j && k) n b);
      out = leb-true _ _ (and_r ((j && k) && n) (leb c.out c.shape.w) a);
      waiting = leb-true _ _ (and_r (((j && k) && n) && leb c.out c.shape.w) (leb c.waiting c.shape.e) e);
    }

facts-counts : (c : Client) → Counts c → counts_fit c ≡ true
unfolding counts_fit
facts-counts c f = and-true (and-true (and-true (and-true (le-leb _ _ f.begun) (le-leb _ _ f.cursor)) (le-leb _ _ f.sent)) (le-leb _ _ f.out)) (le-leb _ _ f.waiting)

pub record Asked (h : Shape) (r : Request) : Type 0 where
  pub some : 1 ≤ r.kind
  pub kind : r.kind ≤ 2
  pub block : r.block < h.N
  pub next : r.next < h.P
  pub evict : r.evict < h.P
  pub level : r.level ≤ h.L
  pub found : r.found < h.L + 3
  pub awaits : r.awaits ≤ h.W

pub asked-facts : (h : Shape) (r : Request) → request_fits h r ≡ true → Asked h r
unfolding request_fits
asked-facts h r e =
    let k = leb 1 r.kind && leb r.kind 2 in
    let x = (((k && ltb r.block h.N) && ltb r.next h.P) && ltb r.evict h.P) && leb r.level h.L in
    let y = and_l (x && ltb r.found (h.L + 3)) (leb r.awaits h.W) e in
    let g = and_l x (ltb r.found (h.L + 3)) y in
    let a = and_l (((k && ltb r.block h.N) && ltb r.next h.P) && ltb r.evict h.P) (leb r.level h.L) g in
    let b = and_l ((k && ltb r.block h.N) && ltb r.next h.P) (ltb r.evict h.P) a in
    let d = and_l (k && ltb r.block h.N) (ltb r.next h.P) b in
    let f = and_l k (ltb r.block h.N) d in
    record {
      some = leb-true _ _ (and_l (leb 1 r.kind) (leb r.kind 2) f);
      kind = leb-true _ _ (and_r (leb 1 r.kind) (leb r.kind 2) f);
      block = ltb-true _ _ (and_r k (ltb r.block h.N) d);
      next = ltb-true _ _ (and_r (k && ltb r.block h.N) (ltb r.next h.P) b);
      evict = ltb-true _ _ (and_r ((k && ltb r.block h.N) && ltb r.next h.P) (ltb r.evict h.P) a);
      level = leb-true _ _ (and_r (((k && ltb r.block h.N) && ltb r.next h.P) && ltb r.evict h.P) (leb r.level h.L) g);
      found = ltb-true _ _ (and_r x (ltb r.found (h.L + 3)) y);
      awaits = leb-true _ _ (and_r (x && ltb r.found (h.L + 3)) (leb r.awaits h.W) e);
    }

facts-asked : (h : Shape) (r : Request) → Asked h r → request_fits h r ≡ true
unfolding request_fits
facts-asked h r f =
    let kinds = and-true (le-leb _ _ f.some) (le-leb _ _ f.kind) in
    let drawn = and-true (and-true (and-true kinds (lt-ltb _ _ f.block)) (lt-ltb _ _ f.next)) (lt-ltb _ _ f.evict) in
    and-true (and-true (and-true drawn (le-leb _ _ f.level)) (lt-ltb _ _ f.found)) (le-leb _ _ f.awaits)

-- a number says where a block was found exactly if it is below L + 3
found-range : (top n : ℕ) → n < top + 3 → FoundIn top (found_by n)
unfolding found_by found_as
found-range top zero l = tt
found-range top (suc zero) l = tt
found-range top (suc (suc zero)) l = tt
found-range top (suc (suc (suc ℓ))) l = omega arith

pub range-found : (top n : ℕ) → FoundIn top (found_by n) → n < top + 3
unfolding found_by found_as
range-found top zero f = omega arith
range-found top (suc zero) f = omega arith
range-found top (suc (suc zero)) f = omega arith
range-found top (suc (suc (suc ℓ))) f = omega (arith, f)

-- ---- The question

module _ (c : Client) (t : Tables) (w : within (shape_of c.shape) ≡ true) (full : length (t.blocks c.shape.n) ≡ c.shape.b) where
  abbrev h : Shape
  h = shape_of c.shape

  abbrev waits : Bool
  waits = own_waits c t

  abbrev Hand : Option R.Request → Type 0
  Hand o = IfSome (RequestIn h) o × JobsIn (view c t).queue o × Waits h.E (view c t).waiting o

  abbrev in_hand : R.Request
  in_hand = hand_by c.request (t.blocks c.shape.n)

  bytes-length : (b : Bool) → length (if b then t.blocks c.shape.n else []) ≡ (if b then c.shape.b else 0)
  bytes-length true = full
  bytes-length false = refl

  kind-is : is_kind c.request.kind ≡ (leb 1 c.request.kind && leb c.request.kind 2)
  unfolding is_kind between
  kind-is = refl

  -- the request in hand: from the numbers, and back
  hand : hand_fits c waits ≡ true → c.waiting ≤ c.shape.e → Hand (view c t).request
  unfolding hand_fits view request_of
  hand f le = go (eqb c.request.kind 0) refl f
    where
      go : (b : Bool) → eqb c.request.kind 0 ≡ b
          → (if b then leb c.jobs 64 else ((request_fits h c.request && leb c.jobs 62) && (ltb c.waiting c.shape.e || waits))) ≡ true
          → Hand (if b then none else some in_hand)
      go true e f = (tt, omega (arith, jobs-are c t, leb-true c.jobs 64 f), omega (arith, waiting-are c t))
      go false e f =
          let x = and_l (request_fits h c.request && leb c.jobs 62) (ltb c.waiting c.shape.e || waits) f in
          let a = asked-facts h c.request (and_l (request_fits h c.request) (leb c.jobs 62) x) in
          let j = leb-true c.jobs 62 (and_r (request_fits h c.request) (leb c.jobs 62) x) in
          let y = and_r (request_fits h c.request && leb c.jobs 62) (ltb c.waiting c.shape.e || waits) f in (
            record {
              kind = kind-is ∙ and-true (le-leb 1 c.request.kind a.some) (le-leb c.request.kind 2 a.kind);
              block = a.block;
              bytes = unfold bytes_of in (bytes-length (eqb c.request.kind write));
              next = a.next;
              evict = a.evict;
              level = a.level;
              found = found-range h.L c.request.found a.found;
              awaits = a.awaits;
            },
            omega (arith, jobs-are c t, j),
            (omega (arith, waiting-are c t), others-room h.E c.request.block (view c t).waiting (omega (arith, waiting-are c t)) (room-is y)),
          )
        where
          room-is : (ltb c.waiting c.shape.e || waits) ≡ true → (ltb (length (view c t).waiting) c.shape.e || member c.request.block (view c t).waiting) ≡ true
          room-is y = rw (waiting-are c t) (unfold own_waits in y)

  back : Hand (view c t).request → hand_fits c waits ≡ true
  unfolding hand_fits view request_of
  back = go (eqb c.request.kind 0) refl
    where
      go : (b : Bool) → eqb c.request.kind 0 ≡ b → Hand (if b then none else some in_hand)
          → (if b then leb c.jobs 64 else ((request_fits h c.request && leb c.jobs 62) && (ltb c.waiting c.shape.e || waits))) ≡ true
      go true e f = le-leb c.jobs 64 (omega (arith, jobs-are c t, f.1))
      go false e f =
          let k : (leb 1 c.request.kind && leb c.request.kind 2) ≡ true = sym kind-is ∙ f.0.kind in
          let a : Asked h c.request = record {
            some = leb-true 1 c.request.kind (and_l (leb 1 c.request.kind) (leb c.request.kind 2) k);
            kind = leb-true c.request.kind 2 (and_r (leb 1 c.request.kind) (leb c.request.kind 2) k);
            block = f.0.block;
            next = f.0.next;
            evict = f.0.evict;
            level = f.0.level;
            found = range-found h.L c.request.found f.0.found;
            awaits = f.0.awaits;
          } in
          and-true (and-true (facts-asked h c.request a) (le-leb c.jobs 62 (omega (arith, jobs-are c t, f.1)))) (room-is (room-others h.E c.request.block (view c t).waiting f.2.1))
        where
          room-is : (ltb (length (view c t).waiting) c.shape.e || member c.request.block (view c t).waiting) ≡ true → (ltb c.waiting c.shape.e || waits) ≡ true
          room-is y = unfold own_waits in (rw (waiting-are c t) at y)

  range-of : Counts c → Hand (view c t).request → InRange (view c t)
  unfolding view
  range-of f g = record {
    shape = w;
    partitions = λ b l. fit-lt h.P (t.partition b) (partitions-pos h w);
    places = λ b l. place-range h.L (fit (slots h.L) (t.place b)) (levels-pos h w) (fit-lt (slots h.L) (t.place b) (pow_pos (h.L + 1)));
    counters = λ q l. fit-lt (2 ^ h.L) (t.counter q) (pow_pos h.L);
    orders = λ q ℓ i hq hℓ hi. let e = cell-level h q ℓ i hℓ hi in rw e (fit-lt (slots ℓ) (t.order (cell h q ℓ i)) (pow_pos (ℓ + 1)));
    marks = λ q ℓ i hq hℓ hi. omega (arith, fit-lt 2 (t.mark (cell h q ℓ i)) (omega arith));
    holds = λ q ℓ i hq hℓ hi. omega (arith, fit-lt (h.N + 1) (t.holds (cell h q ℓ i)) (omega arith));
    waiting = rows_all (λ b. b < h.N) _ c.waiting (λ i. fit-lt h.N (t.waiting i) blocks-pos);
    queue = rows_all (λ q. q < h.P) _ c.jobs (λ i. fit-lt h.P (t.queue i) (partitions-pos h w));
    outstanding = rows_all (CommandIn h) _ c.out (λ i. command-range h (t.kinds i) (t.spots i) (levels-pos h w) (partitions-pos h w));
    begun = f.begun;
    cursor = f.cursor;
    sent = f.sent;
    free = omega (arith, out-are c t, f.out);
    request = g.0;
    jobs = g.1;
    cache = g.2;
  }
    where
      blocks-pos : 0 < h.N
      blocks-pos = unfold within between in (leb-true 1 h.N (and_l (leb 1 h.N) (leb h.N 4096) (every-yes _ w).0))

  -- each number is in its range exactly when the client's are
  pub in-range : in_range (view c t) ≡ (counts_fit c && hand_fits c (own_waits c t))
  unfolding view
  in-range = both_true _ _ there here
    where
      there : in_range (view c t) ≡ true → (counts_fit c && hand_fits c waits) ≡ true
      there e =
          let r = range-facts (view c t) e in
          let f : Counts c = unfold view in (record { begun = r.begun; cursor = r.cursor; sent = r.sent; out = omega (arith, r.free, out-are c t); waiting = omega (arith, waiting-are c t, waits-le h.E (view c t).waiting (view c t).request r.cache) }) in
          and-true (facts-counts c f) (back (r.request, r.jobs, r.cache))

      here : (counts_fit c && hand_fits c waits) ≡ true → in_range (view c t) ≡ true
      here e = let f = counts-facts c (and_l (counts_fit c) (hand_fits c waits) e) in facts-range (view c t) (range-of f (hand (and_r (counts_fit c) (hand_fits c waits) e) f.waiting))
