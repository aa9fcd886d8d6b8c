-- The payload of a state is read back.
use Rattle.std.specs.Prelude.{◌≡◌, Bool, true, false, get_or, leb}
use Rattle.std.proofs.Math.Path.{refl, ap}
use Rattle.std.proofs.Common.{sym, ◌∙◌, leb-true, ne_eqb}
use mathlib.Core.List.{List, [], ◌∷◌, ◌++◌, map, append_assoc}
use Rattle.std.proofs.Math.Option.{Option, none, some}
use Prim.Native.Nat.{ℕ, suc, ◌+◌, ◌^◌, ◌≤◌, ◌<◌}
use native.Mathlib.Omega.{arith}
use Rattle.std.proofs.Math.ListN.{length}
use Rattle.std.proofs.lemmas.List.{length-map}
use Rattle.std.proofs.Math.Pow.{pow_mono}
use Rattle.lists.specs.All.{All, nil, cons, all_map, all_yes, below-below, keep-passes}
use Rattle.lists.specs.Distinct.{Mem, NoDup}
use Rattle.lists.specs.Lengths.{length-below}
use Rattle.lists.specs.Members.{all-mem, mem-all, member-mem, mem-member, mem-keep, keep-mem, nodup-keep, nodup-below, nodup-sub, below-mem, mem_below, keep_same, nodup-le}
use Rattle.lists.specs.Search
use Rattle.lists.specs.Search.{keep, below, member, keep-yes, keep-no}
use Rattle.lists.specs.Tests
use Rattle.lists.specs.Tests.{and_r, every-yes}
use Rattle.rules.specs.Form.Numbers.{little, each, form_of, slot_width}
use Rattle.rules.specs.Form.Payload.{shape_numbers, place_bytes, block_bytes, filled_levels, order_slots, read_marks, level_bytes, Waiter, waiters, waiter_bytes, payload}
use Rattle.rules.specs.Form.Reading.{and_then, get_bytes, get_number, get_each, get_numbers, shape_of, Spot, absent, waits, at, get_spot, get_block, Level, get_level, get_waiter, is_waiting, Form, get_form}
use Rattle.rules.proofs.Laws.Form.Numbers.{get-bytes, get-number, get-each}
use Rattle.rules.proofs.Laws.Form.Tables.{all-each, all-mapped, get_or-table, waiters-length, waiters-all}
use Rattle.rules.specs.Laws.Range.{InRange, PlaceIn, JobsIn}
use Rattle.rules.specs.Levels.{filled}
use Rattle.rules.specs.Shape.{Shape, slots, within}
use Rattle.rules.specs.State.{State, Request, Place, nowhere, stored}

-- ---- Bounds

pub record Small (h : Shape) : Type 0 where
  pub blocks : h.N ≤ 4096
  pub partitions : h.P ≤ 64
  pub levels : h.L ≤ 8
  pub bytes : h.B ≤ 512
  pub cache : h.E ≤ h.N
  pub free : h.W ≤ 32

small-parts : All (λ x. x ≤ 64) (1 ∷ 2 ∷ 4 ∷ 8 ∷ 16 ∷ 32 ∷ 64 ∷ [])
small-parts = all_map (λ x e. leb-true x 64 e) (all_yes (λ x. leb x 64) (1 ∷ 2 ∷ 4 ∷ 8 ∷ 16 ∷ 32 ∷ 64 ∷ []) (unfold Search.all in refl))

pub small : (h : Shape) → within h ≡ true → Small h
unfolding within Tests.between
small h e = let y = every-yes _ e in record {
  blocks = leb-true h.N 4096 (and_r (leb 1 h.N) (leb h.N 4096) y.0);
  partitions = all-mem small-parts h.P (member-mem h.P _ y.1.0);
  levels = leb-true h.L 8 (and_r (leb 1 h.L) (leb h.L 8) y.1.1.0);
  bytes = leb-true h.B 512 (and_r (leb 1 h.B) (leb h.B 512) y.1.1.1.0);
  cache = leb-true h.E h.N (and_r (leb 1 h.E) (leb h.E h.N) y.1.1.1.1.0);
  free = leb-true h.W 32 (and_r (leb 1 h.W) (leb h.W 32) y.1.1.1.1.1.0);
}

-- a slot has room in the bytes that a form gives it
pub slot-fits : (h : Shape) → within h ≡ true → (ℓ i : ℕ) → ℓ < h.L → i < slots ℓ → i < 256 ^ slot_width (form_of h)
unfolding slot_width form_of
slot-fits h w ℓ i hℓ hi = omega (arith, pow_mono {i = ℓ + 1} {j = 8} (omega (arith, (small h w).levels)))

-- ---- What a state's form says

unfoldable pub spot_of : Bool → Place → Spot
spot_of true x = waits
spot_of false nowhere = absent
spot_of false (stored ℓ i) = at ℓ i

abbrev pub level_of : State → ℕ × ℕ → Level
level_of s k = record { partition = k.0; level = k.1; order = order_slots s k.0 k.1; marks = read_marks s k.0 k.1 }

abbrev pub form_in : State → Form
form_in s = record {
  number = form_of s.shape;
  shape = s.shape;
  counters = map s.counter (below s.shape.P);
  queue = s.queue;
  blocks = map (λ b. (s.partition b, spot_of (member b s.waiting) (s.place b))) (below s.shape.N);
  levels = map (level_of s) (filled_levels s.shape.P s.shape.L s.counter);
  waiters = waiters s.bytes 0 s.waiting;
}

-- ---- Its parts

-- a list, read element by element for as many keys
module _ {K A : Type 0} (g : List ℕ → Option (A × List ℕ)) (p : A → List ℕ) where
  pub get-list : (ks : List K) {xs : List A} → length ks ≡ length xs → All (λ x. (r : List ℕ) → g (p x ++ r) ≡ some (x, r)) xs → (r : List ℕ) → get_each (λ k. g) ks (each p xs ++ r) ≡ some (xs, r)
  unfolding get_each each and_then
  get-list [] l nil r = refl
  get-list [] l (cons h t) r = absurd (omega arith)
  get-list (k ∷ ks) l nil r = absurd (omega arith)
  get-list (k ∷ ks) l (cons {x = x} {xs = xs} h t) r = rw (append_assoc (p x) (each p xs) r, h (each p xs ++ r), get-list ks (omega arith) t r)

pub get-numbers : (w n : ℕ) (xs r : List ℕ) → length xs ≡ n → All (λ x. x < 256 ^ w) xs → get_numbers w n (each (little w) xs ++ r) ≡ some (xs, r)
unfolding get_numbers
get-numbers w n xs r l h = get-list (get_number w) (little w) (below n) (length-below n ∙ sym l) (all_map (λ x k r. get-number w x r k) h) r

get-spot : (w : ℕ) (m : Bool) (x : Place) (r : List ℕ) → (top : ℕ) → top ≤ 8 → PlaceIn top x → ((ℓ i : ℕ) → ℓ < top → i < slots ℓ → i < 256 ^ w) → get_spot w (place_bytes w m x ++ r) ≡ some (spot_of m x, r)
unfolding get_spot place_bytes spot_of
get-spot w true x r top t h f = refl
get-spot w false nowhere r top t h f = refl
get-spot w false (stored ℓ i) r top t h f = rw (ne_eqb ℓ 255 (λ e. omega (arith, h.0)), ne_eqb ℓ 254 (λ e. omega (arith, h.0)), get-number w i r (f ℓ i h.0 h.1)) (unfold and_then in refl)

module _ (s : State) (f : InRange s) where
  abbrev h : Shape
  h = s.shape

  abbrev w : ℕ
  w = slot_width (form_of s.shape)

  sm : Small s.shape
  sm = small s.shape f.shape

  get-block : (b : ℕ) → b < h.N → (r : List ℕ) → get_block w (block_bytes w s b ++ r) ≡ some ((s.partition b, spot_of (member b s.waiting) (s.place b)), r)
  unfolding get_block block_bytes and_then
  get-block b hb r = rw (
    append_assoc (little 2 (s.partition b)) (place_bytes w (member b s.waiting) (s.place b)) r,
    get-number 2 (s.partition b) (place_bytes w (member b s.waiting) (s.place b) ++ r) (omega (arith, f.partitions b hb, sm.partitions)),
    get-spot w (member b s.waiting) (s.place b) r h.L sm.levels (f.places b hb) (slot-fits h f.shape),
  )

  get-level : (k : ℕ × ℕ) → k.0 < h.P → k.1 < h.L → (r : List ℕ) → get_level w k (level_bytes w s k ++ r) ≡ some (level_of s k, r)
  unfolding get_level level_bytes and_then
  get-level k hq hℓ r = rw (
    append_assoc (each (little w) (order_slots s k.0 k.1)) (read_marks s k.0 k.1) r,
    get-numbers w (slots k.1) (order_slots s k.0 k.1) (read_marks s k.0 k.1 ++ r) many below_all,
    marks,
  )
    where
      many : length (order_slots s k.0 k.1) ≡ slots k.1
      many = unfold order_slots in (length-map (below (slots k.1)) _ ∙ length-below (slots k.1))

      below_all : All (λ x. x < 256 ^ w) (order_slots s k.0 k.1)
      below_all = unfold order_slots in (all-mapped _ (all_map (λ i hi. slot-fits h f.shape k.1 _ hℓ (f.orders k.0 k.1 i hq hℓ hi)) (below-below (slots k.1))))

      marked : length (read_marks s k.0 k.1) ≡ slots k.1
      marked = unfold read_marks in (length-map (below (slots k.1)) _ ∙ length-below (slots k.1))

      marks : get_bytes (slots k.1) (read_marks s k.0 k.1 ++ r) ≡ some (read_marks s k.0 k.1, r)
      marks = ap (λ n. get_bytes n (read_marks s k.0 k.1 ++ r)) (sym marked) ∙ get-bytes (read_marks s k.0 k.1) r

  get-waiter : (x : Waiter) → x.block < h.N → x.age < h.N → length x.bytes ≡ h.B → (r : List ℕ) → get_waiter h.B (waiter_bytes x ++ r) ≡ some (x, r)
  unfolding get_waiter waiter_bytes and_then
  get-waiter x hb ha l r = rw (
    append_assoc (little 2 x.block) (little 2 x.age ++ x.bytes) r,
    get-number 2 x.block ((little 2 x.age ++ x.bytes) ++ r) (omega (arith, hb, sm.blocks)),
    append_assoc (little 2 x.age) x.bytes r,
    get-number 2 x.age (x.bytes ++ r) (omega (arith, ha, sm.blocks)),
    bytes,
  )
    where
      bytes : get_bytes h.B (x.bytes ++ r) ≡ some (x.bytes, r)
      bytes = ap (λ n. get_bytes n (x.bytes ++ r)) (sym l) ∙ get-bytes x.bytes r

  -- the filled levels are levels of the shape
  pub levels-in : All (λ (k : ℕ × ℕ). (k.0 < h.P) × (k.1 < h.L)) (filled_levels h.P h.L s.counter)
  unfolding filled_levels
  levels-in = all-each _ (all_map (λ q hq. all-mapped _ (mem-all (keep (filled (s.counter q)) (below h.L)) (λ ℓ m. (hq, mem_below h.L ℓ (keep-mem (filled (s.counter q)) (below h.L) ℓ m))))) (below-below h.P))

keep-mapped : {A : Type 0} (p : A → Bool) (g : ℕ → A) (xs : List ℕ) → length (keep p (map g xs)) ≡ length (keep (λ x. p (g x)) xs)
unfolding keep
keep-mapped p g [] = refl
keep-mapped p g (x ∷ xs) = go (p (g x)) refl (keep-mapped p g xs)
  where
    go : (t : Bool) → p (g x) ≡ t → length (keep p (map g xs)) ≡ length (keep (λ x. p (g x)) xs) → length (keep p (g x ∷ map g xs)) ≡ length (keep (λ x. p (g x)) (x ∷ xs))
    go true e k = rw (keep-yes p (g x) (map g xs) e, keep-yes (λ x. p (g x)) x xs e) (ap suc k)
    go false e k = rw (keep-no p (g x) (map g xs) e, keep-no (λ x. p (g x)) x xs e) k

pub spot-waits : (p : ℕ) (m : Bool) (x : Place) → is_waiting (p, spot_of m x) ≡ m
unfolding is_waiting spot_of
spot-waits p true x = refl
spot-waits p false nowhere = refl
spot-waits p false (stored ℓ i) = refl

-- who waits, counted by the blocks
pub waiting-count : (n : ℕ) (xs : List ℕ) → NoDup xs → All (λ b. b < n) xs → length (keep (λ b. member b xs) (below n)) ≡ length xs
waiting-count n xs u h = omega (
  arith,
  nodup-sub (keep (λ b. member b xs) (below n)) xs (nodup-keep _ (below n) (nodup-below n)) (λ b m. member-mem b xs (all-mem (mem-all (keep (λ b. member b xs) (below n)) passes) b m)),
  nodup-sub xs (keep (λ b. member b xs) (below n)) u (λ b m. mem-keep (λ b. member b xs) (below n) b (below-mem n b (all-mem h b m)) (mem-member b xs m)),
)
  where
    passes : (b : ℕ) → Mem b (keep (λ b. member b xs) (below n)) → member b xs ≡ true
    passes b m = all-mem (keep-passes (λ b. member b xs) (below n)) b m

pub each_same : {A B : Type 0} (f g : A → List B) {xs : List A} → All (λ x. f x ≡ g x) xs → each f xs ≡ each g xs
unfolding each
each_same f g nil = refl
each_same f g (cons h t) = rw (h, each_same f g t)

-- ---- The whole
module _ (s : State) (f : InRange s) (u : NoDup s.waiting) (whole : (b : ℕ) → Mem b s.waiting → length (s.bytes b) ≡ s.shape.B) where
  abbrev h' : Shape
  h' = s.shape

  same-levels : filled_levels h'.P h'.L (λ q. get_or (map s.counter (below h'.P)) q 0) ≡ filled_levels h'.P h'.L s.counter
  unfolding filled_levels below
  same-levels = each_same _ _ (all_map (λ q hq. ap (λ c. map (λ ℓ. (q, ℓ)) (keep (filled c) (Search.count 0 h'.L))) (get_or-table s.counter 0 h'.P q 0 hq ∙ ap s.counter (zero-plus q))) (unfold below in (below-below h'.P)))
    where
      zero-plus : (q : ℕ) → 0 + q ≡ q
      zero-plus q = omega arith

  same_count : length (keep is_waiting (form_in s).blocks) ≡ length s.waiting
  same_count =
      keep-mapped is_waiting (λ b. (s.partition b, spot_of (member b s.waiting) (s.place b))) (below h'.N)
      ∙ ap length (keep_same _ _ (below h'.N) (λ b m. spot-waits (s.partition b) (member b s.waiting) (s.place b)))
      ∙ waiting-count h'.N s.waiting u f.waiting

  abbrev w' : ℕ
  w' = slot_width (form_of s.shape)

  abbrev p₂ : List ℕ
  p₂ = each (little 2) (shape_numbers s.shape)

  abbrev p₃ : List ℕ
  p₃ = each (λ q. little 2 (s.counter q)) (below s.shape.P)

  abbrev p₄ : List ℕ
  p₄ = little 2 (length s.queue)

  abbrev p₅ : List ℕ
  p₅ = each (little 2) s.queue

  abbrev p₆ : List ℕ
  p₆ = each (block_bytes w' s) (below s.shape.N)

  abbrev p₇ : List ℕ
  p₇ = each (level_bytes w' s) (filled_levels s.shape.P s.shape.L s.counter)

  abbrev p₈ : List ℕ
  p₈ = each waiter_bytes (waiters s.bytes 0 s.waiting)

  flat : (r : List ℕ) → payload s ++ r ≡ little 1 (form_of s.shape) ++ (p₂ ++ (p₃ ++ (p₄ ++ (p₅ ++ (p₆ ++ (p₇ ++ (p₈ ++ r)))))))
  unfolding payload
  flat r = simp append_assoc

  sm' : Small s.shape
  sm' = small s.shape f.shape

  shape-small : All (λ x. x < 256 ^ 2) (shape_numbers s.shape)
  unfolding shape_numbers
  shape-small =
      let n : h'.N < 256 ^ 2 = omega (arith, sm'.blocks) in
      let p : h'.P < 256 ^ 2 = omega (arith, sm'.partitions) in
      let l : h'.L < 256 ^ 2 = omega (arith, sm'.levels) in
      let b : h'.B < 256 ^ 2 = omega (arith, sm'.bytes) in
      let e : h'.E < 256 ^ 2 = omega (arith, sm'.cache, sm'.blocks) in
      let c : h'.W < 256 ^ 2 = omega (arith, sm'.free) in
      cons n (cons p (cons l (cons b (cons e (cons c nil)))))

  read₂ : (r : List ℕ) → get_numbers 2 6 (p₂ ++ r) ≡ some (shape_numbers s.shape, r)
  read₂ r = get-numbers 2 6 (shape_numbers s.shape) r (unfold shape_numbers in refl) shape-small

  read₃ : (r : List ℕ) → get_numbers 2 h'.P (p₃ ++ r) ≡ some (map s.counter (below h'.P), r)
  unfolding get_numbers
  read₃ r = get-each (λ k. get_number 2) (λ q. little 2 (s.counter q)) s.counter
      (all_map (λ q hq r. get-number 2 (s.counter q) r (omega (arith, f.counters q hq, pow_mono {i = h'.L} {j = 8} sm'.levels))) (below-below h'.P)) r

  jobs-le : length s.queue ≤ 64
  jobs-le = go s.request f.jobs
    where
      go : (o : Option Request) → JobsIn s.queue o → length s.queue ≤ 64
      go none k = k
      go (some x) k = omega arith

  read₅ : (r : List ℕ) → get_numbers 2 (length s.queue) (p₅ ++ r) ≡ some (s.queue, r)
  read₅ r = get-numbers 2 (length s.queue) s.queue r refl (all_map (λ q hq. omega (arith, sm'.partitions)) f.queue)

  read₆ : (r : List ℕ) → get_each (λ b. get_block w') (below h'.N) (p₆ ++ r) ≡ some ((form_in s).blocks, r)
  read₆ r = get-each (λ b. get_block w') (block_bytes w' s) _ (all_map (λ b hb r. get-block s f b hb r) (below-below h'.N)) r

  read₇ : (r : List ℕ) → get_each (get_level w') (filled_levels h'.P h'.L s.counter) (p₇ ++ r) ≡ some ((form_in s).levels, r)
  read₇ r = get-each (get_level w') (level_bytes w' s) (level_of s) (all_map (λ k hk r. get-level s f k hk.0 hk.1 r) (levels-in s f)) r

  few : length s.waiting ≤ h'.N
  few = nodup-le h'.N s.waiting u f.waiting

  read₈ : (r : List ℕ) → get_each (λ k. get_waiter h'.B) (below (length s.waiting)) (p₈ ++ r) ≡ some (waiters s.bytes 0 s.waiting, r)
  read₈ r = get-list (get_waiter h'.B) waiter_bytes (below (length s.waiting)) (length-below (length s.waiting) ∙ sym (waiters-length s.bytes 0 s.waiting))
      (waiters-all s.bytes _ s.waiting 0 (λ b k m l v r. get-waiter s f (record { block = b; age = k; bytes = s.bytes b }) (all-mem f.waiting b m) (omega (arith, few)) (whole b m) r)) r

  same_shape : shape_of (shape_numbers s.shape) ≡ s.shape
  unfolding shape_of shape_numbers
  same_shape = refl

  pub payload-read : (r : List ℕ) → get_form (payload s ++ r) ≡ some (form_in s, r)
  unfolding get_form and_then
  payload-read r =
      let t₃ : List ℕ = p₃ ++ (p₄ ++ (p₅ ++ (p₆ ++ (p₇ ++ (p₈ ++ r))))) in
      let t₅ : List ℕ = p₅ ++ (p₆ ++ (p₇ ++ (p₈ ++ r))) in
      rw (
        flat r,
        get-number 1 (form_of s.shape) (p₂ ++ t₃) (unfold form_of in (omega arith)),
        read₂ t₃,
        same_shape,
        read₃ (p₄ ++ t₅),
        get-number 2 (length s.queue) t₅ (omega (arith, jobs-le)),
        read₅ (p₆ ++ (p₇ ++ (p₈ ++ r))),
        read₆ (p₇ ++ (p₈ ++ r)),
        same-levels,
        read₇ (p₈ ++ r),
        same_count,
        read₈ r,
      )
