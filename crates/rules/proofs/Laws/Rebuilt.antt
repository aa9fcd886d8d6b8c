-- What a rebuild leaves is in range, and so is the number of jobs that it runs for; those that leave the queue leave it in range.
use Rattle.std.specs.Prelude.{◌≡◌, ℕ, suc, ◌+◌, ◌-◌, ◌^◌, ◌≤◌, ◌<◌, zero, length, replicate, take, drop, eqb}
use mathlib.Core.List.{List, [], ◌∷◌, map}
use Rattle.std.proofs.Math.Option.{Option, none, some}
use Rattle.std.proofs.Common.{arith, pow_pos, pow_mono}
use Rattle.lists.specs.Search.{index_of, without, without_first}
use Rattle.lists.specs.Lengths.{without-length}
use Rattle.lists.specs.All.{All, nil, cons, all_keep, all_without, all_get_d, map_below, all_replicate, below-below, all_take, all_drop}
use Rattle.lists.specs.Tables.{put_all-has}
use Rattle.rules.specs.Laws.Range.{PlaceIn, JobsIn, InRange}
use Rattle.rules.specs.Jobs.{joined, leave_queue}
use Rattle.rules.proofs.Laws.Orders.{order_below, length-order}
use Rattle.rules.specs.Laws.Levels.{Joins}
use Rattle.rules.proofs.Laws.Levels.{joins-le, levels-pos, joined_in}
use Rattle.rules.proofs.Laws.Layout.{cell-inj}
use Rattle.rules.specs.Shape.{Shape, cell, slots}
use Rattle.rules.specs.Laws.Decided.{Front}
use Rattle.rules.specs.Rebuild
use Rattle.rules.specs.Rebuild.{places, Fill, fills, new_places, write_levels, new_orders, new_marks, new_held}
use Rattle.rules.proofs.Laws.RangeSetters.{in_place, in_order, in_mark, in_holds, in_waiting, in_begun, in_sent}
use Rattle.rules.specs.State.{State, Place, Request}
use Rattle.rules.proofs.Laws.Waiting.{leave-waits}
use Rattle.rules.specs.Questions.{request}
use Rattle.rules.specs.Draws.{new_order}

pub all-leave : {P : ℕ → Type 0} (bs : List ℕ) {xs : List ℕ} → All P xs → All P (Rebuild.leave bs xs)
unfolding Rebuild.leave
all-leave [] h = h
all-leave (b ∷ bs) h = all-leave bs (all_without _ h)

pub item_place-in : (top t : ℕ) (o : List ℕ) (k : Option ℕ) (x : Place) → t < top → All (λ v. v < slots t) o → PlaceIn top x → PlaceIn top (Rebuild.item_place t o k x)
unfolding Rebuild.item_place
item_place-in top t o none x ht ho hx = hx
item_place-in top t o (some k) x ht ho hx = (ht, all_get_d k ho (pow_pos (t + 1)))

pub item_holds-in : (n : ℕ) (blocks : List ℕ) (k : Option ℕ) → All (λ b. b < n) blocks → Rebuild.item_holds blocks k ≤ n
unfolding Rebuild.item_holds
item_holds-in n blocks none h = omega arith
item_holds-in n blocks (some k) h = all_get_d k (more blocks h) (omega arith)
  where
    more : (xs : List ℕ) → All (λ b. b < n) xs → All (λ v. v ≤ n) (map suc xs)
    more [] nil = nil
    more (x ∷ xs) (cons a t) = cons a (more xs t)

pub new_holds-in : (n m : ℕ) (blocks o : List ℕ) → All (λ b. b < n) blocks → All (λ v. v ≤ n) (Rebuild.new_holds m blocks o)
unfolding Rebuild.new_holds
new_holds-in n m blocks o h = map_below (λ v. v ≤ n) (λ i. Rebuild.item_holds blocks (index_of i o)) m (λ i k. item_holds-in n blocks (index_of i o) h)

pub gathered-in : (s : State) (q : ℕ) → All (λ b. b < s.shape.N) (Rebuild.gathered s q)
unfolding Rebuild.gathered Rebuild.gather_from
gathered-in s q = all_keep _ (below-below s.shape.N)

pub cleared-in : (n a m : ℕ) (f : ℕ → ℕ) (c : ℕ) → f c ≤ n → Rebuild.cleared a m f c ≤ n
unfolding Rebuild.cleared
cleared-in n a m f c k = put_all-has (λ v. v ≤ n) a (replicate m 0) f c (λ x y. all_get_d _ (all_replicate (λ v. v ≤ n) m 0 (omega arith)) (omega arith)) k

-- What is written of a level is in range
pub record FillIn (h : Shape) (x : Fill) : Type 0 where
  pub level : x.level < h.L
  pub long : length x.order ≡ slots x.level
  pub low : All (λ v. v < slots x.level) x.order
  pub blocks : All (λ b. b < h.N) x.blocks

pub fills-in : (h : Shape) (ls js bs : List ℕ) → All (λ ℓ. ℓ < h.L) ls → All (λ b. b < h.N) bs → All (FillIn h) (fills ls js bs)
unfolding fills
fills-in h [] js bs nil b = nil
fills-in h (ℓ ∷ ls) js bs (cons k t) b =
    let here : FillIn h (record { level = ℓ; order = new_order (slots ℓ) js; blocks = take (2 ^ ℓ) bs }) = record { level = k; long = length-order (slots ℓ) js; low = order_below (slots ℓ) js (pow_pos (ℓ + 1)); blocks = all_take (2 ^ ℓ) b } in
    cons here (fills-in h ls (drop (slots ℓ - 1) js) (drop (2 ^ ℓ) bs) t (all_drop (2 ^ ℓ) b))

-- a cell of a level that is written is one of that level
level-of : (h : Shape) (q t n p ℓ i : ℕ) → t < h.L → n ≡ slots t → ℓ < h.L → i < slots ℓ → cell h q t 0 ≤ cell h p ℓ i → cell h p ℓ i < cell h q t 0 + n → t ≡ ℓ
level-of h q t n p ℓ i ht len hℓ hi a b = (cell-inj h q p t ℓ k i ht hℓ (omega arith) hi same).1
  where
    k : ℕ
    k = cell h p ℓ i - cell h q t 0

    same : cell h q t k ≡ cell h p ℓ i
    same = unfold cell in (omega arith)

-- the tables of a rebuild
module _ (h : Shape) (q : ℕ) where
  places-kept : (xs : List Fill) (f : ℕ → Place) → All (FillIn h) xs → (b : ℕ) → PlaceIn h.L (f b) → PlaceIn h.L (new_places xs f b)
  unfolding new_places Rebuild.new_place
  places-kept [] f nil b k = k
  places-kept (x ∷ xs) f (cons a t) b k = places-kept xs _ t b (item_place-in h.L x.level x.order (index_of b x.blocks) (f b) a.level a.low k)

  orders-kept : (xs : List Fill) (f : ℕ → ℕ) → All (FillIn h) xs → (p ℓ i : ℕ) → ℓ < h.L → i < slots ℓ → f (cell h p ℓ i) < slots ℓ → new_orders h q xs f (cell h p ℓ i) < slots ℓ
  unfolding new_orders write_levels
  orders-kept [] f nil p ℓ i hℓ hi k = k
  orders-kept (x ∷ xs) f (cons a t) p ℓ i hℓ hi k = orders-kept xs _ t p ℓ i hℓ hi (put_all-has (λ v. v < slots ℓ) (cell h q x.level 0) x.order f (cell h p ℓ i)
      (λ u v. rw (← level-of h q x.level (length x.order) p ℓ i a.level a.long hℓ hi u v) (all_get_d _ a.low (pow_pos (x.level + 1)))) k)

  marks-kept : (ls : List ℕ) (f : ℕ → ℕ) (c : ℕ) → f c ≤ 1 → new_marks h q ls f c ≤ 1
  unfolding new_marks write_levels
  marks-kept [] f c k = k
  marks-kept (ℓ ∷ ls) f c k = marks-kept ls _ c (put_all-has (λ v. v ≤ 1) (cell h q ℓ 0) (replicate (slots ℓ) 1) f c (λ a b. all_get_d _ (all_replicate (λ v. v ≤ 1) (slots ℓ) 1 (omega arith)) (omega arith)) k)

  held_kept : (xs : List Fill) (f : ℕ → ℕ) → All (FillIn h) xs → (c : ℕ) → f c ≤ h.N → new_held h q xs f c ≤ h.N
  unfolding new_held write_levels
  held_kept [] f nil c k = k
  held_kept (x ∷ xs) f (cons a t) c k = held_kept xs _ t c (put_all-has (λ v. v ≤ h.N) (cell h q x.level 0) _ f c (λ u v. all_get_d _ (new_holds-in h.N (slots x.level) x.blocks x.order a.blocks) (omega arith)) k)

-- the front job's jobs are of the queue
pub jobs-le : (qs : List ℕ) (r : Option Request) → JobsIn qs r → length qs ≤ 64
jobs-le qs none h = h
jobs-le qs (some r) h = omega arith

-- ..and the job that begins is in range
pub front-joins : (s : State) → InRange s → (q : ℕ) (qs : List ℕ) → s.queue ≡ q ∷ qs → Joins s.shape (s.counter q) (joined s q)
front-joins s f q qs e =
    let a : All (λ p. p < s.shape.P) (q ∷ qs) = rw e at f.queue in
    joined_in s q qs e (f.counters q (first a)) (jobs-le s.queue s.request f.jobs) f.begun
  where
    first : All (λ p. p < s.shape.P) (q ∷ qs) → q < s.shape.P
    first (cons h t) = h

pub front_fits : (s : State) → InRange s → (q : ℕ) → Front s q → joined s q ≤ 64
front_fits s f q x = omega (arith, (front-joins s f q x.0 x.1).1, joins-le s.shape (s.counter q) 64 (omega arith))

-- a rebuild
pub rebuild-in : (s : State) → InRange s → (q : ℕ) → Front s q → (ls : List ℕ) (xs : List Fill) → All (FillIn s.shape) xs → InRange (Rebuild.do_rebuild q ls xs s)
unfolding Rebuild.do_rebuild
rebuild-in s f q front ls xs a = in_sent _ (in_begun _ (in_holds _ (in_mark _ (in_order _ (in_waiting _ (in_place s f _
    (λ b hb. places-kept s.shape q xs s.place a b (f.places b hb)))
    _ (all-leave (Rebuild.chosen s q) f.waiting) (leave-waits s.shape.E s.waiting (Rebuild.chosen s q) s.request f.cache))
    _ (λ p ℓ i hp hℓ hi. orders-kept s.shape q xs s.order a p ℓ i hℓ hi (f.orders p ℓ i hp hℓ hi)))
    _ (λ p ℓ i hp hℓ hi. marks-kept s.shape q ls s.mark (cell s.shape p ℓ i) (f.marks p ℓ i hp hℓ hi)))
    _ (λ p ℓ i hp hℓ hi. held_kept s.shape q xs _ a (cell s.shape p ℓ i) (cleared-in s.shape.N _ _ s.holds (cell s.shape p ℓ i) (f.holds p ℓ i hp hℓ hi))))
    _ (front_fits s f q front))
    1 (omega (arith, pow_mono {i = 2} {j = s.shape.L + 1} (omega (arith, levels-pos s.shape f.shape))))

pub leave-queue-le : (q j : ℕ) (qs : List ℕ) → length (leave_queue q j qs) ≤ length qs
unfolding leave_queue without_first
leave-queue-le q zero qs = omega arith
leave-queue-le q (suc j) qs = omega (arith, leave-queue-le q j (without (eqb q) qs), without-length (eqb q) qs)

pub all-leave-queue : {P : ℕ → Type 0} (q j : ℕ) {qs : List ℕ} → All P qs → All P (leave_queue q j qs)
unfolding leave_queue without_first
all-leave-queue q zero h = h
all-leave-queue q (suc j) h = all-leave-queue q j (all_without _ h)
