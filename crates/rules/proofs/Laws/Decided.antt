-- What a turn decides is in range.
use Rattle.std.specs.Prelude.{◌≡◌, Bool, ◌||◌, if◌then◌else◌}
use Rattle.std.proofs.Math.Path.{refl, subst}
use Rattle.std.proofs.Common.{sym, ◌∙◌, arith, eqb-true}
use Rattle.std.proofs.Math.Bool.{true, false}
use mathlib.Core.List.{List, [], ◌∷◌, map}
use Rattle.std.proofs.Math.Option.{Option, none, some, get_or}
use Prim.Native.Nat.{ℕ, zero, suc, ◌+◌, ◌-◌, ◌^◌, ◌≤◌, ◌<◌}
use Rattle.std.proofs.Math.Dec.{eqb}
use Rattle.lists.specs.Tests.{and_l}
use Rattle.lists.specs.Search
use Rattle.lists.specs.Search.{below, or_else}
use Rattle.lists.specs.All.{All, nil, cons, IfSome, all_map, all_append, all_keep, find-all, count-below, map_below, below-below, keep-passes}
use Rattle.rules.specs.Levels
use Rattle.rules.specs.Blocks
use Rattle.rules.specs.Reader
use Rattle.rules.specs.Laws.Reader.{slot_in, if_unread, slot_said}
use Rattle.rules.proofs.Laws.Reader.{slot_read-is, costs-is}
use Rattle.rules.specs.Request
use Rattle.rules.specs.Rebuild
use Rattle.rules.specs.Rebuild.{places}
use Rattle.rules.specs.Shape.{cell, slots}
use Rattle.rules.specs.State.{State, Command, Place, nowhere, stored, Request}
use Rattle.rules.specs.Questions.{request}
use Rattle.rules.specs.Turn
use Rattle.rules.specs.Turn.{Step, idle, no_dummy, read_for_request, read_for_job, rebuild, write_next, decide}
use Rattle.rules.specs.Jobs
use Rattle.rules.specs.Jobs.{top_of, levels_of, slot_count, write_at, orders_bounds}
use Rattle.rules.specs.Laws.Range.{PlaceIn, RequestIn, InRange}
use Rattle.rules.proofs.Laws.Orders.{order_bounds-pos}
use Rattle.rules.proofs.Laws.Levels.{top_lt, levels-pos, written_in, written-slots, write-in}
use Rattle.rules.specs.Laws.Decided.{Front, StepIn}

pub places-in : (n : ℕ) → All (λ (p : ℕ × ℕ). (p.0 < n) × (p.1 < slots p.0)) (places n)
unfolding places
places-in zero = nil
places-in (suc n) = all_append (all_map (λ p h. (omega arith, h.1)) (places-in n)) (go (below (2 ^ (n + 1))) (below-below (2 ^ (n + 1))))
  where
    go : (xs : List ℕ) → All (λ x. x < 2 ^ (n + 1)) xs → All (λ (p : ℕ × ℕ). (p.0 < suc n) × (p.1 < slots p.0)) (map (λ i. (n, i)) xs)
    go [] nil = nil
    go (x ∷ xs) (cons k t) = let here : (n < suc n) × (x < slots n) = (omega arith, k) in cons here (go xs t)

pub slot_in-in : (top ℓ : ℕ) (x : Place) → PlaceIn top x → IfSome (λ i. i < slots ℓ) (slot_in ℓ x)
unfolding slot_in
slot_in-in top ℓ nowhere h = tt
slot_in-in top ℓ (stored m i) h = go (eqb m ℓ) refl
  where
    go : (t : Bool) → eqb m ℓ ≡ t → IfSome (λ i. i < slots ℓ) (if t then some i else none)
    go true e = rw (← eqb-true m ℓ e) h.1
    go false e = tt

pub or_else-in : (P : ℕ → Type 0) (a b : Option ℕ) → IfSome P a → IfSome P b → IfSome P (or_else a b)
unfolding or_else
or_else-in P none b h k = k
or_else-in P (some x) b h k = h

pub if_unread-in : (P : ℕ → Type 0) (p : ℕ → Bool) (o : Option ℕ) → IfSome P o → IfSome P (if_unread p o)
unfolding if_unread
if_unread-in P p none h = tt
if_unread-in P p (some i) h = go (p i)
  where
    go : (t : Bool) → IfSome P (if t then some i else none)
    go true = h
    go false = tt

module _ (s : State) (f : InRange s) where
  pub dummy-in : (q ℓ : ℕ) → q < s.shape.P → ℓ < s.shape.L → IfSome (λ i. i < slots ℓ) (Reader.dummy s q ℓ)
  unfolding Reader.dummy
  dummy-in q ℓ hq hℓ = find-all _ (map_below (λ i. i < slots ℓ) (λ k. s.order (cell s.shape q ℓ k)) (slots ℓ) (λ i k. f.orders q ℓ i hq hℓ k))

  pub lowest-in : (q ℓ : ℕ) → q < s.shape.P → ℓ < s.shape.L → IfSome (λ i. i < slots ℓ) (Reader.lowest s q ℓ)
  unfolding Reader.lowest
  lowest-in q ℓ hq hℓ = find-all _ (map_below (λ i. i < slots ℓ) (λ k. s.order (cell s.shape q ℓ k)) (slots ℓ) (λ i k. f.orders q ℓ i hq hℓ k))

  pub slot_read-in : (q ℓ : ℕ) (x : Place) → q < s.shape.P → ℓ < s.shape.L → PlaceIn s.shape.L x → IfSome (λ i. i < slots ℓ) (Reader.slot_read s q x ℓ)
  unfolding slot_said
  slot_read-in q ℓ x hq hℓ hx = rw (slot_read-is s q x ℓ) (go (Reader.costs s q ℓ) (Request.is_source s q ℓ))
    where
      go : (t u : Bool) → IfSome (λ i. i < slots ℓ) (if t then slot_said u (Blocks.is_unread s q ℓ) (Reader.dummy s q ℓ) (Reader.lowest s q ℓ) x ℓ else none)
      go false u = tt
      go true true = or_else-in (λ i. i < slots ℓ) (if_unread (Blocks.is_unread s q ℓ) (slot_in ℓ x)) (Reader.lowest s q ℓ)
          (if_unread-in (λ i. i < slots ℓ) (Blocks.is_unread s q ℓ) (slot_in ℓ x) (slot_in-in s.shape.L ℓ x hx)) (lowest-in q ℓ hq hℓ)
      go true false = or_else-in (λ i. i < slots ℓ) (slot_in ℓ x) (Reader.dummy s q ℓ) (slot_in-in s.shape.L ℓ x hx) (dummy-in q ℓ hq hℓ)

  pub levels-in : (r : Request) → r.level ≤ s.shape.L → All (λ ℓ. ℓ < s.shape.L) (Reader.levels_left s r)
  unfolding Reader.levels_left
  levels-in r h = all_keep _ (all_map (λ x k. omega arith) (count-below r.level (s.shape.L - r.level)))

  pub read_step-in : (q ℓ : ℕ) (o : Option ℕ) → q < s.shape.P → ℓ < s.shape.L → IfSome (λ i. i < slots ℓ) o → StepIn s (Turn.read_step q ℓ o)
  unfolding Turn.read_step
  read_step-in q ℓ none hq hℓ h = tt
  read_step-in q ℓ (some i) hq hℓ h = (hq, hℓ, h)

  pub first_read-in : (q : ℕ) (x : Place) (ls : List ℕ) → q < s.shape.P → PlaceIn s.shape.L x → All (λ ℓ. ℓ < s.shape.L) ls
      → IfSome (StepIn s) (Turn.first_read q (Reader.slot_read s q x) ls)
  unfolding Turn.first_read
  first_read-in q x [] hq hx h = tt
  first_read-in q x (ℓ ∷ ls) hq hx (cons h t) = read_step-in q ℓ (Reader.slot_read s q x ℓ) hq h (slot_read-in q ℓ x hq h hx)

  pub request_step-in : (r : Option Request) → IfSome (RequestIn s.shape) r → IfSome (StepIn s) (Turn.request_step s r)
  unfolding Turn.request_step
  request_step-in none h = tt
  request_step-in (some r) h = go (Request.held r)
    where
      q : ℕ
      q = s.partition r.block

      go : (t : Bool) → IfSome (StepIn s) (if t then none else Turn.first_read q (Reader.slot_read s q (s.place r.block)) (Reader.levels_left s r))
      go true = tt
      go false = first_read-in q (s.place r.block) (Reader.levels_left s r) (f.partitions r.block h.block) (f.places r.block h.block) (levels-in r h.level)

  pub gather_step-in : (q : ℕ) (o : Option (ℕ × ℕ)) (x : Step) → q < s.shape.P → Front s q → IfSome (λ (p : ℕ × ℕ). (p.0 < s.shape.L) × (p.1 < slots p.0)) o → StepIn s x → StepIn s (Turn.gather_step q o x)
  unfolding Turn.gather_step
  gather_step-in q none x hq w h k = k
  gather_step-in q (some p) x hq w h k = (hq, h.0, h.1, w)

  next_write-in : (q : ℕ) (o : Option (ℕ × ℕ)) → q < s.shape.P → IfSome (λ (p : ℕ × ℕ). (p.0 < s.shape.L) × (p.1 < slots p.0) × (s.sent < slot_count (levels_of s q))) o → StepIn s (Turn.next_write q o)
  unfolding Turn.next_write levels_of
  next_write-in q none hq h = tt
  next_write-in q (some p) hq h = (hq, h.0, h.1, omega (arith, h.2, written-slots s.shape (s.counter q) (Jobs.joined s q) (levels-pos s.shape f.shape)))

  pub job_step-in : (l : List ℕ) → s.queue ≡ l → All (λ q. q < s.shape.P) l → StepIn s (Turn.job_step s l)
  unfolding Turn.job_step Turn.rebuild_step Turn.write_step Rebuild.unread Rebuild.next_unread
  job_step-in [] e h = tt
  job_step-in (q ∷ l) e (cons h t) = go (eqb s.sent 0)
    where
      top : top_of s q < s.shape.L
      top = unfold top_of in (top_lt s.shape (s.counter q) (Jobs.joined s q) (levels-pos s.shape f.shape))

      levels : All (λ ℓ. ℓ < s.shape.L) (levels_of s q)
      levels = unfold levels_of in (written_in s.shape (s.counter q) (Jobs.joined s q) (levels-pos s.shape f.shape))

      go₁ : (t : Bool) → StepIn s (if t then idle else rebuild q (levels_of s q))
      go₁ true = tt
      go₁ false = (h, levels, (l, e))

      go : (t : Bool) → StepIn s (if t then Turn.gather_step q (Rebuild.unread s q) (Turn.rebuild_step s q) else Turn.write_step s q)
      go true = gather_step-in q (Rebuild.unread s q) (Turn.rebuild_step s q) h (l, e)
          (find-all _ (all_map (λ p k. (omega (arith, k.0, top), k.1)) (places-in (suc (top_of s q))))) (go₁ (Search.any (λ (c : Command). eqb c.partition q) s.outstanding || Request.released_for s.partition s.request q))
      go false = next_write-in q (write_at (levels_of s q) s.sent) h (write-in (λ ℓ. ℓ < s.shape.L) (levels_of s q) s.sent levels)

  pub decide-in : StepIn s (decide s)
  unfolding decide
  decide-in = go (Turn.request_step s s.request) (request_step-in s.request f.request)
    where
      go : (o : Option Step) → IfSome (StepIn s) o → StepIn s (get_or o (Turn.job_step s s.queue))
      go none h = job_step-in s.queue refl f.queue
      go (some x) h = h

-- a read for a request is of a filled level
abbrev OfFilled : State → Step → Type 0
OfFilled s idle = Unit {0}
OfFilled s no_dummy = Unit {0}
OfFilled s (read_for_request q ℓ i) = Levels.filled (s.counter q) ℓ ≡ true
OfFilled s (read_for_job q ℓ i) = Unit {0}
OfFilled s (rebuild q ls) = Unit {0}
OfFilled s (write_next q t i) = Unit {0}

module _ (s : State) where
  first-filled : (q : ℕ) (at : ℕ → Option ℕ) (ls : List ℕ) → All (λ ℓ. Reader.costs s q ℓ ≡ true) ls → IfSome (OfFilled s) (Turn.first_read q at ls)
  unfolding Turn.first_read
  first-filled q at [] nil = tt
  first-filled q at (ℓ ∷ ls) (cons h t) = go (at ℓ)
    where
      go : (o : Option ℕ) → OfFilled s (Turn.read_step q ℓ o)
      go none = unfold Turn.read_step in tt
      go (some i) = unfold Turn.read_step in (and_l (Levels.filled (s.counter q) ℓ) _ (sym (costs-is s q ℓ) ∙ h))

  request-filled : (r : Option Request) → IfSome (OfFilled s) (Turn.request_step s r)
  unfolding Turn.request_step
  request-filled none = tt
  request-filled (some r) = go (Request.held r)
    where
      q : ℕ
      q = s.partition r.block

      go : (t : Bool) → IfSome (OfFilled s) (if t then none else Turn.first_read q (Reader.slot_read s q (s.place r.block)) (Reader.levels_left s r))
      go true = tt
      go false = first-filled q (Reader.slot_read s q (s.place r.block)) (Reader.levels_left s r) (unfold Reader.levels_left in (keep-passes (Reader.costs s q) _))

  job-filled : (qs : List ℕ) → OfFilled s (Turn.job_step s qs)
  unfolding Turn.job_step Turn.rebuild_step Turn.write_step Turn.gather_step Turn.next_write
  job-filled [] = tt
  job-filled (q ∷ qs) = go (eqb s.sent 0) (Rebuild.unread s q) (Search.any (λ (c : Command). eqb c.partition q) s.outstanding || Request.released_for s.partition s.request q) (write_at (levels_of s q) s.sent)
    where
      go : (a : Bool) (o : Option (ℕ × ℕ)) (b : Bool) (w : Option (ℕ × ℕ)) → OfFilled s (if a then Turn.gather_step q o (if b then idle else rebuild q (levels_of s q)) else Turn.next_write q w)
      go true none true w = tt
      go true none false w = tt
      go true (some p) b w = tt
      go false o b none = tt
      go false o b (some p) = tt

  pub read-filled : (q ℓ i : ℕ) → decide s ≡ read_for_request q ℓ i → Levels.filled (s.counter q) ℓ ≡ true
  unfolding decide
  read-filled q ℓ i e = subst (OfFilled s) e (go (Turn.request_step s s.request) (request-filled s.request))
    where
      go : (o : Option Step) → IfSome (OfFilled s) o → OfFilled s (get_or o (Turn.job_step s s.queue))
      go none h = job-filled s.queue
      go (some x) h = h

orders_bounds-pos : (ls : List ℕ) → All (λ m. 0 < m) (orders_bounds ls)
unfolding orders_bounds
orders_bounds-pos [] = nil
orders_bounds-pos (ℓ ∷ ls) = all_append (order_bounds-pos (slots ℓ)) (orders_bounds-pos ls)

pub step_bounds-pos : (x : Step) → All (λ m. 0 < m) (Turn.step_bounds x)
unfolding Turn.step_bounds
step_bounds-pos idle = nil
step_bounds-pos no_dummy = nil
step_bounds-pos (read_for_request q ℓ i) = nil
step_bounds-pos (read_for_job q ℓ i) = nil
step_bounds-pos (rebuild q ls) = orders_bounds-pos ls
step_bounds-pos (write_next q t i) = nil
