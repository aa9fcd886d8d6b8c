-- The order that is drawn: its slots are below n, there are n of them, and none stands twice.
use Rattle.std.specs.Prelude.{◌≡◌, refl, List, [], ◌∷◌, ◌++◌, ℕ, zero, suc, ◌-◌, ◌≤◌, ◌<◌, get_or, replicate, take, drop}
use Rattle.std.proofs.Common.{ap, sym, ◌∙◌, arith}
use Rattle.std.proofs.Math.ListN.{length, set, length-set}
use Rattle.std.proofs.Math.Logic.{ite}
use Rattle.std.proofs.Math.Decide.{ℕ_discrete}
use Rattle.std.proofs.Math.Seq.{get_or-set_same, get_or-set_other}
use Rattle.lists.specs.Members.{nodup-below}
use Rattle.lists.specs.Lengths.{length-count, length-below}
use Rattle.lists.specs.All.{All, nil, cons, all_get_d, all_set, below-below}
use Rattle.lists.specs.Search.{below}
use Rattle.lists.specs.Distinct.{Mem, NoDup, index, index-mem, mem-at, nodup-inj, inj-nodup}
use Rattle.rules.specs.Shape.{slots}
use Rattle.rules.specs.Jobs.{orders_bounds}
use Rattle.rules.specs.Draws.{exchange, shuffle, new_order, order_bounds, Drew}

-- An order's slots
pub exchange-below : (n i j : ℕ) (o : List ℕ) → 0 < n → All (λ x. x < n) o → All (λ x. x < n) (exchange o i j)
unfolding exchange
exchange-below n i j o p h = all_set j (all_set i h (all_get_d j h p)) (all_get_d i h p)

pub shuffle-below : (n i : ℕ) (js o : List ℕ) → 0 < n → All (λ x. x < n) o → All (λ x. x < n) (shuffle i js o)
unfolding shuffle
shuffle-below n zero js o p h = h
shuffle-below n (suc i) [] o p h = h
shuffle-below n (suc i) (j ∷ js) o p h = shuffle-below n i js (exchange o (suc i) j) p (exchange-below n (suc i) j o p h)

pub length-shuffle : (i : ℕ) (js o : List ℕ) → length (shuffle i js o) ≡ length o
unfolding shuffle exchange
length-shuffle zero js o = refl
length-shuffle (suc i) [] o = refl
length-shuffle (suc i) (j ∷ js) o = length-shuffle i js (exchange o (suc i) j) ∙ simp length-set

pub order_below : (n : ℕ) (js : List ℕ) → 0 < n → All (λ x. x < n) (new_order n js)
unfolding new_order
order_below n js p = shuffle-below n (n - 1) js (below n) p (below-below n)

pub length-order : (n : ℕ) (js : List ℕ) → length (new_order n js) ≡ n
unfolding new_order below
length-order n js = length-shuffle (n - 1) js (below n) ∙ length-count 0 n

pub order_bounds-pos : (n : ℕ) → All (λ m. 0 < m) (order_bounds n)
unfolding order_bounds
order_bounds-pos zero = nil
order_bounds-pos (suc zero) = nil
order_bounds-pos (suc (suc i)) = let here : 0 < suc (suc i) = omega arith in cons here (order_bounds-pos (suc i))

pub drew-length : (ms js : List ℕ) → Drew ms js → length js ≡ length ms
drew-length [] [] d = refl
drew-length [] (j ∷ js) d = absurd d
drew-length (m ∷ ms) [] d = absurd d
drew-length (m ∷ ms) (j ∷ js) d = ap suc (drew-length ms js d.1)

-- as many numbers below one bound
pub drew-each : (n m : ℕ) (js : List ℕ) → Drew (replicate n m) js → (k : ℕ) → k < n → get_or js k 0 < m
drew-each zero m js d k h = absurd (omega arith)
drew-each (suc n) m [] d k h = absurd d
drew-each (suc n) m (j ∷ js) d zero h = d.0
drew-each (suc n) m (j ∷ js) d (suc k) h = drew-each n m js d.1 k (omega arith)

pub each-drew : (n m : ℕ) (js : List ℕ) → length js ≡ n → ((k : ℕ) → k < n → get_or js k 0 < m) → Drew (replicate n m) js
each-drew zero m [] e f = tt
each-drew zero m (j ∷ js) e f = absurd (omega arith)
each-drew (suc n) m [] e f = absurd (omega arith)
each-drew (suc n) m (j ∷ js) e f = (f zero (omega arith), each-drew n m js (omega arith) (λ k h. f (suc k) (omega arith)))

-- item k has after the exchange of i and j the slot that item `other i j k` had before it
pub other : ℕ → ℕ → ℕ → ℕ
other i j k = ite (ℕ_discrete k j) i (ite (ℕ_discrete k i) j k)

pub by-other : {A : Type 0} (i j k : ℕ) → (k ≡ j → other i j k ≡ i → A) → (¬ (k ≡ j) → k ≡ i → other i j k ≡ j → A) → (¬ (k ≡ j) → ¬ (k ≡ i) → other i j k ≡ k → A) → A
unfolding other
by-other {A} i j k f g h = go (ℕ_discrete k j) (ℕ_discrete k i) refl
  where
    go : (d : Dec (k ≡ j)) (e : Dec (k ≡ i)) → other i j k ≡ ite d i (ite e j k) → A
    go (yes p) e q = f p q
    go (no p) (yes r) q = g p r q
    go (no p) (no r) q = h p r q

pub other-lt : (i j k n : ℕ) → i < n → j < n → k < n → other i j k < n
other-lt i j k n hi hj hk = by-other i j k (λ p q. omega arith) (λ p q r. omega arith) (λ p q r. omega arith)

pub other-same : (i j : ℕ) → other i j i ≡ j
other-same i j = by-other i j i (λ p q. omega arith) (λ p q r. omega arith) (λ p q r. omega arith)

pub other-first : (i j : ℕ) → other i j j ≡ i
other-first i j = by-other i j j (λ p q. q) (λ p q r. absurd (p refl)) (λ p q r. absurd (p refl))

pub other-far : (i j k : ℕ) → i < k → j ≤ i → other i j k ≡ k
other-far i j k h l = by-other i j k (λ p q. omega arith) (λ p q r. omega arith) (λ p q r. omega arith)

pub other-back : (i j k : ℕ) → other i j (other i j k) ≡ k
other-back i j k = by-other i j k (λ p q. rw (q, p) (other-same i j)) (λ p q r. rw (r, q) (other-first i j)) (λ p q r. ap (other i j) r ∙ r)

module _ (o : List ℕ) (i j : ℕ) (hi : i < length o) (hj : j < length o) where
  pub get-exchange : (k : ℕ) → get_or (exchange o i j) k 0 ≡ get_or o (other i j k) 0
  unfolding exchange
  get-exchange k =
      let s = set o i (get_or o j 0) in
      let hs : j < length s = omega (arith, length-set o i (get_or o j 0)) in
      by-other i j k
      (λ p q. rw (q, p, get_or-set_same s j (get_or o i 0) 0 hs))
      (λ p q r. get_or-set_other s j k (get_or o i 0) 0 p ∙ rw (r, q, get_or-set_same o i (get_or o j 0) 0 hi))
      (λ p q r. get_or-set_other s j k (get_or o i 0) 0 p ∙ rw r (get_or-set_other o i k (get_or o j 0) 0 q))

  pub length-exchange : length (exchange o i j) ≡ length o
  unfolding exchange
  length-exchange = simp length-set

  pub mem-exchange : (z : ℕ) → Mem z o → Mem z (exchange o i j)
  mem-exchange z m =
      let r = index-mem z o m in
      let k = index z o in
      let e : get_or (exchange o i j) (other i j k) 0 ≡ z = get-exchange (other i j k) ∙ rw (other-back i j k) r.1 in
      rw e at (mem-at (exchange o i j) (other i j k) (omega (arith, length-exchange, other-lt i j k (length o) hi hj r.0)))

  pub exchange-mem : (z : ℕ) → Mem z (exchange o i j) → Mem z o
  exchange-mem z m =
      let r = index-mem z (exchange o i j) m in
      let k = index z (exchange o i j) in
      let h : k < length o = omega (arith, length-exchange) in
      rw (sym (get-exchange k) ∙ r.1) at (mem-at o (other i j k) (other-lt i j k (length o) hi hj h))

  pub nodup-exchange : NoDup o → NoDup (exchange o i j)
  nodup-exchange u = inj-nodup (exchange o i j) (λ k l hk hl e.
      let hk' : k < length o = omega (arith, length-exchange) in
      let hl' : l < length o = omega (arith, length-exchange) in
      let q = nodup-inj o (other i j k) (other i j l) u (other-lt i j k (length o) hi hj hk') (other-lt i j l (length o) hi hj hl') (sym (get-exchange k) ∙ e ∙ get-exchange l) in
      sym (other-back i j k) ∙ ap (other i j) q ∙ other-back i j l)

nodup-shuffle : (i : ℕ) (js o : List ℕ) → i < length o → Drew (order_bounds (suc i)) js → NoDup o → NoDup (shuffle i js o)
unfolding shuffle order_bounds
nodup-shuffle zero js o h d u = u
nodup-shuffle (suc i) [] o h d u = absurd d
nodup-shuffle (suc i) (j ∷ js) o h d u =
    nodup-shuffle i js (exchange o (suc i) j) (omega (arith, length-exchange o (suc i) j h (omega arith))) d.1 (nodup-exchange o (suc i) j h (omega arith) u)

pub nodup-order : (n : ℕ) (js : List ℕ) → 0 < n → Drew (order_bounds n) js → NoDup (new_order n js)
unfolding new_order
nodup-order zero js p d = absurd (omega arith)
nodup-order (suc n) js p d =
    let e : suc n - 1 ≡ n = omega arith in
    rw e (nodup-shuffle n js (below (suc n)) (omega (arith, length-below (suc n))) d (nodup-below (suc n)))

-- an order of n slots takes n − 1 draws
pub bounds-next : (n : ℕ) → 1 < n → order_bounds n ≡ n ∷ order_bounds (n - 1)
unfolding order_bounds
bounds-next zero l = absurd (omega arith)
bounds-next (suc zero) l = absurd (omega arith)
bounds-next (suc (suc i)) l = let e : suc (suc i) - 1 ≡ suc i = omega arith in rw e

pub bounds-none : (n : ℕ) → n ≤ 1 → order_bounds n ≡ []
unfolding order_bounds
bounds-none zero l = refl
bounds-none (suc zero) l = refl
bounds-none (suc (suc i)) l = absurd (omega arith)

pub length-bounds : (n : ℕ) → length (order_bounds n) ≡ n - 1
unfolding order_bounds
length-bounds zero = refl
length-bounds (suc zero) = refl
length-bounds (suc (suc n)) = omega (arith, length-bounds (suc n))

-- the draws of one after the other
pub drew-append : (ms ns js : List ℕ) → Drew (ms ++ ns) js → Drew ms (take (length ms) js) × Drew ns (drop (length ms) js)
drew-append [] ns js d = (tt, d)
drew-append (m ∷ ms) ns [] d = absurd d
drew-append (m ∷ ms) ns (j ∷ js) d = let r = drew-append ms ns js d.1 in ((d.0, r.0), r.1)

pub append-drew : (ms ns js ks : List ℕ) → Drew ms js → Drew ns ks → Drew (ms ++ ns) (js ++ ks)
append-drew [] ns [] ks a b = b
append-drew [] ns (j ∷ js) ks a b = absurd a
append-drew (m ∷ ms) ns [] ks a b = absurd a
append-drew (m ∷ ms) ns (j ∷ js) ks a b = (a.0, append-drew ms ns js ks a.1 b)

-- an order looks at no more numbers than it draws
shuffle-take : (i : ℕ) (js o : List ℕ) → shuffle i (take i js) o ≡ shuffle i js o
unfolding shuffle
shuffle-take zero js o = refl
shuffle-take (suc i) [] o = refl
shuffle-take (suc i) (j ∷ js) o = shuffle-take i js (exchange o (suc i) j)

pub order-take : (n : ℕ) (js : List ℕ) → new_order n (take (n - 1) js) ≡ new_order n js
unfolding new_order
order-take n js = shuffle-take (n - 1) js (below n)

-- the orders of these levels: the first, and the rest
pub orders-split : (ℓ : ℕ) (ls js : List ℕ) → Drew (orders_bounds (ℓ ∷ ls)) js → Drew (order_bounds (slots ℓ)) (take (slots ℓ - 1) js) × Drew (orders_bounds ls) (drop (slots ℓ - 1) js)
unfolding orders_bounds
orders-split ℓ ls js d = rw (length-bounds (slots ℓ)) at (drew-append (order_bounds (slots ℓ)) (orders_bounds ls) js d)
