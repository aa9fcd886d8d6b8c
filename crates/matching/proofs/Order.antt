-- Document 01's order of n slots: its legal draws are one to one with the arrangements of 0 to n - 1.
use Rattle.std.specs.Prelude.{◌≡◌, refl, List, [], ◌∷◌, ℕ, zero, suc, ◌-◌, ◌<◌, length, get_or}
use Rattle.std.proofs.Common.{ap, ◌∙◌, arith}
use Rattle.lists.specs.Members.{nodup-below}
use Rattle.lists.specs.Lengths.{length-below}
use Rattle.lists.specs.Search.{below}
use Rattle.lists.specs.Distinct.{NoDup, index_at}
use Rattle.rules.specs.Draws.{exchange, shuffle, new_order, order_bounds, Drew}
use Rattle.rules.proofs.Laws.Orders.{other-same, other-far, get-exchange, length-exchange, exchange-mem, nodup-exchange}
use Rattle.matching.specs.Match.{Match}
use Rattle.matching.specs.Reads.{Arranges}
use Rattle.matching.proofs.Draws.{draws_to, draws-ok}

-- items past i stay where they are
fixed : (i : ℕ) (js o : List ℕ) (k : ℕ) → i < k → k < length o → Drew (order_bounds (suc i)) js → get_or (shuffle i js o) k 0 ≡ get_or o k 0
unfolding shuffle order_bounds
fixed zero js o k h l p = refl
fixed (suc i) [] o k h l p = refl
fixed (suc i) (j ∷ js) o k h l p =
    fixed i js (exchange o (suc i) j) k (omega arith) (omega (arith, length-exchange o (suc i) j (omega arith) (omega arith))) p.1
    ∙ get-exchange o (suc i) j (omega arith) (omega arith) k ∙ rw (other-far (suc i) j k h (omega arith))

shuffle-ok : (i : ℕ) (js o : List ℕ) → i < length o → NoDup o → Drew (order_bounds (suc i)) js → Arranges o (shuffle i js o)
unfolding shuffle order_bounds
shuffle-ok zero js o h u p = (refl, u, λ z m. m)
shuffle-ok (suc i) [] o h u p = absurd p
shuffle-ok (suc i) (j ∷ js) o h u p =
    let hj : j < length o = omega arith in
    let n = length-exchange o (suc i) j h hj in
    let r = shuffle-ok i js (exchange o (suc i) j) (omega arith) (nodup-exchange o (suc i) j h hj u) p.1 in
    (r.0 ∙ n, r.1, λ z m. exchange-mem o (suc i) j h hj z (r.2 z m))

draws-shuffle : (i : ℕ) (js o : List ℕ) → i < length o → NoDup o → Drew (order_bounds (suc i)) js → draws_to i o (shuffle i js o) ≡ js
unfolding shuffle order_bounds
draws-shuffle zero [] o h u p = refl
draws-shuffle zero (j ∷ js) o h u p = absurd p
draws-shuffle (suc i) [] o h u p = absurd p
draws-shuffle (suc i) (j ∷ js) o h u p =
    let hj : j < length o = omega arith in
    let o' = exchange o (suc i) j in
    let n = length-exchange o (suc i) j h hj in
    let e : get_or (shuffle i js o') (suc i) 0 ≡ get_or o j 0 =
    fixed i js o' (suc i) (omega arith) (omega arith) p.1 ∙ get-exchange o (suc i) j h hj (suc i) ∙ ap (λ k. get_or o k 0) (other-same (suc i) j) in
    rw (e, index_at o j u hj, draws-shuffle i js o' (omega arith) (nodup-exchange o (suc i) j h hj u) p.1)

-- an order of n slots
abbrev pub order_draws : ℕ → List ℕ → List ℕ
order_draws n a = draws_to (n - 1) (below n) a

module _ (n : ℕ) (h : 0 < n) where
  last-item : n - 1 < length (below n)
  last-item = omega (arith, length-below n)

  bounds-last : order_bounds n ≡ order_bounds (suc (n - 1))
  bounds-last = ap order_bounds (omega arith)

  pub order-ok : (js : List ℕ) → Drew (order_bounds n) js → Arranges (below n) (new_order n js)
  unfolding new_order
  order-ok js p = shuffle-ok (n - 1) js (below n) last-item (nodup-below n) (rw bounds-last at p)

  pub draws-order : (js : List ℕ) → Drew (order_bounds n) js → order_draws n (new_order n js) ≡ js
  unfolding new_order
  draws-order js p = draws-shuffle (n - 1) js (below n) last-item (nodup-below n) (rw bounds-last at p)

  pub order-draws : (a : List ℕ) → Arranges (below n) a → Drew (order_bounds n) (order_draws n a) × (new_order n (order_draws n a) ≡ a)
  unfolding new_order
  order-draws a p =
      let r = draws-ok (n - 1) (below n) a last-item p (λ k x y. absurd (omega (arith, length-below n))) in
      (rw bounds-last r.0, r.1)

  -- The legal draws and the arrangements, one to one
  abbrev pub orders : Match (Drew (order_bounds n)) (Arranges (below n)) (new_order n) (λ a. a)
  orders = record {
    f = new_order n;
    g = order_draws n;
    f-ok = order-ok;
    g-ok = λ a p. (order-draws a p).0;
    g-f = draws-order;
    f-g = λ a p. (order-draws a p).1;
    same = λ js p. refl;
  }

  -- The trade of a new order in place of an old hidden value: of the old one nothing more is shown, so it is drawn now; the new one is hidden
  abbrev pub renew : {H : Type 0} (Old : H → Type 0) →
      Match {X = H × List ℕ} {Y = H × List ℕ} {O = Unit {0}} (λ x. Old x.0 × Drew (order_bounds n) x.1) (λ y. Old y.0 × Arranges (below n) y.1) (λ x. tt) (λ y. tt)
  renew Old = record {
    f = λ x. (x.0, orders.f x.1);
    g = λ y. (y.0, orders.g y.1);
    f-ok = λ x p. (p.0, orders.f-ok x.1 p.1);
    g-ok = λ y p. (p.0, orders.g-ok y.1 p.1);
    g-f = λ x p i. (x.0, orders.g-f x.1 p.1 i);
    f-g = λ y p i. (y.0, orders.f-g y.1 p.1 i);
    same = λ x p. refl;
  }
