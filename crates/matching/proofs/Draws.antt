-- The draws that lead from one order to an arrangement of it: they are legal. What rests on it stands in Order.antt, since a must-fail edit that
-- changes a statement counts only where nothing in its file follows from it.
use Rattle.std.specs.Prelude.{◌≡◌, List, [], ◌∷◌, ℕ, zero, suc, ◌≤◌, ◌<◌, length, get_or}
use Rattle.std.proofs.Common.{sym, ◌∙◌, arith, ext_get_or}
use Rattle.std.proofs.Math.Decide.{ℕ_discrete, dec_le}
use Rattle.lists.specs.Distinct.{index, index-mem, mem-at, nodup-inj}
use Rattle.rules.specs.Draws.{exchange, shuffle, order_bounds, Drew}
use Rattle.rules.proofs.Laws.Orders.{other, other-same, other-far, get-exchange, length-exchange, mem-exchange}
use Rattle.matching.specs.Reads.{Arranges}

-- the draws that lead from the order o to the arrangement a, for items i down to 1
abbrev pub draws_to : ℕ → List ℕ → List ℕ → List ℕ
draws_to zero o a = []
draws_to (suc i) o a =
    let j = index (get_or a (suc i) 0) o in
    j ∷ draws_to i (exchange o (suc i) j) a

-- a arranges o and agrees with it past i: then what a has at i, o has no later than at i
module _ (i : ℕ) (o a : List ℕ) (h : i < length o) (r : Arranges o a) (agree : (k : ℕ) → i < k → k < length o → get_or a k 0 ≡ get_or o k 0) where
  abbrev place : ℕ
  place = index (get_or a i 0) o

  place_ok : (place < length o) × (get_or o place 0 ≡ get_or a i 0)
  place_ok = index-mem (get_or a i 0) o (r.2 (get_or a i 0) (mem-at a i (omega arith)))

  place-le : place ≤ i
  place-le = go (dec_le place i)
    where
      go : Dec (place ≤ i) → place ≤ i
      go (yes l) = l
      go (no l) =
          let e = nodup-inj a place i r.1 (omega (arith, place_ok)) (omega arith) (agree place (omega arith) place_ok.0 ∙ place_ok.1) in
          absurd (omega arith)

  -- so once item i has its slot by an exchange, a agrees from i on
  agree_on : (k : ℕ) → i ≤ k → k < length o → get_or a k 0 ≡ get_or (exchange o i place) k 0
  agree_on k l m = before ∙ sym (get-exchange o i place h place_ok.0 k)
    where
      before : get_or a k 0 ≡ get_or o (other i place k) 0
      before = elim (ℕ_discrete k i) [
        | yes e ↦ rw (e, other-same i place) (sym place_ok.1)
        | no e ↦ rw (other-far i place k (omega arith) place-le) (agree k (omega arith) m)
      ]

-- they are legal, and lead there
pub draws-ok : (i : ℕ) (o a : List ℕ) → i < length o → Arranges o a → ((k : ℕ) → i < k → k < length o → get_or a k 0 ≡ get_or o k 0) →
    Drew (order_bounds (suc i)) (draws_to i o a) × (shuffle i (draws_to i o a) o ≡ a)
unfolding shuffle order_bounds
draws-ok zero o a h r agree =
    let z : place zero o a h r agree ≡ 0 = omega (arith, place-le zero o a h r agree) in
    let e : get_or o 0 0 ≡ get_or a 0 0 = rw z at (place_ok zero o a h r agree).1 in
    (tt, ext_get_or 0 o a (sym r.0) (λ k. elim k as (λ k. k < length o → get_or o k 0 ≡ get_or a k 0) [ zero ↦ λ l. e | suc k ↦ λ l. sym (agree (suc k) (omega arith) l) ]))
draws-ok (suc i) o a h r agree =
    let j = place (suc i) o a h r agree in
    let q = place_ok (suc i) o a h r agree in
    let n = length-exchange o (suc i) j h q.0 in
    let w = draws-ok i (exchange o (suc i) j) a (omega arith) (r.0 ∙ sym n, r.1, λ z m. mem-exchange o (suc i) j h q.0 z (r.2 z m)) (λ k x y. agree_on (suc i) o a h r agree k x (omega arith)) in
    ((omega (arith, place-le (suc i) o a h r agree), w.0), w.1)
