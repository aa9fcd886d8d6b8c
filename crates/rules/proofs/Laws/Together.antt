-- Document 02, P7: "Storage bills us by command." Jobs that run together write no more slots than they would one after the other.
use Rattle.std.specs.Prelude.{◌≡◌, Bool, true, false, ◌∷◌}
use Rattle.std.proofs.Math.Path.{refl, ap, sym}
use Rattle.std.proofs.Common.{◌∙◌, pow_pos, ne_eqb}
use Prim.Native.Nat.{ℕ, zero, suc, ◌+◌, ◌-◌, ◌^◌, ◌≤◌, ◌<◌, min}
use native.Mathlib.Omega.{arith}
use Rattle.lists.specs.All.{All, cons}
use Rattle.rules.specs.Jobs.{joined, levels_of, slot_count}
use Rattle.rules.specs.Laws.Decided.{Front}
use Rattle.rules.specs.Laws.Levels.{Joins}
use Rattle.rules.proofs.Laws.Levels.{levels-pos, joins-pos}
use Rattle.rules.proofs.Laws.Price.{price, run-price, one-price, full-alone}
use Rattle.rules.specs.Laws.Range.{InRange}
use Rattle.rules.proofs.Laws.Rebuilt.{front-joins}
use Rattle.rules.proofs.Laws.Single.Levels.{one-grown, one_written, one_holds}
use Rattle.rules.specs.Laws.Single.Rules.{target, grown_by_one, written_apart}
use Rattle.rules.specs.Levels.{is_full, joins, grown, written_levels}
use Rattle.rules.specs.Shape.{Shape, slots}
use Rattle.rules.specs.State.{State}

not_full : (h : Shape) (c : ℕ) → c + 1 < 2 ^ h.L → is_full h c ≡ false
unfolding is_full
not_full h c k = ne_eqb c (2 ^ h.L - 1) (λ e. omega (arith, e, k))

grown-more : (h : Shape) (c j : ℕ) → is_full h c ≡ false → grown h c j ≡ c + j
unfolding grown
grown-more h c j e = rw e

module _ (h : Shape) (h_l : 1 ≤ h.L) where
  one-joins : (c : ℕ) → c < 2 ^ h.L → Joins h c 1
  one-joins c k = (omega arith, joins-pos h c 64 k (omega arith))

  -- one job's writes
  one_writes : (c : ℕ) → c < 2 ^ h.L → slot_count (written_levels h c 1) ≡ slots (target h c)
  one_writes c k = ap slot_count (one_written h c h_l k) ∙ (one_holds h c h_l k).1

  -- what they write apart is what the price grows by
  apart-price : (j c : ℕ) → c + j < 2 ^ h.L → price h.L (c + j) ≤ written_apart h c j + price h.L c
  unfolding written_apart
  apart-price zero c k = let e : c + 0 ≡ c = omega arith in rw e (omega arith)
  apart-price (suc j) c k =
      let lt : c < 2 ^ h.L = omega (arith, k) in
      let n = not_full h c (omega (arith, k)) in
      let g : grown h c 1 ≡ c + 1 = grown-more h c 1 n in
      let g' : grown_by_one h c ≡ c + 1 = sym (one-grown h c h_l lt) ∙ g in
      let first = one-price h c 1 h_l lt (one-joins c lt) refl n in
      let e : c + 1 + j ≡ c + suc j = omega arith in
      let rest : price h.L (c + 1 + j) ≤ written_apart h (c + 1) j + price h.L (c + 1) = apart-price j (c + 1) (omega (arith, k)) in
      omega (arith, first, one_writes c lt, rest, ap (price h.L) g, ap (λ x. written_apart h x j) g', ap (price h.L) e)

  -- j jobs write no more together than apart
  pub writes-together : (c j : ℕ) → c < 2 ^ h.L → Joins h c j → slot_count (written_levels h c j) ≤ written_apart h c j
  writes-together c j k hj = go (is_full h c) refl
    where
      single : j ≡ 1 → slot_count (written_levels h c j) ≤ written_apart h c j
      single e = rw e (unfold written_apart in (omega (arith, one_writes c k)))

      few : (n : ℕ) → n ≡ min 64 (2 ^ h.L - 1 - c) → j ≤ n → c + j < 2 ^ h.L
      few n e l = omega (arith, pow_pos h.L)

      joins-is : is_full h c ≡ false → joins h c 64 ≡ min 64 (2 ^ h.L - 1 - c)
      joins-is e = unfold joins in (rw e)

      go : (t : Bool) → is_full h c ≡ t → slot_count (written_levels h c j) ≤ written_apart h c j
      go true e = single (full-alone h c j h_l k hj e)
      go false e = omega (arith, run-price h c j h_l k hj e, apart-price j c (few (joins h c 64) (joins-is e) hj.1), ap (price h.L) (grown-more h c j e))

-- The run of the front job, in every state in range: it writes no more slots than its jobs would have written one after the other
pub run-writes : (s : State) → InRange s → (q : ℕ) → Front s q → slot_count (levels_of s q) ≤ written_apart s.shape (s.counter q) (joined s q)
unfolding levels_of
run-writes s f q front = writes-together s.shape (levels-pos s.shape f.shape) (s.counter q) (joined s q) (f.counters q (first (rw front.1 at f.queue))) (front-joins s f q front.0 front.1)
  where
    first : All (λ p. p < s.shape.P) (q ∷ front.0) → q < s.shape.P
    first (cons h t) = h
