-- How a run of j jobs changes the bits of its counter: t is the highest level at which it changes; the written levels are those up to t of the new counter.
use Rattle.std.specs.Prelude.{◌≡◌, ◌⊎◌, Bool, List, ◌∷◌, get_or, if◌then◌else◌}
use Rattle.std.proofs.Math.Path.{refl}
use Rattle.std.proofs.Common.{ap, sym, ◌∙◌, true≢false, div-one}
use Rattle.std.proofs.Math.Logic.{inl, inr, ⊎_elim}
use Rattle.std.proofs.Math.Bool.{true, false, not}
use Prim.Native.Nat.{ℕ, zero, suc, ◌+◌, ◌-◌, ◌*◌, ◌/◌, ◌%◌, ◌^◌, ◌≤◌, ◌<◌, min}
use Rattle.std.proofs.Math.Nat.{mod-lt, mod_self}
use Rattle.std.proofs.Math.Decide.{dec_lt}
use native.Mathlib.Omega.{arith}
use Rattle.std.proofs.Math.Dec.{eqb}
use Rattle.std.proofs.Math.Pow.{pow_pos, pow_mono, shr_mono, split}
use borrow.Author.Tests.{eqb-true, eq-eqb, ne_eqb}
use Rattle.lists.specs.All.{keep-passes}
use Rattle.lists.specs.Distinct.{Mem, NoDup}
use Rattle.lists.specs.Members.{all-mem, keep-mem, mem-keep, nodup-keep}
use Rattle.lists.specs.Search.{keep, keep-yes}
use Rattle.rules.specs.Jobs.{capacity}
use Rattle.rules.specs.Laws.Levels.{Joins}
use Rattle.rules.proofs.Laws.Levels.{top_lt, highest-lt, highest-yes, highest-no, down-below}
use Rattle.rules.specs.Levels.{filled, is_full, joins, grown, differ, highest, top_level, down, written_levels}
use Rattle.rules.specs.Shape.{Shape}
use Rattle.rules.proofs.Laws.Bits.{half, small, pow-at, mod-filled, mod-empty, capacity-down}

-- ---- The highest number that passes

highest-is : (p : ℕ → Bool) (n : ℕ) → (p (highest p n) ≡ true) ⊎ (highest p n ≡ 0)
highest-is p zero = inr (unfold highest in refl)
highest-is p (suc n) = go (p n) refl (highest-is p n)
  where
    go : (t : Bool) → p n ≡ t → (p (highest p n) ≡ true) ⊎ (highest p n ≡ 0) → (p (highest p (suc n)) ≡ true) ⊎ (highest p (suc n) ≡ 0)
    go true e ih = inl (ap p (highest-yes p n e) ∙ e)
    go false e ih = rw (highest-no p n e) ih

highest-above : (p : ℕ → Bool) (n ℓ : ℕ) → highest p n < ℓ → ℓ < n → p ℓ ≡ false
highest-above p zero ℓ k l = absurd (omega arith)
highest-above p (suc n) ℓ k l = go (p n) refl (dec_lt ℓ n) (highest-above p n ℓ)
  where
    go : (t : Bool) → p n ≡ t → Dec (ℓ < n) → (highest p n < ℓ → ℓ < n → p ℓ ≡ false) → p ℓ ≡ false
    go true e d ih = absurd (omega (arith, highest-yes p n e))
    go false e (yes m) ih = ih (omega (arith, highest-no p n e)) m
    go false e (no m) ih = let same : ℓ ≡ n = omega arith in ap p same ∙ e

-- ---- A counter c that grows to g: t is the highest level at which they differ
module _ (L c g : ℕ) (less : c < g) (hg : g < 2 ^ L) where
  abbrev t : ℕ
  t = highest (differ c g) L

  same_bit : (ℓ : ℕ) → differ c g ℓ ≡ false → c / 2 ^ ℓ % 2 ≡ g / 2 ^ ℓ % 2
  unfolding differ
  same_bit ℓ e = go (eqb (c / 2 ^ ℓ % 2) (g / 2 ^ ℓ % 2)) refl e
    where
      go : (b : Bool) → eqb (c / 2 ^ ℓ % 2) (g / 2 ^ ℓ % 2) ≡ b → not b ≡ false → c / 2 ^ ℓ % 2 ≡ g / 2 ^ ℓ % 2
      go true k e = eqb-true (c / 2 ^ ℓ % 2) (g / 2 ^ ℓ % 2) k
      go false k e = absurd (true≢false e)

  -- above t they are the same
  same_from : (m k : ℕ) → k + m ≡ L → t < k → c / 2 ^ k ≡ g / 2 ^ k
  same_from zero k e l = let z : k ≡ L = omega arith in rw z (small c L (omega arith) ∙ sym (small g L hg))
  same_from (suc m) k e l =
      let up = same_from m (suc k) (omega arith) (omega arith) in
      let b = same_bit k (highest-above (differ c g) L k l (omega arith)) in
      omega (arith, half c k, half g k)

  same_above : (k : ℕ) → t < k → k ≤ L → c / 2 ^ k ≡ g / 2 ^ k
  same_above k l h = same_from (L - k) k (omega arith) l

  -- so the low parts differ by as much as the numbers
  mod-above : (k : ℕ) → t < k → k ≤ L → g % 2 ^ k ≡ c % 2 ^ k + (g - c)
  mod-above k l h = let q : c / 2 ^ k * 2 ^ k ≡ g / 2 ^ k * 2 ^ k = ap (λ x. x * 2 ^ k) (same_above k l h) in omega (arith, split c k, split g k)

  -- at t they differ: c has no bit there, and g has one
  levels-some : 1 ≤ L
  levels-some = go L hg
    where
      go : (n : ℕ) → g < 2 ^ n → 1 ≤ n
      go zero h = absurd (omega arith)
      go (suc n) h = omega arith

  t-lt : t < L
  t-lt = highest-lt (differ c g) L levels-some

  next-same : c / 2 ^ suc t ≡ g / 2 ^ suc t
  next-same = same_above (suc t) (omega arith) (omega (arith, t-lt))

  differs : (c / 2 ^ t % 2 ≡ g / 2 ^ t % 2) → ⊥
  differs e = ⊎_elim (λ p. true≢false (sym p ∙ same-differ)) bottom (highest-is (differ c g) L)
    where
      same-differ : differ c g t ≡ false
      same-differ = unfold differ in (ap not (eq-eqb (c / 2 ^ t % 2) (g / 2 ^ t % 2) e))

      bottom : t ≡ 0 → ⊥
      bottom z =
          let s : c / 2 ^ t ≡ g / 2 ^ t = omega (arith, half c t, half g t, next-same) in
          let s' : c / 2 ^ 0 ≡ g / 2 ^ 0 = ap (λ x. c / 2 ^ x) (sym z) ∙ s ∙ ap (λ x. g / 2 ^ x) z in
          omega (arith, div-one c, div-one g)

  bits_at : (c / 2 ^ t % 2 ≡ 0) × (g / 2 ^ t % 2 ≡ 1)
  bits_at =
      let m = shr_mono {a = c} {b = g} t (omega arith) in
      let n : (c / 2 ^ t % 2 ≡ g / 2 ^ t % 2) → ⊥ = differs in
      omega (arith, half c t, half g t, next-same, m)

-- ---- The levels below n, highest first

-- the highest of them, and those below it
pub down-next : (n : ℕ) → 0 < n → down n ≡ (n - 1) ∷ down (n - 1)
unfolding down
down-next zero l = absurd (omega arith)
down-next (suc n) l = let e : suc n - 1 ≡ n = omega arith in rw e

pub down_mem : (n ℓ : ℕ) → ℓ < n → Mem ℓ (down n)
unfolding down
down_mem zero ℓ l = absurd (omega arith)
down_mem (suc n) ℓ l = go (dec_lt ℓ n) (down_mem n ℓ)
  where
    go : Dec (ℓ < n) → (ℓ < n → Mem ℓ (down n)) → (ℓ ≡ n) ⊎ Mem ℓ (down n)
    go (yes k) ih = inr (ih k)
    go (no k) ih = inl (omega arith)

nodup-down : (n : ℕ) → NoDup (down n)
unfolding down
nodup-down zero = tt
nodup-down (suc n) = ((λ m. omega (arith, all-mem (down-below n) n m)), nodup-down n)

pub nodup-written : (h : Shape) (c j : ℕ) → NoDup (written_levels h c j)
unfolding written_levels
nodup-written h c j = nodup-keep (filled (grown h c j)) (down (suc (top_level h c j))) (nodup-down (suc (top_level h c j)))

-- ---- The counter after a run of j jobs
module _ (h : Shape) (c j : ℕ) (h_l : 1 ≤ h.L) (hc : c < 2 ^ h.L) (hj : Joins h c j) where
  -- all levels are filled, or the counter grows by j
  full-or : (is_full h c ≡ true) ⊎ ((is_full h c ≡ false) × (c < c + j) × (c + j < 2 ^ h.L))
  unfolding is_full joins
  full-or = go (eqb c (2 ^ h.L - 1)) refl hj.1
    where
      go : (u : Bool) → eqb c (2 ^ h.L - 1) ≡ u → j ≤ (if u then 1 else min 64 (2 ^ h.L - 1 - c)) → (u ≡ true) ⊎ ((u ≡ false) × (c < c + j) × (c + j < 2 ^ h.L))
      go true e l = inl refl
      go false e l = inr (refl, omega (arith, hj.0), omega (arith, pow_pos h.L))

  -- by these two cases: t and the new counter
  grown-cases : (P : ℕ → ℕ → Type 0) → (c ≡ 2 ^ h.L - 1 → P (h.L - 1) (2 ^ (h.L - 1))) → (c < c + j → c + j < 2 ^ h.L → P (highest (differ c (c + j)) h.L) (c + j)) → P (top_level h c j) (grown h c j)
  unfolding top_level grown
  grown-cases P full less = ⊎_elim (λ e. rw e (full (unfold is_full in (eqb-true c (2 ^ h.L - 1) e)))) (λ e. rw e.0 (less e.1 e.2)) full-or

  pub grown-at : filled (grown h c j) (top_level h c j) ≡ true
  grown-at = grown-cases (λ t g. filled g t ≡ true) (λ e. pow-at (h.L - 1)) (λ l k. unfold filled in (eq-eqb _ 1 (bits_at h.L c (c + j) l k).1))

  pub grown-above : (ℓ : ℕ) → top_level h c j < ℓ → ℓ < h.L → filled (grown h c j) ℓ ≡ filled c ℓ
  grown-above ℓ = grown-cases (λ t g. t < ℓ → ℓ < h.L → filled g ℓ ≡ filled c ℓ) (λ e k m. absurd (omega arith))
      (λ l k a b. unfold filled in (ap (λ x. eqb (x % 2) 1) (sym (same_above h.L c (c + j) l k ℓ a (omega arith)))))

  pub grown-mod : (ℓ : ℕ) → top_level h c j < ℓ → ℓ < h.L → grown h c j % 2 ^ ℓ ≡ c % 2 ^ ℓ + j
  grown-mod ℓ = grown-cases (λ t g. t < ℓ → ℓ < h.L → g % 2 ^ ℓ ≡ c % 2 ^ ℓ + j) (λ e k m. absurd (omega arith))
      (λ l k a b. omega (arith, mod-above h.L c (c + j) l k ℓ a (omega arith)))

  -- where the counter grows, t was empty, and up to t the new counter says j more than the old one
  pub top-empty : is_full h c ≡ false → filled c (top_level h c j) ≡ false
  unfolding top_level
  top-empty e = by full-or e
    where
      by : (is_full h c ≡ true) ⊎ ((is_full h c ≡ false) × (c < c + j) × (c + j < 2 ^ h.L)) → is_full h c ≡ false → filled c (top_level h c j) ≡ false
      by (inl w) e = absurd (true≢false (sym w ∙ e))
      by (inr w) e =
          let m = (bits_at h.L c (c + j) w.1 w.2).0 in
          rw e (unfold filled in (ne_eqb (c / 2 ^ highest (differ c (c + j)) h.L % 2) 1 (λ z. omega (arith, m, z))))

  pub grown-low : is_full h c ≡ false → grown h c j % 2 ^ suc (top_level h c j) ≡ c % 2 ^ suc (top_level h c j) + j
  unfolding top_level grown
  grown-low e = by full-or e
    where
      by : (is_full h c ≡ true) ⊎ ((is_full h c ≡ false) × (c < c + j) × (c + j < 2 ^ h.L)) → is_full h c ≡ false → grown h c j % 2 ^ suc (top_level h c j) ≡ c % 2 ^ suc (top_level h c j) + j
      by (inl w) e = absurd (true≢false (sym w ∙ e))
      by (inr w) e =
          let m = mod-above h.L c (c + j) w.1 w.2 (suc (highest (differ c (c + j)) h.L)) (omega arith) (omega (arith, t-lt h.L c (c + j) w.1 w.2)) in
          rw e (omega (arith, m))

  -- The written levels hold as many blocks as the new counter says of the levels up to t: what the sources hold at most, and j more; or half a partition
  pub written-holds : (is_full h c ≡ true → 2 ^ (h.L - 1) ≤ capacity (written_levels h c j)) × (is_full h c ≡ false → c % 2 ^ suc (top_level h c j) + j ≤ capacity (written_levels h c j))
  unfolding written_levels
  written-holds = rw (capacity-down (grown h c j) (suc (top_level h c j))) (full, less)
    where
      full : is_full h c ≡ true → 2 ^ (h.L - 1) ≤ grown h c j % 2 ^ suc (top_level h c j)
      full e = unfold grown top_level in (rw e (omega (arith, mod-filled (2 ^ (h.L - 1)) (h.L - 1) (pow-at (h.L - 1)))))

      less : is_full h c ≡ false → c % 2 ^ suc (top_level h c j) + j ≤ grown h c j % 2 ^ suc (top_level h c j)
      less e = by full-or e
        where
          by : (is_full h c ≡ true) ⊎ ((is_full h c ≡ false) × (c < c + j) × (c + j < 2 ^ h.L)) → is_full h c ≡ false → c % 2 ^ suc (top_level h c j) + j ≤ grown h c j % 2 ^ suc (top_level h c j)
          by (inl w) e = absurd (true≢false (sym w ∙ e))
          by (inr w) e =
              let m = mod-above h.L c (c + j) w.1 w.2 (suc (highest (differ c (c + j)) h.L)) (omega arith) (omega (arith, t-lt h.L c (c + j) w.1 w.2)) in
              unfold grown top_level in (rw e (omega (arith, m)))

  pub written-why : (ℓ : ℕ) → Mem ℓ (written_levels h c j) → (ℓ ≤ top_level h c j) × (filled (grown h c j) ℓ ≡ true)
  unfolding written_levels
  written-why ℓ m = let a = all-mem (down-below (suc (top_level h c j))) ℓ (keep-mem (filled (grown h c j)) (down (suc (top_level h c j))) ℓ m) in
      (omega arith, all-mem (keep-passes (filled (grown h c j)) (down (suc (top_level h c j)))) ℓ m)

  pub why-written : (ℓ : ℕ) → ℓ ≤ top_level h c j → filled (grown h c j) ℓ ≡ true → Mem ℓ (written_levels h c j)
  unfolding written_levels
  why-written ℓ k e = mem-keep (filled (grown h c j)) (down (suc (top_level h c j))) ℓ (down_mem (suc (top_level h c j)) ℓ (omega arith)) e

  -- t is the first of them
  pub written-first : (rest : List ℕ) × (written_levels h c j ≡ top_level h c j ∷ rest)
  unfolding written_levels
  written-first = (keep (filled (grown h c j)) (down (top_level h c j)), unfold down in (keep-yes (filled (grown h c j)) (top_level h c j) (down (top_level h c j)) grown-at))

  pub written-top : get_or (written_levels h c j) 0 0 ≡ top_level h c j
  written-top = ap (λ ls. get_or ls 0 0) written-first.1

  -- They hold j blocks at least, and fewer than 2^(L−1) + 64
  pub written-few : (j ≤ capacity (written_levels h c j)) × (capacity (written_levels h c j) < 2 ^ (h.L - 1) + 64)
  unfolding written_levels
  written-few = rw (capacity-down (grown h c j) (suc (top_level h c j))) (⊎_elim full less full-or)
    where
      full : is_full h c ≡ true → (j ≤ grown h c j % 2 ^ suc (top_level h c j)) × (grown h c j % 2 ^ suc (top_level h c j) < 2 ^ (h.L - 1) + 64)
      full e =
          let one : j ≤ 1 = unfold joins in (rw e at hj.1) in
          let m = mod-filled (2 ^ (h.L - 1)) (h.L - 1) (pow-at (h.L - 1)) in
          let z = mod_self (2 ^ (h.L - 1)) in
          unfold grown top_level in (rw e (omega (arith, pow_pos (h.L - 1))))

      less : (is_full h c ≡ false) × (c < c + j) × (c + j < 2 ^ h.L) → (j ≤ grown h c j % 2 ^ suc (top_level h c j)) × (grown h c j % 2 ^ suc (top_level h c j) < 2 ^ (h.L - 1) + 64)
      less e =
          let few : j ≤ min 64 (2 ^ h.L - 1 - c) = unfold joins in (rw e.0 at hj.1) in
          let k = mod-empty c (top_level h c j) (top-empty e.0) in
          let l = mod-lt c (pow_pos (top_level h c j)) in
          let t = top_lt h c j h_l in
          let p = pow_mono {i = top_level h c j} {j = h.L - 1} (omega arith) in
          omega (arith, grown-low e.0)
