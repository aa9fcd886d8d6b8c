-- A level's part of a table, rewritten whole.
use Rattle.std.specs.Prelude.{◌≡◌}
use Rattle.std.proofs.Math.Path.{ap}
use Rattle.std.proofs.Common.{sym, ◌∙◌}
use mathlib.Core.List.{List}
use Prim.Native.Nat.{ℕ, zero, suc, ◌+◌, ◌-◌, ◌≤◌, ◌<◌}
use native.Mathlib.Omega.{arith}
use Rattle.std.proofs.Math.Decide.{dec_lt}
use Rattle.std.proofs.Math.ListN.{length, get_or, replicate, length-replicate, get_or-replicate}
use Rattle.std.proofs.Math.Pow.{pow_mono}
use Rattle.lists.specs.Tables.{put_all, put_all-in, put_all-before, put_all-behind}
use Rattle.rules.proofs.Laws.Layout.{cell-inj, offset-in}
use Rattle.rules.specs.Rebuild.{cleared}
use Rattle.rules.specs.Shape.{Shape, cell, offset, slots}

-- a cell from the level's first one on
pub cell-is : (h : Shape) (q ℓ c : ℕ) → cell h q ℓ 0 ≤ c → c ≡ cell h q ℓ (c - cell h q ℓ 0)
unfolding cell
cell-is h q ℓ c l = omega arith

module _ (h : Shape) (q t : ℕ) (xs : List ℕ) (f : ℕ → ℕ) (lx : length xs ≡ slots t) where
  pub level-here : (i : ℕ) → i < slots t → put_all (cell h q t 0) xs f (cell h q t i) ≡ get_or xs i 0
  unfolding cell
  level-here i k =
      let e : cell h q t i - cell h q t 0 ≡ i = omega arith in
      put_all-in (cell h q t 0) xs f (cell h q t i) (omega arith) (omega arith) ∙ ap (λ j. get_or xs j 0) e

  pub level-else : (p ℓ i : ℕ) → t < h.L → ℓ < h.L → i < slots ℓ → ((q ≡ p) × (t ≡ ℓ) → ⊥) → put_all (cell h q t 0) xs f (cell h p ℓ i) ≡ f (cell h p ℓ i)
  level-else p ℓ i ht hℓ hi n = go (dec_lt (cell h p ℓ i) (cell h q t 0)) (dec_lt (cell h p ℓ i) (cell h q t 0 + length xs))
    where
      go : Dec (cell h p ℓ i < cell h q t 0) → Dec (cell h p ℓ i < cell h q t 0 + length xs) → put_all (cell h q t 0) xs f (cell h p ℓ i) ≡ f (cell h p ℓ i)
      go (yes l) _ = put_all-before (cell h q t 0) xs f (cell h p ℓ i) l
      go (no l) (no m) = put_all-behind (cell h q t 0) xs f (cell h p ℓ i) (omega arith)
      go (no l) (yes m) =
          let k = cell h p ℓ i - cell h q t 0 in
          let same : cell h q t k ≡ cell h p ℓ i = sym (cell-is h q t (cell h p ℓ i) (omega arith)) in
          let r = cell-inj h q p t ℓ k i ht hℓ (omega arith) hi same in
          absurd (n (r.0, r.1))

  pub level-at : (p ℓ i : ℕ) → (q ≡ p) × (t ≡ ℓ) → i < slots ℓ → put_all (cell h q t 0) xs f (cell h p ℓ i) ≡ get_or xs i 0
  level-at p ℓ i e k =
      let same : cell h q t i ≡ cell h p ℓ i = rw (e.0, e.1) in
      let k' : i < slots t = rw e.1 k in
      ap (put_all (cell h q t 0) xs f) (sym same) ∙ level-here i k'

-- The slots of the levels below n lie together
pub offset-of : (n j : ℕ) → j < slots n - 2 → (ℓ : ℕ) × (i : ℕ) × ((ℓ < n) × (i < slots ℓ) × (offset ℓ i ≡ j))
unfolding offset
offset-of zero j h = absurd (omega arith)
offset-of (suc n) j h = go (dec_lt j (slots n - 2)) (offset-of n j)
  where
    go : Dec (j < slots n - 2) → (j < slots n - 2 → (ℓ : ℕ) × (i : ℕ) × ((ℓ < n) × (i < slots ℓ) × (offset ℓ i ≡ j))) → (ℓ : ℕ) × (i : ℕ) × ((ℓ < suc n) × (i < slots ℓ) × (offset ℓ i ≡ j))
    go (yes l) ih = let r = ih l in (r.0, r.1, (omega (arith, r.2.0), r.2.1, r.2.2))
    go (no l) ih = (n, j - (slots n - 2), (omega arith, omega (arith, pow_mono {i = 1} {j = n + 1} (omega arith), pow_mono {i = suc n + 1} {j = suc (n + 1)} (omega arith)), omega arith))

pub offset-cell : (h : Shape) (q ℓ i j : ℕ) → offset ℓ i ≡ j → cell h q ℓ i ≡ cell h q 0 j
unfolding cell offset
offset-cell h q ℓ i j e = omega (arith, pow_mono {i = 1} {j = ℓ + 1} (omega arith))

module _ (h : Shape) (q n : ℕ) (f : ℕ → ℕ) where
  pub cleared-here : (ℓ i : ℕ) → ℓ < n → i < slots ℓ → cleared (cell h q 0 0) (slots n - 2) f (cell h q ℓ i) ≡ 0
  unfolding cleared cell offset
  cleared-here ℓ i hℓ hi =
      let two = pow_mono {i = 1} {j = ℓ + 1} (omega arith) in
      let e : cell h q ℓ i - cell h q 0 0 ≡ (slots ℓ - 2) + i = omega arith in
      let l = offset-in n ℓ i hℓ hi in
      put_all-in (cell h q 0 0) (replicate (slots n - 2) 0) f (cell h q ℓ i) (omega arith) (omega (arith, length-replicate {A = ℕ} (slots n - 2) 0))
      ∙ get_or-replicate (slots n - 2) (cell h q ℓ i - cell h q 0 0) 0 0 (omega arith)

  pub cleared-else : (p ℓ i : ℕ) → n ≤ h.L → ℓ < h.L → i < slots ℓ → (p ≡ q → n ≤ ℓ) → cleared (cell h q 0 0) (slots n - 2) f (cell h p ℓ i) ≡ f (cell h p ℓ i)
  unfolding cleared
  cleared-else p ℓ i hn hℓ hi k = go (dec_lt (cell h p ℓ i) (cell h q 0 0)) (dec_lt (cell h p ℓ i) (cell h q 0 0 + length {A = ℕ} (replicate (slots n - 2) 0)))
    where
      zs : List ℕ
      zs = replicate (slots n - 2) 0

      go : Dec (cell h p ℓ i < cell h q 0 0) → Dec (cell h p ℓ i < cell h q 0 0 + length zs) → put_all (cell h q 0 0) zs f (cell h p ℓ i) ≡ f (cell h p ℓ i)
      go (yes l) _ = put_all-before (cell h q 0 0) zs f (cell h p ℓ i) l
      go (no l) (no m) = put_all-behind (cell h q 0 0) zs f (cell h p ℓ i) (omega arith)
      go (no l) (yes m) =
          let r = offset-of n (cell h p ℓ i - cell h q 0 0) (omega (arith, length-replicate {A = ℕ} (slots n - 2) 0)) in
          absurd (by r.0 r.1 r.2.0 r.2.1 (offset-cell h q r.0 r.1 (cell h p ℓ i - cell h q 0 0) r.2.2))
        where
          by : (m j : ℕ) → m < n → j < slots m → cell h q m j ≡ cell h q 0 (cell h p ℓ i - cell h q 0 0) → ⊥
          by m j hm hj e =
              let x = cell-inj h q p m ℓ j i (omega arith) hℓ hj hi (e ∙ sym (cell-is h q 0 (cell h p ℓ i) (omega arith))) in
              omega (arith, k (sym x.0), x.1)
