-- The cells that a form's blocks stand in, and what a state loaded from it holds there.
use Rattle.std.specs.Prelude.{◌≡◌, ◌⊎◌, Bool, true, ◌&&◌, ltb, length}
use Rattle.std.proofs.Math.Path.{refl, ap}
use Rattle.std.proofs.Common.{◌∙◌, inl, inr, sym, subst}
use mathlib.Core.List.{List, [], ◌∷◌, ◌++◌}
use Prim.Native.Nat.{ℕ, zero, suc, ◌+◌, ◌-◌, ◌≤◌, ◌<◌}
use native.Mathlib.Omega.{arith}
use Rattle.std.proofs.Math.Decide.{dec_lt}
use Rattle.std.proofs.Math.ListN.{get_or}
use borrow.Author.Tests.{ltb-true, lt-ltb}
use Rattle.lists.specs.Distinct.{Mem, NoDup}
use Rattle.lists.specs.Members.{append-mem, member-append, append_right}
use Rattle.lists.specs.Tables.{put_all, put_all-in, put_all-before, put_all-behind, put_all-has}
use Rattle.lists.specs.Tests.{every, every-yes, yes-every, and_l, and_r, and-true}
use Rattle.rules.specs.Form.Loading.{lay_over, held_at, held_from}
use Rattle.rules.specs.Form.Reading.{Spot, absent, waits, at}
use Rattle.rules.specs.Levels.{filled}
use Rattle.rules.specs.Shape.{Shape, slots, cell}

-- a property of each element and of its number, from a on
abbrev pub Each : {A : Type 0} → (ℕ → A → Type 0) → ℕ → List A → Type 0
Each P a [] = Unit {0}
Each P a (x ∷ xs) = P a x × Each P (suc a) xs

module _ {A : Type 0} (P : ℕ → A → Type 0) (d : A) where
  pub each_at_lem : (a : ℕ) (xs : List A) → Each P a xs → (k : ℕ) → k < length xs → P (a + k) (get_or xs k d)
  each_at_lem a [] h k l = absurd (omega arith)
  each_at_lem a (x ∷ xs) h zero l = let e : a + 0 ≡ a = omega arith in rw e h.0
  each_at_lem a (x ∷ xs) h (suc k) l = let e : a + suc k ≡ suc a + k = omega arith in rw e (each_at_lem (suc a) xs h.1 k (omega arith))

  pub at_each : (a : ℕ) (xs : List A) → ((k : ℕ) → k < length xs → P (a + k) (get_or xs k d)) → Each P a xs
  at_each a [] h = tt
  at_each a (x ∷ xs) h =
      let e : a + 0 ≡ a = omega arith in
      (rw e at (h 0 (omega arith)), at_each (suc a) xs (λ k l. let e : a + suc k ≡ suc a + k = omega arith in rw e at (h (suc k) (omega arith))))

-- ---- A block's place

-- its partition, level and slot are in range, and its level is filled
unfoldable pub spot_in : Shape → ℕ → Spot → Bool
spot_in h c absent = true
spot_in h c waits = true
spot_in h c (at ℓ i) = every (ltb ℓ h.L ∷ ltb i (slots ℓ) ∷ filled c ℓ ∷ [])

unfoldable pub placed_in : Shape → (ℕ → ℕ) → ℕ × Spot → Bool
placed_in h counter x = ltb x.0 h.P && spot_in h (counter x.0) x.1

abbrev pub SpotIn : Shape → ℕ → Spot → Type 0
SpotIn h c absent = Unit {0}
SpotIn h c waits = Unit {0}
SpotIn h c (at ℓ i) = (ℓ < h.L) × (i < slots ℓ) × (filled c ℓ ≡ true)

abbrev pub PlacedIn : Shape → (ℕ → ℕ) → ℕ × Spot → Type 0
PlacedIn h counter x = (x.0 < h.P) × SpotIn h (counter x.0) x.1

module _ (h : Shape) where
  spot-facts : (c : ℕ) (y : Spot) → spot_in h c y ≡ true → SpotIn h c y
  unfolding spot_in
  spot-facts c absent e = tt
  spot-facts c waits e = tt
  spot-facts c (at ℓ i) e = let y = every-yes _ e in (ltb-true ℓ h.L y.0, ltb-true i (slots ℓ) y.1.0, y.1.1.0)

  facts-spot : (c : ℕ) (y : Spot) → SpotIn h c y → spot_in h c y ≡ true
  unfolding spot_in
  facts-spot c absent e = refl
  facts-spot c waits e = refl
  facts-spot c (at ℓ i) e = yes-every _ (lt-ltb ℓ h.L e.0, (lt-ltb i (slots ℓ) e.1, (e.2, tt)))

  pub placed-facts : (counter : ℕ → ℕ) (x : ℕ × Spot) → placed_in h counter x ≡ true → PlacedIn h counter x
  unfolding placed_in
  placed-facts counter x e = (ltb-true x.0 h.P (and_l (ltb x.0 h.P) _ e), spot-facts (counter x.0) x.1 (and_r (ltb x.0 h.P) _ e))

  pub facts-placed : (counter : ℕ → ℕ) (x : ℕ × Spot) → PlacedIn h counter x → placed_in h counter x ≡ true
  unfolding placed_in
  facts-placed counter x k = and-true (lt-ltb x.0 h.P k.0) (facts-spot (counter x.0) x.1 k.1)

  -- ---- The cells

  -- the cell that a block stands in, if any
  unfoldable pub cell_at : ℕ → Spot → List ℕ
  cell_at q absent = []
  cell_at q waits = []
  cell_at q (at ℓ i) = cell h q ℓ i ∷ []

  unfoldable pub cells_of : List (ℕ × Spot) → List ℕ
  cells_of [] = []
  cells_of (x ∷ xs) = cell_at x.0 x.1 ++ cells_of xs

  -- a table holds block b, one more than its number, in the cell where it stands
  abbrev pub HeldBy : (ℕ → ℕ) → ℕ → ℕ × Spot → Type 0
  HeldBy t b x = (ℓ i : ℕ) → x.1 ≡ at ℓ i → t (cell h x.0 ℓ i) ≡ suc b

  lay-append : (t : ℕ → ℕ) (xs ys : List (ℕ × List ℕ)) → lay_over t (xs ++ ys) ≡ lay_over (lay_over t xs) ys
  unfolding lay_over
  lay-append t [] ys = refl
  lay-append t (x ∷ xs) ys = lay-append (put_all x.0 x.1 t) xs ys

  one-else : (t : ℕ → ℕ) (b q : ℕ) (y : Spot) (c : ℕ) → ¬ Mem c (cell_at q y) → lay_over t (held_at h b q y) c ≡ t c
  unfolding lay_over held_at cell_at
  one-else t b q absent c n = refl
  one-else t b q waits c n = refl
  one-else t b q (at ℓ i) c n = go (dec_lt c (cell h q ℓ i))
    where
      go : Dec (c < cell h q ℓ i) → put_all (cell h q ℓ i) (suc b ∷ []) t c ≡ t c
      go (yes l) = put_all-before (cell h q ℓ i) (suc b ∷ []) t c l
      go (no l) = put_all-behind (cell h q ℓ i) (suc b ∷ []) t c (different (λ e. n (inl e)))
        where
          different : ¬ (c ≡ cell h q ℓ i) → cell h q ℓ i + 1 ≤ c
          different d = omega arith

  -- a cell in which no block stands is as it was
  pub lay-else : (t : ℕ → ℕ) (a : ℕ) (xs : List (ℕ × Spot)) (c : ℕ) → ¬ Mem c (cells_of xs) → lay_over t (held_from h a xs) c ≡ t c
  unfolding held_from cells_of lay_over
  lay-else t a [] c n = refl
  lay-else t a (x ∷ xs) c n =
      ap (λ f. f c) (lay-append t (held_at h a x.0 x.1) (held_from h (suc a) xs))
      ∙ lay-else (lay_over t (held_at h a x.0 x.1)) (suc a) xs c (λ m. n (append_right c (cell_at x.0 x.1) (cells_of xs) m))
      ∙ one-else t a x.0 x.1 c (λ m. n (member-append c (cell_at x.0 x.1) (cells_of xs) m))

  one-held : (t : ℕ → ℕ) (b q : ℕ) (y : Spot) (ℓ i : ℕ) → y ≡ at ℓ i → lay_over t (held_at h b q y) (cell h q ℓ i) ≡ suc b
  unfolding lay_over held_at
  one-held t b q y ℓ i e = let z : cell h q ℓ i - cell h q ℓ i ≡ 0 = omega arith in rw e (put_all-in (cell h q ℓ i) (suc b ∷ []) t (cell h q ℓ i) (omega arith) (omega arith) ∙ ap (λ k. get_or (suc b ∷ []) k 0) z)

  nodup-right : (xs ys : List ℕ) → NoDup (xs ++ ys) → NoDup ys
  nodup-right [] ys n = n
  nodup-right (x ∷ xs) ys n = nodup-right xs ys n.1

  nodup-apart : (xs ys : List ℕ) → NoDup (xs ++ ys) → (c : ℕ) → Mem c xs → ¬ Mem c ys
  nodup-apart [] ys n c m k = m
  nodup-apart (x ∷ xs) ys n c (inl e) k = n.0 (append_right x xs ys (rw e at k))
  nodup-apart (x ∷ xs) ys n c (inr m) k = nodup-apart xs ys n.1 c m k

  cell-mem : (q : ℕ) (y : Spot) (ℓ i : ℕ) → y ≡ at ℓ i → Mem (cell h q ℓ i) (cell_at q y)
  unfolding cell_at
  cell-mem q y ℓ i e = rw e (inl refl)

  -- where no two stand in one cell, each cell holds its block
  pub lay-held : (t : ℕ → ℕ) (a : ℕ) (xs : List (ℕ × Spot)) → NoDup (cells_of xs) → Each (HeldBy (lay_over t (held_from h a xs))) a xs
  unfolding held_from cells_of
  lay-held t a [] n = tt
  lay-held t a (x ∷ xs) n =
      let e = lay-append t (held_at h a x.0 x.1) (held_from h (suc a) xs) in
      subst (λ u. Each (HeldBy u) a (x ∷ xs)) (sym e) (
        λ ℓ i y. lay-else (lay_over t (held_at h a x.0 x.1)) (suc a) xs (cell h x.0 ℓ i) (nodup-apart (cell_at x.0 x.1) (cells_of xs) n (cell h x.0 ℓ i) (cell-mem x.0 x.1 ℓ i y))
            ∙ one-held t a x.0 x.1 ℓ i y,
        lay-held (lay_over t (held_at h a x.0 x.1)) (suc a) xs (nodup-right (cell_at x.0 x.1) (cells_of xs) n),
      )

  -- ..and where each does, no two stand in one
  above : (t : ℕ → ℕ) (a : ℕ) (xs : List (ℕ × Spot)) → Each (HeldBy t) a xs → (c : ℕ) → Mem c (cells_of xs) → a < t c
  unfolding cells_of cell_at
  above t a [] k c m = absurd m
  above t a (x ∷ xs) k c m = go (append-mem c (cell_at x.0 x.1) (cells_of xs) m) (above t (suc a) xs k.1 c)
    where
      here : (y : Spot) → HeldBy t a (x.0, y) → Mem c (cell_at x.0 y) → t c ≡ suc a
      here absent f m = absurd m
      here waits f m = absurd m
      here (at ℓ i) f (inl e) = ap t e ∙ f ℓ i refl
      here (at ℓ i) f (inr m) = absurd m

      go : Mem c (cell_at x.0 x.1) ⊎ Mem c (cells_of xs) → (Mem c (cells_of xs) → suc a < t c) → a < t c
      go (inl m) ih = omega (arith, here x.1 k.0 m)
      go (inr m) ih = omega (arith, ih m)

  pub held-apart : (t : ℕ → ℕ) (a : ℕ) (xs : List (ℕ × Spot)) → Each (HeldBy t) a xs → NoDup (cells_of xs)
  unfolding cells_of cell_at
  held-apart t a [] k = tt
  held-apart t a (x ∷ xs) k = go x.1 k.0 (held-apart t (suc a) xs k.1) (above t (suc a) xs k.1)
    where
      go : (y : Spot) → HeldBy t a (x.0, y) → NoDup (cells_of xs) → ((c : ℕ) → Mem c (cells_of xs) → suc a < t c) → NoDup (cell_at x.0 y ++ cells_of xs)
      go absent f n u = n
      go waits f n u = n
      go (at ℓ i) f n u = (λ m. omega (arith, u (cell h x.0 ℓ i) m, f ℓ i refl), n)

  -- no more than all blocks
  pub lay-few : (t : ℕ → ℕ) (n a : ℕ) (xs : List (ℕ × Spot)) (c : ℕ) → a + length xs ≤ n → t c ≤ n → lay_over t (held_from h a xs) c ≤ n
  unfolding held_from lay_over held_at
  lay-few t n a [] c l u = u
  lay-few t n a (x ∷ xs) c l u = rw (lay-append t (held_at h a x.0 x.1) (held_from h (suc a) xs)) (lay-few (lay_over t (held_at h a x.0 x.1)) n (suc a) xs c (omega arith) (one x.1))
    where
      one : (y : Spot) → lay_over t (held_at h a x.0 y) c ≤ n
      one absent = u
      one waits = u
      one (at ℓ i) = put_all-has (λ v. v ≤ n) (cell h x.0 ℓ i) (suc a ∷ []) t c (λ l u. entry (c - cell h x.0 ℓ i)) u
        where
          entry : (k : ℕ) → get_or (suc a ∷ []) k 0 ≤ n
          entry zero = omega arith
          entry (suc k) = omega arith
