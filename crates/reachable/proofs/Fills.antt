-- The levels that a rebuild writes: their orders, their blocks, and the tables after them.
use Rattle.std.specs.Prelude.{◌≡◌, ◌⊎◌, ℕ, ◌+◌, ◌-◌, ◌^◌, ◌≤◌, ◌<◌, take, drop}
use Rattle.std.proofs.Math.Path.{refl, ap}
use Rattle.std.proofs.Common.{sym, ◌∙◌, subst, arith, length-take, length-drop, pow_pos}
use Rattle.std.proofs.Math.Logic.{inl, inr, ⊎_elim}
use mathlib.Core.List.{List, [], ◌∷◌, map}
use Rattle.std.proofs.Math.Decide.{dec_lt}
use Rattle.std.proofs.Math.ListN.{length, get_or}
use Rattle.lists.specs.All.{All}
use Rattle.lists.specs.Distinct.{Mem, NoDup, index}
use Rattle.lists.specs.Members.{dec_mem, index_of-mem, index_of-none}
use Rattle.lists.specs.Parts.{mem-take, mem-drop, take-or-drop, nodup-take, nodup-drop, not-both}
use Rattle.lists.specs.Tables.{put_all, put_all-before, put_all-behind}
use Rattle.rules.specs.Draws.{new_order, Drew}
use Rattle.rules.specs.Jobs.{capacity, orders_bounds}
use Rattle.rules.proofs.Laws.Orders.{order_below, length-order, nodup-order, order-take, orders-split}
use Rattle.rules.specs.Rebuild
use Rattle.rules.specs.Rebuild.{Fill, fills, new_places, write_levels}
use Rattle.rules.specs.Shape.{Shape, cell, slots}
use Rattle.rules.specs.State.{Place, stored}
use Rattle.reachable.proofs.Cells.{cell-is, level-at, level-else}

-- x is one of these
abbrev pub In : Fill → List Fill → Type 0
In x [] = ⊥
In x (y ∷ ys) = (x ≡ y) ⊎ In x ys

-- ---- What is written of a level: an order of its slots, and no more blocks than it holds
pub record Good (x : Fill) : Type 0 where
  pub long : length x.order ≡ slots x.level
  pub once : NoDup x.order
  pub low : All (λ v. v < slots x.level) x.order
  pub fit : length x.blocks ≤ 2 ^ x.level
  pub single : NoDup x.blocks

pub fills-good : (ls js bs : List ℕ) → Drew (orders_bounds ls) js → NoDup bs → (x : Fill) → In x (fills ls js bs) → Good x
unfolding fills
fills-good [] js bs d u x m = absurd m
fills-good (ℓ ∷ ls) js bs d u x m =
    let r = orders-split ℓ ls js d in
    ⊎_elim (λ e. subst Good (sym e) (here r.0)) (fills-good ls (drop (2 ^ (ℓ + 1) - 1) js) (drop (2 ^ ℓ) bs) r.1 (nodup-drop (2 ^ ℓ) bs u) x) m
  where
    here : Drew (Rattle.rules.specs.Draws.order_bounds (slots ℓ)) (take (slots ℓ - 1) js) → Good (record { level = ℓ; order = new_order (slots ℓ) js; blocks = take (2 ^ ℓ) bs })
    here w = record {
      long = length-order (slots ℓ) js;
      once = rw (order-take (slots ℓ) js) at (nodup-order (slots ℓ) (take (slots ℓ - 1) js) (pow_pos (ℓ + 1)) w);
      low = order_below (slots ℓ) js (pow_pos (ℓ + 1));
      fit = omega (arith, length-take (2 ^ ℓ) bs);
      single = nodup-take (2 ^ ℓ) bs u;
    }

-- ---- Their levels
abbrev pub level_of : Fill → ℕ
level_of x = x.level

pub fills-levels : (ls js bs : List ℕ) → map level_of (fills ls js bs) ≡ ls
unfolding fills
fills-levels [] js bs = refl
fills-levels (ℓ ∷ ls) js bs = ap (λ xs. ℓ ∷ xs) (fills-levels ls (drop (2 ^ (ℓ + 1) - 1) js) (drop (2 ^ ℓ) bs))

pub in-level : (xs : List Fill) (x : Fill) → In x xs → Mem x.level (map level_of xs)
in-level [] x m = m
in-level (y ∷ ys) x (inl e) = inl (ap level_of e)
in-level (y ∷ ys) x (inr m) = inr (in-level ys x m)

pub level_in_lem : (xs : List Fill) (ℓ : ℕ) → Mem ℓ (map level_of xs) → (x : Fill) × (In x xs × (x.level ≡ ℓ))
level_in_lem [] ℓ m = absurd m
level_in_lem (y ∷ ys) ℓ (inl e) = (y, (inl refl, sym e))
level_in_lem (y ∷ ys) ℓ (inr m) = let r = level_in_lem ys ℓ m in (r.0, (inr r.1.0, r.1.1))

-- no two have one level
pub one-fill : (xs : List Fill) (x y : Fill) → In x xs → In y xs → NoDup (map level_of xs) → x.level ≡ y.level → x ≡ y
one-fill [] x y m n u e = absurd m
one-fill (z ∷ zs) x y (inl m) (inl n) u e = m ∙ sym n
one-fill (z ∷ zs) x y (inl m) (inr n) u e = absurd (u.0 (rw (sym (ap level_of m) ∙ e) (in-level zs y n)))
one-fill (z ∷ zs) x y (inr m) (inl n) u e = absurd (u.0 (rw (sym (ap level_of n) ∙ sym e) (in-level zs x m)))
one-fill (z ∷ zs) x y (inr m) (inr n) u e = one-fill zs x y m n u.1 e

-- ---- Their blocks: each of those gathered is in one
pub fills-from : (ls js bs : List ℕ) (x : Fill) (b : ℕ) → In x (fills ls js bs) → Mem b x.blocks → Mem b bs
unfolding fills
fills-from [] js bs x b m k = absurd m
fills-from (ℓ ∷ ls) js bs x b (inl e) k = mem-take b (2 ^ ℓ) bs (subst (λ (y : Fill). Mem b y.blocks) e k)
fills-from (ℓ ∷ ls) js bs x b (inr m) k = mem-drop b (2 ^ ℓ) bs (fills-from ls (drop (2 ^ (ℓ + 1) - 1) js) (drop (2 ^ ℓ) bs) x b m k)

pub fills-home : (ls js bs : List ℕ) (b : ℕ) → length bs ≤ capacity ls → Mem b bs → (x : Fill) × (In x (fills ls js bs) × Mem b x.blocks)
unfolding fills capacity
fills-home [] js [] b l m = absurd m
fills-home [] js (c ∷ bs) b l m = absurd (omega arith)
fills-home (ℓ ∷ ls) js bs b l m = go (take-or-drop b (2 ^ ℓ) bs m) (fills-home ls (drop (2 ^ (ℓ + 1) - 1) js) (drop (2 ^ ℓ) bs) b (omega (arith, length-drop (2 ^ ℓ) bs)))
  where
    go : Mem b (take (2 ^ ℓ) bs) ⊎ Mem b (drop (2 ^ ℓ) bs) → (Mem b (drop (2 ^ ℓ) bs) → (x : Fill) × (In x (fills ls (drop (2 ^ (ℓ + 1) - 1) js) (drop (2 ^ ℓ) bs)) × Mem b x.blocks))
        → (x : Fill) × (In x (fills (ℓ ∷ ls) js bs) × Mem b x.blocks)
    go (inl k) ih = (record { level = ℓ; order = new_order (slots ℓ) js; blocks = take (2 ^ ℓ) bs }, (inl refl, k))
    go (inr k) ih = let r = ih k in (r.0, (inr r.1.0, r.1.1))

pub fills_one : (ls js bs : List ℕ) → NoDup bs → (x y : Fill) (b : ℕ) → In x (fills ls js bs) → In y (fills ls js bs) → Mem b x.blocks → Mem b y.blocks → x ≡ y
unfolding fills
fills_one [] js bs u x y b m n k l = absurd m
fills_one (ℓ ∷ ls) js bs u x y b (inl m) (inl n) k l = m ∙ sym n
fills_one (ℓ ∷ ls) js bs u x y b (inl m) (inr n) k l = absurd (not-both b (2 ^ ℓ) bs u (subst (λ (z : Fill). Mem b z.blocks) m k) (fills-from ls (drop (2 ^ (ℓ + 1) - 1) js) (drop (2 ^ ℓ) bs) y b n l))
fills_one (ℓ ∷ ls) js bs u x y b (inr m) (inl n) k l = absurd (not-both b (2 ^ ℓ) bs u (subst (λ (z : Fill). Mem b z.blocks) n l) (fills-from ls (drop (2 ^ (ℓ + 1) - 1) js) (drop (2 ^ ℓ) bs) x b m k))
fills_one (ℓ ∷ ls) js bs u x y b (inr m) (inr n) k l = fills_one ls (drop (2 ^ (ℓ + 1) - 1) js) (drop (2 ^ ℓ) bs) (nodup-drop (2 ^ ℓ) bs u) x y b m n k l

-- ---- The tables
module _ {A : Type 0} (h : Shape) (q : ℕ) (level : A → ℕ) (entries : A → List ℕ) where
  -- a level of the shape, with an entry for each slot
  abbrev pub Fits : A → Type 0
  Fits x = (level x < h.L) × (length (entries x) ≡ slots (level x))

  abbrev pub Among : A → List A → Type 0
  Among x [] = ⊥
  Among x (y ∷ ys) = (x ≡ y) ⊎ Among x ys

  pub written-else : (xs : List A) → ((x : A) → Among x xs → Fits x) → (f : ℕ → ℕ) (p ℓ i : ℕ) → ℓ < h.L → i < slots ℓ → (q ≡ p → ¬ Mem ℓ (map level xs))
      → write_levels h q level entries xs f (cell h p ℓ i) ≡ f (cell h p ℓ i)
  unfolding write_levels
  written-else [] g f p ℓ i hℓ hi n = refl
  written-else (x ∷ xs) g f p ℓ i hℓ hi n =
      let a = g x (inl refl) in
      written-else xs (λ y m. g y (inr m)) _ p ℓ i hℓ hi (λ e m. n e (inr m))
      ∙ level-else h q (level x) (entries x) f a.1 p ℓ i a.0 hℓ hi (λ w. n w.0 (inl (sym w.1)))

  pub written-here : (xs : List A) → ((x : A) → Among x xs → Fits x) → NoDup (map level xs) → (f : ℕ → ℕ) (x : A) → Among x xs → (p ℓ i : ℕ) → (q ≡ p) × (level x ≡ ℓ) → i < slots ℓ
      → write_levels h q level entries xs f (cell h p ℓ i) ≡ get_or (entries x) i 0
  unfolding write_levels
  written-here [] g u f x m p ℓ i w hi = absurd m
  written-here (y ∷ ys) g u f x (inl e) p ℓ i w hi =
      let a = g y (inl refl) in
      let s : level y ≡ ℓ = ap level (sym e) ∙ w.1 in
      written-else ys (λ z m. g z (inr m)) _ p ℓ i (rw (← s) a.0) hi (λ _ m. u.0 (rw s m))
      ∙ level-at h q (level y) (entries y) f a.1 p ℓ i (w.0, s) hi ∙ ap (λ z. get_or (entries z) i 0) (sym e)
  written-here (y ∷ ys) g u f x (inr m) p ℓ i w hi = written-here ys (λ z k. g z (inr k)) u.1 _ x m p ℓ i w hi

  -- a cell is one of a written level's slots, or holds what it held
  abbrev pub Slot : List A → ℕ → Type 0
  Slot xs c = (x : A) × (i : ℕ) × (Among x xs × (i < slots (level x)) × (c ≡ cell h q (level x) i))

  pub written-where : (xs : List A) → ((x : A) → Among x xs → Fits x) → (f : ℕ → ℕ) (c : ℕ) → Slot xs c ⊎ (write_levels h q level entries xs f c ≡ f c)
  unfolding write_levels
  written-where [] g f c = inr refl
  written-where (x ∷ xs) g f c = ⊎_elim (λ w. inl (w.0, w.1, (inr w.2.0, w.2.1, w.2.2))) (λ e. go (dec_lt c (cell h q (level x) 0)) (dec_lt c (cell h q (level x) 0 + slots (level x))) e)
      (written-where xs (λ y m. g y (inr m)) (put_all (cell h q (level x) 0) (entries x) f) c)
    where
      many : cell h q (level x) 0 + length (entries x) ≡ cell h q (level x) 0 + slots (level x)
      many = ap (λ n. cell h q (level x) 0 + n) (g x (inl refl)).1

      go : Dec (c < cell h q (level x) 0) → Dec (c < cell h q (level x) 0 + slots (level x)) → write_levels h q level entries xs (put_all (cell h q (level x) 0) (entries x) f) c ≡ put_all (cell h q (level x) 0) (entries x) f c
          → Slot (x ∷ xs) c ⊎ (write_levels h q level entries xs (put_all (cell h q (level x) 0) (entries x) f) c ≡ f c)
      go (yes l) u e = inr (e ∙ put_all-before (cell h q (level x) 0) (entries x) f c l)
      go (no l) (no u) e = inr (e ∙ put_all-behind (cell h q (level x) 0) (entries x) f c (omega (arith, many)))
      go (no l) (yes u) e = inl (x, c - cell h q (level x) 0, (inl refl, omega arith, cell-is h q (level x) c (omega arith)))

-- levels by themselves
pub map-self : (ls : List ℕ) → map (λ ℓ. ℓ) ls ≡ ls
map-self [] = refl
map-self (ℓ ∷ ls) = ap (λ xs. ℓ ∷ xs) (map-self ls)

-- ---- The places
dec_home : (xs : List Fill) (b : ℕ) → ((x : Fill) × (In x xs × Mem b x.blocks)) ⊎ ((x : Fill) → In x xs → ¬ Mem b x.blocks)
dec_home [] b = inr (λ x m k. m)
dec_home (y ∷ ys) b = go (dec_mem b y.blocks) (dec_home ys b)
  where
    go : Dec (Mem b y.blocks) → ((x : Fill) × (In x ys × Mem b x.blocks)) ⊎ ((x : Fill) → In x ys → ¬ Mem b x.blocks) → ((x : Fill) × (In x (y ∷ ys) × Mem b x.blocks)) ⊎ ((x : Fill) → In x (y ∷ ys) → ¬ Mem b x.blocks)
    go (yes k) r = inl (y, (inl refl, k))
    go (no k) (inl r) = inl (r.0, (inr r.1.0, r.1.1))
    go (no k) (inr r) = inr (λ x m l. ⊎_elim (λ e. k (subst (λ (z : Fill). Mem b z.blocks) e l)) (λ m. r x m l) m)

pub places-out : (xs : List Fill) (f : ℕ → Place) (b : ℕ) → ((x : Fill) → In x xs → ¬ Mem b x.blocks) → new_places xs f b ≡ f b
unfolding new_places Rebuild.new_place Rebuild.item_place
places-out [] f b n = refl
places-out (x ∷ xs) f b n = places-out xs _ b (λ y m. n y (inr m)) ∙ rw (index_of-none b x.blocks (n x (inl refl)))

place-one : (x : Fill) (f : ℕ → Place) (b : ℕ) → Mem b x.blocks → Rebuild.new_place x.level x.blocks x.order f b ≡ stored x.level (get_or x.order (index b x.blocks) 0)
unfolding Rebuild.new_place Rebuild.item_place
place-one x f b k = rw (index_of-mem b x.blocks k)

pub places-in : (xs : List Fill) (f : ℕ → Place) (b : ℕ) (x : Fill) → In x xs → Mem b x.blocks → ((y : Fill) → In y xs → Mem b y.blocks → y ≡ x) → new_places xs f b ≡ stored x.level (get_or x.order (index b x.blocks) 0)
unfolding new_places Rebuild.new_place Rebuild.item_place
places-in [] f b x m k one = absurd m
places-in (y ∷ ys) f b x m k one = go m (dec_home ys b) (places-in ys (Rebuild.new_place y.level y.blocks y.order f) b x)
  where
    go : (x ≡ y) ⊎ In x ys → ((z : Fill) × (In z ys × Mem b z.blocks)) ⊎ ((z : Fill) → In z ys → ¬ Mem b z.blocks)
        → (In x ys → Mem b x.blocks → ((z : Fill) → In z ys → Mem b z.blocks → z ≡ x) → new_places ys (Rebuild.new_place y.level y.blocks y.order f) b ≡ stored x.level (get_or x.order (index b x.blocks) 0))
        → new_places ys (Rebuild.new_place y.level y.blocks y.order f) b ≡ stored x.level (get_or x.order (index b x.blocks) 0)
    go m (inl r) ih = ih (subst (λ z. In z ys) (one r.0 (inr r.1.0) r.1.1) r.1.0) k (λ z a. one z (inr a))
    go (inr m) (inr r) ih = absurd (r x m k)
    go (inl e) (inr r) ih = places-out ys _ b r ∙ subst (λ (z : Fill). Rebuild.new_place z.level z.blocks z.order f b ≡ stored x.level (get_or x.order (index b x.blocks) 0)) e (place-one x f b k)
