-- What a form's reading makes of it in any case, what it must say to load, and what both directions of the proof share.
use Rattle.std.specs.Prelude.{◌≡◌, ◌⊎◌, Bool, false, get_or}
use Rattle.std.proofs.Math.Path.{refl, ap}
use Rattle.std.proofs.Common.{sym, ◌∙◌, subst, true≢false, arith, eqb-true, eq-eqb}
use Rattle.std.proofs.Math.Logic.{inl, inr}
use Rattle.std.proofs.Math.Bool.{true}
use mathlib.Core.List.{List, [], ◌∷◌, map}
use Prim.Native.Nat.{ℕ, zero, suc, ◌-◌, ◌^◌, ◌≤◌, ◌<◌}
use Rattle.std.proofs.Math.Dec.{eqb}
use Rattle.std.proofs.Math.ListN.{length}
use Rattle.lists.specs.All.{All, nil, cons, all_map, below-below}
use Rattle.lists.specs.Distinct.{Mem, NoDup}
use Rattle.lists.specs.Members.{append-mem, member-append, append_right, mem-keep, below-mem, mem-count, keep_same}
use Rattle.lists.specs.Search.{any, keep, below, count, keep-yes, keep-no}
use Rattle.lists.specs.Tests.{or_left, or_right, or-true}
use Rattle.rules.specs.Form.Loading.{block_at, loaded, stored_at, waits_at}
use Rattle.rules.specs.Form.Payload.{filled_levels, Waiter}
use Rattle.rules.specs.Form.Reading.{Spot, absent, waits, at, Level, Form, is_waiting}
use Rattle.rules.proofs.Laws.Form.Tables.{Some, here, there, some-map, some-each, mem-some, all-each}
use Rattle.rules.specs.Levels.{filled}
use Rattle.rules.specs.Shape.{Shape, within, slots, cell}
use Rattle.forms.specs.At.{wait_count}
use Rattle.forms.specs.Cells.{PlacedIn, cell_at, cells_of}
use Rattle.forms.specs.Laid.{Pairs, none-pairs, more-pairs, Before, levels-ordered, levels-in}

abbrev pub key_of : Level → ℕ × ℕ
key_of l = (l.partition, l.level)

abbrev pub counter_of : Form → ℕ → ℕ
counter_of f q = get_or f.counters q 0

abbrev pub ages_of : List Waiter → List ℕ
ages_of ws = map (λ (r : Waiter). r.age) ws

abbrev pub names_of : List Waiter → List ℕ
names_of ws = map (λ (r : Waiter). r.block) ws

abbrev pub Known : Shape → Level → Type 0
Known h l = (l.partition < h.P) × (l.level < h.L)

abbrev pub Sized : Level → Type 0
Sized l = (length l.order ≡ slots l.level) × (length l.marks ≡ slots l.level)

-- the order has each slot once
abbrev pub Ordered : Level → Type 0
Ordered l = NoDup l.order × All (λ i. i < slots l.level) l.order

-- the slots in which blocks stand are unread
abbrev pub Unread : Shape → List ℕ → Level → Type 0
Unread h cs l = (i : ℕ) → i < slots l.level → Mem (cell h l.partition l.level i) cs → get_or l.marks i 0 ≡ 0

-- as many as are read, whatever they are
pub record Made (f : Form) : Type 0 where
  pub counters : length f.counters ≡ f.shape.P
  pub blocks : length f.blocks ≡ f.shape.N
  pub keys : map key_of f.levels ≡ filled_levels f.shape.P f.shape.L (counter_of f)
  pub sizes : All Sized f.levels
  pub waiters : length f.waiters ≡ wait_count f.blocks

-- a form loads exactly if
pub record Facts (f : Form) (rest : List ℕ) : Type 0 where
  pub number : f.number ≡ 1
  pub shape : within f.shape ≡ true
  pub counters : All (λ c. c < 2 ^ f.shape.L) f.counters
  pub jobs : length f.queue ≤ 64
  pub queue : All (λ q. q < f.shape.P) f.queue
  pub placed : All (PlacedIn f.shape (counter_of f)) f.blocks
  pub apart : NoDup (cells_of f.shape f.blocks)
  pub waiting : wait_count f.blocks ≤ f.shape.E
  pub orders : All Ordered f.levels
  pub marks : All (λ (l : Level). All (λ m. m ≤ 1) l.marks) f.levels
  pub unread : All (Unread f.shape (cells_of f.shape f.blocks)) f.levels
  pub room : All (λ (l : Level). length (stored_at (loaded f) l.partition l.level) ≤ 2 ^ l.level) f.levels
  pub ages : NoDup (ages_of f.waiters)
  pub ages_in : All (λ a. a < length f.waiters) (ages_of f.waiters)
  pub names : NoDup (names_of f.waiters)
  pub names_in : All (λ b. (b < f.shape.N) × (waits_at f.blocks b ≡ true)) (names_of f.waiters)
  pub zeros : All (λ x. x ≡ 0) rest
  pub short : length rest < 508

-- ---- Lists

module _ {A : Type 0} where
  pub all-at : {P : A → Type 0} {xs : List A} (d : A) → All P xs → (k : ℕ) → k < length xs → P (get_or xs k d)
  all-at d nil k l = absurd (omega arith)
  all-at d (cons h t) zero l = h
  all-at d (cons h t) (suc k) l = all-at d t k (omega arith)

  pub at_all : {P : A → Type 0} (d : A) (xs : List A) → ((k : ℕ) → k < length xs → P (get_or xs k d)) → All P xs
  at_all d [] f = nil
  at_all d (x ∷ xs) f = cons (f 0 (omega arith)) (at_all d xs (λ k l. f (suc k) (omega arith)))

  pub some-both : {P Q : A → Type 0} {xs : List A} → Some P xs → All Q xs → Some (λ x. P x × Q x) xs
  some-both (here h) (cons k ks) = here (h, k)
  some-both (there t) (cons k ks) = there (some-both t ks)

  pub unmapped : {B : Type 0} {P : A → Type 0} (g : B → A) (xs : List B) → All P (map g xs) → All (λ x. P (g x)) xs
  unmapped g [] nil = nil
  unmapped g (x ∷ xs) (cons a t) = cons a (unmapped g xs t)

  -- the numbers of a list's elements
  module _ (g : A → ℕ) where
    pub any-mem : (xs : List A) (a : ℕ) → any (λ x. eqb (g x) a) xs ≡ true → Mem a (map g xs)
    unfolding any
    any-mem [] a e = absurd (true≢false (sym e))
    any-mem (x ∷ xs) a e = go (or-true (eqb (g x) a) _ e) (any-mem xs a)
      where
        go : (eqb (g x) a ≡ true) ⊎ (any (λ x. eqb (g x) a) xs ≡ true) → (any (λ x. eqb (g x) a) xs ≡ true → Mem a (map g xs)) → (a ≡ g x) ⊎ Mem a (map g xs)
        go (inl k) f = inl (sym (eqb-true (g x) a k))
        go (inr k) f = inr (f k)

    pub mem-any : (xs : List A) (a : ℕ) → Mem a (map g xs) → any (λ x. eqb (g x) a) xs ≡ true
    unfolding any
    mem-any [] a m = absurd m
    mem-any (x ∷ xs) a (inl e) = or_left (eqb (g x) a) _ (eq-eqb (g x) a (sym e))
    mem-any (x ∷ xs) a (inr m) = or_right (eqb (g x) a) _ (mem-any xs a m)

-- how many blocks pass a test
module _ (p : ℕ × Spot → Bool) (d : ℕ × Spot) where
  keep-from : (a : ℕ) (xs : List (ℕ × Spot)) → length (keep (λ b. p (get_or xs (b - a) d)) (count a (length xs))) ≡ length (keep p xs)
  unfolding count keep
  keep-from a [] = refl
  keep-from a (x ∷ xs) = go (p x) refl (ap length (keep_same (λ b. p (get_or (x ∷ xs) (b - a) d)) (λ b. p (get_or xs (b - suc a) d)) (count (suc a) (length xs)) next) ∙ keep-from (suc a) xs)
    where
      next : (b : ℕ) → Mem b (count (suc a) (length xs)) → p (get_or (x ∷ xs) (b - a) d) ≡ p (get_or xs (b - suc a) d)
      next b m = let e : b - a ≡ suc (b - suc a) = omega (arith, mem-count (suc a) (length xs) b m) in ap (λ k. p (get_or (x ∷ xs) k d)) e

      first : p (get_or (x ∷ xs) (a - a) d) ≡ p x
      first = let e : a - a ≡ 0 = omega arith in ap (λ k. p (get_or (x ∷ xs) k d)) e

      go : (t : Bool) → p x ≡ t → length (keep (λ b. p (get_or (x ∷ xs) (b - a) d)) (count (suc a) (length xs))) ≡ length (keep p xs)
          → length (keep (λ b. p (get_or (x ∷ xs) (b - a) d)) (a ∷ count (suc a) (length xs))) ≡ length (keep p (x ∷ xs))
      go true e ih = rw (keep-yes (λ b. p (get_or (x ∷ xs) (b - a) d)) a (count (suc a) (length xs)) (first ∙ e), keep-yes p x xs e) (ap suc ih)
      go false e ih = rw (keep-no (λ b. p (get_or (x ∷ xs) (b - a) d)) a (count (suc a) (length xs)) (first ∙ e), keep-no p x xs e) ih

pub keep-blocks : (p : ℕ × Spot → Bool) (xs : List (ℕ × Spot)) → length (keep (λ b. p (block_at xs b)) (below (length xs))) ≡ length (keep p xs)
unfolding block_at below
keep-blocks p xs = ap length (keep_same (λ b. p (get_or xs b (0, absent))) (λ b. p (get_or xs (b - 0) (0, absent))) (count 0 (length xs)) (λ b m. let e : b ≡ b - 0 = omega arith in ap (λ k. p (get_or xs k (0, absent))) e)) ∙ keep-from p (0, absent) 0 xs

pub wait-count : (xs : List (ℕ × Spot)) → length (keep (waits_at xs) (below (length xs))) ≡ wait_count xs
unfolding waits_at wait_count
wait-count xs = keep-blocks is_waiting xs

-- ---- Blocks and cells

pub cell_in : (h : Shape) (xs : List (ℕ × Spot)) (b ℓ i : ℕ) → b < length xs → (block_at xs b).1 ≡ at ℓ i → Mem (cell h (block_at xs b).0 ℓ i) (cells_of h xs)
unfolding cells_of block_at cell_at
cell_in h [] b ℓ i l e = absurd (omega arith)
cell_in h (x ∷ xs) zero ℓ i l e = member-append (cell h x.0 ℓ i) (cell_at h x.0 x.1) (cells_of h xs) (rw e (inl refl))
cell_in h (x ∷ xs) (suc b) ℓ i l e = append_right (cell h (block_at xs b).0 ℓ i) (cell_at h x.0 x.1) (cells_of h xs) (cell_in h xs b ℓ i (omega arith) e)

pub record Standing (h : Shape) (xs : List (ℕ × Spot)) (c : ℕ) : Type 0 where
  pub block : ℕ
  pub level : ℕ
  pub slot : ℕ
  pub in_blocks : block < length xs
  pub place : (block_at xs block).1 ≡ at level slot
  pub is_cell : c ≡ cell h (block_at xs block).0 level slot

pub in_cell : (h : Shape) (xs : List (ℕ × Spot)) (c : ℕ) → Mem c (cells_of h xs) → Standing h xs c
unfolding cells_of block_at cell_at
in_cell h [] c m = absurd m
in_cell h (x ∷ xs) c m = go (append-mem c (cell_at h x.0 x.1) (cells_of h xs) m) (in_cell h xs c)
  where
    first : (y : Spot) → x.1 ≡ y → Mem c (cell_at h x.0 y) → Standing h (x ∷ xs) c
    first absent e m = absurd m
    first waits e m = absurd m
    first (at ℓ i) e (inl k) = record { block = 0; level = ℓ; slot = i; in_blocks = omega arith; place = e; is_cell = k }
    first (at ℓ i) e (inr m) = absurd m

    go : Mem c (cell_at h x.0 x.1) ⊎ Mem c (cells_of h xs) → (Mem c (cells_of h xs) → Standing h xs c) → Standing h (x ∷ xs) c
    go (inl m) f = first x.1 refl m
    go (inr m) f = let r = f m in record { block = suc r.block; level = r.level; slot = r.slot; in_blocks = omega (arith, r.in_blocks); place = r.place; is_cell = r.is_cell }

-- ---- Levels

module _ (f : Form) (made : Made f) where
  abbrev h : Shape
  h = f.shape

  unmap-some : {P : ℕ × ℕ → Type 0} (ls : List Level) → Some P (map key_of ls) → Some (λ l. P (key_of l)) ls
  unmap-some {P = P} [] x' = elim x' [ ]
  unmap-some {P = P} (l ∷ ls) (here k) = here k
  unmap-some {P = P} (l ∷ ls) (there t) = there (unmap-some {P = P} ls t)

  unmap-pairs : {R : ℕ × ℕ → ℕ × ℕ → Type 0} (ls : List Level) → Pairs R (map key_of ls) → Pairs (λ l m. R (key_of l) (key_of m)) ls
  unmap-pairs [] none-pairs = none-pairs
  unmap-pairs (l ∷ ls) (more-pairs k t) = more-pairs (unmapped key_of ls k) (unmap-pairs ls t)

  -- the levels are levels of the shape
  pub levels-known : All (Known h) f.levels
  unfolding filled_levels
  levels-known = unmapped key_of f.levels (subst (All (λ (k : ℕ × ℕ). (k.0 < h.P) × (k.1 < h.L))) (sym made.keys) keys)
    where
      keys : All (λ (k : ℕ × ℕ). (k.0 < h.P) × (k.1 < h.L)) (filled_levels h.P h.L (counter_of f))
      keys = all-each (λ q. map (λ ℓ. (q, ℓ)) (keep (filled (counter_of f q)) (below h.L))) (all_map (λ q hq. all_map (λ k v. (subst (λ p. p < h.P) (sym v.0) hq, v.1)) (levels-in h (counter_of f) q)) (below-below h.P))

  -- a filled level is among them
  pub level-there : (q ℓ : ℕ) → q < h.P → ℓ < h.L → filled (counter_of f q) ℓ ≡ true → Some (λ (l : Level). (l.partition ≡ q) × (l.level ≡ ℓ)) f.levels
  unfolding filled_levels
  level-there q ℓ hq hℓ e = unmap-some f.levels (subst (Some (λ (k : ℕ × ℕ). (k.0 ≡ q) × (k.1 ≡ ℓ))) (sym made.keys) keys)
    where
      keys : Some (λ (k : ℕ × ℕ). (k.0 ≡ q) × (k.1 ≡ ℓ)) (filled_levels h.P h.L (counter_of f))
      keys = some-each (λ q. map (λ ℓ. (q, ℓ)) (keep (filled (counter_of f q)) (below h.L))) (below h.P) q (below-mem h.P q hq)
          (some-map (λ ℓ. (q, ℓ)) {xs = keep (filled (counter_of f q)) (below h.L)} (mem-some _ ℓ (mem-keep (filled (counter_of f q)) (below h.L) ℓ (below-mem h.L ℓ hℓ) e) (refl, refl)))

  -- they lie apart
  pub levels-apart : Pairs (λ (l m : Level). Before h (counter_of f) (key_of l) (key_of m)) f.levels
  levels-apart = unmap-pairs f.levels (subst (Pairs (Before h (counter_of f))) (sym made.keys) (levels-ordered h (counter_of f)))
