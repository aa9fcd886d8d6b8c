-- Which blocks a rebuild gathers, and which a level stores.
use Rattle.std.specs.Prelude.{◌≡◌, refl, ◌⊎◌, true, false, ℕ, zero, suc, ◌-◌, ◌^◌, ◌≤◌, ◌<◌, min, length}
use Rattle.std.proofs.Common.{ap, sym, true≢false, length-take, arith}
use Rattle.std.proofs.Math.Dec.{eqb}
use borrow.Author.Tests.{eqb-true, eq-eqb, ltb-true, lt-ltb}
use Rattle.lists.specs.All.{keep-passes}
use Rattle.lists.specs.Distinct.{Mem, NoDup}
use Rattle.lists.specs.Members.{all-mem, keep-mem, mem-keep, nodup-keep, nodup-below, mem_below, below-mem}
use Rattle.lists.specs.Parts.{mem-take}
use Rattle.lists.specs.Search.{keep, below}
use Rattle.lists.specs.Tests.{and_l, and_r, and-true}
use Rattle.rules.specs.Blocks.{blocks_in}
use Rattle.rules.specs.Laws.Range.{PlaceIn}
use Rattle.rules.specs.Jobs.{joined, top_of}
use Rattle.rules.specs.Rebuild.{gathered, gather_from, chosen}
use Rattle.rules.specs.Shape.{slots}
use Rattle.rules.specs.State.{State, Place, nowhere, stored}
use Rattle.rules.specs.Form.Loading.{is_in, stored_at}
use Rattle.reachable.specs.Invariant.{taken}
use Rattle.reachable.specs.Live

pub stored-inj : (ℓ m i j : ℕ) → stored ℓ i ≡ stored m j → (ℓ ≡ m) × (i ≡ j)
stored-inj ℓ m i j e = (cc, cc)

pub not-nowhere : (ℓ i : ℕ) → ¬ (nowhere ≡ stored ℓ i)
not-nowhere ℓ i e = let z : ◌≡◌ {A = ℕ} 0 1 = cc in omega arith

-- Who is gathered
module _ (s : State) (q : ℕ) where
  -- a gathered block: one that is chosen, or one of a level up to t
  abbrev pub Gathered : ℕ → Type 0
  Gathered b = Mem b (chosen s q) ⊎ ((s.partition b ≡ q) × (Live.is_below (suc (top_of s q)) (s.place b) ≡ true))

  pub gathered-lt : (b : ℕ) → Mem b (gathered s q) → b < s.shape.N
  unfolding gathered gather_from
  gathered-lt b m = mem_below s.shape.N b (keep-mem _ (below s.shape.N) b m)

  pub nodup-gathered : NoDup (gathered s q)
  unfolding gathered gather_from
  nodup-gathered = nodup-keep _ (below s.shape.N) (nodup-below s.shape.N)

  -- a chosen block waits for q
  pub chosen-waits : (b : ℕ) → Mem b (chosen s q) → (s.partition b ≡ q) × Mem b s.waiting
  unfolding chosen
  chosen-waits b m =
      let k = mem-take b (min (joined s q) (2 ^ (s.shape.L - 1) - blocks_in s q s.shape.L)) (keep (λ b. eqb (s.partition b) q) s.waiting) m in
      (eqb-true (s.partition b) q (all-mem (keep-passes (λ b. eqb (s.partition b) q) s.waiting) b k), keep-mem _ s.waiting b k)

  -- they are at most j
  pub chosen-few : length (chosen s q) ≤ joined s q
  unfolding chosen
  chosen-few = rw (length-take _ (keep (λ b. eqb (s.partition b) q) s.waiting)) (omega arith)

pub below-lt : (top ℓ i : ℕ) (x : Place) → x ≡ stored ℓ i → Live.is_below top x ≡ true → ℓ < top
unfolding Live.is_below
below-lt top ℓ i x e b = ltb-true ℓ top (rw e at b)

pub lt-below : (top ℓ i : ℕ) (x : Place) → x ≡ stored ℓ i → ℓ < top → Live.is_below top x ≡ true
unfolding Live.is_below
lt-below top ℓ i x e b = rw e (lt-ltb ℓ top b)

pub nowhere-below : (top : ℕ) (x : Place) → x ≡ nowhere → Live.is_below top x ≡ false
unfolding Live.is_below
nowhere-below top x e = rw e

pub place-lt : (top ℓ i : ℕ) (x : Place) → PlaceIn top x → x ≡ stored ℓ i → (ℓ < top) × (i < slots ℓ)
place-lt top ℓ i x h e = rw e at h

-- Who is stored
pub is-in : (ℓ : ℕ) (x : Place) → is_in ℓ x ≡ true → (i : ℕ) × (x ≡ stored ℓ i)
unfolding is_in
is-in ℓ nowhere e = absurd (true≢false (sym e))
is-in ℓ (stored m i) e = (i, ap (λ k. stored k i) (eqb-true m ℓ e))

pub in_is : (ℓ i : ℕ) (x : Place) → x ≡ stored ℓ i → is_in ℓ x ≡ true
unfolding is_in
in_is ℓ i x e = rw e (eq-eqb ℓ ℓ refl)

pub is_below_lem : (top : ℕ) (x : Place) → Live.is_below top x ≡ true → (ℓ : ℕ) × (i : ℕ) × ((x ≡ stored ℓ i) × (ℓ < top))
unfolding Live.is_below
is_below_lem top nowhere e = absurd (true≢false (sym e))
is_below_lem top (stored ℓ i) e = (ℓ, i, (refl, ltb-true ℓ top e))

module _ (s : State) (p : ℕ) where
  pub at-why : (ℓ b : ℕ) → Mem b (stored_at s p ℓ) → (b < s.shape.N) × (s.partition b ≡ p) × (is_in ℓ (s.place b) ≡ true)
  unfolding stored_at
  at-why ℓ b m =
      let e = all-mem (keep-passes _ (below s.shape.N)) b m in
      (mem_below s.shape.N b (keep-mem _ (below s.shape.N) b m), eqb-true (s.partition b) p (and_l (eqb (s.partition b) p) (is_in ℓ (s.place b)) e), and_r (eqb (s.partition b) p) (is_in ℓ (s.place b)) e)

  pub why-at : (ℓ b : ℕ) → b < s.shape.N → s.partition b ≡ p → is_in ℓ (s.place b) ≡ true → Mem b (stored_at s p ℓ)
  unfolding stored_at
  why-at ℓ b hb e k = mem-keep _ (below s.shape.N) b (below-mem s.shape.N b hb) (and-true (eq-eqb (s.partition b) p e) k)

  pub in-why : (top b : ℕ) → Mem b (Live.stored_in s p top) → (b < s.shape.N) × (s.partition b ≡ p) × (Live.is_below top (s.place b) ≡ true)
  unfolding Live.stored_in
  in-why top b m =
      let e = all-mem (keep-passes _ (below s.shape.N)) b m in
      (mem_below s.shape.N b (keep-mem _ (below s.shape.N) b m), eqb-true (s.partition b) p (and_l (eqb (s.partition b) p) (Live.is_below top (s.place b)) e), and_r (eqb (s.partition b) p) (Live.is_below top (s.place b)) e)

  pub why-in : (top b : ℕ) → b < s.shape.N → s.partition b ≡ p → Live.is_below top (s.place b) ≡ true → Mem b (Live.stored_in s p top)
  unfolding Live.stored_in
  why-in top b hb e k = mem-keep _ (below s.shape.N) b (below-mem s.shape.N b hb) (and-true (eq-eqb (s.partition b) p e) k)

  pub nodup-at : (ℓ : ℕ) → NoDup (stored_at s p ℓ)
  unfolding stored_at
  nodup-at ℓ = nodup-keep _ (below s.shape.N) (nodup-below s.shape.N)

  pub nodup-in : (top : ℕ) → NoDup (Live.stored_in s p top)
  unfolding Live.stored_in
  nodup-in top = nodup-keep _ (below s.shape.N) (nodup-below s.shape.N)

pub taken-le : (n : ℕ) → taken n ≤ 1
unfolding taken
taken-le zero = omega arith
taken-le (suc n) = omega arith

pub taken-zero : (n : ℕ) → n ≡ 0 → taken n ≡ 0
unfolding taken
taken-zero n e = rw e
