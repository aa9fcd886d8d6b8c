-- Sources, written levels and counter of a rebuild are in range.
use Rattle.std.specs.Prelude.{◌≡◌, refl, Bool, true, ◌||◌, List, [], ◌∷◌, ℕ, zero, suc, ◌+◌, ◌-◌, ◌^◌, ◌≤◌, ◌<◌, min, length, eqb, leb, ltb, if◌then◌else◌}
use Rattle.std.proofs.Common.{sym, true≢false, pow_mono, pow_pos, eq-eqb, leb-true, ltb-true, ltb-false}
use Rattle.std.proofs.Math.Bool.{false}
use Rattle.std.proofs.Math.Option.{Option, none, some}
use native.Mathlib.Omega.{arith}
use Rattle.std.proofs.Math.Decide.{dec_lt}
use Rattle.std.proofs.lemmas.Bool.{eqb-false}
use Rattle.lists.specs.Tests
use Rattle.lists.specs.Tests.{and_l, every-yes}
use Rattle.lists.specs.Search
use Rattle.lists.specs.Search.{keep, keep-yes, keep-no}
use Rattle.lists.specs.All.{All, nil, cons, IfSome, all_map, all_keep}
use Rattle.lists.specs.Lengths.{keep-le}
use Rattle.rules.specs.Shape.{Shape, slots, within}
use Rattle.rules.specs.State.{State}
use Rattle.rules.specs.Levels.{filled, is_full, joins, grown, differ, highest, top_level, down, written_levels}
use Rattle.rules.specs.Jobs.{queued, begun_with, joined, slot_count, write_at}
use Rattle.rules.specs.Laws.Levels.{Joins}

-- How `highest` computes once a test's answer is known
pub highest-yes : (p : ℕ → Bool) (n : ℕ) → p n ≡ true → highest p (suc n) ≡ n
unfolding highest
highest-yes p n e = rw (e, highest)

pub highest-no : (p : ℕ → Bool) (n : ℕ) → p n ≡ false → highest p (suc n) ≡ highest p n
unfolding highest
highest-no p n e = rw (e, highest)

-- a level has two slots at least
pub two-slots : (ℓ : ℕ) → 2 ≤ slots ℓ
two-slots ℓ = pow_mono {i = 1} {j = ℓ + 1} (omega arith)

pub levels-pos : (h : Shape) → within h ≡ true → 1 ≤ h.L
unfolding within Tests.between
levels-pos h e = leb-true 1 h.L (and_l (leb 1 h.L) (leb h.L 8) (every-yes _ e).1.1.0)

pub partitions-pos : (h : Shape) → within h ≡ true → 0 < h.P
unfolding within Search.member Search.any
partitions-pos h e = go h.P (every-yes _ e).1.0
  where
    go : (p : ℕ) → (eqb p 1 || (eqb p 2 || (eqb p 4 || (eqb p 8 || (eqb p 16 || (eqb p 32 || (eqb p 64 || false))))))) ≡ true → 0 < p
    go zero e = absurd (true≢false (sym e))
    go (suc p) e = omega arith

pub slots-le : (h : Shape) (ℓ : ℕ) → ℓ < h.L → slots ℓ ≤ 2 ^ h.L
slots-le h ℓ k = pow_mono {i = ℓ + 1} {j = h.L} (omega arith)

-- the highest of n levels is one of them
pub highest-lt : (p : ℕ → Bool) (n : ℕ) → 1 ≤ n → highest p n < n
highest-lt p zero k = absurd (omega arith)
highest-lt p (suc n) k = go (p n) refl (highest-lt p n)
  where
    go : (t : Bool) → p n ≡ t → (1 ≤ n → highest p n < n) → highest p (suc n) < suc n
    go true e ih = rw (highest-yes p n e) (omega arith)
    go false e ih = rw (highest-no p n e) (by (dec_lt 0 n))
      where
        by : Dec (0 < n) → highest p n < suc n
        by (yes l) = let x = ih (omega arith) in omega arith
        by (no l) = let z : n ≡ 0 = omega arith in rw z (unfold highest in (omega arith))

pub top_lt : (h : Shape) (c j : ℕ) → 1 ≤ h.L → top_level h c j < h.L
unfolding top_level
top_lt h c j k = go (is_full h c)
  where
    go : (t : Bool) → (if t then h.L - 1 else highest (differ c (c + j)) h.L) < h.L
    go true = omega arith
    go false = highest-lt (differ c (c + j)) h.L k

pub down-below : (n : ℕ) → All (λ x. x < n) (down n)
unfolding down
down-below zero = nil
down-below (suc n) = let here : n < suc n = omega arith in cons here (all_map (λ x k. omega arith) (down-below n))

-- the written levels are levels of the shape
pub written_in : (h : Shape) (c j : ℕ) → 1 ≤ h.L → All (λ ℓ. ℓ < h.L) (written_levels h c j)
unfolding written_levels
written_in h c j k = all_keep _ (all_map (λ x l. omega (arith, top_lt h c j k)) (down-below (suc (top_level h c j))))

slots-down : (p : ℕ → Bool) (n : ℕ) → slot_count (keep p (down n)) ≤ slots n - 2
unfolding down
slots-down p zero = unfold keep slot_count in (omega arith)
slots-down p (suc n) = go (p n) refl (slots-down p n)
  where
    more : slots n + slots n ≡ slots (suc n)
    more = omega (arith, pow_mono {i = suc n + 1} {j = suc (n + 1)} (omega arith), pow_mono {i = suc (n + 1)} {j = suc n + 1} (omega arith))

    go : (t : Bool) → p n ≡ t → slot_count (keep p (down n)) ≤ slots n - 2 → slot_count (keep p (n ∷ down n)) ≤ slots (suc n) - 2
    go true e ih = rw (keep-yes p n (down n) e) (unfold slot_count in (omega (arith, more, two-slots n)))
    go false e ih = rw (keep-no p n (down n) e) (omega (arith, more))

-- they have at most the slots of a partition
pub written-slots : (h : Shape) (c j : ℕ) → 1 ≤ h.L → slot_count (written_levels h c j) ≤ slots h.L - 2
unfolding written_levels
written-slots h c j k = omega (arith, slots-down (filled (grown h c j)) (suc (top_level h c j)), pow_mono {i = suc (top_level h c j) + 1} {j = h.L + 1} (omega (arith, top_lt h c j k)))

-- The writes: each is of a slot of one of the levels
pub write-in : (P : ℕ → Type 0) (ls : List ℕ) (n : ℕ) → All P ls → IfSome (λ (p : ℕ × ℕ). P p.0 × (p.1 < slots p.0) × (n < slot_count ls)) (write_at ls n)
unfolding write_at slot_count
write-in P [] n nil = tt
write-in P (ℓ ∷ ls) n (cons h t) = go (ltb n (slots ℓ)) refl (write-in P ls (n - slots ℓ) t)
  where
    later : (o : Option (ℕ × ℕ)) → IfSome (λ (p : ℕ × ℕ). P p.0 × (p.1 < slots p.0) × (n - slots ℓ < slot_count ls)) o
        → slots ℓ ≤ n → IfSome (λ (p : ℕ × ℕ). P p.0 × (p.1 < slots p.0) × (n < slots ℓ + slot_count ls)) o
    later none k l = tt
    later (some p) k l = (k.0, k.1, omega (arith, k.2))

    go : (t : Bool) → ltb n (slots ℓ) ≡ t → IfSome (λ (p : ℕ × ℕ). P p.0 × (p.1 < slots p.0) × (n - slots ℓ < slot_count ls)) (write_at ls (n - slots ℓ))
        → IfSome (λ (p : ℕ × ℕ). P p.0 × (p.1 < slots p.0) × (n < slots ℓ + slot_count ls)) (if t then some (ℓ, n) else write_at ls (n - slots ℓ))
    go true e ih = let l = ltb-true n (slots ℓ) e in (h, l, omega arith)
    go false e ih = later (write_at ls (n - slots ℓ)) ih (ltb-false n (slots ℓ) e)

-- Jobs that run together: at most those queued, and the counter keeps its range
pub joins-le : (h : Shape) (c n : ℕ) → 1 ≤ n → joins h c n ≤ n
unfolding joins
joins-le h c n k = go (is_full h c)
  where
    go : (t : Bool) → (if t then 1 else min n (2 ^ h.L - 1 - c)) ≤ n
    go true = k
    go false = omega arith

pub joins-pos : (h : Shape) (c n : ℕ) → c < 2 ^ h.L → 1 ≤ n → 1 ≤ joins h c n
unfolding joins is_full
joins-pos h c n k l = go (eqb c (2 ^ h.L - 1)) refl
  where
    go : (t : Bool) → eqb c (2 ^ h.L - 1) ≡ t → 1 ≤ (if t then 1 else min n (2 ^ h.L - 1 - c))
    go true e = omega arith
    go false e = let ne = eqb-false c (2 ^ h.L - 1) e in omega (arith, pow_pos h.L)

pub joins-more : (h : Shape) (c m n : ℕ) → 1 ≤ m → m ≤ n → joins h c m ≤ joins h c n
unfolding joins
joins-more h c m n k l = go (is_full h c)
  where
    go : (t : Bool) → (if t then 1 else min m (2 ^ h.L - 1 - c)) ≤ (if t then 1 else min n (2 ^ h.L - 1 - c))
    go true = omega arith
    go false = omega arith

pub grown-lt : (h : Shape) (c j : ℕ) → 1 ≤ h.L → c < 2 ^ h.L → j ≤ joins h c 64 → grown h c j < 2 ^ h.L
unfolding grown joins is_full
grown-lt h c j p k l = go (eqb c (2 ^ h.L - 1)) refl l
  where
    go : (t : Bool) → eqb c (2 ^ h.L - 1) ≡ t → j ≤ (if t then 1 else min 64 (2 ^ h.L - 1 - c)) → (if t then 2 ^ (h.L - 1) else c + j) < 2 ^ h.L
    go true e l = omega (arith, pow_pos (h.L - 1), pow_mono {i = suc (h.L - 1)} {j = h.L} (omega arith))
    go false e l = omega (arith, pow_pos h.L)

pub queued-le : (qs : List ℕ) (q : ℕ) → queued qs q ≤ length qs
unfolding queued
queued-le qs q = keep-le (eqb q) qs

pub queued-front : (q : ℕ) (qs : List ℕ) → 1 ≤ queued (q ∷ qs) q
unfolding queued
queued-front q qs = rw (keep-yes (eqb q) q qs (eq-eqb q q refl)) (omega arith)

-- as many as may join do
pub joins-all : (h : Shape) (c j n : ℕ) → 1 ≤ j → j ≤ joins h c n → joins h c j ≡ j
unfolding joins
joins-all h c j n k l = go (is_full h c) l
  where
    go : (t : Bool) → j ≤ (if t then 1 else min n (2 ^ h.L - 1 - c)) → (if t then 1 else min j (2 ^ h.L - 1 - c)) ≡ j
    go true l = omega arith
    go false l = omega arith

-- the jobs that a run began with, and those that it would begin with
pub begun-some : (j n : ℕ) → 1 ≤ j → begun_with j n ≡ j
unfolding begun_with
begun-some zero n l = absurd (omega arith)
begun-some (suc j) n l = refl

pub begun-none : (j n : ℕ) → j ≡ 0 → begun_with j n ≡ n
unfolding begun_with
begun-none j n z = rw z

-- the front job runs for one job at least, and for no more than may join
pub joined_in : (s : State) (q : ℕ) (qs : List ℕ) → s.queue ≡ q ∷ qs → s.counter q < 2 ^ s.shape.L → length s.queue ≤ 64 → s.begun ≤ 64 → Joins s.shape (s.counter q) (joined s q)
unfolding joined
joined_in s q qs e c a b = let x = some s.begun b in (joins-pos s.shape (s.counter q) _ c x.0, joins-more s.shape (s.counter q) _ 64 x.0 x.1)
  where
    some : (j : ℕ) → j ≤ 64 → (1 ≤ begun_with j (queued s.queue q)) × (begun_with j (queued s.queue q) ≤ 64)
    some zero b = unfold begun_with in (rw e (queued-front q qs), omega (arith, queued-le s.queue q))
    some (suc j) b = unfold begun_with in (omega arith, b)
