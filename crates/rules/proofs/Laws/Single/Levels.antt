-- For j equal to 1 the levels of a run are those of document 01's job: the law that P7 leaves a single job what it was.
use Rattle.std.specs.Prelude.{◌≡◌, Bool, List, [], ◌∷◌, ltb, if◌then◌else◌}
use Rattle.std.proofs.Math.Path.{refl, ap}
use Rattle.std.proofs.Common.{◌∙◌}
use Rattle.std.proofs.Math.Bool.{true, false}
use Rattle.std.proofs.Math.Option.{none, some}
use Prim.Native.Nat.{ℕ, zero, suc, ◌+◌, ◌-◌, ◌^◌, ◌≤◌, ◌<◌, min}
use Rattle.std.proofs.Math.Decide.{dec_lt}
use native.Mathlib.Omega.{arith}
use Rattle.std.proofs.Math.Dec.{eqb}
use borrow.Author.Tests.{eqb-true, eqb-false, eq-eqb}
use Rattle.lists.specs.Search.{keep, below, count, without_first, keep-yes, keep-no, without-yes}
use Rattle.rules.specs.Shape.{Shape, slots}
use Rattle.rules.specs.State.{State}
use Rattle.rules.specs.Levels.{filled, is_full, joins, grown, differ, highest, top_level, source_levels, down, written_levels}
use Rattle.rules.specs.Jobs.{queued, begun_with, joined, leave_queue, capacity, slot_count, write_at}
use Rattle.rules.proofs.Laws.Levels.{joins-le, joins-pos}
use Rattle.rules.proofs.Laws.Bits.{pow-at}
use Rattle.rules.specs.Laws.Single.Rules.{trailing_ones, sources, target, grown_by_one}
use Rattle.rules.proofs.Laws.Single.Bits.{trailing_le, ones-filled, ones-empty, ones-all, all_ones, more-below, more-at, more-above, pow_below, highest-one, differ-yes, differ-no}

keep-start : (p : ℕ → Bool) (a n : ℕ) → ((x : ℕ) → a ≤ x → x < a + n → p x ≡ true) → p (a + n) ≡ false → keep p (count a (suc n)) ≡ count a n
unfolding count
keep-start p a zero f e = let z : a + 0 ≡ a = omega arith in keep-no p a [] (rw z at e) ∙ unfold keep in refl
keep-start p a (suc n) f e =
    let z : a + suc n ≡ suc a + n = omega arith in
    keep-yes p a (suc a ∷ count (suc (suc a)) n) (f a (omega arith) (omega arith)) ∙ ap (λ xs. a ∷ xs) (keep-start p (suc a) n (λ x k l. f x (omega arith) (omega arith)) (rw z at e))

keep-whole : (p : ℕ → Bool) (a n : ℕ) → ((x : ℕ) → a ≤ x → x < a + n → p x ≡ true) → keep p (count a n) ≡ count a n
unfolding count
keep-whole p a zero f = unfold keep in refl
keep-whole p a (suc n) f = keep-yes p a (count (suc a) n) (f a (omega arith) (omega arith)) ∙ ap (λ xs. a ∷ xs) (keep-whole p (suc a) n (λ x k l. f x (omega arith) (omega arith)))

keep-none : (p : ℕ → Bool) (n : ℕ) → ((x : ℕ) → x < n → p x ≡ false) → keep p (down n) ≡ []
unfolding down
keep-none p zero f = unfold keep in refl
keep-none p (suc n) f = keep-no p n (down n) (f n (omega arith)) ∙ keep-none p n (λ x l. f x (omega arith))

-- ---- The levels of a run of one job
module _ (h : Shape) (c : ℕ) (h_l : 1 ≤ h.L) (hc : c < 2 ^ h.L) where
  -- all levels are filled, or there is a lowest empty one
  pub cases : (P : Bool → Type 0) → (c ≡ 2 ^ h.L - 1 → trailing_ones h.L c ≡ h.L → P true) → (trailing_ones h.L c < h.L → P false) → P (is_full h c)
  unfolding is_full
  cases P full less = go (eqb c (2 ^ h.L - 1)) refl
    where
      go : (t : Bool) → eqb c (2 ^ h.L - 1) ≡ t → P t
      go true e = let w = eqb-true c (2 ^ h.L - 1) e in full w (rw w (all_ones h.L))
      go false e = less (part (dec_lt (trailing_ones h.L c) h.L))
        where
          part : Dec (trailing_ones h.L c < h.L) → trailing_ones h.L c < h.L
          part (yes l) = l
          part (no l) = absurd (eqb-false c (2 ^ h.L - 1) e (ones-all h.L c hc (omega (arith, trailing_le h.L c))))

  pub one-grown : grown h c 1 ≡ grown_by_one h c
  unfolding grown grown_by_one is_full
  one-grown = refl

  pub one-top : top_level h c 1 ≡ target h c
  unfolding top_level target sources
  one-top = cases (λ t. (if t then h.L - 1 else highest (differ c (c + 1)) h.L) ≡ min (trailing_ones h.L c) (h.L - 1))
      (λ e w. omega arith)
      (λ l. highest-one (differ c (c + 1)) h.L (trailing_ones h.L c) l (differ-yes c (c + 1) (trailing_ones h.L c) (ones-empty h.L c l) (more-at h.L c l))
      (λ ℓ a b. differ-no c (c + 1) ℓ (more-above h.L c ℓ l a)) ∙ omega arith)

  -- the sources: the levels below the trailing ones' end
  pub one-sources : source_levels (top_level h c 1) c ≡ below (sources h c)
  unfolding source_levels sources
  one-sources = rw one-top (unfold target sources below in (cases (λ _. keep (filled c) (count 0 (suc (min (trailing_ones h.L c) (h.L - 1)))) ≡ count 0 (trailing_ones h.L c)) full less))
    where
      full : c ≡ 2 ^ h.L - 1 → trailing_ones h.L c ≡ h.L → keep (filled c) (count 0 (suc (min (trailing_ones h.L c) (h.L - 1)))) ≡ count 0 (trailing_ones h.L c)
      full e w =
          let z : suc (min (trailing_ones h.L c) (h.L - 1)) ≡ trailing_ones h.L c = omega arith in
          rw z (keep-whole (filled c) 0 (trailing_ones h.L c) (λ x k l. ones-filled h.L c x (omega arith)))

      less : trailing_ones h.L c < h.L → keep (filled c) (count 0 (suc (min (trailing_ones h.L c) (h.L - 1)))) ≡ count 0 (trailing_ones h.L c)
      less l =
          let z : min (trailing_ones h.L c) (h.L - 1) ≡ trailing_ones h.L c = omega arith in
          let y : 0 + trailing_ones h.L c ≡ trailing_ones h.L c = omega arith in
          rw z (keep-start (filled c) 0 (trailing_ones h.L c) (λ x k m. ones-filled h.L c x (omega arith)) (rw y (ones-empty h.L c l)))

  -- the written levels: the target alone
  pub one_written : written_levels h c 1 ≡ target h c ∷ []
  unfolding written_levels down grown
  one_written = rw one-top (unfold target sources in (cases (λ b. keep (filled (if b then 2 ^ (h.L - 1) else c + 1)) (min (trailing_ones h.L c) (h.L - 1) ∷ down (min (trailing_ones h.L c) (h.L - 1))) ≡ min (trailing_ones h.L c) (h.L - 1) ∷ [])
      (λ e w. let z : min (trailing_ones h.L c) (h.L - 1) ≡ h.L - 1 = omega arith in
      rw z (keep-yes (filled (2 ^ (h.L - 1))) (h.L - 1) (down (h.L - 1)) (pow-at (h.L - 1)) ∙ ap (λ xs. (h.L - 1) ∷ xs) (keep-none (filled (2 ^ (h.L - 1))) (h.L - 1) (pow_below (h.L - 1)))))
      (λ l. let z : min (trailing_ones h.L c) (h.L - 1) ≡ trailing_ones h.L c = omega arith in
      rw z (keep-yes (filled (c + 1)) (trailing_ones h.L c) (down (trailing_ones h.L c)) (more-at h.L c l) ∙ ap (λ xs. trailing_ones h.L c ∷ xs) (keep-none (filled (c + 1)) (trailing_ones h.L c) (λ x k. more-below h.L c x k))))))

  -- they hold 2^t blocks, and its writes are those of its slots, ascending
  pub one_holds : (capacity (target h c ∷ []) ≡ 2 ^ target h c) × (slot_count (target h c ∷ []) ≡ slots (target h c))
  unfolding capacity slot_count
  one_holds = (omega arith, omega arith)

  pub one-write : (n : ℕ) → write_at (target h c ∷ []) n ≡ (if ltb n (slots (target h c)) then some (target h c, n) else none)
  unfolding write_at
  one-write n = refl

-- "The job leaves the queue."
pub one-leaves : (q : ℕ) (rest : List ℕ) → leave_queue q 1 (q ∷ rest) ≡ rest
unfolding leave_queue without_first
one-leaves q rest = without-yes (eqb q) q rest (eq-eqb q q refl)

-- ---- When a job runs alone: it is the only one queued for its partition, or all levels are filled, or one is missing
pub joins-one : (h : Shape) (c : ℕ) → c < 2 ^ h.L → joins h c 1 ≡ 1
joins-one h c k = omega (arith, joins-le h c 1 (omega arith), joins-pos h c 1 k (omega arith))

pub only_one : (s : State) (q : ℕ) → s.counter q < 2 ^ s.shape.L → s.begun ≡ 0 → queued s.queue q ≡ 1 → joined s q ≡ 1
unfolding joined begun_with
only_one s q k e w = rw (e, w) (joins-one s.shape (s.counter q) k)

pub last_one : (s : State) (q : ℕ) → s.begun ≡ 0 → 1 ≤ queued s.queue q → 2 ^ s.shape.L - 1 - s.counter q ≤ 1 → s.counter q < 2 ^ s.shape.L → joined s q ≡ 1
unfolding joined begun_with
last_one s q e n l k = rw e (go (is_full s.shape (s.counter q)) refl)
  where
    go : (t : Bool) → is_full s.shape (s.counter q) ≡ t → joins s.shape (s.counter q) (queued s.queue q) ≡ 1
    go true w = unfold joins in (rw w)
    go false w = unfold joins in (rw w (omega (arith, eqb-false (s.counter q) (2 ^ s.shape.L - 1) (unfold is_full in w))))
