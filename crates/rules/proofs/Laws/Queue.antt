-- The queue, job by job: how many are for q, and the first j of them leave.
use Rattle.std.specs.Prelude.{◌≡◌, Bool, ℕ, suc, ◌+◌, ◌≤◌, if◌then◌else◌}
use Rattle.std.proofs.Math.Path.{refl, ap}
use Rattle.std.proofs.Math.Bool.{true, false}
use mathlib.Core.List.{List, [], ◌∷◌, ◌++◌}
use Rattle.std.proofs.Common.{arith}
use Rattle.std.proofs.Math.ListN.{length}
use Rattle.std.proofs.Math.Dec.{eqb}
use Rattle.lists.specs.Search.{any, keep, without_first, member, keep-yes, keep-no}
use Rattle.lists.specs.Leaving.{without-first-none, without-first-yes, without-first-no}
use Rattle.rules.specs.Jobs.{queued, leave_queue}

module _ (q : ℕ) where
  pub queued-none : queued [] q ≡ 0
  unfolding queued keep
  queued-none = refl

  -- one job more, at the end
  pub queued-more : (qs : List ℕ) (p : ℕ) → queued (qs ++ (p ∷ [])) q ≡ queued qs q + (if eqb q p then 1 else 0)
  unfolding queued
  queued-more [] p = go (eqb q p) refl
    where
      go : (t : Bool) → eqb q p ≡ t → length (keep (eqb q) (p ∷ [])) ≡ length (keep (eqb q) []) + (if t then 1 else 0)
      go true e = rw (keep-yes (eqb q) p [] e) (unfold keep in (omega arith))
      go false e = rw (keep-no (eqb q) p [] e) (unfold keep in (omega arith))
  queued-more (x ∷ xs) p = go (eqb q x) refl (queued-more xs p)
    where
      go : (t : Bool) → eqb q x ≡ t → length (keep (eqb q) (xs ++ (p ∷ []))) ≡ length (keep (eqb q) xs) + (if eqb q p then 1 else 0)
          → length (keep (eqb q) (x ∷ (xs ++ (p ∷ [])))) ≡ length (keep (eqb q) (x ∷ xs)) + (if eqb q p then 1 else 0)
      go true e ih = rw (keep-yes (eqb q) x (xs ++ (p ∷ [])) e, keep-yes (eqb q) x xs e) (omega arith)
      go false e ih = rw (keep-no (eqb q) x (xs ++ (p ∷ [])) e, keep-no (eqb q) x xs e) ih

  -- whether there is one
  pub queued-not : (qs : List ℕ) → queued qs q ≡ 0 → member q qs ≡ false
  unfolding queued member any
  queued-not [] e = refl
  queued-not (x ∷ xs) e = go (eqb q x) refl (queued-not xs)
    where
      go : (t : Bool) → eqb q x ≡ t → (length (keep (eqb q) xs) ≡ 0 → any (eqb q) xs ≡ false) → any (eqb q) (x ∷ xs) ≡ false
      go true k ih = absurd (omega (arith, e, ap length (keep-yes (eqb q) x xs k)))
      go false k ih = rw k (ih (omega (arith, e, ap length (keep-no (eqb q) x xs k))))

  pub queued-some : (qs : List ℕ) → 1 ≤ queued qs q → member q qs ≡ true
  unfolding queued member any
  queued-some [] l = absurd (unfold keep in (omega (arith, l)))
  queued-some (x ∷ xs) l = go (eqb q x) refl (queued-some xs)
    where
      go : (t : Bool) → eqb q x ≡ t → (1 ≤ length (keep (eqb q) xs) → any (eqb q) xs ≡ true) → any (eqb q) (x ∷ xs) ≡ true
      go true k ih = rw k
      go false k ih = rw k (ih (omega (arith, l, ap length (keep-no (eqb q) x xs k))))

  -- the first j jobs for q leave
  pub leave_none : (j : ℕ) → leave_queue q j [] ≡ []
  unfolding leave_queue
  leave_none = without-first-none (eqb q)

  pub leave_own : (j p : ℕ) (qs : List ℕ) → eqb q p ≡ true → leave_queue q (suc j) (p ∷ qs) ≡ leave_queue q j qs
  unfolding leave_queue
  leave_own = without-first-yes (eqb q)

  pub leave-other : (j p : ℕ) (qs : List ℕ) → eqb q p ≡ false → leave_queue q j (p ∷ qs) ≡ p ∷ leave_queue q j qs
  unfolding leave_queue
  leave-other = without-first-no (eqb q)

  pub leave-done : (qs : List ℕ) → leave_queue q 0 qs ≡ qs
  unfolding leave_queue without_first
  leave-done qs = refl
