-- The figures of a page in states that calls left: those that wait are the list of waiting blocks, and a begun job is queued.
use Rattle.std.specs.Prelude.{◌≡◌, refl, ◌⊎◌, Bool, true, false, ◌&&◌, List, ◌∷◌, ℕ, ◌≤◌, length, if◌then◌else◌}
use Rattle.std.proofs.Common.{inl, inr}
use Rattle.std.proofs.Math.Option.{none, some}
use native.Mathlib.Omega.{arith}
use Rattle.lists.specs.Tests.{and_r}
use Rattle.lists.specs.All.{keep-passes}
use Rattle.lists.specs.Members.{member-mem, mem-member, all-mem, mem-keep, below-mem, nodup-keep, nodup-below, nodup-sub}
use Rattle.lists.specs.Search.{keep, below, member}
use Rattle.rules.specs.Blocks.{is_nowhere}
use Rattle.rules.specs.Figures.{waiting_blocks, jobs_for}
use Rattle.rules.proofs.Laws.Figures.{front-counts}
use Rattle.rules.specs.Jobs.{joined}
use Rattle.rules.proofs.Laws.Rebuilt.{front-joins}
use Rattle.rules.specs.Laws.Range.{InRange}
use Rattle.rules.specs.Rebuild.{do_rebuild}
use Rattle.rules.specs.Request.{is_source}
use Rattle.rules.specs.State.{State}
use Rattle.rules.specs.Turn.{Step, idle, no_dummy, read_for_request, read_for_job, rebuild, write_next, decide, mark_read, send, do_step}
use Rattle.reachable.proofs.Decided.{Decided, decided}
use Rattle.reachable.specs.Invariant.{Reached}
use Rattle.reachable.proofs.Live.{front_rest, source-why}
use Rattle.reachable.specs.Counts.{job_of}

module _ (s : State) (f : Reached s) where
  -- a block of the list waits: it is in no slot
  waits : (b : ℕ) → member b s.waiting ≡ true → (is_nowhere (s.place b) && member b s.waiting) ≡ true
  waits b m = rw (f.waiting.absent b (member-mem b s.waiting m), m) (unfold is_nowhere in refl)

  -- the blocks that wait are those of the list, each once
  pub waiting-all : length (waiting_blocks s) ≡ length s.waiting
  unfolding waiting_blocks
  waiting-all = omega (
    arith,
    nodup-sub (keep (λ b. is_nowhere (s.place b) && member b s.waiting) (below s.shape.N)) s.waiting (nodup-keep _ (below s.shape.N) (nodup-below s.shape.N))
        (λ b m. member-mem b s.waiting (and_r (is_nowhere (s.place b)) (member b s.waiting) (all-mem (keep-passes (λ b. is_nowhere (s.place b) && member b s.waiting) (below s.shape.N)) b m))),
    nodup-sub s.waiting (keep (λ b. is_nowhere (s.place b) && member b s.waiting) (below s.shape.N)) f.waiting.once
        (λ b m. mem-keep _ (below s.shape.N) b (below-mem s.shape.N b (all-mem f.range.waiting b m)) (waits b (mem-member b s.waiting m))),
  )

  -- a job that has begun is the front of the queue
  pub begun-front : (s.begun ≡ 0 → ⊥) → (q : ℕ) × ((rest : List ℕ) × (s.queue ≡ q ∷ rest))
  begun-front n = let x = f.running n in (x.0, (x.1, x.2.0))

-- "A job has begun once one of its commands is sent": then its number is that of the jobs of its run, at least one, and it counts for its partition. (A
-- write that is not the first is of a job that has begun)
pub sent-counts : (s : State) (q : ℕ) (js : List ℕ) → job_of s (decide s) ≡ some q
    → (1 ≤ jobs_for (do_step (decide s) js s) q) × ((s.sent ≡ 0 → ⊥) ⊎ (((do_step (decide s) js s).begun ≡ joined s q) × (InRange s → 1 ≤ joined s q)))
unfolding do_step mark_read send do_rebuild
sent-counts s q js = go (decide s) (decided s)
  where
    no : none ≡ some q → ⊥
    no e = let z : ◌≡◌ {A = ℕ} 0 1 = cc in omega arith

    same : (p : ℕ) → some p ≡ some q → p ≡ q
    same p e = cc

    some-jobs : (p : ℕ) (rest : List ℕ) → s.queue ≡ p ∷ rest → InRange s → 1 ≤ joined s p
    some-jobs p rest w range = (front-joins s range p rest w).0

    source : (p ℓ i : ℕ) (t : Bool) → is_source s p ℓ ≡ t → (if t then some p else none) ≡ some q
        → (1 ≤ jobs_for (do_step (read_for_request p ℓ i) js s) q) × ((s.sent ≡ 0 → ⊥) ⊎ (((if t then joined s p else s.begun) ≡ joined s q) × (InRange s → 1 ≤ joined s q)))
    source p ℓ i true k e =
        let w = front_rest s.queue p (source-why s p ℓ k).0 in
        rw (← same p e) (front-counts (do_step (read_for_request p ℓ i) js s) p w.0 w.1, inr (refl, some-jobs p w.0 w.1))
    source p ℓ i false k e = absurd (no e)

    go : (x : Step) → Decided s x → job_of s x ≡ some q → (1 ≤ jobs_for (do_step x js s) q) × ((s.sent ≡ 0 → ⊥) ⊎ (((do_step x js s).begun ≡ joined s q) × (InRange s → 1 ≤ joined s q)))
    go idle d e = absurd (no e)
    go no_dummy d e = absurd (no e)
    go (read_for_request p ℓ i) d e = source p ℓ i (is_source s p ℓ) refl e
    go (read_for_job p ℓ i) d e = rw (← same p e) (front-counts (do_step (read_for_job p ℓ i) js s) p d.rest d.front, inr (refl, some-jobs p d.rest d.front))
    go (rebuild p ls) d e = rw (← same p e) (front-counts (do_step (rebuild p ls) js s) p d.rest d.front, inr (refl, some-jobs p d.rest d.front))
    go (write_next p t i) d e = (rw (← same p e) (front-counts (do_step (write_next p t i) js s) p d.rest d.front), inl d.busy)
