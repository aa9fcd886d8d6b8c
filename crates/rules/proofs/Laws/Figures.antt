-- The figures of a page add up.
use Rattle.std.specs.Prelude.{◌≡◌, refl, Bool, true, false, not, ◌&&◌, List, ◌∷◌, ℕ, ◌+◌, ◌≤◌, ◌<◌}
use Rattle.std.proofs.Math.Path.{ap}
use Rattle.std.proofs.Common.{sym, ◌∙◌, arith, eq-eqb, ne_eqb}
use Rattle.std.proofs.Math.ListN.{length}
use Rattle.std.proofs.Math.Dec.{eqb}
use Rattle.std.proofs.Math.Decide.{ℕ_discrete}
use Rattle.lists.specs.All.{All, all_keep, all_map, below-below}
use Rattle.lists.specs.Lengths.{length-below, bit, keep-three, keep-classes}
use Rattle.lists.specs.Members.{mem-all, keep_same}
use Rattle.lists.specs.Search.{keep, below, member}
use Rattle.lists.specs.Totals.{total, total-same}
use Rattle.rules.specs.State.{State, Place, nowhere, stored}
use Rattle.rules.specs.Blocks.{is_nowhere}
use Rattle.rules.specs.Figures.{nowhere_blocks, stored_blocks, waiting_blocks, in_partition, jobs_for}
use Rattle.rules.specs.Jobs.{queued}
use Rattle.rules.proofs.Laws.Levels.{queued-front}
use Rattle.rules.specs.Laws.Range.{InRange}

-- The stored column of a page adds up to the last line's stored, the waiting column to its waiting, and the column of jobs to all of the queue
pub record ColumnsAdd (s : State) : Type 0 where
  pub stored : total s.shape.P (λ q. in_partition s q (stored_blocks s)) ≡ length (stored_blocks s)
  pub waiting : total s.shape.P (λ q. in_partition s q (waiting_blocks s)) ≡ length (waiting_blocks s)
  pub jobs : total s.shape.P (jobs_for s) ≡ length s.queue

-- a block has one place
one_place : (x : Place) (t : Bool) → bit (is_nowhere x && not t) + bit (not (is_nowhere x)) + bit (is_nowhere x && t) ≡ 1
unfolding bit is_nowhere
one_place nowhere true = refl
one_place nowhere false = refl
one_place (stored ℓ i) t = refl

eqb-sym : (a b : ℕ) → eqb a b ≡ eqb b a
eqb-sym a b = go (ℕ_discrete a b)
  where
    go : Dec (a ≡ b) → eqb a b ≡ eqb b a
    go (yes e) = eq-eqb a b e ∙ sym (eq-eqb b a (sym e))
    go (no e) = ne_eqb a b e ∙ sym (ne_eqb b a (λ w. e (sym w)))

module _ (s : State) where
  -- "The last line's three add up to N": in every state, since each block is counted by its place
  pub places-add : length (nowhere_blocks s) + length (stored_blocks s) + length (waiting_blocks s) ≡ s.shape.N
  unfolding nowhere_blocks stored_blocks waiting_blocks
  places-add = keep-three _ _ _ (below s.shape.N) (mem-all (below s.shape.N) (λ b m. one_place (s.place b) (member b s.waiting))) ∙ length-below s.shape.N

  -- the front job counts, begun or not
  pub front-counts : (q : ℕ) (rest : List ℕ) → s.queue ≡ q ∷ rest → 1 ≤ jobs_for s q
  unfolding jobs_for
  front-counts q rest e = rw e (queued-front q rest)

  -- the jobs for q as a class of those queued
  pub jobs-class : (q : ℕ) → jobs_for s q ≡ length (keep (λ j. eqb j q) s.queue)
  unfolding jobs_for queued
  jobs-class q = ap length (keep_same (eqb q) (λ j. eqb j q) s.queue (λ j m. eqb-sym q j))

  -- blocks of the store are in partitions below P
  blocks-in : InRange s → (p : ℕ → Bool) → All (λ b. s.partition b < s.shape.P) (keep p (below s.shape.N))
  blocks-in f p = all_keep p (all_map f.partitions (below-below s.shape.N))

  pub columns-add : InRange s → ColumnsAdd s
  unfolding in_partition stored_blocks waiting_blocks
  columns-add f = record {
    stored = keep-classes s.shape.P s.partition _ (blocks-in f _);
    waiting = keep-classes s.shape.P s.partition _ (blocks-in f _);
    jobs = total-same s.shape.P _ _ (λ q l. jobs-class q) ∙ keep-classes s.shape.P (λ j. j) s.queue f.queue;
  }
