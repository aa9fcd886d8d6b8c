-- The queue in its table.
use Rattle.std.specs.Prelude.{◌≡◌, refl, List, ℕ, ◌+◌, ◌≤◌, eqb, if◌then◌else◌}
use Rattle.std.proofs.Common.{ap, sym, ◌∙◌, arith, eq-eqb, ne_eqb}
use Rattle.std.proofs.Math.Decide.{ℕ_discrete}
use mir.Val.{bool_byte}
use Rattle.rules.specs.Setters.{set_queue}
use Rattle.rules.specs.Jobs.{queued}
use Rattle.rules.proofs.Laws.Levels.{queued-le}
use Rattle.rules.proofs.Laws.Queue.{queued-none, queued-more}
use Rattle.memory.specs.declared.Shape.{Shape}
use Rattle.memory.specs.Tables.{tables_of, with_queue}
use Rattle.memory.specs.Fits.{shape_of}
use Rattle.client.specs.declared.Client.{Client}
use Rattle.client.specs.View.{rows, view, state_of}
use Rattle.client.specs.Rows.{rows_none, rows_snoc, length-rows}
use Rattle.client.specs.Changes.{fitted}
use Rattle.client.specs.Moves.{with_jobs, Stands, stands}

abbrev pub jobs_in : Shape → List ℕ → ℕ → ℕ
jobs_in h m = fitted h.p (tables_of (shape_of h) m).queue

pub queue-is : (c : Client) (m : List ℕ) → (state_of c m).queue ≡ rows (jobs_in c.shape m) c.jobs
unfolding state_of view
queue-is c m = refl

-- only the queue's table is changed, to f
pub queue-stands : (c : Client) (m₀ m : List ℕ) (f : ℕ → ℕ) (n : ℕ) (qs : List ℕ) → tables_of (shape_of c.shape) m ≡ with_queue f (tables_of (shape_of c.shape) m₀) → rows (fitted c.shape.p f) n ≡ qs
    → Stands (with_jobs n c) m₀ m (set_queue qs (state_of c m₀))
unfolding state_of view tables_of
queue-stands c m₀ m f n qs e l = stands (with_jobs n c) m₀ m (with_queue f (tables_of (shape_of c.shape) m₀)) _ e refl (ap (λ r. set_queue r (view c (tables_of (shape_of c.shape) m₀))) l)

-- ---- How many of the first i jobs are for q
module _ (g : ℕ → ℕ) (q : ℕ) where
  pub count_none : 0 ≡ queued (rows g 0) q
  count_none = sym (ap (λ qs. queued qs q) (rows_none g) ∙ queued-none q)

  pub count-more : (i k x : ℕ) → x ≡ g i → k ≡ queued (rows g i) q → k + bool_byte (eqb x q) ≡ queued (rows g (i + 1)) q
  count-more i k x e c = rw (rows_snoc g i, queued-more q (rows g i) (g i), c, e) (go (ℕ_discrete (g i) q))
    where
      go : Dec (g i ≡ q) → queued (rows g i) q + bool_byte (eqb (g i) q) ≡ queued (rows g i) q + (if eqb q (g i) then 1 else 0)
      go (yes z) = rw (eq-eqb (g i) q z, eq-eqb q (g i) (sym z))
      go (no z) = rw (ne_eqb (g i) q z, ne_eqb q (g i) (λ w. z (sym w)))

  pub count-le : (i : ℕ) → queued (rows g i) q ≤ i
  count-le i = omega (arith, queued-le (rows g i) q, length-rows g i)
