-- The first j jobs for q leave the queue, in one pass over its table.
use Rattle.std.specs.Prelude.{◌≡◌, refl, Bool, true, false, ◌&&◌, List, [], ◌∷◌, ◌++◌, ℕ, suc, ◌+◌, ◌-◌, ◌≤◌, ◌<◌, length, drop, eqb, ltb, if◌then◌else◌}
use Rattle.std.proofs.Common.{ap, sym, ◌∙◌, append-nil, append_assoc, arith, add-one, drop-cons, eq-eqb, ne_eqb, lt-ltb, le-ltb}
use Rattle.std.proofs.Math.Decide.{ℕ_discrete, dec_lt}
use Rattle.std.proofs.Math.Seq.{drop-length}
use Rattle.lists.specs.Tables.{put, put_other}
use Rattle.rules.specs.Jobs.{leave_queue}
use Rattle.rules.specs.Setters.{set_queue}
use Rattle.rules.proofs.Laws.Queue.{leave_none, leave_own, leave-other, leave-done}
use Rattle.memory.specs.declared.Shape.{Shape}
use Rattle.memory.specs.Tables.{tables_of, with_queue}
use Rattle.memory.specs.Fits.{shape_of, fit, fit-lt}
use Rattle.client.specs.declared.Client.{Client}
use Rattle.client.specs.View.{rows, state_of}
use Rattle.client.specs.Rows.{rows_none, length-rows, get_d_rows}
use Rattle.client.specs.Changes.{fitted, fit-push}
use Rattle.client.specs.Moves.{with_jobs, Stands}
use Rattle.jobs.specs.Queue.{jobs_in, queue-is, queue-stands}

-- job i leaves: it is for q, and of those before it fewer than j have left, all but k
abbrev pub leaves : Shape → List ℕ → ℕ → ℕ → ℕ → ℕ → Bool
leaves h m k i q j = eqb (jobs_in h m i) q && ltb (i - k) j

-- ..or it joins the first k: r are first then
pub record Stays (h : Shape) (m m' : List ℕ) (k i q j r : ℕ) : Type 0 where
  pub count : r ≡ (if leaves h m k i q j then k else k + 1)
  pub tables : tables_of (shape_of h) m' ≡ (if leaves h m k i q j then tables_of (shape_of h) m else with_queue (put k (jobs_in h m i) (tables_of (shape_of h) m).queue) (tables_of (shape_of h) m))

-- ---- After i of n jobs, k of which stay
pub record Leaving (h : Shape) (n q j : ℕ) (m₀ m : List ℕ) (k i : ℕ) : Type 0 where
  pub jobs : ℕ → ℕ
  pub tables : tables_of (shape_of h) m ≡ with_queue jobs (tables_of (shape_of h) m₀)
  pub le : k ≤ i
  pub few : i - k ≤ j
  pub left : rows (fitted h.p jobs) k ++ leave_queue q (j - (i - k)) (drop i (rows (jobs_in h m₀) n)) ≡ leave_queue q j (rows (jobs_in h m₀) n)
  pub rest : (x : ℕ) → i ≤ x → fit h.p (jobs x) ≡ jobs_in h m₀ x

pub leaving-none : (h : Shape) (n q j : ℕ) (m : List ℕ) → Leaving h n q j m m 0 0
leaving-none h n q j m = record {
  jobs = (tables_of (shape_of h) m).queue;
  tables = refl;
  le = omega arith;
  few = omega arith;
  left = let z : j - (0 - 0) ≡ j = omega arith in rw (z, rows_none (jobs_in h m));
  rest = λ x l. refl;
}

module _ (h : Shape) (n q j : ℕ) (m₀ m m' : List ℕ) (k i r : ℕ) (some : 1 ≤ h.p) (l : i < n) (a : Stays h m m' k i q j r) (s : Leaving h n q j m₀ m k i) where
  abbrev jobs₀ : List ℕ
  jobs₀ = rows (jobs_in h m₀) n

  abbrev p : ℕ
  p = jobs_in h m₀ i

  same : jobs_in h m i ≡ p
  same = ap (λ x. fit h.p (x.queue i)) s.tables ∙ s.rest i (omega arith)

  next : drop i jobs₀ ≡ p ∷ drop (i + 1) jobs₀
  next = drop-cons jobs₀ i 0 (omega (arith, length-rows (jobs_in h m₀) n)) ∙ ap (λ x. x ∷ drop (suc i) jobs₀) (get_d_rows (jobs_in h m₀) n i 0 l) ∙ ap (λ x. p ∷ drop x jobs₀) (sym (add-one i))

  -- it leaves
  gone : eqb q p ≡ true → i - k < j → r ≡ k → tables_of (shape_of h) m' ≡ tables_of (shape_of h) m → Leaving h n q j m₀ m' r (i + 1)
  gone e u c t = rw c (record {
    jobs = s.jobs;
    tables = t ∙ s.tables;
    le = omega (arith, s.le);
    few = omega (arith, s.le);
    left = let z : j - (i - k) ≡ suc (j - (i + 1 - k)) = omega (arith, s.le) in ap (λ xs. rows (fitted h.p s.jobs) k ++ xs) (sym (rw (z, next) (leave_own q (j - (i + 1 - k)) p (drop (i + 1) jobs₀) e))) ∙ s.left;
    rest = λ x v. s.rest x (omega arith);
  })

  -- it stays
  kept : leave_queue q (j - (i - k)) (p ∷ drop (i + 1) jobs₀) ≡ p ∷ leave_queue q (j - (i - k)) (drop (i + 1) jobs₀) → r ≡ k + 1
      → tables_of (shape_of h) m' ≡ with_queue (put k (jobs_in h m i) (tables_of (shape_of h) m).queue) (tables_of (shape_of h) m) → Leaving h n q j m₀ m' r (i + 1)
  kept e c t = rw c (record {
    jobs = put k p s.jobs;
    tables = t ∙ ap (λ x. with_queue (put k x (tables_of (shape_of h) m).queue) (tables_of (shape_of h) m)) same ∙ ap (λ x. with_queue (put k p x.queue) x) s.tables;
    le = omega (arith, s.le);
    few = omega (arith, s.few);
    left = let z : i + 1 - (k + 1) ≡ i - k = omega (arith, s.le) in
        rw (z, fit-push h.p some s.jobs k p (fit-lt h.p _ some)) (append_assoc (rows (fitted h.p s.jobs) k) (p ∷ []) _ ∙ ap (λ xs. rows (fitted h.p s.jobs) k ++ xs) (sym (ap (leave_queue q (j - (i - k))) next ∙ e)) ∙ s.left);
    rest = λ x v. ap (fit h.p) (put_other k p s.jobs x (λ e. omega (arith, s.le))) ∙ s.rest x (omega arith);
  })

  pub leaving-more : Leaving h n q j m₀ m' r (i + 1)
  leaving-more = go (ℕ_discrete p q) (dec_lt (i - k) j)
    where
      test : (t : Bool) → leaves h m k i q j ≡ t → (r ≡ (if t then k else k + 1)) × (tables_of (shape_of h) m' ≡ (if t then tables_of (shape_of h) m else with_queue (put k (jobs_in h m i) (tables_of (shape_of h) m).queue) (tables_of (shape_of h) m)))
      test t e = (rw e at a.count, rw e at a.tables)

      go : Dec (p ≡ q) → Dec (i - k < j) → Leaving h n q j m₀ m' r (i + 1)
      go (yes e) (yes u) = let f = test true (rw (same, eq-eqb p q e, lt-ltb (i - k) j u)) in gone (eq-eqb q p (sym e)) u f.0 f.1
      go (yes e) (no u) =
          let f = test false (rw (same, eq-eqb p q e, le-ltb (i - k) j (omega arith))) in
          let z : j - (i - k) ≡ 0 = omega arith in
          kept (rw z (leave-done q (p ∷ drop (i + 1) jobs₀) ∙ ap (λ xs. p ∷ xs) (sym (leave-done q (drop (i + 1) jobs₀))))) f.0 f.1
      go (no e) d = let f = test false (rw (same, ne_eqb p q e)) in kept (leave-other q (j - (i - k)) p (drop (i + 1) jobs₀) (ne_eqb q p (λ k. e (sym k)))) f.0 f.1

-- after all of them
module _ (c : Client) (q j : ℕ) (m₀ m : List ℕ) (k i : ℕ) (e : i ≡ c.jobs) (s : Leaving c.shape c.jobs q j m₀ m k i) where
  abbrev left : List ℕ
  left = leave_queue q j (state_of c m₀).queue

  staying : rows (fitted c.shape.p s.jobs) k ≡ left
  staying =
      let all = rows (jobs_in c.shape m₀) c.jobs in
      let z : drop i all ≡ [] = ap (λ x. drop x all) (e ∙ sym (length-rows (jobs_in c.shape m₀) c.jobs)) ∙ drop-length all in
      sym (append-nil (rows (fitted c.shape.p s.jobs) k)) ∙ ap (λ xs. rows (fitted c.shape.p s.jobs) k ++ xs) (sym (ap (leave_queue q (j - (i - k))) z ∙ leave_none q (j - (i - k)))) ∙ s.left ∙ ap (leave_queue q j) (sym (queue-is c m₀))

  pub stay-count : k ≡ length left
  stay-count = sym (length-rows _ k) ∙ ap length staying

  pub left-stands : Stands (with_jobs k c) m₀ m (set_queue left (state_of c m₀))
  left-stands = queue-stands c m₀ m s.jobs k left s.tables staying
