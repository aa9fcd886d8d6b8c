-- A turn that begins the front job's run, or goes on with it: the state's number of jobs is from then on that of the run, and what the run reads and
-- writes, and which requests wait for it, stays as it was.
use Rattle.std.specs.Prelude.{◌≡◌, Bool, ◌&&◌, List, ◌∷◌, ℕ, ◌≤◌, if◌then◌else◌}
use Rattle.std.proofs.Math.Path.{refl, ap, fun_ext}
use Rattle.std.proofs.Common.{sym, ◌∙◌, subst, arith}
use Rattle.std.proofs.Math.Bool.{true, false}
use Rattle.std.proofs.Math.Dec.{leb}
use Rattle.lists.specs.Distinct.{Mem}
use Rattle.rules.specs.Jobs.{queued, begun_with, joined, top_of}
use Rattle.rules.specs.Levels.{filled, joins, top_level, written_levels}
use Rattle.rules.proofs.Laws.Levels.{joins-all, begun-some}
use Rattle.rules.specs.Request.{is_front, is_source}
use Rattle.rules.specs.Setters.{set_begun}
use Rattle.rules.specs.State.{State}
use Rattle.reachable.proofs.Consequences.{joins-front, joined-joins, joined-least, front-calm}
use Rattle.reachable.proofs.Decided.{RequestReads, JobReads}
use Rattle.reachable.specs.Invariant.{Reached, Unbegun}
use Rattle.reachable.specs.Live.{counted, undrawn, Running, Gathers, Target, Alone}
use Rattle.reachable.proofs.Live.{counted-calm, joined-begun, source-why, front-is, front-eq, front_rest}
use Rattle.reachable.proofs.Pending.{undrawn-calm}

-- the number of jobs stays, or becomes that of the front job, whose orders are not drawn
pub data Begins (s : State) (j : ℕ) : Type 0 where
  goes : j ≡ s.begun → Begins s j
  starts : (q : ℕ) (rest : List ℕ) → s.queue ≡ q ∷ rest → s.sent ≡ 0 → j ≡ joined s q → Begins s j

module _ (s : State) (j : ℕ) (f : Reached s) where
  pub joined-still : Begins s j → (p : ℕ) → is_front s.queue p ≡ true → joined (set_begun j s) p ≡ joined s p
  unfolding joined
  joined-still (goes e) p a = ap (λ b. joins s.shape (s.counter p) (begun_with b (queued s.queue p))) e
  joined-still (starts q rest w z e) p a =
      let v = front-eq p q s.queue rest w a in
      let own : j ≡ joined s p = e ∙ ap (joined s) (sym v) in
      let r = front_rest s.queue p a in
      let k = joins-front s f p r.0 r.1 in
      ap (λ b. joins s.shape (s.counter p) (begun_with b (queued s.queue p))) own
      ∙ ap (joins s.shape (s.counter p)) (begun-some (joined s p) (queued s.queue p) k.0)
      ∙ joins-all s.shape (s.counter p) (joined s p) 64 k.0 k.1

  -- its sources stay
  pub source-still : Begins s j → (p m : ℕ) → is_source (set_begun j s) p m ≡ is_source s p m
  unfolding is_source top_of
  source-still b p m = go (is_front s.queue p) refl
    where
      go : (t : Bool) → is_front s.queue p ≡ t → (t && (leb m (top_level s.shape (s.counter p) (joined (set_begun j s) p)) && filled (s.counter p) m)) ≡ (t && (leb m (top_level s.shape (s.counter p) (joined s p)) && filled (s.counter p) m))
      go true a = ap (λ n. leb m (top_level s.shape (s.counter p) n) && filled (s.counter p) m) (joined-still b p a)
      go false a = refl

  pub gathers-still : Begins s j → (p m : ℕ) → Gathers s p m → Gathers (set_begun j s) p m
  gathers-still (goes e) p m g = (g.0, g.1, ((λ z. g.2.0 (sym e ∙ z)), subst (λ n. m ≤ top_level s.shape (s.counter p) n) (sym e) g.2.1, g.2.2))
  gathers-still (starts q rest w z e) p m g =
      let same : j ≡ s.begun = e ∙ joined-begun s f.running q (rw w (front-is q rest)) g.2.0 in
      (g.0, g.1, ((λ z. g.2.0 (sym same ∙ z)), subst (λ n. m ≤ top_level s.shape (s.counter p) n) (sym same) g.2.1, g.2.2))

  pub alone-still : Begins s j → (p : ℕ) → Alone s p → Alone (set_begun j s) p
  alone-still (goes e) p a = (a.0, subst (λ n. queued s.queue p ≤ begun_with n 1) (sym e) a.1, a.2)
  alone-still (starts q rest w z e) p a =
      let l : queued s.queue p ≤ begun_with (joined s q) 1 = omega (arith, a.1, joined-least s f q rest w, begun-some (joined s q) 1 (joins-front s f q rest w).0) in
      (a.0, subst (λ n. queued s.queue p ≤ begun_with n 1) (sym e) l, a.2)

  -- which jobs are drawn stays
  pub undrawn-still : Begins s j → undrawn s.queue j s.sent ≡ undrawn s.queue s.begun s.sent
  undrawn-still (goes e) = ap (λ n. undrawn s.queue n s.sent) e
  undrawn-still (starts q rest w z e) = undrawn-calm s.queue j s.sent z ∙ sym (undrawn-calm s.queue s.begun s.sent z)

  pub counted-still : Begins s j → counted (set_begun j s) ≡ counted s
  counted-still (goes e) = ap (λ n. counted (set_begun n s)) e
  counted-still (starts q rest w z e) = fun_ext (λ p. counted-calm (set_begun j s) p z ∙ sym (counted-calm s p z))

  -- once a write is sent, or anything else of the run, its number stays
  pub busy-still : Begins s j → (s.sent ≡ 0 → ⊥) → j ≡ s.begun
  busy-still (goes e) n = e
  busy-still (starts q rest w z e) n = absurd (n z)

  pub target-still : Begins s j → (p m : ℕ) → Target (set_begun j s) p m → Target s p m
  target-still b p m z = (z.0, z.1, subst (λ n. Mem m (written_levels s.shape (s.counter p) n)) (busy-still b z.1) z.2)

  pub begun-still : Begins s j → (s.begun ≡ 0 → ⊥) → j ≡ s.begun
  begun-still (goes e) n = e
  begun-still (starts q rest w z e) n = e ∙ joined-begun s f.running q (rw w (front-is q rest)) n

  -- the run's jobs are at least one, and queued
  pub unbegun-still : Begins s j → Unbegun (set_begun j s)
  unbegun-still (goes e) k = f.unbegun (sym e ∙ k)
  unbegun-still (starts q rest w z e) k = absurd (omega (arith, sym e ∙ k, (joins-front s f q rest w).0))

  pub running-still : Begins s j → Running (set_begun j s)
  running-still (goes e) n = let x = f.running (λ k. n (e ∙ k)) in (x.0, x.1, (x.2.0, subst (λ n. n ≤ joins s.shape (s.counter x.0) (queued s.queue x.0)) (sym e) x.2.1))
  running-still (starts q rest w z e) n = (q, rest, (w, subst (λ n. n ≤ joins s.shape (s.counter q) (queued s.queue q)) (sym e) (joined-joins s f q rest w)))

-- A job's read begins its run, and so does a request's read of a source's slot
pub job-begins : (s : State) (q ℓ i : ℕ) → JobReads s q ℓ i → Begins s (joined s q)
job-begins s q ℓ i d = starts q d.rest d.front d.calm refl

pub request-begins : (s : State) → Reached s → (q ℓ i : ℕ) → RequestReads s q ℓ i → Begins s (if is_source s q ℓ then joined s q else s.begun)
request-begins s f q ℓ i d = go (is_source s q ℓ) refl
  where
    go : (t : Bool) → is_source s q ℓ ≡ t → Begins s (if t then joined s q else s.begun)
    go true u =
        let w = source-why s q ℓ u in
        let r = front_rest s.queue q w.0 in
        starts q r.0 r.1 (front-calm s f q ℓ i d w.0) refl
    go false u = goes refl
