-- Whether jobs hold a request for a block of partition q, question by question.
use Rattle.std.specs.Prelude.{◌≡◌, Bool, ◌&&◌, ◌||◌, List, ◌∷◌, ℕ, zero, suc, ◌≤◌, ◌<◌, leb}
use Rattle.std.proofs.Math.Path.{refl, ap}
use Rattle.std.proofs.Common.{◌∙◌, arith}
use Rattle.std.proofs.Math.Bool.{true, false, not}
use Rattle.std.proofs.Math.Decide.{dec_lt}
use Rattle.std.proofs.Math.Dec.{eqb}
use borrow.Author.Tests.{eq-eqb, ne_eqb, le-leb, lt-leb}
use Rattle.lists.specs.Search.{any, below}
use Rattle.lists.specs.Tests.{and-false}
use Rattle.rules.specs.State.{State}
use Rattle.rules.specs.Jobs.{queued, begun_with}
use Rattle.rules.specs.Request.{is_front, undrawn_only, worn, held_for}
use Rattle.rules.proofs.Laws.Queue.{queued-not, queued-some}

-- n jobs are no more than those that run together, or one before they begin
pub none-else : (n j : ℕ) → (leb n 1 || leb n j) ≡ leb n (begun_with j 1)
unfolding begun_with
none-else n zero = go (dec_lt 1 n)
  where
    go : Dec (1 < n) → (leb n 1 || leb n 0) ≡ leb n 1
    go (yes l) = rw (lt-leb n 1 l, lt-leb n 0 (omega arith))
    go (no l) = rw (le-leb n 1 (omega arith))
none-else n (suc j) = go (dec_lt 1 n)
  where
    go : Dec (1 < n) → (leb n 1 || leb n (suc j)) ≡ leb n (suc j)
    go (yes l) = rw (lt-leb n 1 l)
    go (no l) = rw (le-leb n 1 (omega arith), le-leb n (suc j) (omega arith))

module _ (s : State) (q : ℕ) where
  -- whether the only job for q is at the front and not drawn
  pub drawn : (s.sent ≡ 0 → ⊥) → undrawn_only s q ≡ false
  unfolding undrawn_only
  drawn n = rw (ne_eqb s.sent 0 n) (and-false (is_front s.queue q) (and-false (leb (queued s.queue q) (begun_with s.begun 1)) refl))

  module _ (p : ℕ) (rest : List ℕ) (front : s.queue ≡ p ∷ rest) where
    pub not-front : (p ≡ q → ⊥) → undrawn_only s q ≡ false
    unfolding undrawn_only is_front
    not-front n = ap (λ qs. is_front qs q && (leb (queued s.queue q) (begun_with s.begun 1) && eqb s.sent 0)) front ∙ rw (ne_eqb p q n)

    pub front-only : p ≡ q → s.sent ≡ 0 → undrawn_only s q ≡ leb (queued s.queue q) (begun_with s.begun 1)
    unfolding undrawn_only is_front
    front-only e z = ap (λ t. t && (leb (queued s.queue q) (begun_with s.begun 1) && eqb s.sent 0)) (ap (λ qs. is_front qs q) front ∙ eq-eqb p q e) ∙ rw (eq-eqb s.sent 0 z) (same (leb (queued s.queue q) (begun_with s.begun 1)))
      where
        same : (t : Bool) → (t && true) ≡ t
        same true = refl
        same false = refl

  -- whether a request for q is held, of n jobs for q
  pub unqueued : queued s.queue q ≡ 0 → held_for s q ≡ false
  unfolding held_for
  unqueued e = rw (queued-not q s.queue e)

  pub behind-jobs : 1 ≤ queued s.queue q → undrawn_only s q ≡ false → held_for s q ≡ true
  unfolding held_for
  behind-jobs l u = rw (queued-some q s.queue l, u)

  pub beside-job : 1 ≤ queued s.queue q → undrawn_only s q ≡ true → held_for s q ≡ any (worn s q) (below s.shape.L)
  unfolding held_for
  beside-job l u = rw (queued-some q s.queue l, u) (twice (any (worn s q) (below s.shape.L)))
    where
      twice : (t : Bool) → not (not t) ≡ t
      twice true = refl
      twice false = refl
