-- Which levels are live: the filled ones, where a run whose orders are drawn counts as done.
use Rattle.std.specs.Prelude.{◌≡◌, Bool, ◌&&◌, List, [], ◌∷◌, ℕ, ◌≤◌, eqb, leb, if◌then◌else◌}
use Rattle.std.proofs.Math.Path.{refl}
use Rattle.std.proofs.Common.{ap, sym, ◌∙◌, subst, true≢false, inl, arith}
use Rattle.std.proofs.Math.Bool.{true, false, not}
use borrow.Author.Tests.{eqb-true, eq-eqb, ne_eqb, leb-true, le-leb}
use Rattle.lists.specs.Distinct.{Mem}
use Rattle.lists.specs.Tests.{and_l, and_r, and-true}
use Rattle.rules.specs.Jobs.{queued, begun_with, joined, top_of}
use Rattle.rules.specs.Levels.{filled, joins, grown}
use Rattle.rules.proofs.Laws.Levels.{joins-all, begun-some}
use Rattle.rules.specs.Request.{is_front, undrawn_only, is_source}
use Rattle.rules.specs.State.{State}
use Rattle.reachable.specs.Live.{Alone, Gathers, Running, counted, drawn}

-- .. by the rules' tests
pub alone-only : (s : State) (q : ℕ) → Alone s q → undrawn_only s q ≡ true
unfolding undrawn_only
alone-only s q a = and-true a.0 (and-true (le-leb (queued s.queue q) (begun_with s.begun 1) a.1) (eq-eqb s.sent 0 a.2))

pub only-alone : (s : State) (q : ℕ) → undrawn_only s q ≡ true → Alone s q
unfolding undrawn_only
only-alone s q e =
    let t = and_r (is_front s.queue q) (leb (queued s.queue q) (begun_with s.begun 1) && eqb s.sent 0) e in (
      and_l (is_front s.queue q) (leb (queued s.queue q) (begun_with s.begun 1) && eqb s.sent 0) e,
      leb-true (queued s.queue q) (begun_with s.begun 1) (and_l (leb (queued s.queue q) (begun_with s.begun 1)) (eqb s.sent 0) t),
      eqb-true s.sent 0 (and_r (leb (queued s.queue q) (begun_with s.begun 1)) (eqb s.sent 0) t),
    )

-- of two front jobs each is the other
pub front-eq : (p q : ℕ) (qs rest : List ℕ) → qs ≡ q ∷ rest → is_front qs p ≡ true → p ≡ q
unfolding is_front
front-eq p q qs rest e k = sym (eqb-true q p (rw e at k))

-- ..so that it runs for as many as it began with
pub joined-begun : (s : State) → Running s → (q : ℕ) → is_front s.queue q ≡ true → (s.begun ≡ 0 → ⊥) → joined s q ≡ s.begun
unfolding joined
joined-begun s f q a n =
    let x = f n in
    let e : x.0 ≡ q = sym (front-eq q x.0 s.queue x.1 x.2.0 a) in
    let l : s.begun ≤ joins s.shape (s.counter q) (queued s.queue q) = subst (λ p. s.begun ≤ joins s.shape (s.counter p) (queued s.queue p)) e x.2.1 in
    ap (joins s.shape (s.counter q)) (begun-some s.begun (queued s.queue q) (omega (arith, n))) ∙ joins-all s.shape (s.counter q) s.begun _ (omega (arith, n)) l

-- the rules' test for a source: of the front job, begun or not
pub source_is : (s : State) (q ℓ : ℕ) → is_front s.queue q ≡ true → ℓ ≤ top_of s q → filled (s.counter q) ℓ ≡ true → is_source s q ℓ ≡ true
unfolding is_source
source_is s q ℓ a l k = and-true a (and-true (le-leb ℓ (top_of s q) l) k)

pub source-why : (s : State) (q ℓ : ℕ) → is_source s q ℓ ≡ true → (is_front s.queue q ≡ true) × (ℓ ≤ top_of s q) × (filled (s.counter q) ℓ ≡ true)
unfolding is_source
source-why s q ℓ e =
    let t = and_r (is_front s.queue q) (leb ℓ (top_of s q) && filled (s.counter q) ℓ) e in (
      and_l (is_front s.queue q) (leb ℓ (top_of s q) && filled (s.counter q) ℓ) e,
      leb-true ℓ (top_of s q) (and_l (leb ℓ (top_of s q)) (filled (s.counter q) ℓ) t),
      and_r (leb ℓ (top_of s q)) (filled (s.counter q) ℓ) t,
    )

pub source-none : (s : State) (q ℓ : ℕ) → is_front s.queue q ≡ false → is_source s q ℓ ≡ false
unfolding is_source
source-none s q ℓ e = rw e

pub gathers-source : (s : State) → Running s → (q ℓ : ℕ) → Gathers s q ℓ → is_source s q ℓ ≡ true
gathers-source s f q ℓ g = source_is s q ℓ g.0 (unfold top_of in (rw (joined-begun s f q g.0 g.2.0) g.2.1)) g.2.2

pub source-gathers : (s : State) → Running s → (q ℓ : ℕ) → (is_front s.queue q ≡ true → s.sent ≡ 0) → (s.begun ≡ 0 → ⊥) → is_source s q ℓ ≡ true → Gathers s q ℓ
source-gathers s f q ℓ calm n k = let w = source-why s q ℓ k in (w.0, calm w.0, (n, unfold top_of in (rw (joined-begun s f q w.0 n) at w.1), w.2))

-- How `counted` computes
module _ (s : State) (q : ℕ) where
  pub counted-calm : s.sent ≡ 0 → counted s q ≡ s.counter q
  unfolding counted drawn
  counted-calm e = go (is_front s.queue q)
    where
      go : (t : Bool) → (if t && not (eqb s.sent 0) then grown s.shape (s.counter q) s.begun else s.counter q) ≡ s.counter q
      go true = rw (eq-eqb s.sent 0 e)
      go false = refl

  pub counted-other : is_front s.queue q ≡ false → counted s q ≡ s.counter q
  unfolding counted drawn
  counted-other e = rw e

  pub counted-drawn : is_front s.queue q ≡ true → (s.sent ≡ 0 → ⊥) → counted s q ≡ grown s.shape (s.counter q) s.begun
  unfolding counted drawn
  counted-drawn e n = rw (e, ne_eqb s.sent 0 n)

pub front-is : (q : ℕ) (qs : List ℕ) → is_front (q ∷ qs) q ≡ true
unfolding is_front
front-is q qs = eq-eqb q q refl

pub front-mem : (qs : List ℕ) (q : ℕ) → is_front qs q ≡ true → Mem q qs
unfolding is_front
front-mem [] q e = absurd (true≢false (sym e))
front-mem (p ∷ qs) q e = inl (sym (eqb-true p q e))

pub front_rest : (qs : List ℕ) (q : ℕ) → is_front qs q ≡ true → (rest : List ℕ) × (qs ≡ q ∷ rest)
unfolding is_front
front_rest [] q e = absurd (true≢false (sym e))
front_rest (p ∷ qs) q e = (qs, ap (λ x. x ∷ qs) (eqb-true p q e))

pub not-front : (qs : List ℕ) (q : ℕ) → ¬ Mem q qs → is_front qs q ≡ false
not-front qs q n = go (is_front qs q) refl
  where
    go : (t : Bool) → is_front qs q ≡ t → is_front qs q ≡ false
    go true e = absurd (n (front-mem qs q e))
    go false e = e
