-- The bounds of a call's draws are positive and of at most 16 bits, so that some word settles each draw.
use Rattle.std.specs.Prelude.{◌≡◌, refl, true, not, List, [], ◌∷◌, ℕ, zero, suc, ◌+◌, ◌≤◌, ◌<◌, length, replicate, leb}
use Rattle.std.proofs.Common.{◌∙◌, arith, pow_mono, leb-true}
use Rattle.std.proofs.lemmas.List.{length-replicate}
use Rattle.lists.specs.Search.{is_none, all}
use Rattle.lists.specs.Members.{all-mem, member-mem}
use Rattle.lists.specs.All.{all_yes, All, nil, cons, all_map, all_replicate, all_append}
use Rattle.lists.specs.Tests.{every-yes, between, and_r}
use Rattle.rules.proofs.Laws.Levels.{partitions-pos}
use Rattle.rules.specs.Laws.Decided.{StepIn}
use Rattle.rules.proofs.Laws.Decided.{decide-in}
use Rattle.rules.proofs.Laws.Draws.{enough, limit-pos}
use Rattle.rules.specs.Laws.Range.{InRange}
use Rattle.rules.specs.Shape.{Shape, within, slots}
use Rattle.rules.specs.State.{State}
use Rattle.rules.specs.Draws.{draws, order_bounds}
use Rattle.rules.specs.Turn.{step_bounds, decide, Step, idle, no_dummy, read_for_request, read_for_job, rebuild, write_next}
use Rattle.rules.specs.Jobs.{orders_bounds}

abbrev pub Few : ℕ → Type 0
Few m = (0 < m) × (m ≤ 65536)

pub partitions-few : (h : Shape) → within h ≡ true → Few h.P
unfolding within all
partitions-few h e = (partitions-pos h e, leb-true h.P 65536 (all-mem (all_yes (λ p. leb p 65536) sizes refl) h.P (member-mem h.P sizes (every-yes _ e).1.0)))
  where
    sizes : List ℕ
    sizes = 1 ∷ 2 ∷ 4 ∷ 8 ∷ 16 ∷ 32 ∷ 64 ∷ []

levels-few : (h : Shape) → within h ≡ true → (t : ℕ) → t < h.L → slots t ≤ 65536
unfolding within between
levels-few h w t k = pow_mono {i = t + 1} {j = 16} (omega (arith, leb-true h.L 8 (and_r (leb 1 h.L) (leb h.L 8) (every-yes _ w).1.1.0)))

orders-few : (n : ℕ) → n ≤ 65536 → All Few (order_bounds n)
unfolding order_bounds
orders-few zero l = nil
orders-few (suc zero) l = nil
orders-few (suc (suc i)) l = let here : Few (suc (suc i)) = (omega arith, l) in cons here (orders-few (suc i) (omega arith))

-- of several levels
levels-orders : (h : Shape) → within h ≡ true → (ls : List ℕ) → All (λ ℓ. ℓ < h.L) ls → All Few (orders_bounds ls)
unfolding orders_bounds
levels-orders h w [] nil = nil
levels-orders h w (ℓ ∷ ls) (cons k ks) = all_append (orders-few (slots ℓ) (levels-few h w ℓ k)) (levels-orders h w ls ks)

pub step-few : (s : State) → within s.shape ≡ true → (x : Step) → StepIn s x → All Few (step_bounds x)
unfolding step_bounds
step-few s w idle k = nil
step-few s w no_dummy k = nil
step-few s w (read_for_request q ℓ i) k = nil
step-few s w (read_for_job q ℓ i) k = nil
step-few s w (rebuild q ls) k = levels-orders s.shape w ls k.1
step-few s w (write_next q t i) k = nil

pub turn-few : (s : State) → InRange s → All Few (step_bounds (decide s))
turn-few s f = step-few s f.shape (decide s) (decide-in s f)

-- the word 0 settles each of such draws
pub enough-zeros : (ms : List ℕ) → All Few ms → (w : ℕ) → not (is_none (draws ms (replicate w 0))) ≡ leb (length ms) w
enough-zeros ms f w = enough 1 ms (replicate w 0) (all_map (λ m k. limit-pos m k.0 k.1) f) (all_replicate (λ i. i < 1) w 0 (omega arith)) ∙ simp length-replicate
