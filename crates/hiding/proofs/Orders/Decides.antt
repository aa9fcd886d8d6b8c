-- In a state that calls left, what a turn reads is unread, and what it writes is a level of the shape.
use Rattle.std.specs.Prelude.{◌≡◌, ℕ, ◌<◌}
use Rattle.std.proofs.Math.Path.{refl}
use Rattle.std.proofs.Common.{eqb-true}
use Rattle.lists.specs.All.{All}
use Rattle.lists.specs.Members.{below-mem}
use Rattle.lists.specs.Search.{below}
use Rattle.lists.specs.Distinct.{Mem}
use Rattle.rules.specs.Laws.Decided.{StepIn}
use Rattle.rules.proofs.Laws.Decided.{decide-in}
use Rattle.rules.specs.State.{State}
use Rattle.rules.specs.Turn.{Step, idle, no_dummy, read_for_request, read_for_job, rebuild, write_next, decide}
use Rattle.rules.proofs.Laws.Range.{range-facts}
use Rattle.rules.specs.Blocks
use Rattle.rules.specs.Shape.{Shape, slots, cell}
use Rattle.reachable.proofs.Decided.{Decided, decided}
use Rattle.hiding.specs.Machines.Public.{unread_in}
use Rattle.hiding.specs.Machines.Needs.{Reachable}
use Rattle.hiding.proofs.Orders.Unread.{mem-open}

abbrev pub OpenStep : Shape → (ℕ → ℕ) → Step → Type 0
OpenStep h mark idle = Unit {0}
OpenStep h mark no_dummy = Unit {0}
OpenStep h mark (read_for_request q ℓ x) = Mem x (unread_in h mark (q, ℓ))
OpenStep h mark (read_for_job q ℓ x) = Mem x (unread_in h mark (q, ℓ))
OpenStep h mark (rebuild q ls) = (q < h.P) × All (λ ℓ. ℓ < h.L) ls
OpenStep h mark (write_next q t x) = Unit {0}

module _ (h : Shape) (reach : Reachable h) (s : State) (k : reach.Holds s) where
  pub decide-open : OpenStep s.shape s.mark (decide s)
  unfolding Blocks.is_unread
  decide-open = go (decide s) refl (decide-in s (range-facts s (reach.range s k))) (decided s)
    where
      opened : (q ℓ x : ℕ) → (q < s.shape.P) × (ℓ < s.shape.L) × (x < slots ℓ) → s.mark (cell s.shape q ℓ x) ≡ 1 → Mem x (unread_in s.shape s.mark (q, ℓ))
      opened q ℓ x b e = mem-open s.shape s.mark (λ k. below (slots k.1)) q ℓ x b.0 b.1 (below-mem (slots ℓ) x b.2) e

      go : (x : Step) → decide s ≡ x → StepIn s x → Decided s x → OpenStep s.shape s.mark x
      go idle e b d = tt
      go no_dummy e b d = tt
      go (read_for_request q ℓ x) e b d = opened q ℓ x b (reach.unread s q ℓ x k e)
      go (read_for_job q ℓ x) e b d = opened q ℓ x (b.0, b.1, b.2) (eqb-true _ _ d.unread)
      go (rebuild q ls) e b d = (b.0, b.1)
      go (write_next q t x) e b d = tt
