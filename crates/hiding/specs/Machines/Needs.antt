-- What the stages need of every state that calls left, where E is N. `Reached` has it from the crate `reachable`.
use Rattle.std.specs.Prelude.{◌≡◌, true, ◌||◌, List, ℕ, suc, ◌<◌, ◌≤◌, length, replicate, ltb}
use Rattle.std.proofs.Math.Option.{some}
use Rattle.rules.specs.Laws.Form.Saveable.{over}
use Rattle.rules.specs.Form.Loading.{loads, loaded_form}
use Rattle.rules.specs.Form.Sums.{summed}
use Rattle.rules.specs.Form.Longest.{longest}
use Rattle.rules.specs.Form.Payload.{saved_form}
use Rattle.lists.specs.Search.{member}
use Rattle.rules.specs.Draws.{Drew}
use Rattle.rules.specs.Rebuild.{gathered, chosen}
use Rattle.rules.specs.Run.{act}
use Rattle.rules.specs.State.{stored, Request, State}
use Rattle.rules.specs.Shape.{Shape, within, slots, cell}
use Rattle.rules.specs.Open.{fresh}
use Rattle.rules.specs.Collect.{finished}
use Rattle.rules.specs.Turn.{read_for_request, rebuild, decide}
use Rattle.rules.specs.Jobs.{top_of}
use Rattle.rules.specs.Laws.Reader.{slot_in}
use Rattle.rules.specs.Questions.{bounds, possible, at_rest}
use Rattle.rules.specs.Ranges.{in_range}
use Rattle.hiding.specs.Machines.Middle.{chosen_m, gathered_m}
use Rattle.hiding.specs.Machines.Public.{Later, ask}
use Rattle.hiding.specs.Machines.Rules.{number_r, slots_in}

pub record Reachable (h : Shape) : Type 1 where
  pub Holds : State → Type 0
  pub start : (js : List ℕ) → within h ≡ true → Drew (replicate h.N h.P) js → Holds (fresh h js)
  pub kept : (s : State) (l : Later) (m w n : ℕ) (js : List ℕ) → Holds s → number_r s l m w n ≡ 0 → Drew (bounds s (ask s l)) js → Holds (act s (ask s l) js)
  pub shape : (s : State) → Holds s → s.shape ≡ h
  pub range : (s : State) → Holds s → in_range s ≡ true
  -- a state at rest is brought back by its form, with its unread slots in their order
  pub fits : (s : State) → Holds s → length (saved_form s) ≤ longest s.shape
  pub loadable : (s : State) → Holds s → at_rest s ≡ true → (summed (saved_form s) ≡ true) × (loads (saved_form s) ≡ true)
  pub reloads : (s : State) → Holds s → at_rest s ≡ true
      → (y : ℕ → List ℕ) × (o : ℕ → ℕ) × ((loaded_form (saved_form s) ≡ over y o s) × (slots_in s.shape s.mark o ≡ slots_in s.shape s.mark s.order))
  -- no step lacks a dummy or gathers too much
  pub able : (s : State) → Holds s → possible s (decide s) ≡ true
  -- the cache has room for every block
  pub room : (s : State) (b : ℕ) → Holds s → b < h.N → (ltb (length s.waiting) h.E || member b s.waiting) ≡ true
  -- a rebuild that is decided on gathers by slots what there is by places, and the levels up to t have no unread slot
  pub gathers : (s : State) (q : ℕ) (ls : List ℕ) → Holds s → decide s ≡ rebuild q ls → (gathered s q ≡ gathered_m s q) × (chosen s q ≡ chosen_m s q)
  pub spent : (s : State) (q : ℕ) (ls : List ℕ) (ℓ i : ℕ) → Holds s → decide s ≡ rebuild q ls → ℓ < suc (top_of s q) → i < slots ℓ → ¬ (s.mark (cell s.shape q ℓ i) ≡ 1)
  -- what a request is about to read is unread
  pub unread : (s : State) (q ℓ x : ℕ) → Holds s → decide s ≡ read_for_request q ℓ x → s.mark (cell s.shape q ℓ x) ≡ 1
  -- the block of a request that is about to read level ℓ: its own slot there is its place, and holds it ..
  pub own : (s : State) (r : Request) (q ℓ x : ℕ) → Holds s → decide s ≡ read_for_request q ℓ x → s.request ≡ some r →
      slot_in ℓ (s.place r.block) ≡ some x → (s.place r.block ≡ stored ℓ x) × (s.holds (cell s.shape q ℓ x) ≡ suc r.block)
  -- .. and an unread slot there that holds it is its place
  pub owned : (s : State) (r : Request) (q ℓ x i : ℕ) → Holds s → decide s ≡ read_for_request q ℓ x → s.request ≡ some r →
      i < slots ℓ → s.mark (cell s.shape q ℓ i) ≡ 1 → s.holds (cell s.shape q ℓ i) ≡ suc r.block → s.place r.block ≡ stored ℓ i
  -- when a request is finished its block's slot has been read
  pub left : (s : State) (r : Request) (ℓ i : ℕ) → Holds s → s.request ≡ some r → finished s r ≡ true →
      s.place r.block ≡ stored ℓ i → ¬ (s.mark (cell s.shape (s.partition r.block) ℓ i) ≡ 1)
