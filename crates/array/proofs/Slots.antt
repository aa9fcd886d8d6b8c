-- What a write leaves in the slots, and its bytes.
use Rattle.std.specs.Prelude.{◌≡◌, Bool, ◌&&◌, List, ℕ, ◌<◌, if◌then◌else◌}
use Rattle.std.proofs.Math.Path.{refl}
use Rattle.std.proofs.Common.{ap, sym, ◌∙◌}
use Rattle.std.proofs.Math.Bool.{true, false}
use Rattle.std.proofs.Math.Decide.{ℕ_discrete}
use Rattle.std.proofs.Math.Dec.{eqb}
use borrow.Author.Tests.{eq-eqb, ne_eqb}
use Rattle.rules.specs.Blocks
use Rattle.rules.specs.Run
use Rattle.rules.specs.State.{State, Command, cmd, write, stored}
use Rattle.reachable.proofs.Consequences.{place-holder}
use Rattle.reachable.specs.Invariant.{Reached}
use Rattle.reachable.specs.Terms.{One}
use Rattle.array.specs.Claim.{Slots, store}

-- What a command leaves in a slot
module _ (c : Command) (bs : List ℕ) (f : Slots) where
  pub store-yes : c.kind ≡ write → (p m j : ℕ) → One p m j c.partition c.level c.slot → store c bs f p m j ≡ bs
  unfolding store
  store-yes k p m j w = rw (eq-eqb c.kind write k, eq-eqb p c.partition w.0, eq-eqb m c.level w.1, eq-eqb j c.slot w.2)

  pub store-not : (p m j : ℕ) → ¬ One p m j c.partition c.level c.slot → store c bs f p m j ≡ f p m j
  unfolding store
  store-not p m j n = go (eqb c.kind write) (ℕ_discrete p c.partition) (ℕ_discrete m c.level) (ℕ_discrete j c.slot)
    where
      go : (t : Bool) → Dec (p ≡ c.partition) → Dec (m ≡ c.level) → Dec (j ≡ c.slot) → (if t && (eqb p c.partition && (eqb m c.level && eqb j c.slot)) then bs else f p m j) ≡ f p m j
      go false x y z = refl
      go true (yes x) (yes y) (yes z) = absurd (n (x, y, z))
      go true (no x) y z = rw (ne_eqb p c.partition x)
      go true (yes x) (no y) z = rw (eq-eqb p c.partition x, ne_eqb m c.level y)
      go true (yes x) (yes y) (no z) = rw (eq-eqb p c.partition x, eq-eqb m c.level y, ne_eqb j c.slot z)

  -- one that is no write leaves all as it is
  pub store-no : eqb c.kind write ≡ false → (p m j : ℕ) → store c bs f p m j ≡ f p m j
  unfolding store
  store-no e p m j = rw e

-- the bytes of a write of a block's slot are the block's
pub slot-bytes : (s : State) → Reached s → (q ℓ i b : ℕ) → b < s.shape.N → s.partition b ≡ q → s.place b ≡ stored ℓ i → Run.written s (cmd write q ℓ i) ≡ s.bytes b
unfolding Run.written Blocks.slot_bytes
slot-bytes s f q ℓ i b hb e p = ap (Blocks.slot_bytes s) (ap (λ x. Blocks.holder s x ℓ i) (sym e) ∙ place-holder s f b ℓ i hb p)
