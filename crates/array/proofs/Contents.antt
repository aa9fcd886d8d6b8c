-- Where the contents of a block are: a clause for each place it may have.
use Rattle.std.specs.Prelude.{◌≡◌, ◌⊎◌, List, ℕ}
use Rattle.std.proofs.Common.{◌∙◌, ⊎_elim}
use Rattle.rules.specs.State.{State}
use Rattle.array.specs.Claim.{Slots}
use Rattle.array.specs.Contents.{Contents}

-- The host may take the bytes last sent at any moment
pub moved : {s : State} {last has : Slots} {array : ℕ → List ℕ} → Contents s last has array → (x : Slots) → ((q ℓ i : ℕ) → (x q ℓ i ≡ has q ℓ i) ⊎ (x q ℓ i ≡ last q ℓ i)) → Contents s last x array
moved {s = s} k x f = record {
  absent = k.absent;
  values = k.values;
  written = k.written;
  settled = λ b ℓ i hb e u n. ⊎_elim (λ z. z ∙ k.settled b ℓ i hb e u n) (λ z. z ∙ k.written b ℓ i hb e u) (f (s.partition b) ℓ i);
}
