-- A run in which each of the seven calls is accepted: a store is opened, saved and loaded into other bytes, as after a shutdown, and then one block of one byte
-- is asked to be written, collected, and stored. The function `accepted_run` of crate `callers` makes it, and ensures that there is one.
use Rattle.std.specs.Prelude.{◌≡◌, ℕ, replicate}
use mathlib.Core.List.{List, [], ◌∷◌, ◌++◌, map}
use Rattle.rules.specs.Run.{Outcome}
use Rattle.rules.specs.State.{cmd, write}
use Rattle.rules.specs.Unfold.{out}
use Rattle.claims.specs.Claim.{Made, FromOpen, OwnForms, outcome_of}

-- The store as it was opened: form number, shape, a counter, an empty queue, and the block, which is nowhere; then zeros, and the sum
abbrev pub form : List ℕ
form = (1 ∷ 1 ∷ 0 ∷ 1 ∷ 0 ∷ 1 ∷ 0 ∷ 1 ∷ 0 ∷ 1 ∷ 0 ∷ 1 ∷ 0 ∷ 0 ∷ 0 ∷ 0 ∷ 0 ∷ 0 ∷ 0 ∷ 255 ∷ []) ++ (replicate 488 0 ++ (1 ∷ 3 ∷ 0 ∷ 2 ∷ []))

-- The open takes a word; the save hands out the form, which the load brings back; the request takes two words. The collect hands out the block as it was
-- before, and tells that it was nowhere. The turn draws an order, by one word, and sends the first of two writes: a dummy, since the word puts the
-- block into the other slot
abbrev pub told : List Outcome
told =
    out 0 1 (cmd 0 0 0 0) []
    ∷ out 0 0 (cmd 0 0 0 0) form
    ∷ out 0 0 (cmd 0 0 0 0) []
    ∷ out 0 2 (cmd 0 0 0 0) []
    ∷ out 0 0 (cmd 0 0 0 0) (0 ∷ [])
    ∷ out 0 1 (cmd write 0 0 0) (0 ∷ [])
    ∷ out 0 0 (cmd 0 0 0 0) [] ∷ []

abbrev pub Accepted : Type 0
Accepted = (xs : List Made) × (FromOpen xs × OwnForms xs × (map outcome_of xs ≡ told))
