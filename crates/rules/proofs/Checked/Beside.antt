-- Documents 01 and 02 (P4), on states that no calls left: what the rules answer to a look-up beside a job that holds it though it has not drawn, to one
-- that is held and no job is queued, and to one whose block's slot was read. (docs/DECISIONS.md)
use Rattle.std.specs.Prelude.{◌≡◌, refl, [], ◌∷◌, ℕ, ◌-◌, eqb, ltb, if◌then◌else◌}
use Rattle.std.proofs.Math.Option.{none, some}
use Rattle.rules.specs.Shape.{Shape, cell}
use Rattle.rules.specs.State.{State, nowhere, stored, cmd, read}
use Rattle.rules.specs.Setters.{◌▷◌, set_place, set_counter, set_order, set_mark, set_holds, set_queue, set_outstanding, set_request}
use Rattle.rules.specs.Open.{fresh}
use Rattle.rules.specs.Questions.{request, turn, completion, collect, Call}
use Rattle.rules.specs.Run.{run}
use Rattle.rules.specs.Unfold.{model, shape, call, out}

-- Two blocks, both nowhere, and one partition of two levels, of which level 1 is filled and level 0 is not. Item k of level 1 is in slot k, and the slots
-- below n have been read
small : Shape
small = shape 2 1 2 1 2 4

half : ℕ → State
half n = fresh small (0 ∷ 0 ∷ []) ▷ set_counter (λ q. 2) ▷ set_order (λ c. c - cell small 0 1 0) ▷ set_mark (λ c. if ltb c (cell small 0 1 n) then 0 else 1)

-- a look-up of block 0, a turn without words, a collect
asks : Call
asks = call (request read 0 []) 1000000 (0 ∷ 0 ∷ []) 0

turns : Call
turns = call turn 1000000 [] 1

collects : Call
collects = call collect 1000000 [] 1

-- "Other levels are read as before, but if one of them has been read 2^ℓ times since it was written, the request is held." The only job, for level 0, has
-- not drawn. Once level 1 has been read twice the look-up is held, and the turn is the job's, which lacks words; after one read it is not, and the turn reads
-- the lowest unread dummy of level 1
worn-holds : run (half 2 ▷ set_queue (0 ∷ [])) (asks ∷ turns ∷ []) ≡ out 0 2 (cmd 0 0 0 0) [] ∷ out 3 0 (cmd 0 0 0 0) [] ∷ []
unfolding model small half asks turns
worn-holds = refl

worn-passes : run (half 1 ▷ set_queue (0 ∷ [])) (asks ∷ turns ∷ []) ≡ out 0 2 (cmd 0 0 0 0) [] ∷ out 0 0 (cmd 1 0 1 1) [] ∷ []
unfolding model small half asks turns
worn-passes = refl

-- A request that is held though no job is queued: a turn has nothing to send and a collect is refused, until some call is accepted; that releases it
stuck : State
stuck =
    half 1 ▷ set_request (some (record { kind = 1; block = 0; bytes = []; next = 0; evict = 0; level = 0; found = none; awaits = 0 })) ▷ set_outstanding (cmd read 0 1 0 ∷ [])

stuck-released : run stuck (turns ∷ collects ∷ call (completion (cmd read 0 1 0) (7 ∷ [])) 1000000 [] 0 ∷ turns ∷ [])
    ≡ out 10 0 (cmd 0 0 0 0) [] ∷ out 14 0 (cmd 0 0 0 0) [] ∷ out 0 0 (cmd 0 0 0 0) [] ∷ out 0 0 (cmd 1 0 1 1) [] ∷ []
unfolding model small half turns collects stuck
stuck-released = refl

-- "The block's slot if its place is there", in a level that is no source, though it was read: block 0 is in slot 0 of level 1
seen : State
seen = half 1 ▷ set_place (λ b. if eqb b 0 then stored 1 0 else nowhere) ▷ set_holds (λ c. if eqb c (cell small 0 1 0) then 1 else 0)

seen-again : run seen (asks ∷ turns ∷ []) ≡ out 0 2 (cmd 0 0 0 0) [] ∷ out 0 0 (cmd 1 0 1 0) [] ∷ []
unfolding model small half seen asks turns
seen-again = refl
