-- Document 02, P2: "as found when the request ceased to be held (at acceptance if it never was)". On every state.
use Rattle.std.specs.Prelude.{◌≡◌, ℕ, if◌then◌else◌}
use Rattle.std.proofs.Math.Bool.{false}
use mathlib.Core.List.{List, [], ◌∷◌}
use Rattle.rules.specs.Blocks.{look_up}
use Rattle.rules.specs.Laws.Answers.{opens}
use Rattle.rules.specs.Questions.{collect, Call, number}
use Rattle.rules.specs.Request.{held_for}
use Rattle.rules.specs.Run.{step}
use Rattle.rules.specs.State.{State, Found}

-- Where block b is in the first state in which no job holds requests for its partition: of s, and of what each of these calls leaves
unfoldable pub first_found : State → ℕ → List Call → Found
first_found s b [] = look_up s b
first_found s b (c ∷ cs) = if held_for s (s.partition b) then first_found (step s c).0 b cs else look_up s b

-- Calls between a request and its collect: none is an open or a load, and no collect is accepted
abbrev pub Between : State → List Call → Type 0
Between s [] = Unit {0}
Between s (c ∷ cs) = (opens c.ask ≡ false) × (c.ask ≡ collect → number s c ≡ 0 → ⊥) × Between (step s c).0 cs
