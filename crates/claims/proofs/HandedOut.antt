-- Every call: what is in the buffer after it is what the rules hand out.
use Rattle.std.specs.Prelude.{◌≡◌, List, ℕ, length}
use Rattle.std.proofs.Math.Decide.{ℕ_discrete}
use Rattle.rules.specs.Draws.{draws}
use Rattle.rules.proofs.Laws.Answers.{accepted-passed, step-accepted, refused-outcome}
use Rattle.rules.specs.Questions.{Call, bounds, number}
use Rattle.rules.specs.Run.{Outcome, step, accepted, refused, taken_of, numbers_of}
use Rattle.rules.specs.State.{State}
use Rattle.contract.specs.Meets.{handed_to, reported}
use Rattle.rules.proofs.Laws.Lengths.{Whole}
use Rattle.claims.specs.Claim.{hands_out}
use Rattle.claims.proofs.Buffers.{accepted-hands, refused-hands}

pub hands_out_lem : (s : State) (c : Call) → (number s c ≡ 0 → Whole s) → (b : List ℕ) → length b ≡ c.buffer
    → hands_out c.ask (step s c).1.number (reported c.ask (step s c).1.taken (step s c).1.bytes) (step s c).1.command.kind (handed_to b (step s c).1.bytes) ≡ (step s c).1.bytes
hands_out_lem s c w b size = go (ℕ_discrete (number s c) 0)
  where
    hands : Outcome → List ℕ
    hands o = hands_out c.ask o.number (reported c.ask o.taken o.bytes) o.command.kind (handed_to b o.bytes)

    go : Dec (number s c ≡ 0) → hands (step s c).1 ≡ (step s c).1.bytes
    go (yes z) = rw (step-accepted s c z) (unfold accepted in (accepted-hands s c.memory c.words c.buffer (w z) b size c.ask (accepted-passed s c z) (numbers_of (draws (bounds s c.ask) c.words)) (taken_of (draws (bounds s c.ask) c.words))))
    go (no z) = rw (refused-outcome s c z) (unfold refused in (refused-hands c.ask (number s c) 0 b z))
