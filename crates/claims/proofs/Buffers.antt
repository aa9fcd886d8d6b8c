-- The buffer after an accepted call has the bytes that the rules hand out, where they hand out any; a refused one hands out nothing.
use Rattle.std.specs.Prelude.{◌≡◌, Bool, true, false, not, ◌||◌, List, [], ℕ, eqb, length, drop, if◌then◌else◌}
use Rattle.std.proofs.Math.Path.{refl}
use Rattle.std.proofs.Common.{sym, ◌∙◌, eqb-true, ne_eqb}
use Rattle.std.proofs.Math.Seq.{take-append_seam}
use Rattle.rules.specs.Blocks.{slot_bytes, holder}
use Rattle.rules.specs.Collect.{answer}
use Rattle.rules.specs.Form.Payload.{saved_form}
use Rattle.rules.proofs.Laws.Answers.{Passed}
use Rattle.rules.specs.Questions.{Ask, opening, request, turn, completion, collect, save, load, questions}
use Rattle.rules.specs.Run.{act, sent_command, handed, written}
use Rattle.rules.specs.State.{State, write}
use Rattle.rules.specs.Turn.{decide, command}
use Rattle.contract.specs.Meets.{handed_to, reported}
use Rattle.rules.proofs.Laws.Lengths.{Whole}
use Rattle.contract.specs.Buffers.{filled, written-length, answer-length}
use Rattle.claims.specs.Claim.{hands_out}

module _ (s : State) (m : ℕ) (ws : List ℕ) (n : ℕ) (w : Whole s) (b : List ℕ) (size : length b ≡ n) where
  -- an accepted call
  pub accepted-hands : (a : Ask) → Passed (questions s a m ws n) → (js : List ℕ) (t : ℕ)
      → hands_out a 0 (reported a t (handed s a (act s a js))) (sent_command s a).kind (handed_to b (handed s a (act s a js))) ≡ handed s a (act s a js)
  unfolding hands_out handed sent_command questions written
  accepted-hands (opening h) p js t = refl
  accepted-hands (request k c bs) p js t = refl
  accepted-hands turn p js t = go (eqb (command (decide s)).kind write) p.1.1.1.0
    where
      s' : State
      s' = act s turn js

      bytes : List ℕ
      bytes = slot_bytes s' (holder s' (command (decide s)).partition (command (decide s)).level (command (decide s)).slot)

      go : (t : Bool) → (not t || eqb n s.shape.B) ≡ true → (if t then handed_to b (if t then bytes else []) else []) ≡ (if t then bytes else [])
      go true e = filled b bytes (size ∙ eqb-true n s.shape.B e ∙ sym (written-length s w js _))
      go false e = refl
  accepted-hands (completion c bs) p js t = refl
  accepted-hands collect p js t = filled b (answer s s.request) (size ∙ eqb-true n s.shape.B p.1.1.1.0 ∙ sym (answer-length s w s.request p.1.0))
  accepted-hands save p js t = take-append_seam (saved_form s) (drop (length (saved_form s)) b)
  accepted-hands (load form) p js t = refl

-- a refused one hands out nothing
pub refused-hands : (a : Ask) (n k : ℕ) (b : List ℕ) → (n ≡ 0 → ⊥) → hands_out a n (reported a 0 []) k b ≡ []
unfolding hands_out
refused-hands (opening h) n k b z = refl
refused-hands (request j c bs) n k b z = refl
refused-hands turn n k b z = rw (ne_eqb n 0 z)
refused-hands (completion c bs) n k b z = refl
refused-hands collect n k b z = rw (ne_eqb n 0 z)
refused-hands save n k b z = refl
refused-hands (load form) n k b z = refl
