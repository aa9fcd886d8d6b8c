-- How the answer to an O comes to be what the definition gives.
use Rattle.std.specs.Prelude.{◌≡◌, refl, true, false, ℕ, ◌+◌, ◌*◌, ◌≤◌, length, drop, leb}
use Rattle.std.proofs.Math.Path.{ap, sym}
use Rattle.std.proofs.Common.{◌∙◌, arith, ne_eqb, leb-true}
use mathlib.Core.List.{List, []}
use Rattle.std.proofs.lemmas.Bool.{lt-leb}
use Rattle.lists.specs.Tests.{between, every-yes, and_r}
use Rattle.rules.specs.Shape.{Shape, within}
use Rattle.rules.specs.State.{State, closed}
use Rattle.rules.specs.Memory.{needed}
use Rattle.rules.specs.Questions.{opening, Call, questions, first_no, number}
use Rattle.rules.specs.Run.{Outcome, step, act, perform, accepted}
use Rattle.rules.specs.Open.{fresh}
use Rattle.rules.proofs.Laws.Answers.{step-number, step-accepted}
use Rattle.memory.specs.Fits.{shape_of, parts-le}
use Rattle.tape.specs.Tape.{words_of}
use Rattle.client.specs.View.{state_of, view}
use Rattle.contract.specs.Answers.{Answer, cleared_client}
use Rattle.contract.specs.Meets.{Meets}
use Rattle.printing.specs.Text.{number_text}
use Rattle.printing.specs.Laws.{number-le as number-text-le}
use Rattle.lists.specs.Written.{Written, same_text}
use Rattle.lines.specs.Lines.{opens}
use Rattle.session.specs.Session as S
use Rattle.session.specs.Session.{serves, memory_room, lent, call, went, answered, replied, gives}
use Rattle.session.specs.declared.Session.{Session}
use Rattle.session.specs.declared.Printed.{Printed}
use Rattle.session.specs.Answers.{kept, Served, AnswersApart}
use Rattle.session.specs.Laws.{call-no, call-yes, taken-le, went-is, number_is}

-- the number of an O that is lent no memory, or of a shape out of bounds
unlent : (h : Shape) (memory : ℕ) (ws : List ℕ) → within h ≡ false → (step closed (call (opening h) memory ws 0)).1.number ≡ 1
unfolding number questions first_no
unlent h memory ws e = step-number closed (call (opening h) memory ws 0) ∙ rw e

unserved : (h : Shape) (ws : List ℕ) → within h ≡ true → (step closed (call (opening h) 0 ws 0)).1.number ≡ 2
unfolding number questions first_no needed
unserved h ws e = step-number closed (call (opening h) 0 ws 0) ∙ rw (e, lt-leb (needed h) 0 (omega arith))

-- three numbers of a shape within bounds
pub bounds : (h : Shape) → within h ≡ true → (h.P ≤ 64) × (h.L ≤ 8) × (h.B ≤ 512)
unfolding within between
bounds h w =
    let y = every-yes _ w in (
      (parts-le h.P y.1.0).1,
      leb-true h.L 8 (and_r (leb 1 h.L) (leb h.L 8) y.1.1.0),
      leb-true h.B 512 (and_r (leb 1 h.B) (leb h.B 512) y.1.1.1.0),
    )

module _ (s : Session) (m tape : List ℕ) (f : Served s tape) (h : Shape) (p : Printed) (e : p.session ≡ s) (out out' : List ℕ) (at : ℕ) where
  -- the line is refused with this number
  refused-with : (n : ℕ) → (n ≡ 0 → ⊥) → (step closed (call (opening h) (lent h) (drop s.taken (words_of tape)) 0)).1.number ≡ n → Written out at (number_text n) out' p.at
      → AnswersApart s (opens h) m tape out at p m out'
  unfolding gives replied answered
  refused-with n z k w host =
      rw (ne_eqb (step closed (call (opening h) (lent h) (drop s.taken (words_of tape)) 0)).1.number 0 (λ x. z (sym k ∙ x))) (record {
        session = ap (λ x. kept x m tape host) e;
        text = same_text (ap number_text (sym k)) w;
        served = rw e f;
        room = omega (arith, w.place, number-text-le n);
      })

  pub opens-out : within h ≡ false → Written out at (number_text 1) out' p.at → AnswersApart s (opens h) m tape out at p m out'
  opens-out k w = refused-with 1 (λ z. omega arith) (unlent h (lent h) (drop s.taken (words_of tape)) k) w

  pub opens-large : within h ≡ true → serves h ≡ false → Written out at (number_text 2) out' p.at → AnswersApart s (opens h) m tape out at p m out'
  opens-large k l w = refused-with 2 (λ z. omega arith) (ap (λ n. (step closed (call (opening h) n (drop s.taken (words_of tape)) 0)).1.number) no_room ∙ unserved h (drop s.taken (words_of tape)) k) w
    where
      no_room : lent h ≡ 0
      no_room = unfold lent in (rw l)

module _ (s : Session) (m tape t : List ℕ) (f : Served s tape) (left : t ≡ drop (s.taken * 2) tape) (long : length m ≡ memory_room) (h : Shape) (w : within h ≡ true) (g : serves h ≡ true) (r : Answer) (m' : List ℕ)
    (k : Meets cleared_client closed (opening h) m t [] r m' []) where
  lent-all : lent h ≡ memory_room
  lent-all = unfold lent in (rw g)

  -- the memory that is lent is all there is
  abbrev asks : ℕ → Call
  asks n = call (opening h) n (drop s.taken (words_of tape)) 0

  pub opens-no : (r.number ≡ 0 → ⊥) → (p : Printed) → p.session ≡ s → (out out' : List ℕ) (at : ℕ) → Written out at (number_text r.number) out' p.at → AnswersApart s (opens h) m tape out at p m' out'
  unfolding gives replied
  opens-no n p e out out' at x host = rw lent-all (call-no s m tape host t f left long cleared_client closed (opening h) [] r m' [] k _ n p e out out' at x)

  pub opens-taken : s.taken + r.taken ≤ length (words_of tape)
  opens-taken = taken-le s m tape [] t f left long cleared_client closed (opening h) [] r m' [] k (λ n bs. refl)

  -- the shape of the new store
  new-shape : r.number ≡ 0 → shape_of r.client.shape ≡ h
  unfolding state_of view accepted act perform fresh went
  new-shape z =
      let x = went-is s m tape [] t f left long cleared_client closed (opening h) [] r m' [] k (λ n bs. refl) in
      let y : number closed (asks memory_room) ≡ 0 = sym (step-number closed (asks memory_room)) ∙ number-zero z in
      ap (λ (u : S.Session). u.state.shape) x ∙ ap (λ (u : State × Outcome). u.0.shape) (step-accepted closed (asks memory_room) y)
    where
      number-zero : r.number ≡ 0 → (step closed (asks memory_room)).1.number ≡ 0
      number-zero z = sym (number_is s m tape [] t f left long cleared_client closed (opening h) [] r m' [] k) ∙ z

  pub opens-yes : r.number ≡ 0 → (p : Printed) → p.session ≡ record { client = r.client; taken = s.taken + r.taken } → (out out' : List ℕ) (at : ℕ) → Written out at (number_text 0) out' p.at
      → AnswersApart s (opens h) m tape out at p m' out'
  unfolding gives replied
  opens-yes z p e out out' at x host = rw lent-all (
      call-yes s m tape host t f left long cleared_client closed (opening h) [] r m' [] k (λ n bs. refl) z
      (record { serves = ap serves (new-shape z) ∙ g; block = omega (arith, ap (λ (u : Shape). u.B) (new-shape z), (bounds h w).2); taken = opens-taken })
      (number_text 0) (omega (arith, number-text-le 0)) p e out out' at x)
