-- What holds of every call's answer, on every state: its number, what a refusal leaves, the words taken.
use Rattle.std.specs.Prelude.{◌≡◌, Bool, true, false, not, List, [], ◌∷◌, ℕ, ◌≤◌, length, take, eqb, leb}
use Rattle.std.proofs.Math.Path.{refl}
use Rattle.std.proofs.Common.{ap, sym, ◌∙◌, true≢false, arith, take_at, ne_eqb, eqb-true, eq-eqb}
use Rattle.std.proofs.Math.Option.{Option}
use Rattle.lists.specs.Search.{is_none}
use Rattle.lists.specs.Tests.{every, between, and-false}
use Rattle.rules.specs.Shape.{Shape, within}
use Rattle.rules.specs.State.{State, closed}
use Rattle.rules.specs.Ranges.{in_range, ranges}
use Rattle.rules.specs.Memory.{needed}
use Rattle.rules.specs.Draws.{Drawn, draws}
use Rattle.rules.proofs.Laws.Draws.{Settles, Lent, settled, ended, lent, settles-draws}
use Rattle.rules.specs.Questions.{Ask, opening, request, turn, completion, collect, save, load, Call, ready, questions, first_no, number, bounds}
use Rattle.rules.specs.Request.{release}
use Rattle.rules.specs.Run.{Outcome, act, perform, handed_found, refuse, refused, accepted, sent_command, handed, step, taken_of, numbers_of}
use Rattle.rules.specs.Laws.Answers.{opens}

-- each number of a list of questions is at most m
abbrev UpTo : ℕ → List (Bool × ℕ) → Type 0
UpTo m [] = Unit {0}
UpTo m (x ∷ xs) = (x.1 ≤ m) × UpTo m xs

first_no-le : (m : ℕ) (xs : List (Bool × ℕ)) → UpTo m xs → first_no xs ≤ m
unfolding first_no
first_no-le m [] h = omega arith
first_no-le m ((true, n) ∷ xs) h = first_no-le m xs h.1
first_no-le m ((false, n) ∷ xs) h = h.0

questions-le : (s : State) (a : Ask) (m : ℕ) (ws : List ℕ) (n : ℕ) → UpTo 18 (questions s a m ws n)
unfolding questions
questions-le s (opening h) m ws n = omega arith
questions-le s (request k b bs) m ws n = omega arith
questions-le s turn m ws n = omega arith
questions-le s (completion c bs) m ws n = omega arith
questions-le s collect m ws n = omega arith
questions-le s save m ws n = omega arith
questions-le s (load form) m ws n = omega arith

-- Every call's number is at most 18
pub number-le : (s : State) (c : Call) → number s c ≤ 18
unfolding number
number-le s c = first_no-le 18 (questions s c.ask c.memory c.words c.buffer) (questions-le s c.ask c.memory c.words c.buffer)

-- A refused call changes the state as `refuse` says
pub step-refused : (s : State) (c : Call) → (number s c ≡ 0 → ⊥) → step s c ≡ (refuse s c.ask, refused (number s c))
unfolding step
step-refused s c h = rw (ne_eqb (number s c) 0 h)

pub refuse-keeps : (s : State) (a : Ask) → opens a ≡ false → refuse s a ≡ s
unfolding refuse opens
refuse-keeps s (opening h) e = absurd (true≢false e)
refuse-keeps s (request k b bs) e = refl
refuse-keeps s turn e = refl
refuse-keeps s (completion c bs) e = refl
refuse-keeps s collect e = refl
refuse-keeps s save e = refl
refuse-keeps s (load form) e = absurd (true≢false e)

-- Every other refused call leaves the state as it was
pub refused-keeps : (s : State) (c : Call) → opens c.ask ≡ false → (number s c ≡ 0 → ⊥) → (step s c).0 ≡ s
refused-keeps s c e h = ap (λ (r : State × Outcome). r.0) (step-refused s c h) ∙ refuse-keeps s c.ask e

-- A refused open leaves the closed state
pub refused-open : (s : State) (c : Call) (h : Shape) → c.ask ≡ opening h → (number s c ≡ 0 → ⊥) → (step s c).0 ≡ closed
unfolding refuse
refused-open s c h e n = ap (λ (r : State × Outcome). r.0) (step-refused s c n) ∙ ap (refuse s) e

-- ..and so does a refused load
pub refused-load : (s : State) (c : Call) (form : List ℕ) → c.ask ≡ load form → (number s c ≡ 0 → ⊥) → (step s c).0 ≡ closed
unfolding refuse
refused-load s c form e n = ap (λ (r : State × Outcome). r.0) (step-refused s c n) ∙ ap (refuse s) e

-- A refusal takes no word, sends no command and hands nothing out
pub refused-outcome : (s : State) (c : Call) → (number s c ≡ 0 → ⊥) → (step s c).1 ≡ refused (number s c)
refused-outcome s c h = ap (λ (r : State × Outcome). r.1) (step-refused s c h)

-- An open and a load look at no state before them
opens-same : (s : State) (a : Ask) (k : ℕ) (ws : List ℕ) (n : ℕ) → opens a ≡ true → let c : Call = record { ask = a; memory = k; words = ws; buffer = n } in step s c ≡ step closed c
unfolding opens step number questions bounds accepted act perform refuse sent_command handed handed_found
opens-same s (opening h) k ws n e = refl
opens-same s (request j b bs) k ws n e = absurd (true≢false (sym e))
opens-same s turn k ws n e = absurd (true≢false (sym e))
opens-same s (completion d bs) k ws n e = absurd (true≢false (sym e))
opens-same s collect k ws n e = absurd (true≢false (sym e))
opens-same s save k ws n e = absurd (true≢false (sym e))
opens-same s (load form) k ws n e = refl

pub opens-first : (s : State) (c : Call) → opens c.ask ≡ true → step s c ≡ step closed c
opens-first s c e = opens-same s c.ask c.memory c.words c.buffer e

pub open-first : (s : State) (c : Call) (h : Shape) → c.ask ≡ opening h → step s c ≡ step closed c
open-first s c h e = opens-first s c (ap opens e ∙ unfold opens in refl)

pub load-first : (s : State) (c : Call) (form : List ℕ) → c.ask ≡ load form → step s c ≡ step closed c
load-first s c form e = opens-first s c (ap opens e ∙ unfold opens in refl)

-- "A closed state, to which the other four reply 2", and so does a save
pub closed-unready : (m : ℕ) → ready closed m ≡ false
unfolding ready in_range ranges within closed between every
closed-unready m = and-false (leb (needed closed.shape) m) refl

pub closed-two : (c : Call) → opens c.ask ≡ false → number closed c ≡ 2
unfolding number
closed-two c e = go c.ask e
  where
    go : (a : Ask) → opens a ≡ false → first_no (questions closed a c.memory c.words c.buffer) ≡ 2
    go (opening h) e = absurd (true≢false (unfold opens in e))
    go (request k b bs) e = unfold questions first_no in (rw (closed-unready c.memory))
    go turn e = unfold questions first_no in (rw (closed-unready c.memory))
    go (completion d bs) e = unfold questions first_no in (rw (closed-unready c.memory))
    go collect e = unfold questions first_no in (rw (closed-unready c.memory))
    go save e = unfold questions first_no in (rw (closed-unready c.memory))
    go (load form) e = absurd (true≢false (unfold opens in e))

-- The outcome reports that number
pub step-number : (s : State) (c : Call) → (step s c).1.number ≡ number s c
unfolding step accepted refused
step-number s c = go (eqb (number s c) 0) refl
  where
    go : (t : Bool) → eqb (number s c) 0 ≡ t → (step s c).1.number ≡ number s c
    go true e = rw e (sym (eqb-true (number s c) 0 e))
    go false e = rw e

-- All answers are yes
abbrev pub Passed : List (Bool × ℕ) → Type 0
Passed [] = Unit {0}
Passed (x ∷ xs) = (x.0 ≡ true) × Passed xs

abbrev Positive : List (Bool × ℕ) → Type 0
Positive [] = Unit {0}
Positive (x ∷ xs) = (1 ≤ x.1) × Positive xs

first_no-zero : (xs : List (Bool × ℕ)) → Positive xs → first_no xs ≡ 0 → Passed xs
unfolding first_no
first_no-zero [] p h = tt
first_no-zero ((true, n) ∷ xs) p h = (refl, first_no-zero xs p.1 h)
first_no-zero ((false, n) ∷ xs) p h = absurd (omega arith)

questions-positive : (s : State) (a : Ask) (m : ℕ) (ws : List ℕ) (n : ℕ) → Positive (questions s a m ws n)
unfolding questions
questions-positive s (opening h) m ws n = omega arith
questions-positive s (request k b bs) m ws n = omega arith
questions-positive s turn m ws n = omega arith
questions-positive s (completion c bs) m ws n = omega arith
questions-positive s collect m ws n = omega arith
questions-positive s save m ws n = omega arith
questions-positive s (load form) m ws n = omega arith

-- An accepted call has passed every question
pub accepted-passed : (s : State) (c : Call) → number s c ≡ 0 → Passed (questions s c.ask c.memory c.words c.buffer)
unfolding number
accepted-passed s c h = first_no-zero (questions s c.ask c.memory c.words c.buffer) (questions-positive s c.ask c.memory c.words c.buffer) h

-- An accepted call's result
pub step-accepted : (s : State) (c : Call) → number s c ≡ 0 → step s c ≡ accepted s c.ask (draws (bounds s c.ask) c.words)
unfolding step
step-accepted s c h = rw (eq-eqb (number s c) 0 h)

-- ..and what it leaves
pub accepted-leaves : (s : State) (c : Call) → number s c ≡ 0 → (step s c).0 ≡ release (perform s c.ask (numbers_of (draws (bounds s c.ask) c.words)))
accepted-leaves s c h = ap (λ (r : State × Outcome). r.0) (step-accepted s c h) ∙ (unfold accepted act in refl)

-- The words lent settle the draws: those that are taken do, and no fewer
pub settled-taken : (ms ws : List ℕ) → not (is_none (draws ms ws)) ≡ true → Settles ms (take (taken_of (draws ms ws)) ws) (numbers_of (draws ms ws))
unfolding taken_of numbers_of is_none
settled-taken ms ws e = go (lent ms ws)
  where
    go : Lent ms ws → Settles ms (take (taken_of (draws ms ws)) ws) (numbers_of (draws ms ws))
    go (ended n) = absurd (true≢false (sym e ∙ ap (λ (o : Option Drawn). not (is_none o)) n))
    go (settled ds us js p k) = rw (p, settles-draws k us, take_at ds us (length ds) refl) k

passed-settled : (s : State) (a : Ask) (m : ℕ) (ws : List ℕ) (n : ℕ) → Passed (questions s a m ws n) → not (is_none (draws (bounds s a) ws)) ≡ true
unfolding questions
passed-settled s (opening h) m ws n p = p.1.1.0
passed-settled s (request k b bs) m ws n p = p.1.1.1.1.1.1.0
passed-settled s turn m ws n p = p.1.1.1.1.0
passed-settled s (completion c bs) m ws n p = unfold bounds draws is_none in refl
passed-settled s collect m ws n p = unfold bounds draws is_none in refl
passed-settled s save m ws n p = unfold bounds draws is_none in refl
passed-settled s (load form) m ws n p = unfold bounds draws is_none in refl

-- An accepted call takes the words up to the one that settles its last draw, passed ones counted
pub accepted-taken : (s : State) (c : Call) → number s c ≡ 0 → Settles (bounds s c.ask) (take (step s c).1.taken c.words) (numbers_of (draws (bounds s c.ask) c.words))
accepted-taken s c h = rw (step-accepted s c h) (unfold accepted in (settled-taken (bounds s c.ask) c.words (passed-settled s c.ask c.memory c.words c.buffer (accepted-passed s c h))))
