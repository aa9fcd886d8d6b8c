-- Whether a session opened a store: exactly then the state that it leaves is ready, and has a page.
use Rattle.std.specs.Prelude.{◌≡◌, refl, Bool, true, not, ◌&&◌, ◌||◌, List, [], ◌∷◌, ℕ, ◌≤◌, eqb, if◌then◌else◌, Option, None, Some}
use Rattle.std.proofs.Math.Path.{ap, sym}
use Rattle.std.proofs.Common.{◌∙◌, arith, eqb-true, le-leb, leb-true}
use Rattle.std.proofs.Math.Bool.{false}
use Rattle.std.proofs.Math.Decide.{ℕ_discrete}
use Rattle.std.proofs.Math.Dec.{leb}
use Rattle.lists.specs.Tests.{and_l, and-true}
use Rattle.rules.specs.Shape.{Shape}
use Rattle.rules.specs.State.{State, closed}
use Rattle.rules.specs.Memory.{needed}
use Rattle.rules.specs.Open.{fresh}
use Rattle.rules.specs.Ranges.{in_range}
use Rattle.rules.specs.Questions.{opening, Call, ready, questions, number}
use Rattle.rules.specs.Run.{Outcome, step, act, perform, accepted}
use Rattle.rules.specs.Laws.Answers.{opens as opens_of}
use Rattle.rules.proofs.Laws.Answers.{accepted-passed, step-number, step-accepted, refused-keeps, closed-unready}
use Rattle.rules.proofs.Laws.Kept.{accepted-in}
use Rattle.rules.specs.Laws.Range.{InRange}
use Rattle.rules.proofs.Laws.Range.{facts-range}
use Rattle.lines.specs.Lines.{Line, opens, reads, writes, turns, collects, malformed, line_of, tape_of}
use Rattle.printing.specs.Text.{number_text}
use Rattle.session.specs.Session.{Session, Given, serves, memory_room, lent, call, went, answered, completed, replied, turned, collected, gives, ends, begun, leaves, left}
use Rattle.contract.specs.Buffers.{ready_of}
use Rattle.session.specs.Laws.{step-shape}

-- ---- Document 02, P1: "Without an accepted O it prints nothing."

-- an O that is accepted
unfoldable pub accepts : Session → Line → Bool
accepts s (opens h) = eqb (step closed (call (opening h) (lent h) s.words 0)).1.number 0
accepts s (reads b) = false
accepts s (writes b bs) = false
accepts s turns = false
accepts s collects = false
accepts s malformed = false

-- whether one of these lines is; a malformed line ends the session
unfoldable pub opens_one : Session → List (List ℕ) → Bool
opens_one s [] = false
opens_one s (l ∷ ls) = not (ends (line_of l)) && (accepts s (line_of l) || opens_one (gives s (line_of l)).0 ls)

-- ..from the start of a session, where the first line may be the tape
unfoldable pub opened : List ℕ → List (List ℕ) → Bool
opened host [] = false
opened host (l ∷ ls) = elim (tape_of l) [ None ↦ opens_one (begun host []) (l ∷ ls) | Some ws ↦ opens_one (begun host ws) ls ]

-- ---- Calls

ready-from : (s : State) (m : ℕ) → leb (needed s.shape) m ≡ true → InRange s → ready s m ≡ true
unfolding ready
ready-from s m e f = and-true e (facts-range s f)

accepted-range : (s : State) (c : Call) → number s c ≡ 0 → InRange (step s c).0
unfolding accepted
accepted-range s c z = rw (step-accepted s c z) (accepted-in s c.ask c.memory c.words c.buffer (accepted-passed s c z))

-- no call but an open makes a state ready, or no longer so
step-ready : (s : State) (c : Call) → opens_of c.ask ≡ false → ready (step s c).0 c.memory ≡ ready s c.memory
step-ready s c four = go (ℕ_discrete (number s c) 0)
  where
    go : Dec (number s c ≡ 0) → ready (step s c).0 c.memory ≡ ready s c.memory
    go (yes z) =
        let before = ready_of s c.ask c.memory c.words c.buffer four (accepted-passed s c z) in
        let room : leb (needed s.shape) c.memory ≡ true = unfold ready in (and_l (leb (needed s.shape) c.memory) (in_range s) before) in
        ready-from (step s c).0 c.memory (ap (λ h. leb (needed h) c.memory) (step-shape s c four) ∙ room) (accepted-range s c z) ∙ sym before
    go (no n) = ap (λ x. ready x c.memory) (refused-keeps s c four n)

lent-le : (h : Shape) → lent h ≤ memory_room
unfolding lent
lent-le h = go (serves h)
  where
    go : (t : Bool) → (if t then memory_room else 0) ≤ memory_room
    go true = omega arith
    go false = omega arith

-- an accepted open makes one that is
open-ready : (h : Shape) (ws : List ℕ) → (step closed (call (opening h) (lent h) ws 0)).1.number ≡ 0 → ready (step closed (call (opening h) (lent h) ws 0)).0 memory_room ≡ true
unfolding questions accepted act perform fresh
open-ready h ws z =
    let c = call (opening h) (lent h) ws 0 in
    let y : number closed c ≡ 0 = sym (step-number closed c) ∙ z in
    let room : needed h ≤ lent h = leb-true (needed h) (lent h) (accepted-passed closed c y).1.0 in
    let shape : (step closed c).0.shape ≡ h = ap (λ (x : State × Outcome). x.0.shape) (step-accepted closed c y) in
    ready-from (step closed c).0 memory_room (ap (λ x. leb (needed x) memory_room) shape ∙ le-leb (needed h) memory_room (omega (arith, lent-le h))) (accepted-range closed c y)

-- ---- Lines

abbrev is_ready : Session → Bool
is_ready s = ready s.state memory_room

answered-ready : (s : Session) (r : State × Outcome) (g : Given) → is_ready g.0 ≡ is_ready s → is_ready (answered s r g).0 ≡ is_ready s
unfolding answered
answered-ready s r g e = go (eqb r.1.number 0)
  where
    go : (t : Bool) → is_ready (if t then g else (s, number_text r.1.number)).0 ≡ is_ready s
    go true = e
    go false = refl

gives-ready : (s : Session) (l : Line) → is_ready (gives s l).0 ≡ (accepts s l || is_ready s)
unfolding gives replied turned collected completed went accepts opens_of
gives-ready s (opens h) = go (eqb (step closed (call (opening h) (lent h) s.words 0)).1.number 0) refl
  where
    go : (t : Bool) → eqb (step closed (call (opening h) (lent h) s.words 0)).1.number 0 ≡ t → is_ready (gives s (opens h)).0 ≡ (t || is_ready s)
    go true e = unfold answered in (rw e (open-ready h s.words (eqb-true _ 0 e)))
    go false e = unfold answered in (rw e)
gives-ready s (reads b) = answered-ready s _ _ (step-ready s.state _ refl)
gives-ready s (writes b bs) = answered-ready s _ _ (step-ready s.state _ refl)
gives-ready s turns = answered-ready s _ _ (step-ready _ _ refl ∙ step-ready s.state _ refl)
gives-ready s collects = answered-ready s _ _ (step-ready s.state _ refl)
gives-ready s malformed = refl

leaves-ready : (s : Session) (ls : List (List ℕ)) → is_ready (leaves s ls) ≡ (opens_one s ls || is_ready s)
unfolding leaves opens_one
leaves-ready s [] = refl
leaves-ready s (l ∷ ls) = go (ends (line_of l)) (leaves-ready (gives s (line_of l)).0 ls)
  where
    swap : (a b c : Bool) → (a || (b || c)) ≡ ((b || a) || c)
    swap true true c = refl
    swap true false c = refl
    swap false true c = refl
    swap false false c = refl

    go : (t : Bool) → is_ready (leaves (gives s (line_of l)).0 ls) ≡ (opens_one (gives s (line_of l)).0 ls || is_ready (gives s (line_of l)).0)
        → is_ready (if t then s else leaves (gives s (line_of l)).0 ls) ≡ ((not t && (accepts s (line_of l) || opens_one (gives s (line_of l)).0 ls)) || is_ready s)
    go true e = refl
    go false e = e ∙ ap (λ x. opens_one (gives s (line_of l)).0 ls || x) (gives-ready s (line_of l)) ∙ swap (opens_one (gives s (line_of l)).0 ls) (accepts s (line_of l)) (is_ready s)

begun-ready : (host words : List ℕ) (ls : List (List ℕ)) → is_ready (leaves (begun host words) ls) ≡ opens_one (begun host words) ls
unfolding begun
begun-ready host words ls = leaves-ready (begun host words) ls ∙ ap (λ x. opens_one (begun host words) ls || x) (closed-unready memory_room) ∙ or-false (opens_one (begun host words) ls)
  where
    or-false : (a : Bool) → (a || false) ≡ a
    or-false true = refl
    or-false false = refl

-- The state that a session leaves is ready exactly if it accepted an O; without one it is closed still
pub opened-ready : (host : List ℕ) (ls : List (List ℕ)) → ready (left host ls).state memory_room ≡ opened host ls
unfolding left opened
opened-ready host [] = unfold begun in (closed-unready memory_room)
opened-ready host (l ∷ ls) = go (tape_of l) refl
  where
    go : (t : Option (List ℕ)) → tape_of l ≡ t → ready (left host (l ∷ ls)).state memory_room ≡ opened host (l ∷ ls)
    go None e = rw (e, left, opened) (begun-ready host [] (l ∷ ls))
    go (Some ws) e = rw (e, left, opened) (begun-ready host ws ls)
