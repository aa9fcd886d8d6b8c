-- What a save has written is known by the state after it, and each call of a list leaves a state that calls may have left.
use Rattle.std.specs.Prelude.{◌≡◌, refl, List, [], ℕ, ◌≤◌, ◌<◌, leb}
use Rattle.std.proofs.Common.{ap, sym, ◌∙◌, arith, eq-eqb, ne_eqb, leb-true}
use Rattle.std.proofs.Math.Decide.{ℕ_discrete}
use Rattle.lists.specs.Tests.{and_r}
use Rattle.rules.specs.Form.Longest.{longest, longest_payload}
use Rattle.rules.specs.Form.Sums.{block_count}
use Rattle.rules.specs.Form.Payload.{saved_form}
use Rattle.rules.specs.Laws.Answers.{opens}
use Rattle.rules.proofs.Laws.Answers.{Passed, accepted-passed, refused-keeps, refused-outcome, closed-two}
use Rattle.rules.proofs.Laws.Form.Sums.{count-mono}
use Rattle.rules.proofs.Laws.Kept.{given-in}
use Rattle.rules.specs.Questions
use Rattle.rules.specs.Questions.{Ask, Call, number, questions, ready}
use Rattle.rules.specs.Resumes.{saved_by}
use Rattle.rules.specs.Run
use Rattle.rules.specs.Run.{Outcome, step}
use Rattle.rules.specs.Shape.{Shape}
use Rattle.rules.specs.State.{State, closed}
use Rattle.reachable.proofs.LastSaved.{OfState, nothing, own, save-keeps, save-writes, resumes-was}
use Rattle.reachable.proofs.Reached.{Was, Brings, save-passed, step-was}
use Rattle.reachable.proofs.Saved.{rest-facts}
use Rattle.hiding.specs.Claim.{Outline, an_open, a_request, a_turn, a_completion, a_collect, a_save, a_load, outline}
use Rattle.hiding.specs.Machines.Public
use Rattle.hiding.specs.Machines.Public.{saving, saved}
use Rattle.hiding.specs.Lists.Fixed.{lend, Listing, Listed, opens as opens_it, later, ask_in, at}

-- ---- what a save writes

pub saved-yes : (s : State) (m n : ℕ) → number s (saving m n) ≡ 0 → saved s m n ≡ saved_form s
unfolding saved
saved-yes s m n e = rw (eq-eqb (number s (saving m n)) 0 e)

pub saved-no : (s : State) (m n : ℕ) → ¬ (number s (saving m n) ≡ 0) → saved s m n ≡ []
unfolding saved
saved-no s m n e = rw (ne_eqb (number s (saving m n)) 0 e)

-- a save that is lent nothing is refused
one_block : block_count 1 ≡ 1
unfolding block_count
one_block = refl

longest-pos : (h : Shape) → 0 < longest h
unfolding longest longest_payload
longest-pos h = omega (arith, one_block, count-mono 1 (longest_payload h) (omega arith))

passed-long : (s : State) (m : ℕ) (ws : List ℕ) (n : ℕ) → Passed (questions s Questions.save m ws n) → longest s.shape ≤ n
unfolding questions
passed-long s m ws n p = leb-true (longest s.shape) n (and_r (ready s m) (leb (longest s.shape) n) p.0)

pub saved-nothing : (s : State) → saved s 0 0 ≡ []
saved-nothing s = saved-no s 0 0 (λ z. omega (arith, longest-pos s.shape, passed-long s 0 [] 0 (accepted-passed s (saving 0 0) z)))

pub saved-closed : (m n : ℕ) → saved closed m n ≡ []
saved-closed m n = saved-no closed m n (λ z. omega (arith, sym (closed-two (saving m n) (unfold opens in refl)) ∙ z))

-- it is nothing, or the form of the state
pub saved-own : (s : State) (m n : ℕ) → OfState s (saved s m n)
saved-own s m n = go (ℕ_discrete (number s (saving m n)) 0)
  where
    go : Dec (number s (saving m n) ≡ 0) → OfState s (saved s m n)
    go (no z) = nothing (saved-no s m n z)
    go (yes z) =
        let p = save-passed s Questions.save m [] n refl (accepted-passed s (saving m n) z) in
        own (saved-yes s m n z) (given-in s m p.0) (rest-facts s p.1)

-- ---- what the call just before has written, by the state after it

-- memory and buffer of a save, for the load that follows it; nothing after another call
abbrev pub last_save : Outline → ℕ → ℕ → ℕ × ℕ
last_save (an_open h) m n = (0, 0)
last_save (a_request k b i) m n = (0, 0)
last_save a_turn m n = (0, 0)
last_save (a_completion c i) m n = (0, 0)
last_save a_collect m n = (0, 0)
last_save a_save m n = (m, n)
last_save a_load m n = (0, 0)

abbrev pub saved_in : State → ℕ × ℕ → List ℕ
saved_in s p = saved s p.0 p.1

save-number : (s : State) (m : ℕ) (ws : List ℕ) (n : ℕ) → number s (record { ask = Questions.save; memory = m; words = ws; buffer = n }) ≡ number s (saving m n)
unfolding number questions
save-number s m ws n = refl

-- a save leaves the state, accepted or not
pub save-stays : (s : State) (c : Call) → c.ask ≡ Questions.save → (step s c).0 ≡ s
save-stays s c e = go (ℕ_discrete (number s c) 0)
  where
    go : Dec (number s c ≡ 0) → (step s c).0 ≡ s
    go (yes z) = save-keeps s c e z
    go (no z) = refused-keeps s c (ap opens e ∙ unfold opens in refl) z

save-saved : (s : State) (c : Call) → c.ask ≡ Questions.save → (step s c).1.bytes ≡ saved s c.memory c.buffer
save-saved s c e = go (ℕ_discrete (number s c) 0)
  where
    same : number s c ≡ number s (saving c.memory c.buffer)
    same = ap (λ a. number s (record { ask = a; memory = c.memory; words = c.words; buffer = c.buffer })) e ∙ save-number s c.memory c.words c.buffer

    go : Dec (number s c ≡ 0) → (step s c).1.bytes ≡ saved s c.memory c.buffer
    go (yes z) = save-writes s c e z ∙ sym (saved-yes s c.memory c.buffer (sym same ∙ z))
    go (no z) = ap (λ (o : Outcome). o.bytes) (refused-outcome s c z) ∙ (unfold Run.refused in (sym (saved-no s c.memory c.buffer (λ v. z (same ∙ v)))))

pub step-saved : (s : State) (c : Call) → saved_by c.ask (step s c).1 ≡ saved_in (step s c).0 (last_save (outline c.ask) c.memory c.buffer)
unfolding saved_by
step-saved s c = go c.ask refl
  where
    go : (a : Ask) → c.ask ≡ a → saved_by a (step s c).1 ≡ saved_in (step s c).0 (last_save (outline a) c.memory c.buffer)
    go (Questions.opening h) e = sym (saved-nothing (step s c).0)
    go (Questions.request k b bs) e = sym (saved-nothing (step s c).0)
    go Questions.turn e = sym (saved-nothing (step s c).0)
    go (Questions.completion d bs) e = sym (saved-nothing (step s c).0)
    go Questions.collect e = sym (saved-nothing (step s c).0)
    go Questions.save e = save-saved s c e ∙ ap (λ x. saved x c.memory c.buffer) (sym (save-stays s c e))
    go (Questions.load form) e = sym (saved-nothing (step s c).0)

-- ---- each call of a list

pub at-was : (s : State) (a : Listed) (ws : List ℕ) → Was s → Was (step s (lend (at s a) ws)).0
at-was s a ws l = go a.ask
  where
    c : Ask → Call
    c k = record { ask = k; memory = a.memory; words = ws; buffer = a.buffer }

    plain : (k : Ask) → Brings k → Was (step s (c k)).0
    plain k w = step-was s (c k) w l

    go : (x : Listing) → Was (step s (c (ask_in s x))).0
    go (opens_it h) = plain (Questions.opening h) tt
    go (later (Public.later-request k b bs)) = plain (Questions.request k b bs) tt
    go (later Public.later-turn) = plain Questions.turn tt
    go (later (Public.later-completion d bs)) = plain (Questions.completion d bs) tt
    go (later Public.later-collect) = plain Questions.collect tt
    go (later Public.later-save) = plain Questions.save tt
    go (later (Public.later-reload m n)) = resumes-was s (saved s m n) (c (Questions.load (saved s m n))) refl (saved-own s m n) l
