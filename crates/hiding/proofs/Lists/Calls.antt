-- One call of a list with numbers for words: what the rules say of it is what the machine shows.
use Rattle.std.specs.Prelude.{◌≡◌, false, ◌↔◌, List, [], replicate, eqb, if◌then◌else◌}
use Rattle.std.proofs.Math.Path.{refl}
use Rattle.std.proofs.Common.{◌∙◌, sym}
use Rattle.std.proofs.Math.Logic.Iff
use Prim.Native.Nat.{ℕ, zero, suc}
use Rattle.std.proofs.Math.Dec.{eqb-suc-zero}
use Rattle.rules.specs.Shape.{Shape}
use Rattle.rules.specs.Draws.{Drew}
use Rattle.rules.specs.Form.Sums.{summed}
use Rattle.rules.proofs.Laws.Answers.{closed-unready}
use Rattle.rules.specs.State.{State, closed}
use Rattle.rules.specs.Open.{fresh}
use Rattle.rules.specs.Run.{act, refuse, perform, sent_command}
use Rattle.rules.specs.Questions.{Ask, opening, bounds, number, questions, first_no}
use Rattle.matching.specs.Trades.{None}
use Rattle.matching.proofs.Trades.{none-drew}
use Rattle.hiding.specs.Machines.Rules.{Real, unopened, shut, on, real-legal, real-next, real-seen, open_call, number_r, off}
use Rattle.hiding.specs.Machines.Public
use Rattle.hiding.specs.Machines.Public.{Later, Entry, later, ask}
use Rattle.hiding.specs.Machines.Ideal.{Seen, lacking, nothing_sent, seen_shut, closes}
use Rattle.hiding.specs.Lists.Fixed
use Rattle.hiding.specs.Lists.Fixed.{Fixed, lend, Listing, opens}
use Rattle.hiding.proofs.Lists.Saves.{saved-closed}

-- ---- a list as the machine has it

abbrev pub entry_of : Listing → ℕ → ℕ → ℕ → Entry
entry_of (opens h) m w n = Public.first m w
entry_of (Fixed.later l) m w n = later l m w n

abbrev pub lent : Ask → ℕ → ℕ → ℕ → Fixed
lent k m w n = record { ask = k; memory = m; words = w; buffer = n }

-- ---- what the rules say of it, lent words that settle one draw each

unfoldable pub number_of : State → Fixed → ℕ
number_of s a = number s (lend a (replicate a.words 0))

-- the bounds of its draws; a refused call draws nothing
unfoldable pub bounds_of : State → Fixed → List ℕ
bounds_of s a = if eqb (number_of s a) 0 then bounds s a.ask else []

-- the state after it, by the numbers drawn
unfoldable pub next_of : State → Fixed → List ℕ → State
next_of s a js = if eqb (number_of s a) 0 then act s a.ask js else refuse s a.ask

-- what is seen of it
unfoldable pub told_of : State → Fixed → Seen
told_of s a = if eqb (number_of s a) 0 then (0, bounds s a.ask, sent_command s a.ask) else (number_of s a, lacking (number_of s a) (bounds s a.ask), nothing_sent)

-- ---- and what the machine says

-- of a closed state: a load is of nothing
shut-number : (l : Later) (m w n : ℕ) → (number_r closed l m w n ≡ (seen_shut (later l m w n)).0) × (eqb (number_r closed l m w n) 0 ≡ false)
unfolding number questions first_no summed
shut-number (Public.later-request k b bs) m w n = rw (closed-unready m) (refl, refl)
shut-number Public.later-turn m w n = rw (closed-unready m) (refl, refl)
shut-number (Public.later-completion c bs) m w n = rw (closed-unready m) (refl, refl)
shut-number Public.later-collect m w n = rw (closed-unready m) (refl, refl)
shut-number Public.later-save m w n = rw (closed-unready m) (refl, refl)
shut-number (Public.later-reload m₀ n₀) m w n = rw (saved-closed m₀ n₀) (refl, refl)

shut-seen : (l : Later) (m w n : ℕ) (ms : List ℕ) → ((seen_shut (later l m w n)).0, lacking (seen_shut (later l m w n)).0 ms, nothing_sent) ≡ seen_shut (later l m w n)
unfolding lacking
shut-seen (Public.later-request k b bs) m w n ms = refl
shut-seen Public.later-turn m w n ms = refl
shut-seen (Public.later-completion c bs) m w n ms = refl
shut-seen Public.later-collect m w n ms = refl
shut-seen Public.later-save m w n ms = refl
shut-seen (Public.later-reload m₀ n₀) m w n ms = refl

refuse-shut : (l : Later) → refuse closed (ask closed l) ≡ closed
unfolding refuse
refuse-shut (Public.later-request k b bs) = refl
refuse-shut Public.later-turn = refl
refuse-shut (Public.later-completion c bs) = refl
refuse-shut Public.later-collect = refl
refuse-shut Public.later-save = refl
refuse-shut (Public.later-reload m₀ n₀) = refl

module _ (h : Shape) where
  -- the machine's state for a state of the rules
  abbrev pub Is : Real → State → Type 0
  Is unopened s = ⊥
  Is shut s = s ≡ closed
  Is (on s') s = s ≡ s'
  Is (off s') s = s ≡ closed

  pub record Agrees (c : Entry) (r : Real) (s : State) (a : Fixed) : Type 0 where
    pub legal : (d : List ℕ) → real-legal h r c d ↔ Drew (bounds_of s a) d
    pub next : (d : List ℕ) → Is (real-next h r c d) (next_of s a d)
    pub tells : (d : List ℕ) → real-seen h r c d ≡ told_of s a

  -- a refused load closes
  refused-is : (s : State) (l : Later) → Is (if closes l then off s else on s) (refuse s (ask s l))
  unfolding refuse
  refused-is s (Public.later-request k b bs) = refl
  refused-is s Public.later-turn = refl
  refused-is s (Public.later-completion c bs) = refl
  refused-is s Public.later-collect = refl
  refused-is s Public.later-save = refl
  refused-is s (Public.later-reload m₀ n₀) = refl

  agrees_on : (s : State) (l : Later) (m w n : ℕ) → Agrees (later l m w n) (on s) s (lent (ask s l) m w n)
  unfolding number_of bounds_of next_of told_of
  agrees_on s l m w n = go (number_r s l m w n) refl
    where
      go : (j : ℕ) → number_r s l m w n ≡ j → Agrees (later l m w n) (on s) s (lent (ask s l) m w n)
      go zero e = record {
        legal = λ d. rw e Iff.rfl;
        next = λ d. rw e;
        tells = λ d. rw e;
      }
      go (suc j) e = record {
        legal = λ d. rw (e, eqb-suc-zero j) Iff.rfl;
        next = λ d. rw (e, eqb-suc-zero j) (refused-is s l);
        tells = λ d. rw (e, eqb-suc-zero j);
      }

  -- a closed state, after a refused open or a refused load
  agrees-closed : (r : Real) → ((c : Entry) (d : List ℕ) → real-legal h r c d ≡ None d) → ((c : Entry) (d : List ℕ) → real-seen h r c d ≡ seen_shut c)
      → ((c : Entry) (d : List ℕ) → Is (real-next h r c d) closed) → (l : Later) (m w n : ℕ) → Agrees (later l m w n) r closed (lent (ask closed l) m w n)
  unfolding number_of bounds_of next_of told_of
  agrees-closed r x y z l m w n = let e = shut-number l m w n in record {
    legal = λ d. rw (x (later l m w n) d, e.1) ((none-drew d).1, (none-drew d).0);
    next = λ d. rw (e.1, refuse-shut l) (z (later l m w n) d);
    tells = λ d. rw (y (later l m w n) d, e.1, e.0) (sym (shut-seen l m w n (bounds closed (ask closed l))));
  }

  pub agrees : (r : Real) (s : State) (l : Later) (m w n : ℕ) → Is r s → Agrees (later l m w n) r s (lent (ask s l) m w n)
  agrees unopened s l m w n k = absurd k
  agrees shut s l m w n k = rw k (agrees-closed shut (λ c d. refl) (λ c d. refl) (λ c d. refl) l m w n)
  agrees (on s') s l m w n k = rw k (agrees_on s' l m w n)
  agrees (off s') s l m w n k = rw k (agrees-closed (off s') (λ c d. refl) (λ c d. refl) (λ c d. refl) l m w n)

  -- the open
  open_any : (s : State) (m w n : ℕ) → number_of s (lent (opening h) m w n) ≡ number closed (open_call h m w)
  unfolding number_of number questions bounds
  open_any s m w n = refl

  pub agrees-open : (s : State) (m w n : ℕ) → Agrees (Public.first m w) unopened s (lent (opening h) m w n)
  unfolding bounds_of next_of told_of act perform fresh bounds refuse sent_command
  agrees-open s m w n = go (number closed (open_call h m w)) refl
    where
      go : (j : ℕ) → number closed (open_call h m w) ≡ j → Agrees (Public.first m w) unopened s (lent (opening h) m w n)
      go zero e = let f = open_any s m w n ∙ e in record {
        legal = λ d. rw (e, f) Iff.rfl;
        next = λ d. rw (e, f);
        tells = λ d. rw (e, f);
      }
      go (suc j) e = let f = open_any s m w n ∙ e in record {
        legal = λ d. rw (e, f, eqb-suc-zero j) Iff.rfl;
        next = λ d. rw (e, f, eqb-suc-zero j);
        tells = λ d. rw (e, f, eqb-suc-zero j);
      }
