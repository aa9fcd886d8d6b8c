-- Steps as the rules say them, and the laws by which they are decided.
use Rattle.std.specs.Prelude.{◌≡◌, Bool, true, false, List, [], ◌∷◌, eqb}
use Rattle.std.proofs.Math.Path.{refl, ap, sym}
use Rattle.std.proofs.Common.{◌∙◌, add-one, eq-eqb, ne_eqb}
use Rattle.std.proofs.Math.Option.{Option, none, some, get_or}
use Prim.Native.Nat.{ℕ, suc, ◌+◌, ◌-◌, ◌≤◌, ◌<◌}
use native.Mathlib.Omega.{arith}
use Rattle.lists.specs.Search.{any, keep, below, count}
use Rattle.rules.specs.State.{State, Request}
use Rattle.rules.specs.Levels.{filled, grown, down}
use Rattle.rules.specs.Jobs.{levels_of, write_at}
use Rattle.rules.specs.Request.{held, released_for}
use Rattle.rules.specs.Reader.{costs, levels_left, slot_read}
use Rattle.rules.specs.Rebuild.{unread}
use Rattle.rules.specs.Turn as Turn
use Rattle.rules.specs.Turn.{request_step, read_step, first_read, job_step, gather_step, rebuild_step, next_write, write_step}
use Rattle.rules.specs.Laws.Bits.{slots_at}
use Rattle.rules.proofs.Laws.Bits.{write-here, write-later, write-none}
use Rattle.memory.specs.Fits.{shape_of, fit}
use Rattle.memory.specs.Tables.{tables_of}
use Rattle.client.specs.declared.Client.{Client}
use Rattle.client.specs.View.{rows, view, state_of}
use Rattle.client.specs.Readings.{hand_of, hand-none, hand-some, hand-held, hand-released}
use Rattle.jobs.specs.declared.Run.{Run}
use Rattle.jobs.specs.Runs.{RunOf, levels-are}
use Rattle.commands.specs.Outstanding.{of_partition}
use Rattle.levels.specs.Next.{NextAt}
use Rattle.reading.specs.Slots.{Reads}
use Rattle.deciding.specs.declared.Step.{Step}
use Rattle.deciding.specs.declared.Step.TheVariants.{Idle, NoDummy, ReadForRequest, ReadForJob, Rebuild, WriteNext}
use Rattle.deciding.specs.declared.Due.{Due}
use Rattle.deciding.specs.declared.Due.TheVariants as due

-- the rules' step, in the state s: a rebuild writes the levels of its run
abbrev pub step_of : State → Step → Turn.Step
step_of s Idle = Turn.idle
step_of s NoDummy = Turn.no_dummy
step_of s (ReadForRequest q l i) = Turn.read_for_request q l i
step_of s (ReadForJob q l i) = Turn.read_for_job q l i
step_of s (Rebuild q) = Turn.rebuild q (levels_of s q)
step_of s (WriteNext q t i) = Turn.write_next q t i

abbrev pub due_of : Due → Option Turn.Step
due_of (due.Read q l i) = some (Turn.read_for_request q l i)
due_of due.NoDummy = some Turn.no_dummy
due_of due.Nothing = none

-- ---- The request in hand
module _ (s : State) where
  held-step : (r : Request) → held r ≡ true → request_step s (some r) ≡ none
  unfolding request_step
  held-step r e = rw e

  free_step : (r : Request) → held r ≡ false → request_step s (some r) ≡ first_read (s.partition r.block) (slot_read s (s.partition r.block) (s.place r.block)) (levels_left s r)
  unfolding request_step
  free_step r e = rw e

module _ (c : Client) (m : List ℕ) where
  abbrev s : State
  s = state_of c m

  abbrev asked : Request
  asked = hand_of c m

  pub request-none : c.request.kind ≡ 0 → request_step s s.request ≡ none
  unfolding request_step
  request-none e = ap (request_step s) (hand-none c m e)

  pub request-held : (c.request.kind ≡ 0 → ⊥) → c.request.found ≡ 0 → request_step s s.request ≡ none
  request-held n e = ap (request_step s) (hand-some c m n) ∙ held-step s asked (hand-held c m e)

  module _ (q : ℕ) (r : Reads c m q) where
    levels-is : s.shape.L ≡ c.shape.l
    unfolding state_of view
    levels-is = refl

    pub request-free : (c.request.found ≡ 0 → ⊥)
        → request_step s s.request ≡ first_read q (slot_read s q (s.place c.request.block)) (keep (costs s q) (count c.request.level (c.shape.l - c.request.level)))
    unfolding levels_left
    request-free e =
        ap (request_step s) (hand-some c m r.some) ∙ free_step s asked (hand-released c m e)
        ∙ ap (λ p. first_read p (slot_read s p (s.place c.request.block)) (keep (costs s p) (count c.request.level (s.shape.L - c.request.level)))) (sym r.partition)
        ∙ ap (λ n. first_read q (slot_read s q (s.place c.request.block)) (keep (costs s q) (count c.request.level (n - c.request.level)))) levels-is

-- the first level that costs a read
module _ (c : Client) (m : List ℕ) (q : ℕ) (slot_of : ℕ → Option ℕ) where
  abbrev left : List ℕ
  left = keep (costs (state_of c m) q) (count c.request.level (c.shape.l - c.request.level))

  pub first-none : left ≡ [] → none ≡ first_read q slot_of left
  unfolding first_read
  first-none e = sym (ap (first_read q slot_of) e)

  pub first-at : (ℓ : ℕ) → NextAt (costs (state_of c m) q) c.shape.l c.request.level ℓ → (o : Option ℕ) → o ≡ slot_of ℓ → some (read_step q ℓ o) ≡ first_read q slot_of left
  unfolding first_read
  first-at ℓ f o g = ap (λ o. some (read_step q ℓ o)) g ∙ sym (ap (first_read q slot_of) f.passes)

-- ---- A look-up in hand
module _ (c : Client) (m : List ℕ) (q : ℕ) where
  abbrev looks : Bool
  looks = released_for (state_of c m).partition (state_of c m).request q

  pub looks-none : c.request.kind ≡ 0 → looks ≡ false
  unfolding released_for
  looks-none e = ap (λ o. released_for (state_of c m).partition o q) (hand-none c m e)

  module _ (n : c.request.kind ≡ 0 → ⊥) where
    pub looks-held : c.request.found ≡ 0 → looks ≡ false
    unfolding released_for
    looks-held e = ap (λ o. released_for (state_of c m).partition o q) (hand-some c m n) ∙ rw (hand-held c m e)

    pub looks-at : (c.request.found ≡ 0 → ⊥) → looks ≡ eqb ((state_of c m).partition c.request.block) q
    unfolding released_for
    looks-at e = ap (λ o. released_for (state_of c m).partition o q) (hand-some c m n) ∙ rw (hand-released c m e)

-- ---- The front job
module _ (s : State) (q : ℕ) (l r : List ℕ) (e : l ≡ q ∷ r) where
  pub job-gathers : s.sent ≡ 0 → job_step s l ≡ gather_step q (unread s q) (rebuild_step s q)
  unfolding job_step
  job-gathers z = ap (job_step s) e ∙ rw (eq-eqb s.sent 0 z)

  pub job-writes : (s.sent ≡ 0 → ⊥) → job_step s l ≡ write_step s q
  unfolding job_step
  job-writes n = ap (job_step s) e ∙ rw (ne_eqb s.sent 0 n)

pub job-none : (c : Client) (m : List ℕ) → c.jobs ≡ 0 → Turn.idle ≡ job_step (state_of c m) (state_of c m).queue
unfolding state_of view rows below count job_step
job-none c m e = ap (λ n. job_step (state_of c m) (rows (λ i. fit c.shape.p ((tables_of (shape_of c.shape) m).queue i)) n)) (sym e)

module _ (s : State) (q : ℕ) where
  pub gather-read : (p : ℕ × ℕ) → some p ≡ unread s q → Turn.read_for_job q p.0 p.1 ≡ gather_step q (unread s q) (rebuild_step s q)
  unfolding gather_step
  gather-read p e = ap (λ o. gather_step q o (rebuild_step s q)) e

  gather-done : none ≡ unread s q → rebuild_step s q ≡ gather_step q (unread s q) (rebuild_step s q)
  unfolding gather_step
  gather-done e = ap (λ o. gather_step q o (rebuild_step s q)) e

  pub gather-waits : none ≡ unread s q → any (of_partition q) s.outstanding ≡ true → Turn.idle ≡ gather_step q (unread s q) (rebuild_step s q)
  unfolding rebuild_step
  gather-waits e b = sym (rw b) ∙ gather-done e

  pub gather-stays : none ≡ unread s q → any (of_partition q) s.outstanding ≡ false → released_for s.partition s.request q ≡ true → Turn.idle ≡ gather_step q (unread s q) (rebuild_step s q)
  unfolding rebuild_step
  gather-stays e b k = sym (rw (b, k)) ∙ gather-done e

  pub gather-rebuilds : none ≡ unread s q → any (of_partition q) s.outstanding ≡ false → released_for s.partition s.request q ≡ false
      → Turn.rebuild q (levels_of s q) ≡ gather_step q (unread s q) (rebuild_step s q)
  unfolding rebuild_step
  gather-rebuilds e b k = sym (rw (b, k)) ∙ gather-done e

-- ---- The job's writes

-- write number i₀ of the levels below l₀ is write number i of those below l
abbrev pub Passed : ℕ → ℕ → ℕ → ℕ → ℕ → Type 0
Passed next l₀ i₀ l i = write_at (keep (filled next) (down l₀)) i₀ ≡ write_at (keep (filled next) (down l)) i

pub passed-more : (next l₀ i₀ l i n : ℕ) → 0 < l → n ≡ slots_at next (l - 1) → n ≤ i → Passed next l₀ i₀ l i → Passed next l₀ i₀ (l - 1) (i - n)
passed-more next l₀ i₀ l i n s e k w =
    let z : l ≡ suc (l - 1) = omega arith in
    w ∙ ap (λ x. write_at (keep (filled next) (down x)) i) z ∙ write-later next (l - 1) i (rw e at k) ∙ ap (λ x. write_at (keep (filled next) (down (l - 1))) (i - x)) (sym e)

module _ (c : Client) (m : List ℕ) (q : ℕ) (r : Run) (next : ℕ) (f : RunOf c m q r) (g : next ≡ grown (shape_of c.shape) r.counter r.joined) where
  writes_are : write_step (state_of c m) q ≡ next_write q (write_at (keep (filled next) (down (r.top + 1))) c.sent)
  unfolding write_step state_of view
  writes_are = ap (λ ls. next_write q (write_at ls c.sent)) (levels-are c m q r next f g ∙ ap (λ n. keep (filled next) (down n)) (sym (add-one r.top)))

  pub write-next : (l i n : ℕ) → 0 < l → n ≡ slots_at next (l - 1) → i < n → Passed next (r.top + 1) c.sent l i → Turn.write_next q (l - 1) i ≡ write_step (state_of c m) q
  unfolding next_write
  write-next l i n s e k w =
      let z : l ≡ suc (l - 1) = omega arith in
      sym (writes_are ∙ ap (next_write q) (w ∙ ap (λ x. write_at (keep (filled next) (down x)) i) z ∙ write-here next (l - 1) i (rw e at k)))

  pub write-ends : (l i : ℕ) → l ≡ 0 → Passed next (r.top + 1) c.sent l i → Turn.idle ≡ write_step (state_of c m) q
  unfolding next_write
  write-ends l i z w = sym (writes_are ∙ ap (next_write q) (w ∙ ap (λ x. write_at (keep (filled next) (down x)) i) z ∙ write-none next i))

-- a request's reads go before a job's commands
pub decided : (s : State) (o : Option Turn.Step) → o ≡ request_step s s.request → get_or o (job_step s s.queue) ≡ Turn.decide s
unfolding Turn.decide
decided s o e = ap (λ x. get_or x (job_step s s.queue)) e
