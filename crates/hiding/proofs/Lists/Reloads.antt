-- A save, and a load of what it has written, in a state that calls left: what they answer follows from memory and buffer, and from whether the state
-- is at rest; what the load brings is the state, but for contents of blocks that do not wait and orders of levels that are not filled.
use Rattle.std.specs.Prelude.{◌≡◌, Bool, true, false, ◌&&◌, leb, length, if◌then◌else◌}
use Rattle.std.proofs.Math.Path.{refl, sym}
use Rattle.std.proofs.Common.{ap, ◌∙◌, arith, le-leb, leb-true}
use mathlib.Core.List.{List, [], ◌∷◌}
use Prim.Native.Nat.{ℕ, zero, suc}
use Rattle.std.proofs.Math.Decide.{ℕ_discrete}
use Rattle.lists.specs.Tests.{and_r}
use Rattle.rules.specs.Draws.{draws}
use Rattle.rules.specs.Form.Loading.{loads, loaded_form}
use Rattle.rules.specs.Form.Longest.{longest}
use Rattle.rules.specs.Form.Payload.{saved_form}
use Rattle.rules.specs.Form.Sums.{summed}
use Rattle.rules.proofs.Laws.Answers.{accepted-passed, step-accepted, step-refused}
use Rattle.rules.proofs.Laws.Asked.{loaded-idle}
use Rattle.rules.proofs.Laws.Form.Back.{saved-back, saved-summed, saved-loads}
use Rattle.rules.proofs.Laws.Form.Fits.{form-fits}
use Rattle.rules.specs.Laws.Form.Saveable.{Saveable}
use Rattle.rules.proofs.Laws.Released.{release-none}
use Rattle.rules.specs.Memory.{needed}
use Rattle.rules.specs.Questions.{Ask, save, load, Call, bounds, number, questions, first_no, ready, at_rest}
use Rattle.rules.specs.Run
use Rattle.rules.specs.Run.{Outcome, act, step, refused}
use Rattle.rules.specs.State.{State, closed, cmd, found_nowhere}
use Rattle.reachable.specs.Invariant.{Reached}
use Rattle.reachable.proofs.Reached.{Was, ready-memory, save-passed, was-reached}
use Rattle.reachable.proofs.Saved.{rest-facts, saveable}
use Rattle.hiding.specs.Claim.{without_form}
use Rattle.hiding.proofs.Lists.Saves.{saved-yes, saved-no}
use Rattle.hiding.specs.Machines.Public.{saving, saved, save_p}
use Rattle.hiding.proofs.Orders.Number.{no-last-two}

abbrev pub call : Ask → ℕ → List ℕ → ℕ → Call
call a m ws n = record { ask = a; memory = m; words = ws; buffer = n }

-- ---- a save

-- no form is longer than the buffer that is asked for
pub save-asks : (s : State) → Reached s → (m : ℕ) (ws : List ℕ) (n : ℕ) → number s (call save m ws n) ≡ save_p s m n
unfolding number questions save_p
save-asks s f m ws n = rw (ready-memory s m f) (no-last-two _ (at_rest s) _ room)
  where
    room : (leb (needed s.shape) m && leb (longest s.shape) n) ≡ true → leb (length (saved_form s)) n ≡ true
    room e =
        let l = leb-true (longest s.shape) n (and_r (leb (needed s.shape) m) (leb (longest s.shape) n) e) in
        le-leb (length (saved_form s)) n (omega (arith, l, form-fits s f.range f.waiting.once (λ b k. f.tidy.whole b)))

-- what it answers, but for the bytes of the form
pub save-outcome : (s : State) (m : ℕ) (ws : List ℕ) (n : ℕ) → without_form save (step s (call save m ws n)).1 ≡ refused (number s (call save m ws n))
unfolding Run.accepted bounds draws Run.taken_of Run.sent_command Run.handed_found refused
save-outcome s m ws n = go (ℕ_discrete (number s (call save m ws n)) 0)
  where
    go : Dec (number s (call save m ws n) ≡ 0) → without_form save (step s (call save m ws n)).1 ≡ refused (number s (call save m ws n))
    go (yes z) = ap (λ (r : State × Outcome). without_form save r.1) (step-accepted s (call save m ws n) z) ∙ ap refused (sym z)
    go (no z) = ap (λ (r : State × Outcome). without_form save r.1) (step-refused s (call save m ws n) z)

-- ---- a load of what it has written

-- what an accepted load answers
abbrev pub loaded_outcome : Outcome
loaded_outcome = record { number = 0; taken = 0; command = cmd 0 0 0 0; bytes = []; found = found_nowhere }

-- by the number of the save, and whether the memory is long enough
abbrev pub reloaded : ℕ → Bool → State → State × Outcome
reloaded zero true s = (loaded_form (saved_form s), loaded_outcome)
reloaded zero false s = (closed, refused 2)
reloaded (suc n) b s = (closed, refused 17)

load_asks : (u : State) (form : List ℕ) (m : ℕ) (ws : List ℕ) (n : ℕ) → number u (call (load form) m ws n) ≡ first_no ((summed form, 17) ∷ (loads form, 18) ∷ (leb (needed (loaded_form form).shape) m, 2) ∷ [])
unfolding number questions
load_asks u form m ws n = refl

load_does : (u : State) (form : List ℕ) (m : ℕ) (ws : List ℕ) (n : ℕ) → number u (call (load form) m ws n) ≡ 0 → step u (call (load form) m ws n) ≡ (loaded_form form, loaded_outcome)
unfolding Run.accepted bounds draws Run.taken_of Run.sent_command Run.handed Run.handed_found act Run.perform
load_does u form m ws n z = step-accepted u (call (load form) m ws n) z ∙ ap (λ (x : State). (x, loaded_outcome)) (release-none (loaded_form form) (loaded-idle form))

load-shuts : (u : State) (form : List ℕ) (m : ℕ) (ws : List ℕ) (n j : ℕ) → number u (call (load form) m ws n) ≡ suc j → step u (call (load form) m ws n) ≡ (closed, refused (suc j))
unfolding Run.refuse
load-shuts u form m ws n j z = step-refused u (call (load form) m ws n) (λ v. omega (arith, sym z ∙ v)) ∙ ap (λ i. (closed, refused i)) z

module _ (s : State) (l : Was s) (m₀ n₀ m : ℕ) (ws : List ℕ) (n : ℕ) where
  pub reload-step : (j : ℕ) → number s (saving m₀ n₀) ≡ j → (b : Bool) → leb (needed s.shape) m ≡ b → step s (call (load (saved s m₀ n₀)) m ws n) ≡ reloaded j b s
  unfolding first_no
  reload-step (suc j) e b q =
      let form : saved s m₀ n₀ ≡ [] = saved-no s m₀ n₀ (λ v. omega (arith, sym e ∙ v)) in
      rw form (load-shuts s [] m ws n 16 (load_asks s [] m ws n ∙ (unfold summed in refl)))
  reload-step zero e b q = rw (saved-yes s m₀ n₀ e) (go b q)
    where
      p : (ready s m₀ ≡ true) × (at_rest s ≡ true)
      p = save-passed s save m₀ [] n₀ refl (accepted-passed s (saving m₀ n₀) e)

      k : Saveable s
      k = saveable s (was-reached s m₀ l p.0) (rest-facts s p.1)

      asks : (b : Bool) → leb (needed s.shape) m ≡ b → number s (call (load (saved_form s)) m ws n) ≡ (if b then 0 else 2)
      asks b q =
          load_asks s (saved_form s) m ws n
          ∙ (rw (saved-summed s k, saved-loads s k, ap (λ (x : State). x.shape) (saved-back s k), q))

      go : (b : Bool) → leb (needed s.shape) m ≡ b → step s (call (load (saved_form s)) m ws n) ≡ reloaded zero b s
      go true q = load_does s (saved_form s) m ws n (asks true q)
      go false q = load-shuts s (saved_form s) m ws n 1 (asks false q)
