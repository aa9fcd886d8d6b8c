-- One call of two runs, over a cache of n places and over a smaller one of e: the answers are equal but for a form, or the second answers 8.
use Rattle.std.specs.Prelude.{◌≡◌, Bool, true, false, ℕ, zero, suc, ◌≤◌, leb}
use Rattle.std.proofs.Math.Path.{refl}
use Rattle.std.proofs.Common.{ap, sym, ◌∙◌, subst, true≢false}
use mathlib.Core.List.{List, []}
use Rattle.std.proofs.Math.Option.{Option}
use Rattle.std.proofs.Math.Decide.{ℕ_discrete}
use Rattle.rules.specs.Draws.{Drawn, draws}
use Rattle.rules.specs.Form.Loading.{loaded_form, orders_of}
use Rattle.rules.specs.Form.Longest.{longest, longest_payload}
use Rattle.rules.specs.Form.Numbers.{form_of}
use Rattle.rules.specs.Form.Payload.{saved_form, order_slots, read_marks}
use Rattle.rules.specs.Laws.Answers.{opens}
use Rattle.rules.proofs.Laws.Answers.{step-number, accepted-passed, step-accepted, step-refused, refuse-keeps}
use Rattle.rules.proofs.Laws.Form.Back.{contents_of, orders_in, saved-back}
use Rattle.rules.specs.Laws.Form.Saveable.{Saveable, over}
use Rattle.rules.specs.Memory
use Rattle.rules.specs.Questions.{Ask, opening, request, turn, completion, collect, Call, bounds, number, save, load, at_rest}
use Rattle.rules.specs.Run
use Rattle.rules.specs.Run.{Outcome, act, step}
use Rattle.rules.specs.Shape.{cell}
use Rattle.rules.specs.State.{State, closed}
use Rattle.reachable.specs.Invariant.{Reached}
use Rattle.reachable.proofs.Reached.{live, save-passed}
use Rattle.reachable.proofs.Resumed.{accepted-reached}
use Rattle.reachable.proofs.Saved.{Rests, rest-facts, saveable, loaded-kept}
use Rattle.hiding.specs.Claim.{without_form}
use Rattle.hiding.specs.Machines.Public
use Rattle.hiding.specs.Machines.Public.{saving, saved, save_p}
use Rattle.hiding.specs.Lists.Fixed
use Rattle.hiding.specs.Lists.Fixed.{Listing, ask_in}
use Rattle.hiding.proofs.Lists.Saves.{save-stays}
use Rattle.hiding.proofs.Lists.Reloads.{call, save-asks, save-outcome, reloaded, reload-step}
use Rattle.hiding.proofs.Lists.Bytes.{NoForm}
use Rattle.hiding.proofs.Lists.Matched.{IsLater}
use Rattle.hiding.proofs.Cache.Fits.{Fits, act-fits}
use Rattle.hiding.proofs.Cache.Over.{with_e, bounds-E, act-E, sent_command-E, handed-E, handed_found-E, questions-E, first_no-looser}

act-E' : (e : ℕ) (s : State) (a : Ask) (js : List ℕ) → opens a ≡ false → act (with_e e s) a js ≡ with_e e (act s a js)
unfolding opens
act-E' e s (opening h) js o = absurd (true≢false o)
act-E' e s (request k b bs) js o = act-E e s (request k b bs) js
act-E' e s turn js o = act-E e s turn js
act-E' e s (completion c bs) js o = act-E e s (completion c bs) js
act-E' e s collect js o = act-E e s collect js
act-E' e s save js o = act-E e s save js
act-E' e s (load form) js o = absurd (true≢false o)

accepted-E : (e : ℕ) (s : State) (a : Ask) (d : Option Drawn) → opens a ≡ false → NoForm a
    → Run.accepted (with_e e s) a d ≡ (with_e e (act s a (Run.numbers_of d)), (Run.accepted s a d).1)
unfolding Run.accepted
accepted-E e s a d o v = rw (act-E' e s a (Run.numbers_of d) o, sent_command-E e s a, handed-E e s (act s a (Run.numbers_of d)) a v, handed_found-E e s a)

-- ---- One call of both runs

-- c is over n places, d over e. The second answers 8; or the answers are equal but for a form, and both leave one state over their caches, or a closed one
pub data Both (e n : ℕ) (s : State) (c d : Call) : Type 0 where
  eight : (step (with_e e s) d).1.number ≡ 8 → Both e n s c d
  onward : without_form c.ask (step (with_e n s) c).1 ≡ without_form d.ask (step (with_e e s) d).1 → (s' : State) → (step (with_e n s) c).0 ≡ with_e n s' → (step (with_e e s) d).0 ≡ with_e e s'
      → Fits e n s' → Reached (with_e n s') → Reached (with_e e s') → Both e n s c d
  closing : without_form c.ask (step (with_e n s) c).1 ≡ without_form d.ask (step (with_e e s) d).1 → (step (with_e n s) c).0 ≡ closed → (step (with_e e s) d).0 ≡ closed → Both e n s c d

save-E : (i j : ℕ) (s : State) (m n : ℕ) → save_p (with_e i s) m n ≡ save_p (with_e j s) m n
unfolding save_p at_rest Memory.needed longest longest_payload form_of
save-E i j s m n = refl

module _ (e n : ℕ) (le : e ≤ n) (he : 1 ≤ e) (s : State) (f : Fits e n s) (rn : Reached (with_e n s)) (re : Reached (with_e e s)) (m : ℕ) (ws : List ℕ) (k : ℕ) where
  -- a call without a form is the same in both
  module _ (a : Ask) (o : opens a ≡ false) (v : NoForm a) where
    abbrev c : Call
    c = call a m ws k

    abbrev d : Option Drawn
    d = draws (bounds s a) ws

    number-E : (number (with_e e s) c ≡ 8 → ⊥) → number (with_e n s) c ≡ number (with_e e s) c
    unfolding number
    number-E h = first_no-looser (questions-E e n s le he f.room f.waits a m ws k o v) h

    accepted-one : (i : ℕ) → number (with_e i s) c ≡ 0 → step (with_e i s) c ≡ (with_e i (act s a (Run.numbers_of d)), (Run.accepted s a d).1)
    accepted-one i h = step-accepted (with_e i s) c h ∙ rw (bounds-E i s a) (accepted-E i s a d o v)

    reached-one : (i : ℕ) → Reached (with_e i s) → (h : number (with_e i s) c ≡ 0) → Reached (with_e i (act s a (Run.numbers_of d)))
    reached-one i r h = subst Reached (ap (λ (x : State × Outcome). x.0) (sym (step-accepted (with_e i s) c h) ∙ accepted-one i h)) (accepted-reached (with_e i s) r c o h)

    refused-one : (i : ℕ) → (number (with_e i s) c ≡ 0 → ⊥) → step (with_e i s) c ≡ (with_e i s, Run.refused (number (with_e i s) c))
    refused-one i h = step-refused (with_e i s) c h ∙ rw (refuse-keeps (with_e i s) a o)

    both-plain : Both e n s c c
    both-plain = go (ℕ_discrete (number (with_e e s) c) 8) (ℕ_discrete (number (with_e e s) c) 0)
      where
        accepted : number (with_e e s) c ≡ 0 → number (with_e n s) c ≡ 0 → Both e n s c c
        accepted z x = onward (ap (λ (r : State × Outcome). without_form a r.1) (accepted-one n x) ∙ sym (ap (λ (r : State × Outcome). without_form a r.1) (accepted-one e z)))
            (act s a (Run.numbers_of d)) (ap (λ (r : State × Outcome). r.0) (accepted-one n x)) (ap (λ (r : State × Outcome). r.0) (accepted-one e z))
            (act-fits e n s f a m ws k (Run.numbers_of d) o (accepted-passed (with_e e s) c z)) (reached-one n rn x) (reached-one e re z)

        none : ¬ (number (with_e e s) c ≡ 0) → number (with_e n s) c ≡ number (with_e e s) c → Both e n s c c
        none z x =
            let y : ¬ (number (with_e n s) c ≡ 0) = λ i. z (sym x ∙ i) in
            onward (ap (λ (r : State × Outcome). without_form a r.1) (refused-one n y) ∙ ap (λ i. without_form a (Run.refused i)) x ∙ sym (ap (λ (r : State × Outcome). without_form a r.1) (refused-one e z)))
            s (ap (λ (r : State × Outcome). r.0) (refused-one n y)) (ap (λ (r : State × Outcome). r.0) (refused-one e z)) f rn re

        go : Dec (number (with_e e s) c ≡ 8) → Dec (number (with_e e s) c ≡ 0) → Both e n s c c
        go (yes z) x = eight (step-number (with_e e s) c ∙ z)
        go (no z) (yes x) = accepted x (number-E z ∙ x)
        go (no z) (no x) = none x (number-E z)

  -- a save leaves both as they are
  save-same : (m : ℕ) (ws : List ℕ) (k : ℕ) → number (with_e n s) (call save m ws k) ≡ number (with_e e s) (call save m ws k)
  save-same m ws k = save-asks (with_e n s) rn m ws k ∙ save-E n e s m k ∙ sym (save-asks (with_e e s) re m ws k)

  both-save : Both e n s (call save m ws k) (call save m ws k)
  both-save =
      onward (save-outcome (with_e n s) m ws k ∙ ap Run.refused (save-same m ws k) ∙ sym (save-outcome (with_e e s) m ws k))
      s (save-stays (with_e n s) (call save m ws k) refl) (save-stays (with_e e s) (call save m ws k) refl) f rn re

  -- what both have saved brings the same state, over their caches
  module _ (rest : at_rest s ≡ true) where
    rests : (i : ℕ) → Rests (with_e i s)
    unfolding at_rest
    rests i = rest-facts (with_e i s) rest

    abbrev large : Saveable (with_e n s)
    large = saveable (with_e n s) rn (rests n)

    abbrev loaded : State
    loaded = over (contents_of (with_e n s) large) (orders_in (with_e n s) large) s

    large-loaded : loaded_form (saved_form (with_e n s)) ≡ with_e n loaded
    large-loaded = saved-back (with_e n s) large

    small-loaded : loaded_form (saved_form (with_e e s)) ≡ with_e e loaded
    unfolding orders_of order_slots read_marks cell
    small-loaded = saved-back (with_e e s) (saveable (with_e e s) re (rests e))

    large-kept : Reached (with_e n loaded)
    large-kept = loaded-kept (with_e n s) rn (rests n)

    small-kept : Reached (with_e e loaded)
    small-kept = subst Reached (sym (saved-back (with_e e s) (saveable (with_e e s) re (rests e))) ∙ small-loaded) (loaded-kept (with_e e s) re (rests e))

    loaded-fits : Fits e n loaded
    loaded-fits = record { room = f.room; waits = f.waits }

  both-reload : (m₀ n₀ : ℕ) → Both e n s (call (load (saved (with_e n s) m₀ n₀)) m ws k) (call (load (saved (with_e e s) m₀ n₀)) m ws k)
  both-reload m₀ n₀ = go (number (with_e n s) (saving m₀ n₀)) refl (leb (Memory.needed s.shape) m) refl
    where
      rested : number (with_e n s) (saving m₀ n₀) ≡ 0 → at_rest s ≡ true
      rested z = unfold at_rest in (save-passed (with_e n s) save m₀ [] n₀ refl (accepted-passed (with_e n s) (saving m₀ n₀) z)).1

      memory : (i : ℕ) → leb (Memory.needed (with_e i s).shape) m ≡ leb (Memory.needed s.shape) m
      memory i = unfold Memory.needed in refl

      go : (j : ℕ) → number (with_e n s) (saving m₀ n₀) ≡ j → (b : Bool) → leb (Memory.needed s.shape) m ≡ b →
          Both e n s (call (load (saved (with_e n s) m₀ n₀)) m ws k) (call (load (saved (with_e e s) m₀ n₀)) m ws k)
      go j z b q = by j z b (reload-step (with_e n s) (live rn) m₀ n₀ m ws k j z b (memory n ∙ q))
          (reload-step (with_e e s) (live re) m₀ n₀ m ws k j (sym (save-same m₀ [] n₀) ∙ z) b (memory e ∙ q))
        where
          by : (j : ℕ) → number (with_e n s) (saving m₀ n₀) ≡ j → (b : Bool) → step (with_e n s) (call (load (saved (with_e n s) m₀ n₀)) m ws k) ≡ reloaded j b (with_e n s) →
              step (with_e e s) (call (load (saved (with_e e s) m₀ n₀)) m ws k) ≡ reloaded j b (with_e e s) →
              Both e n s (call (load (saved (with_e n s) m₀ n₀)) m ws k) (call (load (saved (with_e e s) m₀ n₀)) m ws k)
          by (suc j) z b x y = closing (ap (λ (r : State × Outcome). r.1) x ∙ sym (ap (λ (r : State × Outcome). r.1) y)) (ap (λ (r : State × Outcome). r.0) x) (ap (λ (r : State × Outcome). r.0) y)
          by zero z false x y = closing (ap (λ (r : State × Outcome). r.1) x ∙ sym (ap (λ (r : State × Outcome). r.1) y)) (ap (λ (r : State × Outcome). r.0) x) (ap (λ (r : State × Outcome). r.0) y)
          by zero z true x y =
              let r = rested z in
              onward (ap (λ (r : State × Outcome). r.1) x ∙ sym (ap (λ (r : State × Outcome). r.1) y))
              (loaded r) (ap (λ (r : State × Outcome). r.0) x ∙ large-loaded r) (ap (λ (r : State × Outcome). r.0) y ∙ small-loaded r) (loaded-fits r) (large-kept r) (small-kept r)

  pub both : (x : Listing) → IsLater x → Both e n s (call (ask_in (with_e n s) x) m ws k) (call (ask_in (with_e e s) x) m ws k)
  unfolding opens
  both (Fixed.opens h) i = absurd i
  both (Fixed.later (Public.later-request j b bs)) i = both-plain (request j b bs) refl tt
  both (Fixed.later Public.later-turn) i = both-plain turn refl tt
  both (Fixed.later (Public.later-completion c bs)) i = both-plain (completion c bs) refl tt
  both (Fixed.later Public.later-collect) i = both-plain collect refl tt
  both (Fixed.later Public.later-save) i = both-save
  both (Fixed.later (Public.later-reload m₀ n₀)) i = both-reload m₀ n₀
