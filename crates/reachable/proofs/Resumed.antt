-- Document 02, P5: "Loading a saved state brings that state back". The state that a load of its form brings differs from it only in what no call
-- reads: every list of calls has the same outcomes from either (`resumed`).
use Rattle.std.specs.Prelude.{◌≡◌, ◌⊎◌, Bool, true, false, ◌&&◌, leb, length}
use Rattle.std.proofs.Math.Path.{refl, ap, sym}
use Rattle.std.proofs.Common.{◌∙◌, subst, inl, inr, ⊎_elim, true≢false, arith}
use mathlib.Core.List.{List, [], ◌∷◌}
use Rattle.std.proofs.Math.Option.{Option, none, some}
use Prim.Native.Nat.{ℕ, ◌≤◌, ◌<◌}
use Rattle.std.proofs.Math.Decide.{ℕ_discrete}
use borrow.Author.Tests.{le-leb, leb-false, leb-true}
use Rattle.rules.proofs.Laws.Form.Fits.{form-fits}
use Rattle.rules.specs.Form.Longest.{longest}
use Rattle.rules.specs.Memory.{needed}
use Rattle.lists.specs.Tables.{put}
use Rattle.lists.specs.Tests.{and_r}
use Rattle.rules.specs.Collect
use Rattle.rules.specs.Collect.{finished}
use Rattle.rules.specs.Draws.{Drawn, draws, Drew}
use Rattle.rules.specs.Form.Loading.{loaded_form}
use Rattle.rules.specs.Form.Payload.{saved_form}
use Rattle.rules.specs.Laws.Answers.{opens}
use Rattle.rules.proofs.Laws.Answers.{Passed, accepted-passed, step-accepted, step-refused, refuse-keeps, opens-first}
use Rattle.rules.proofs.Laws.Released.{written-release}
use Rattle.rules.proofs.Laws.Decided.{decide-in, step_bounds-pos}
use Rattle.rules.proofs.Laws.Form.Back.{contents_of, orders_in, agrees, saved-back, saved-summed, saved-loads}
use Rattle.rules.specs.Laws.Form.Saveable.{over, Saveable}
use Rattle.rules.proofs.Laws.Kept.{drew-of}
use Rattle.rules.specs.Levels.{filled}
use Rattle.rules.specs.Questions
use Rattle.rules.specs.Questions.{Ask, opening, request, turn, completion, collect, save, load, Call, questions, bounds, number, first_no}
use Rattle.rules.specs.Request.{accept}
use Rattle.rules.specs.Run
use Rattle.rules.specs.Run.{Outcome, act, step, run}
use Rattle.rules.specs.Request
use Rattle.rules.specs.State.{State, cmd, Request, closed, found_nowhere}
use Rattle.rules.specs.Turn
use Rattle.rules.specs.Turn.{Step, decide, command, do_step}
use Rattle.reachable.proofs.Decided.{decided}
use Rattle.reachable.specs.Invariant.{Reached}
use Rattle.reachable.proofs.LastSaved.{save-writes, load-brings}
use Rattle.reachable.specs.Live
use Rattle.reachable.specs.Live.{counted}
use Rattle.reachable.proofs.Live.{counted-calm}
use Rattle.reachable.proofs.Reached.{Was, live, accepted-kept, brings-other, save-passed, was-reached, reachable, performed-kept, shut, ready-memory}
use Rattle.reachable.proofs.SameCalls.{given, step-orders, written_same, turn-written, complete-same, contents-same, collect-over, collect-same}
use Rattle.reachable.specs.Same.{Same}
use Rattle.reachable.proofs.Same.{decide-same, form-same, number_same, orders_after, step-over, release-over}
use Rattle.reachable.proofs.Saved.{Rests, rest-facts, saveable, loaded-kept}
use Rattle.reachable.specs.Terms.{CallsLeft}
use Rattle.reachable.specs.Values.{Values}
use Rattle.reachable.proofs.Values.{turn-values}

-- ---- Every call

-- Two states that are equal, or differ only in what no call reads
pub data Alike (s t : State) : Type 0 where
  equal : s ≡ t → Alike s t
  apart : Reached s → (y : ℕ → List ℕ) (o : ℕ → ℕ) → Reached (over y o s) → t ≡ over y o s → Same s y o → Alike s t

-- what an accepted call leaves of two such states, and what it answers
record Follows (s s' t t' : State) (x x' : Outcome) : Type 0 where
  pub bytes : ℕ → List ℕ
  pub orders : ℕ → ℕ
  pub state : t' ≡ over bytes orders s'
  pub answer : x' ≡ x
  pub same : Same s' bytes orders

module _ (s : State) (f : Reached s) (y : ℕ → List ℕ) (o : ℕ → ℕ) (g : Reached (over y o s)) (k : Same s y o) (m : ℕ) (ws : List ℕ) (n : ℕ) where
  abbrev t : State
  t = over y o s

  abbrev done : State → Ask → State × Outcome
  done u a = Run.accepted u a (draws (bounds u a) ws)

  -- ..before a request is released
  abbrev does : State → Ask → State
  does u a = Run.perform u a (Run.numbers_of (draws (bounds u a) ws))

  -- a request is released alike
  released : (s' t' : State) (x x' : Outcome) → Follows s s' t t' x x' → Follows s (Request.release s') t (Request.release t') x x'
  unfolding counted Live.drawn
  released s' t' x x' d = record {
    bytes = d.bytes;
    orders = d.orders;
    state = ap Request.release d.state ∙ release-over s' d.bytes d.orders;
    answer = d.answer;
    same = record { values = record { waiting = d.same.values.waiting; drawn = d.same.values.drawn; known = d.same.values.known }; orders = d.same.orders };
  }

  turn-follows : Passed (questions s turn m ws n) → Follows s (does s turn) t (does t turn) (done s turn).1 (done t turn).1
  unfolding Run.accepted act Run.perform bounds Run.sent_command Run.handed Run.handed_found questions
  turn-follows p = record {
    bytes = y;
    orders = orders_after (decide s) js s o;
    state = ap (λ x. do_step x (Run.numbers_of (draws (Turn.step_bounds x) ws)) t) (decide-same s f y o g k) ∙ step-over (decide s) js s y o;
    answer = ap answered (decide-same s f y o g k) ∙ ap outcome (written-release (do_step (decide s) js t) (command (decide s))
        ∙ ap (λ z. Run.written z (command (decide s))) (step-over (decide s) js s y o)
        ∙ written_same s' y (orders_after (decide s) js s o) (command (decide s)) (turn-written s f (decide s) js (decided s) (decide-in s f.range) f' y v)
        ∙ sym (written-release s' (command (decide s))));
    same = record { values = v; orders = unfold do_step in (step-orders s f y o k (decide s) js (decided s) drew) };
  }
    where
      js : List ℕ
      js = Run.numbers_of (draws (Turn.step_bounds (decide s)) ws)

      s' : State
      s' = do_step (decide s) js s

      outcome : List ℕ → Outcome
      outcome bs = record { number = 0; taken = Run.taken_of (draws (Turn.step_bounds (decide s)) ws); command = command (decide s); bytes = bs; found = found_nowhere }

      answered : Step → Outcome
      answered x = record { number = 0; taken = Run.taken_of (draws (Turn.step_bounds x) ws); command = command x; bytes = Run.written (Request.release (do_step x (Run.numbers_of (draws (Turn.step_bounds x) ws)) t)) (command x); found = found_nowhere }

      drew : Drew (Turn.step_bounds (decide s)) js
      drew = drew-of (Turn.step_bounds (decide s)) ws (step_bounds-pos (decide s)) p.1.1.1.1.0

      f' : Reached s'
      f' = unfold Run.perform bounds in (performed-kept s turn m ws n (live f) p tt)

      v : Values s' y
      v = turn-values s f y k.values (decide s) js (decided s) (decide-in s f.range) drew f'

  collect-follows : (r : Option Request) → s.request ≡ r → Questions.in_hand (finished s) r ≡ true → (d : Option Drawn)
      → Follows s (Collect.collected r s) t (Collect.collected r t)
      (record { number = 0; taken = Run.taken_of d; command = cmd 0 0 0 0; bytes = Collect.answer s r; found = Collect.carried r }) (record { number = 0; taken = Run.taken_of d; command = cmd 0 0 0 0; bytes = Collect.answer t r; found = Collect.carried r })
  unfolding Questions.in_hand Collect.collected Collect.answer
  collect-follows none e z d = absurd (true≢false (sym z))
  collect-follows (some r) e z d = record {
    bytes = put r.block (given s f y o k r e z) y;
    orders = o;
    state = collect-over s f y o k r e z;
    answer = ap (λ bs. record { number = 0; taken = Run.taken_of d; command = cmd 0 0 0 0; bytes = bs; found = Collect.carried (some r) }) (contents-same s f y o k r e z);
    same = collect-same s f y o k r e z;
  }

  perform-follows : (a : Ask) → opens a ≡ false → Passed (questions s a m ws n) → Follows s (does s a) t (does t a) (done s a).1 (done t a).1
  unfolding opens
  perform-follows (opening h) e p = absurd (true≢false e)
  perform-follows (request j b bs) e p = unfold Run.accepted act Run.perform bounds Run.sent_command Run.handed Run.handed_found accept counted Live.drawn in (record {
    bytes = y;
    orders = o;
    state = refl;
    answer = refl;
    same = record { values = record { waiting = k.values.waiting; drawn = k.values.drawn; known = k.values.known }; orders = k.orders };
  })
  perform-follows turn e p = turn-follows p
  perform-follows (completion c bs) e p = unfold Run.accepted act Run.perform bounds Run.sent_command Run.handed Run.handed_found in (
      let x = complete-same s f y o k c bs in record { bytes = x.0; orders = o; state = x.1.0; answer = refl; same = x.1.1 })
  perform-follows collect e p = unfold Run.accepted act Run.perform bounds Run.sent_command Run.handed Run.handed_found questions in (collect-follows s.request refl p.1.1.0 (draws [] ws))
  perform-follows save e p = unfold Run.accepted act Run.perform bounds Run.sent_command Run.handed Run.handed_found questions in (record {
    bytes = y;
    orders = o;
    state = refl;
    answer = ap (λ x. record { number = 0; taken = Run.taken_of (draws [] ws); command = cmd 0 0 0 0; bytes = x; found = found_nowhere }) (form-same s f y o g k (f.unbegun (rest-facts s p.1.0).unbegun).1);
    same = k;
  })
  perform-follows (load form) e p = absurd (true≢false e)

  call-follows : (a : Ask) → opens a ≡ false → Passed (questions s a m ws n) → Follows s (done s a).0 t (done t a).0 (done s a).1 (done t a).1
  unfolding Run.accepted act
  call-follows a e p = released (does s a) (does t a) (done s a).1 (done t a).1 (perform-follows a e p)

pub accepted-reached : (s : State) → Reached s → (c : Call) → opens c.ask ≡ false → number s c ≡ 0 → Reached (Run.accepted s c.ask (draws (bounds s c.ask) c.words)).0
unfolding Run.accepted
accepted-reached s f c z n = accepted-kept s c.ask c.memory c.words c.buffer (live f) (accepted-passed s c n) (brings-other c.ask z)

-- Every call has the same outcome in both, and leaves two such states again
pub alike-step : (s t : State) → Alike s t → (c : Call) → ((step s c).1 ≡ (step t c).1) × Alike (step s c).0 (step t c).0
alike-step s t (equal e) c = (ap (λ u. (step u c).1) e, equal (ap (λ u. (step u c).0) e))
alike-step s t (apart f y o g e k) c = rw e (go (opens c.ask) refl)
  where
    u : State
    u = over y o s

    numbers : opens c.ask ≡ false → number u c ≡ number s c
    numbers z = number_same s f y o g k c z

    accepts : opens c.ask ≡ false → number s c ≡ 0 → ((step s c).1 ≡ (step u c).1) × Alike (step s c).0 (step u c).0
    accepts z n =
        let n' : number u c ≡ 0 = numbers z ∙ n in
        let p = accepted-passed s c n in
        let x = call-follows s f y o g k c.memory c.words c.buffer c.ask z p in
        let f' = accepted-reached s f c z n in
        let g' = accepted-reached u g c z n' in
        rw (step-accepted s c n, step-accepted u c n') (sym x.answer, apart f' x.bytes x.orders (subst Reached x.state g') x.state x.same)

    refuses : opens c.ask ≡ false → ¬ (number s c ≡ 0) → ((step s c).1 ≡ (step u c).1) × Alike (step s c).0 (step u c).0
    refuses z n =
        rw (step-refused s c n, step-refused u c (λ w. n (sym (numbers z) ∙ w)), numbers z, refuse-keeps s c.ask z, refuse-keeps u c.ask z) (refl, apart f y o g refl k)

    go : (b : Bool) → opens c.ask ≡ b → ((step s c).1 ≡ (step u c).1) × Alike (step s c).0 (step u c).0
    go true z = let q = opens-first s c z ∙ sym (opens-first u c z) in (ap (λ (r : State × Outcome). r.1) q, equal (ap (λ (r : State × Outcome). r.0) q))
    go false z = by (ℕ_discrete (number s c) 0)
      where
        by : Dec (number s c ≡ 0) → ((step s c).1 ≡ (step u c).1) × Alike (step s c).0 (step u c).0
        by (yes n) = accepts z n
        by (no n) = refuses z n

pub alike-run : (cs : List Call) (s t : State) → Alike s t → run s cs ≡ run t cs
unfolding run
alike-run [] s t a = refl
alike-run (c ∷ cs) s t a = let x = alike-step s t a c in rw (x.0, alike-run cs (step s c).0 (step t c).0 x.1)

-- ---- A saved state, and the state that its form brings

module _ (s : State) (f : Reached s) (r : Rests s) where
  pub loaded-alike : Alike s (loaded_form (saved_form s))
  loaded-alike = apart f (contents_of s k) (orders_in s k) (loaded-kept s f r) (saved-back s k) (record {
    values = record {
      waiting = λ b hb m. sym ((agrees s k).contents b m);
      drawn = λ b ℓ i hb e z. absurd (z.1 (f.unbegun r.unbegun).1);
      known = λ b ℓ i hb e n u. absurd (n (k.placed b ℓ i hb e).1);
    };
    orders = λ q ℓ j hq hℓ e hj. (agrees s k).orders q ℓ j hq hℓ (ap (λ c. filled c ℓ) (sym (counted-calm s q (f.unbegun r.unbegun).1)) ∙ e) hj;
  })
    where
      k : Saveable s
      k = saveable s f r

  -- its form passes 17 and 18, and 2 if the memory is long enough
  load-passes : (m : ℕ) (ws : List ℕ) (n : ℕ) (u : State) → needed s.shape ≤ m → first_no (questions u (load (saved_form s)) m ws n) ≡ 0
  unfolding questions first_no
  load-passes m ws n u l =
      let k = saveable s f r in
      let e : (loaded_form (saved_form s)).shape ≡ s.shape = ap (λ (x : State). x.shape) (saved-back s k) in
      rw (saved-summed s k, saved-loads s k, e, le-leb (needed s.shape) m l)

  pub load-number : (c : Call) → c.ask ≡ load (saved_form s) → (u : State) → needed s.shape ≤ c.memory → number u c ≡ 0
  unfolding number
  load-number c e u l = ap (λ a. first_no (questions u a c.memory c.words c.buffer)) e ∙ load-passes c.memory c.words c.buffer u l

saved-rests : (s : State) → Was s → (d : Call) → d.ask ≡ save → number s d ≡ 0 → Reached s × Rests s
saved-rests s l d e n =
    let p = save-passed s d.ask d.memory d.words d.buffer e (accepted-passed s d n) in
    (was-reached s d.memory l p.0, rest-facts s p.1)

-- THE THEOREM: a state that calls left is saved by d; whatever state u is there, a load c of what d wrote is accepted if the memory is long enough,
-- and every list of calls has the same outcomes from the loaded state as from the saved one
pub resumed : (s : State) → CallsLeft s → (d : Call) → d.ask ≡ save → number s d ≡ 0 → (u : State) (c : Call) → c.ask ≡ load (step s d).1.bytes → needed s.shape ≤ c.memory
    → (number u c ≡ 0) × ((cs : List Call) → run (step u c).0 cs ≡ run s cs)
resumed s l d e n u c q m =
    let x = saved-rests s (reachable l) d e n in
    let q' : c.ask ≡ load (saved_form s) = q ∙ ap load (save-writes s d e n) in
    let z = load-number s x.0 x.1 c q' u m in
    (z, λ cs. ap (λ t. run t cs) (load-brings u c (saved_form s) q' z) ∙ sym (alike-run cs s (loaded_form (saved_form s)) (loaded-alike s x.0 x.1)))

two-of : (a b c : Bool) → first_no ((a, 2) ∷ (b, 16) ∷ (c, 2) ∷ []) ≡ 2 → (a ≡ false) ⊎ ((a ≡ true) × (b ≡ true) × (c ≡ false))
unfolding first_no
two-of false b c e = inl refl
two-of true false c e = absurd (omega arith)
two-of true true false e = inr (refl, refl, refl)
two-of true true true e = absurd (omega arith)

-- "The form's length": no form is longer than the buffer that is asked for, so that a save's last 2 is never given
pub save-fits : (s : State) → CallsLeft s → (d : Call) → d.ask ≡ save → number s d ≡ 2 → (s ≡ closed) ⊎ ((d.memory < needed s.shape) ⊎ (d.buffer < longest s.shape))
unfolding number questions
save-fits s l d e n = go (reachable l)
  where
    n' : first_no ((Questions.ready s d.memory && leb (longest s.shape) d.buffer, 2) ∷ (Questions.at_rest s, 16) ∷ (leb (length (saved_form s)) d.buffer, 2) ∷ []) ≡ 2
    n' = ap (λ a. first_no (questions s a d.memory d.words d.buffer)) (sym e) ∙ n

    short : Reached s → (a b : Bool) → leb (needed s.shape) d.memory ≡ a → leb (longest s.shape) d.buffer ≡ b → (a && b) ≡ false → (d.memory < needed s.shape) ⊎ (d.buffer < longest s.shape)
    short f false b x z w = inl (leb-false (needed s.shape) d.memory x)
    short f true false x z w = inr (leb-false (longest s.shape) d.buffer z)
    short f true true x z w = absurd (true≢false w)

    go : Was s → (s ≡ closed) ⊎ ((d.memory < needed s.shape) ⊎ (d.buffer < longest s.shape))
    go (shut w) = inl w
    go (live f) = ⊎_elim
        (λ z. inr (short f (leb (needed s.shape) d.memory) (leb (longest s.shape) d.buffer) refl refl (ap (λ t. t && leb (longest s.shape) d.buffer) (sym (ready-memory s d.memory f)) ∙ z)))
        (λ z.
        let a = leb-true (longest s.shape) d.buffer (and_r (Questions.ready s d.memory) (leb (longest s.shape) d.buffer) z.0) in
        let l = form-fits s f.range f.waiting.once (λ b m. f.tidy.whole b) in
        absurd (true≢false (sym (le-leb (length (saved_form s)) d.buffer (omega (arith, a, l))) ∙ z.2)))
        (two-of _ _ _ n')
