-- The commands sent to one slot over a run: each read of it follows a write of it.
use Rattle.std.proofs.Math.Path.{◌≡◌, refl, ap, sym, subst}
use Rattle.std.proofs.Common.{◌∙◌, true≢false, arith}
use Rattle.std.specs.Prelude.{Bool, not, ◌&&◌, ◌||◌, ℕ, suc, ◌<◌, get_or, if◌then◌else◌}
use Rattle.std.proofs.Math.Bool.{true, false}
use mathlib.Core.List.{List, [], ◌∷◌, ◌++◌}
use Rattle.std.proofs.Math.Option.{Option, none, some}
use Rattle.std.proofs.Math.Decide.{ℕ_discrete}
use Rattle.std.proofs.Math.Dec.{eqb, ltb}
use borrow.Author.Tests.{ltb-true, eqb-true, eqb-false, eq-eqb, ne_eqb, lt-ltb}
use Rattle.reachable.proofs.LastSaved.{OfState, step-last as step-saved, Brought, back, gone, load-silent, load-leaves, resumes-was}
use Rattle.rules.specs.Resumes.{saved_by, OfLast, Resumes, NoOpen}
use Rattle.lists.specs.All.{All, nil, cons}
use Rattle.lists.specs.Distinct.{Mem}
use Rattle.lists.specs.Members.{dec_mem}
use Rattle.lists.specs.Search
use Rattle.lists.specs.Search.{any}
use Rattle.lists.specs.Tables.{put, put_same, put_other}
use Rattle.lists.specs.Tests.{or_left, or_right, and_l}
use Rattle.rules.specs.Blocks
use Rattle.rules.specs.Collect
use Rattle.rules.specs.Completion
use Rattle.rules.specs.Completion.{is_command}
use Rattle.rules.specs.Draws.{draws, Drew}
use Rattle.rules.specs.Laws.Answers.{opens}
use Rattle.rules.proofs.Laws.Answers.{Passed, refuse-keeps, accepted-passed, step-accepted, step-refused, open-first}
use Rattle.rules.specs.Jobs.{joined, levels_of, slot_count}
use Rattle.rules.specs.Laws.Decided.{StepIn}
use Rattle.rules.proofs.Laws.Decided.{decide-in, step_bounds-pos}
use Rattle.rules.proofs.Laws.Kept.{drew-of, completed-in}
use Rattle.rules.proofs.Laws.Layout.{cell-inj}
use Rattle.rules.specs.Levels.{written_levels}
use Rattle.rules.specs.Open.{fresh}
use Rattle.rules.specs.Questions
use Rattle.rules.specs.Questions.{Ask, opening, request, turn, completion, collect, save, load, Call, bounds, number, questions}
use Rattle.rules.specs.Ranges.{is_kind}
use Rattle.rules.specs.Rebuild.{Fill, fills, gathered, do_rebuild}
use Rattle.rules.specs.Request
use Rattle.rules.specs.Run
use Rattle.rules.specs.Run.{Outcome, act, step, run}
use Rattle.rules.specs.Shape.{Shape, cell, slots}
use Rattle.rules.specs.State.{State, Command, cmd, read, write, Request, closed}
use Rattle.rules.specs.Turn
use Rattle.rules.specs.Turn.{Step, idle, no_dummy, read_for_request, read_for_job, rebuild, write_next, decide, command, do_step}
use Rattle.reachable.proofs.Begins.{busy-still, request-begins}
use Rattle.reachable.proofs.Consequences.{request-unread, front-calm, job-unread, all-written, wrote-before}
use Rattle.reachable.proofs.Decided.{Decided, Rebuilds, decided}
use Rattle.reachable.specs.Invariant.{Reached}
use Rattle.reachable.proofs.Kept.Completion.{completed-kept}
use Rattle.reachable.proofs.Kept.Rebuild.Commands.{top_in, first-write}
use Rattle.reachable.proofs.Kept.Rebuild.Drawing.{Drawing, drawing}
use Rattle.reachable.proofs.Kept.Rebuild.Marks.{mark-else}
use Rattle.rules.specs.Request.{is_front}
use Rattle.reachable.specs.Live.{Target, Wrote, write_number}
use Rattle.reachable.proofs.Live.{front-is, front-eq}
use Rattle.reachable.proofs.Outstanding.{dec_one, is-command}
use Rattle.reachable.proofs.Pending.{front-more}
use Rattle.reachable.proofs.Reached.{Was, was-reached, step-was, shut}
use Rattle.reachable.specs.Terms.{One, last_kind, EachAfterWrite}

module _ (q ℓ i : ℕ) where
  pub kind-here : (k : ℕ) (c : Command) → 0 < c.kind → One c.partition c.level c.slot q ℓ i → last_kind q ℓ i k c ≡ c.kind
  unfolding last_kind
  kind-here k c p w = rw (lt-ltb 0 c.kind p, eq-eqb c.partition q w.0, eq-eqb c.level ℓ w.1, eq-eqb c.slot i w.2)

  pub kind-else : (k : ℕ) (c : Command) → ¬ One c.partition c.level c.slot q ℓ i → last_kind q ℓ i k c ≡ k
  unfolding last_kind
  kind-else k c n = go (ltb 0 c.kind) (ℕ_discrete c.partition q) (ℕ_discrete c.level ℓ) (ℕ_discrete c.slot i)
    where
      go : (t : Bool) → Dec (c.partition ≡ q) → Dec (c.level ≡ ℓ) → Dec (c.slot ≡ i) → (if t && (eqb c.partition q && (eqb c.level ℓ && eqb c.slot i)) then c.kind else k) ≡ k
      go false x y z = refl
      go true (yes x) (yes y) (yes z) = absurd (n (x, y, z))
      go true (no x) y z = rw (ne_eqb c.partition q x)
      go true (yes x) (no y) z = rw (eq-eqb c.partition q x, ne_eqb c.level ℓ y)
      go true (yes x) (yes y) (no z) = rw (eq-eqb c.partition q x, eq-eqb c.level ℓ y, ne_eqb c.slot i z)

  pub kind-zero : (k : ℕ) (c : Command) → ltb 0 c.kind ≡ false → last_kind q ℓ i k c ≡ k
  unfolding last_kind
  kind-zero k c e = rw e

  kind-none : (k : ℕ) → last_kind q ℓ i k (cmd 0 0 0 0) ≡ k
  unfolding last_kind
  kind-none k = refl

  -- In a state, where k is the kind of the last command to the slot: an unread slot, but one of a level that the front job writes to which no write was sent
  -- yet, was written last
  abbrev pub Last : State → ℕ → Type 0
  Last s k = ℓ < s.shape.L → i < slots ℓ → s.mark (cell s.shape q ℓ i) ≡ 1 → (Target s q ℓ → Wrote s q ℓ i) → k ≡ write

  -- A read of an unread slot of no level that a drawn job writes
  module _ (s : State) (p m j : ℕ) (hm : m < s.shape.L) (hj : j < slots m) (un : s.mark (cell s.shape p m j) ≡ 1) (out : ¬ Target s p m) (k : ℕ) (fresh : Last s k) where
    read-after : cmd read p m j ≡ cmd read q ℓ i → k ≡ write
    read-after e =
        let a : p ≡ q = ap (λ (c : Command). c.partition) e in
        let b : m ≡ ℓ = ap (λ (c : Command). c.level) e in
        let c : j ≡ i = ap (λ (c : Command). c.slot) e in
        fresh (rw (← b) hm) (rw (← b, ← c) hj) (rw (← a, ← b, ← c) un) (λ t. absurd (out (rw (a, b) t)))

    read-last : ℓ < s.shape.L → i < slots ℓ → put (cell s.shape p m j) 0 s.mark (cell s.shape q ℓ i) ≡ 1 → (Target s q ℓ → Wrote s q ℓ i) → last_kind q ℓ i k (cmd read p m j) ≡ write
    read-last hℓ hi u t = go (dec_one p m j q ℓ i)
      where
        go : Dec (One p m j q ℓ i) → last_kind q ℓ i k (cmd read p m j) ≡ write
        go (yes w) =
            let same : cell s.shape q ℓ i ≡ cell s.shape p m j = rw (w.0, w.1, w.2) in
            absurd (omega (arith, sym (put_same (cell s.shape p m j) 0 s.mark) ∙ ap (put (cell s.shape p m j) 0 s.mark) (sym same) ∙ u))
        go (no w) = kind-else k (cmd read p m j) w ∙ fresh hℓ hi (sym (put_other (cell s.shape p m j) 0 s.mark (cell s.shape q ℓ i) (λ e. let x = cell-inj s.shape q p ℓ m i j hℓ hm hi hj e in w (sym x.0, sym x.1, sym x.2))) ∙ u) t

  -- A turn
  module _ (s : State) (f : Reached s) (k : ℕ) (fresh : Last s k) where
    turn_last : (x : Step) (js : List ℕ) → Decided s x → StepIn s x → Drew (Turn.step_bounds x) js → (command x ≡ cmd read q ℓ i → k ≡ write) × Last (do_step x js s) (last_kind q ℓ i k (command x))
    unfolding command do_step Turn.step_bounds Turn.send Turn.mark_read do_rebuild
    turn_last idle js d h w = ((λ e. absurd (omega (arith, ap (λ (c : Command). c.kind) e))), rw (kind-none k) fresh)
    turn_last no_dummy js d h w = ((λ e. absurd (omega (arith, ap (λ (c : Command). c.kind) e))), rw (kind-none k) fresh)
    turn_last (read_for_request p m j) js d h w =
        let un = request-unread s f p m j d in
        let out : ¬ Target s p m = λ t. t.1 (front-calm s f p m j d t.0) in
        let same = busy-still s _ f (request-begins s f p m j d) in (
          read-after s p m j h.1 h.2 un out k fresh,
          λ hℓ hi u v. read-last s p m j h.1 h.2 un out k fresh hℓ hi u (λ t.
              subst (λ n. write_number (written_levels s.shape (s.counter q) n) ℓ i < s.sent) (same t.1) (v (t.0, t.1, subst (λ n. Mem ℓ (written_levels s.shape (s.counter q) n)) (sym (same t.1)) t.2))),
        )
    turn_last (read_for_job p m j) js d h w =
        let un = job-unread s f p m j d in
        let out : ¬ Target s p m = λ t. t.1 d.calm in
        (read-after s p m j h.1 h.2 un out k fresh, λ hℓ hi u v. read-last s p m j h.1 h.2 un out k fresh hℓ hi u (λ t. absurd (t.1 d.calm)))
    turn_last (rebuild p ls) js d h w = ((λ e. absurd (let z : ◌≡◌ {A = ℕ} 2 1 = ap (λ (c : Command). c.kind) e in omega arith)), drawn-last p ls js d h.1 w)
      where
        drawn-last : (p : ℕ) (ls js : List ℕ) → Rebuilds s p ls → All (λ ℓ. ℓ < s.shape.L) ls → Drew (Turn.step_bounds (rebuild p ls)) js → Last (do_step (rebuild p ls) js s) (last_kind q ℓ i k (cmd write p (get_or ls 0 0) 0))
        drawn-last p ls js d low w hℓ hi u v = go (ℕ_discrete p q) (dec_mem ℓ ls)
          where
            xs : List Fill
            xs = fills ls js (gathered s p)

            dr : Drawing s p ls xs
            dr = drawing s f p ls js d w

            other : ((p ≡ q) × Mem ℓ ls → ⊥) → last_kind q ℓ i k (cmd write p (get_or ls 0 0) 0) ≡ write
            other n = kind-else k (cmd write p (get_or ls 0 0) 0) (λ z. n (z.0, rw (← z.1) (top_in s f p ls xs dr)))
                ∙ fresh hℓ hi (sym (mark-else s f p ls xs dr q ℓ i hℓ hi n) ∙ u) (λ z. absurd (z.1 d.calm))

            here : p ≡ q → Mem ℓ ls → (ℓ ≡ get_or ls 0 0) × (i ≡ 0)
            here a m =
                let m' : Mem ℓ (written_levels s.shape (s.counter q) (joined s p)) = subst (λ x. Mem ℓ (written_levels s.shape (s.counter x) (joined s p))) a (unfold levels_of in (rw d.goal at m)) in
                let l : write_number (written_levels s.shape (s.counter q) (joined s p)) ℓ i < 1 = v (ap (is_front s.queue) (sym a) ∙ rw d.front (front-is p d.rest), (λ z. omega arith), m') in
                first-write s f p ls xs dr ℓ i m hi (subst (λ x. write_number (written_levels s.shape (s.counter x) (joined s p)) ℓ i < 1) (sym a) l)

            go : Dec (p ≡ q) → Dec (Mem ℓ ls) → last_kind q ℓ i k (cmd write p (get_or ls 0 0) 0) ≡ write
            go (no a) b = other (λ z. a z.0)
            go (yes a) (no b) = other (λ z. b z.1)
            go (yes a) (yes b) = let z = here a b in kind-here k (cmd write p (get_or ls 0 0) 0) (omega arith) (a, sym z.0, sym z.1)
    turn_last (write_next p t j) js d h w = ((λ e. absurd (let z : ◌≡◌ {A = ℕ} 2 1 = ap (λ (c : Command). c.kind) e in omega arith)), λ hℓ hi u v. go hℓ hi u v (dec_one p t j q ℓ i))
      where
        go : ℓ < s.shape.L → i < slots ℓ → s.mark (cell s.shape q ℓ i) ≡ 1 → (Target (do_step (write_next p t j) js s) q ℓ → write_number (written_levels s.shape (s.counter q) s.begun) ℓ i < suc s.sent) → Dec (One p t j q ℓ i) → last_kind q ℓ i k (cmd write p t j) ≡ write
        go hℓ hi u v (yes z) = kind-here k (cmd write p t j) (omega arith) z
        go hℓ hi u v (no z) = kind-else k (cmd write p t j) z ∙ fresh hℓ hi u (λ x. early x (v (x.0, (λ y. omega arith), x.2)))
          where
            early : Target s q ℓ → write_number (written_levels s.shape (s.counter q) s.begun) ℓ i < suc s.sent → Wrote s q ℓ i
            early x l = wrote-before s f p t j d q ℓ i x hi l (λ y. z (sym y.0, sym y.1, sym y.2))

    end-last : (p : ℕ) (rest : List ℕ) → s.queue ≡ p ∷ rest → s.sent ≡ slot_count (levels_of s p) → Last (Completion.end_job p s) k
    unfolding Completion.end_job
    end-last p rest e all hℓ hi u v = fresh hℓ hi u (λ z. all-written s f q ℓ i z hi (ap (λ x. slot_count (levels_of s x)) (front-eq q p s.queue rest e z.0) ∙ sym all))

    collect-last : (r : Option Request) → Last (Collect.collected r s) k
    unfolding Collect.collected Collect.finish
    collect-last none = fresh
    collect-last (some r) = λ hℓ hi u v. fresh hℓ hi u (λ z. let x = f.begun z.1 in
        v (front-more s.queue (s.partition r.block ∷ r.evict ∷ []) q x.0 x.1 x.2.0 ∙ z.0, z.1, z.2))

  complete-last : (s : State) → Reached s → (k : ℕ) → Last s k → (c : Command) (bs : List ℕ) → Last (Completion.complete c bs s) k
  unfolding Completion.complete Completion.complete_read Completion.complete_write Completion.completed Completion.gather_bytes Completion.finish_job Completion.job_done
  complete-last s f k fresh c bs = go (eqb c.kind 1) (Blocks.holder s c.partition c.level c.slot) s.queue refl
    where
      s' : State
      s' = Completion.completed c s

      f' : Reached s'
      f' = completed-kept s f c (completed-in s f.range c)

      ended : (p : ℕ) (qs : List ℕ) → s.queue ≡ p ∷ qs → (t : Bool) → Completion.job_done s' p ≡ t → Last (if t then Completion.end_job p s' else s') k
      ended p qs e true z = end-last s' f' k fresh p qs e (eqb-true s.sent (slot_count (levels_of s' p)) (and_l (eqb s.sent (slot_count (levels_of s' p))) (not (Search.any (λ (c : Command). eqb c.kind write) s'.outstanding)) z))
      ended p qs e false z = fresh

      go : (t : Bool) (b : Option ℕ) (qs : List ℕ) → s.queue ≡ qs → Last (if t then Completion.gather_bytes b bs s' else Completion.finish_job qs s') k
      go true none qs e = fresh
      go true (some b) qs e = fresh
      go false b [] e = fresh
      go false b (p ∷ qs) e = ended p qs e (Completion.job_done s' p) refl

  -- An accepted call that is no open
  module _ (s : State) (k memory : ℕ) (ws : List ℕ) (n : ℕ) (l : Was s) (last : Last s k) where
    abbrev drawn : Ask → List ℕ
    drawn a = Run.numbers_of (draws (bounds s a) ws)

    call-last : (a : Ask) → opens a ≡ false → Passed (questions s a memory ws n) → (Run.sent_command s a ≡ cmd read q ℓ i → k ≡ write) × Last (act s a (drawn a)) (last_kind q ℓ i k (Run.sent_command s a))
    unfolding act Run.perform Run.sent_command questions bounds opens
    call-last (opening h) e p = absurd (true≢false e)
    call-last (request j b bs) e p = ((λ e. absurd (omega (arith, ap (λ (c : Command). c.kind) e))), rw (kind-none k) (unfold Request.accept in last))
    call-last turn e p =
        let f = was-reached s memory l p.0 in
        turn_last s f k last (decide s) (drawn turn) (decided s) (decide-in s f.range) (drew-of (Turn.step_bounds (decide s)) ws (step_bounds-pos (decide s)) p.1.1.1.1.0)
    call-last (completion c bs) e p =
        let f = was-reached s memory l (and_l (Questions.ready s memory) (is_kind c.kind) p.0) in
        ((λ e. absurd (omega (arith, ap (λ (c : Command). c.kind) e))), rw (kind-none k) (complete-last s f k last c bs))
    call-last collect e p =
        let f = was-reached s memory l p.0 in
        ((λ e. absurd (omega (arith, ap (λ (c : Command). c.kind) e))), rw (kind-none k) (collect-last s f k last s.request))
    call-last save e p = ((λ e. absurd (omega (arith, ap (λ (c : Command). c.kind) e))), rw (kind-none k) last)
    call-last (load form) e p = absurd (true≢false e)

  refuse-last : (s : State) (k : ℕ) (a : Ask) → opens a ≡ false → Last s k → Last (Run.refuse s a) k
  refuse-last s k a e last = rw (refuse-keeps s a e) last

  pub step-last : (s : State) (k : ℕ) (c : Call) → opens c.ask ≡ false → Was s → Last s k → ((step s c).1.command ≡ cmd read q ℓ i → k ≡ write) × Last (step s c).0 (last_kind q ℓ i k (step s c).1.command)
  step-last s k c o l last = go (eqb (number s c) 0) refl
    where
      go : (t : Bool) → eqb (number s c) 0 ≡ t → ((step s c).1.command ≡ cmd read q ℓ i → k ≡ write) × Last (step s c).0 (last_kind q ℓ i k (step s c).1.command)
      go true e =
          let z = eqb-true (number s c) 0 e in
          rw (step-accepted s c z) (unfold Run.accepted in (call-last s k c.memory c.words c.buffer l last c.ask o (accepted-passed s c z)))
      go false e = rw (step-refused s c (eqb-false (number s c) 0 e)) (unfold Run.refused in (
        (λ e. absurd (omega (arith, ap (λ (c : Command). c.kind) e))),
        rw (kind-none k) (refuse-last s k c.ask o last),
      ))

  -- a load of what the call just before it has saved: no slot is marked anew
  pub load-last : (s : State) (k : ℕ) (c : Call) (form : List ℕ) → c.ask ≡ load form → Brought s (step s c).0 → Last s k
      → ((step s c).1.command ≡ cmd read q ℓ i → k ≡ write) × Last (step s c).0 (last_kind q ℓ i k (step s c).1.command)
  load-last s k c form e w last = rw (load-silent s c form e, kind-none k) ((λ x. absurd (omega (arith, ap (λ (c : Command). c.kind) x))), go w)
    where
      go : Brought s (step s c).0 → Last (step s c).0 k
      go (back f r y o z) = rw z (λ hℓ hi u v. last hℓ hi u (λ t. absurd (t.1 (f.unbegun r.unbegun).1)))
      go (gone z) = rw z (unfold closed in (λ hℓ hi u v. absurd (omega arith)))

  -- any call but an open
  any_last : (s : State) (k : ℕ) (x : List ℕ) (c : Call) → NoOpen c.ask → OfLast x c.ask → OfState s x → Was s → Last s k
      → ((step s c).1.command ≡ cmd read q ℓ i → k ≡ write) × Last (step s c).0 (last_kind q ℓ i k (step s c).1.command)
  any_last s k x c o v y l last = go c.ask refl o v
    where
      Next : Type 0
      Next = ((step s c).1.command ≡ cmd read q ℓ i → k ≡ write) × Last (step s c).0 (last_kind q ℓ i k (step s c).1.command)

      plain : opens c.ask ≡ false → Next
      plain z = step-last s k c z l last

      go : (a : Ask) → c.ask ≡ a → NoOpen a → OfLast x a → Next
      go (opening h) e o v = absurd o
      go (request j b bs) e o v = plain (ap opens e ∙ (unfold opens in refl))
      go turn e o v = plain (ap opens e ∙ (unfold opens in refl))
      go (completion d bs) e o v = plain (ap opens e ∙ (unfold opens in refl))
      go collect e o v = plain (ap opens e ∙ (unfold opens in refl))
      go save e o v = plain (ap opens e ∙ (unfold opens in refl))
      go (load form) e o v = load-last s k c form e (load-leaves s c form e (rw v y) l).0 last

  run-last : (cs : List Call) → All (λ (c : Call). NoOpen c.ask) cs → (s : State) (k : ℕ) (x : List ℕ) → Was s → Last s k → OfState s x → Resumes x cs (run s cs) → EachAfterWrite q ℓ i k (run s cs)
  unfolding run
  run-last [] nil s k x l last y r = tt
  run-last (c ∷ cs) (cons o t) s k x l last y r =
      let z = any_last s k x c o r.0 y l last in
      (z.0, run-last cs t (step s c).0 (last_kind q ℓ i k (step s c).1.command) (saved_by c.ask (step s c).1) (resumes-was s x c r.0 y l) z.1 (step-saved s c) r.1)

  -- what an open leaves: nothing is unread
  pub open-last : (h : Shape) (c : Call) → c.ask ≡ opening h → ((step closed c).1.command ≡ cmd 0 0 0 0) × ((k : ℕ) → Last (step closed c).0 k)
  open-last h c e = go (eqb (number closed c) 0) refl
    where
      none-marked : (a : Ask) → a ≡ opening h → (js : List ℕ) (k : ℕ) → Last (act closed a js) k
      none-marked a e js k = rw e (unfold act Run.perform fresh in (λ hℓ hi u v. absurd (omega arith)))

      none-sent : (a : Ask) → a ≡ opening h → Run.sent_command closed a ≡ cmd 0 0 0 0
      none-sent a e = rw e (unfold Run.sent_command in refl)

      shuts : (a : Ask) → a ≡ opening h → (k : ℕ) → Last (Run.refuse closed a) k
      shuts a e k = rw e (unfold Run.refuse closed in (λ hℓ hi u v. absurd (omega arith)))

      go : (t : Bool) → eqb (number closed c) 0 ≡ t → ((step closed c).1.command ≡ cmd 0 0 0 0) × ((k : ℕ) → Last (step closed c).0 k)
      go true z = rw (step-accepted closed c (eqb-true (number closed c) 0 z)) (unfold Run.accepted in (none-sent c.ask e, none-marked c.ask e _))
      go false z = rw (step-refused closed c (eqb-false (number closed c) 0 z)) (unfold Run.refused in (refl, shuts c.ask e))

  -- Over a run from an open up to the next, each read of the slot comes when the last command to it was a write
  pub reads-after-writes : (s : State) (c : Call) (h : Shape) → c.ask ≡ opening h → (cs : List Call) → All (λ (c : Call). NoOpen c.ask) cs → Resumes [] (c ∷ cs) (run s (c ∷ cs)) → EachAfterWrite q ℓ i 0 (run s (c ∷ cs))
  unfolding run
  reads-after-writes s c h e cs o r = rw (open-first s c h e) (
    (λ w. absurd (omega (arith, ap (λ (x : Command). x.kind) (sym first.0 ∙ w)))),
    run-last cs o (step closed c).0 (last_kind q ℓ i 0 (step closed c).1.command) (saved_by c.ask (step closed c).1) (step-was closed c (rw e tt) (shut refl)) (first.1 (last_kind q ℓ i 0 (step closed c).1.command)) (step-saved closed c) (rw (open-first s c h e) at r.1),
  )
    where
      first : ((step closed c).1.command ≡ cmd 0 0 0 0) × ((k : ℕ) → Last (step closed c).0 k)
      first = open-last h c e

-- ---- What this says of a part of the list
module _ (q ℓ i : ℕ) where
  -- behind the first part, the list goes on from some last kind
  pub behind : (k : ℕ) (xs ys : List Outcome) → EachAfterWrite q ℓ i k (xs ++ ys) → (m : ℕ) × EachAfterWrite q ℓ i m ys
  behind k [] ys h = (k, h)
  behind k (o ∷ xs) ys h = behind (last_kind q ℓ i k o.command) xs ys h.1

  -- the last kind after the first part
  unfoldable last_of : ℕ → List Outcome → ℕ
  last_of k [] = k
  last_of k (o ∷ os) = last_of (last_kind q ℓ i k o.command) os

  pub read_is : (k : ℕ) (c : Command) → c ≡ cmd read q ℓ i → last_kind q ℓ i k c ≡ read
  read_is k c e = rw e (kind-here q ℓ i k (cmd read q ℓ i) (omega arith) (refl, refl, refl))

  at_last : (k : ℕ) (xs : List Outcome) (b : Outcome) (zs : List Outcome) → EachAfterWrite q ℓ i k (xs ++ (b ∷ zs)) → b.command ≡ cmd read q ℓ i → last_of k xs ≡ write
  unfolding last_of
  at_last k [] b zs h r = h.0 r
  at_last k (o ∷ xs) b zs h r = at_last (last_kind q ℓ i k o.command) xs b zs h.1 r

  -- a kind that has become a write was written
  some-write : (k : ℕ) (xs : List Outcome) → ¬ (k ≡ write) → last_of k xs ≡ write → any (λ (o : Outcome). is_command (cmd write q ℓ i) o.command) xs ≡ true
  unfolding last_of any
  some-write k [] n e = absurd (n e)
  some-write k (o ∷ xs) n e = go (ℕ_discrete (last_kind q ℓ i k o.command) write) (λ m. some-write (last_kind q ℓ i k o.command) xs m e)
    where
      go : Dec (last_kind q ℓ i k o.command ≡ write) → (¬ (last_kind q ℓ i k o.command ≡ write) → any (λ (o : Outcome). is_command (cmd write q ℓ i) o.command) xs ≡ true)
          → (is_command (cmd write q ℓ i) o.command || any (λ (o : Outcome). is_command (cmd write q ℓ i) o.command) xs) ≡ true
      go (yes w) ih = or_left (is_command (cmd write q ℓ i) o.command) (any (λ (o : Outcome). is_command (cmd write q ℓ i) o.command) xs) (here (dec_one o.command.partition o.command.level o.command.slot q ℓ i) w)
        where
          here : Dec (One o.command.partition o.command.level o.command.slot q ℓ i) → last_kind q ℓ i k o.command ≡ write → is_command (cmd write q ℓ i) o.command ≡ true
          here (no z) w = absurd (n (sym (kind-else q ℓ i k o.command z) ∙ w))
          here (yes z) w = is-command (cmd write q ℓ i) o.command (sym (by (ltb 0 o.command.kind) refl)) (sym z.0, sym z.1, sym z.2)
            where
              by : (t : Bool) → ltb 0 o.command.kind ≡ t → o.command.kind ≡ write
              by true l = sym (kind-here q ℓ i k o.command (ltb-true 0 o.command.kind l) z) ∙ w
              by false l = absurd (n (sym (kind-zero q ℓ i k o.command l) ∙ w))
      go (no w) ih = or_right (is_command (cmd write q ℓ i) o.command) (any (λ (o : Outcome). is_command (cmd write q ℓ i) o.command) xs) (ih w)

  pub write-within : (k : ℕ) (xs : List Outcome) (b : Outcome) (zs : List Outcome) → ¬ (k ≡ write) → EachAfterWrite q ℓ i k (xs ++ (b ∷ zs)) → b.command ≡ cmd read q ℓ i
      → any (λ (o : Outcome). is_command (cmd write q ℓ i) o.command) xs ≡ true
  write-within k xs b zs n h r = some-write k xs n (at_last k xs b zs h r)
