-- Nothing that the host is sent depends on where a block was found: a state without it is answered the same numbers, words, commands and bytes, and
-- what every call leaves is the same but for it.
use Rattle.std.specs.Prelude.{◌≡◌, Bool, ◌&&◌, ℕ, suc, length, eqb, if◌then◌else◌}
use Rattle.std.proofs.Math.Path.{refl, ap, sym}
use Rattle.std.proofs.Common.{◌∙◌, eqb-true}
use Rattle.std.proofs.Math.Bool.{true, false, not}
use mathlib.Core.List.{List, [], ◌∷◌, map}
use Rattle.std.proofs.Math.Option
use Rattle.std.proofs.Math.Option.{Option, none, some}
use Rattle.std.proofs.Math.Dec.{leb}
use Rattle.std.proofs.lemmas.Bool.{eqb-false}
use Rattle.lists.specs.All.{IfSome}
use Rattle.lists.specs.Search.{is_none}
use Rattle.rules.specs.Silent.{untold, held_only, without_found, performed, step_unseen, run_unseen}
use Rattle.rules.specs.Blocks
use Rattle.rules.specs.Collect
use Rattle.rules.specs.Completion
use Rattle.rules.specs.Draws.{draws}
use Rattle.rules.specs.Form.Payload.{saved_form}
use Rattle.rules.proofs.Laws.Answers.{step-accepted, step-refused, open-first}
use Rattle.rules.proofs.Laws.Kept.{Left, shut, live, step_left}
use Rattle.rules.specs.Laws.Range.{InRange, FoundIn, RequestIn, JobsIn}
use Rattle.rules.proofs.Laws.Range.{facts-range}
use Rattle.rules.proofs.Laws.RangeSetters.{in_request}
use Rattle.rules.proofs.Laws.Released.{without, written_same, handed-release, handed-unseen, unseen-release}
use Rattle.rules.specs.Laws.Waiting.{Waits}
use Rattle.rules.specs.Jobs
use Rattle.rules.specs.Memory.{needed}
use Rattle.rules.specs.Rebuild
use Rattle.rules.specs.Questions
use Rattle.rules.specs.Questions.{Ask, opening, request, turn, completion, collect, save, load, Call, bounds, questions, number}
use Rattle.rules.specs.Reader
use Rattle.rules.specs.Request
use Rattle.rules.specs.Request.{held, release}
use Rattle.rules.specs.Run
use Rattle.rules.specs.Run.{act, perform, refuse, step, run}
use Rattle.rules.specs.Shape.{Shape}
use Rattle.rules.specs.Setters.{set_request}
use Rattle.rules.specs.State.{State, closed, Command, Request, Found, found_nowhere}
use Rattle.rules.specs.Turn
use Rattle.rules.specs.Turn.{Step, idle, no_dummy, read_for_request, read_for_job, rebuild, write_next, decide, do_step}
use Rattle.rules.specs.Unfold.{model}

held_same : (r : Request) → held (held_only r) ≡ held r
unfolding held is_none
held_same r = go r.found
  where
    go : (x : Option Found) → held (held_only (record { kind = r.kind; block = r.block; bytes = r.bytes; next = r.next; evict = r.evict; level = r.level; found = x; awaits = r.awaits })) ≡ is_none x
    go none = refl
    go (some y) = refl

without-twice : (o : Option Request) → without (without o) ≡ without o
without-twice none = refl
without-twice (some r) = rw (held_same r)

-- ---- What calls leave

pass-without : (ℓ n : ℕ) (o : Option Request) → without (Request.pass_level ℓ n (without o)) ≡ without (Request.pass_level ℓ n o)
unfolding Request.pass_level held
pass-without ℓ n none = refl
pass-without ℓ n (some r) = rw (held_same r)

module _ (s : State) where
  step-without : (x : Step) (js : List ℕ) → without_found (do_step x js (without_found s)) ≡ without_found (do_step x js s)
  unfolding do_step Turn.mark_read Turn.send Rebuild.do_rebuild Rebuild.gathered Rebuild.chosen Blocks.blocks_in Blocks.entries Request.is_source Jobs.top_of Jobs.joined
  step-without idle js = rw (without-twice s.request)
  step-without no_dummy js = rw (without-twice s.request)
  step-without (read_for_request q ℓ i) js = ap (λ o. set_request o (do_step (read_for_request q ℓ i) js s)) (pass-without ℓ (suc (length s.outstanding)) s.request)
  step-without (read_for_job q ℓ i) js = rw (without-twice s.request)
  step-without (rebuild q t) js = rw (without-twice s.request)
  step-without (write_next q t i) js = rw (without-twice s.request)

  completed-without : (c : Command) → without_found (Completion.completed c (without_found s)) ≡ without_found (Completion.completed c s)
  unfolding Completion.completed
  completed-without c = ap (λ o. set_request o (Completion.completed c s)) (less s.request)
    where
      less : (o : Option Request) → without (Option.map (Completion.awaits_less c s.outstanding) (without o)) ≡ without (Option.map (Completion.awaits_less c s.outstanding) o)
      less none = refl
      less (some r) = unfold held in (rw (held_same r))

  collected-without : (o : Option Request) → s.request ≡ o → without_found (Collect.collected (without o) (without_found s)) ≡ without_found (Collect.collected o s)
  unfolding Collect.collected Collect.finish Blocks.contents Blocks.zeros
  collected-without none e = rw (without-twice s.request)
  collected-without (some r) e = refl

-- with the same state but for that, bytes that a read brings, and the end of a job, leave the same but for that
module _ (s t : State) (e : without_found s ≡ without_found t) where
  bytes-without : (o : Option ℕ) (bs : List ℕ) → without_found (Completion.gather_bytes o bs s) ≡ without_found (Completion.gather_bytes o bs t)
  unfolding Completion.gather_bytes
  bytes-without none bs = e
  bytes-without (some b) bs = ap (λ x. Completion.gather_bytes (some b) bs x) e

  finish-without : (l : List ℕ) → without_found (Completion.finish_job l s) ≡ without_found (Completion.finish_job l t)
  unfolding Completion.finish_job Completion.end_job Completion.job_done Jobs.joined Jobs.levels_of
  finish-without [] = e
  finish-without (q ∷ l) = over s (Completion.job_done s q) ∙ ap (λ x. Completion.finish_job (q ∷ l) x) e ∙ sym (over t (Completion.job_done t q))
    where
      over : (x : State) (b : Bool) → without_found (if b then Completion.end_job q x else x) ≡ (if b then Completion.end_job q (without_found x) else without_found x)
      over x true = refl
      over x false = refl

complete-without : (s : State) (c : Command) (bs : List ℕ) → without_found (Completion.complete c bs (without_found s)) ≡ without_found (Completion.complete c bs s)
unfolding Completion.complete Completion.complete_read Completion.complete_write Blocks.holder
complete-without s c bs = go (eqb c.kind 1)
  where
    go : (t : Bool) → without_found (if t then Completion.complete_read c bs (without_found s) else Completion.complete_write c (without_found s))
        ≡ without_found (if t then Completion.complete_read c bs s else Completion.complete_write c s)
    go true = bytes-without (Completion.completed c (without_found s)) (Completion.completed c s) (completed-without s c) (Blocks.holder s c.partition c.level c.slot) bs
    go false = finish-without (Completion.completed c (without_found s)) (Completion.completed c s) (completed-without s c) s.queue

release-without : (s : State) → without_found (release (without_found s)) ≡ without_found (release s)
release-without s = ap (λ o. set_request o s) (go s.request)
  where
    one : (r : Request) (t : Bool) → without (some (if t then Request.with_found (Blocks.look_up s r.block) (length s.outstanding) (held_only r) else held_only r))
        ≡ without (some (if t then Request.with_found (Blocks.look_up s r.block) (length s.outstanding) r else r))
    one r true = unfold held is_none in refl
    one r false = without-twice (some r)

    go : (o : Option Request) → without (Option.map (Request.released_in (without_found s)) (without o)) ≡ without (Option.map (Request.released_in s) o)
    go none = refl
    go (some r) = unfold Request.released_in Request.blocked Request.held_for Request.undrawn_only Request.worn Request.is_source Jobs.top_of Jobs.joined Blocks.look_up in (rw (held_same r) (one r (held r && not (Request.blocked s r))))

-- ---- What calls answer

none-without : (o : Option Request) → is_none (without o) ≡ is_none o
unfolding is_none
none-without none = refl
none-without (some r) = refl

in_hand-without : (o : Option Request) → Questions.in_hand (λ r. true) (without o) ≡ Questions.in_hand (λ r. true) o
unfolding Questions.in_hand
in_hand-without none = refl
in_hand-without (some r) = refl

module _ (s : State) where
  request_step-without : (o : Option Request) → Turn.request_step (without_found s) (without o) ≡ Turn.request_step s o
  unfolding Turn.request_step Reader.levels_left Reader.costs Reader.condition Reader.slot_read Reader.read_level Reader.read_real Reader.read_fake Request.is_source Jobs.top_of Jobs.joined Reader.dummy Reader.lowest Blocks.is_unread Blocks.holder
  request_step-without none = refl
  request_step-without (some r) = rw (held_same r)

  released_for-without : (q : ℕ) (o : Option Request) → Request.released_for s.partition (without o) q ≡ Request.released_for s.partition o q
  unfolding Request.released_for
  released_for-without q none = refl
  released_for-without q (some r) = rw (held_same r)

  job_step-without : (l : List ℕ) → Turn.job_step (without_found s) l ≡ Turn.job_step s l
  unfolding Turn.job_step Turn.rebuild_step Turn.write_step Rebuild.unread Rebuild.next_unread Jobs.top_of Jobs.joined Jobs.levels_of Blocks.is_unread
  job_step-without [] = refl
  job_step-without (q ∷ l) = rw (released_for-without q s.request)

  decide-without : decide (without_found s) ≡ decide s
  unfolding decide
  decide-without = rw (request_step-without s.request, job_step-without s.queue)

  possible-without : (x : Step) → Questions.possible (without_found s) x ≡ Questions.possible s x
  unfolding model
  possible-without idle = refl
  possible-without no_dummy = refl
  possible-without (read_for_request q ℓ i) = refl
  possible-without (read_for_job q ℓ i) = refl
  possible-without (rebuild q t) = refl
  possible-without (write_next q t i) = refl

  finished-without : (o : Option Request) → Questions.in_hand (Collect.finished (without_found s)) (without o) ≡ Questions.in_hand (Collect.finished s) o
  unfolding Questions.in_hand Collect.finished Reader.levels_left Reader.costs Reader.condition Request.is_source Jobs.top_of Jobs.joined Blocks.is_unread
  finished-without none = refl
  finished-without (some r) = rw (held_same r)

  bounds-without : (a : Ask) → bounds (without_found s) a ≡ bounds s a
  unfolding bounds
  bounds-without (opening h) = refl
  bounds-without (request k b bs) = refl
  bounds-without turn = rw decide-without
  bounds-without (completion c bs) = refl
  bounds-without collect = refl
  bounds-without save = refl
  bounds-without (load form) = refl

  command-without : (a : Ask) → Run.sent_command (without_found s) a ≡ Run.sent_command s a
  unfolding Run.sent_command
  command-without (opening h) = refl
  command-without (request k b bs) = refl
  command-without turn = rw decide-without
  command-without (completion c bs) = refl
  command-without collect = refl
  command-without save = refl
  command-without (load form) = refl

  perform-without : (a : Ask) (js : List ℕ) → without_found (perform (without_found s) a js) ≡ without_found (perform s a js)
  unfolding perform
  perform-without (opening h) js = refl
  perform-without (request k b bs) js = unfold Request.accept in refl
  perform-without turn js = rw decide-without (step-without s (decide s) js)
  perform-without (completion c bs) js = complete-without s c bs
  perform-without collect js = collected-without s s.request refl
  perform-without save js = rw (without-twice s.request)
  perform-without (load form) js = refl

  -- a form says nothing of the request in hand
  form-without : saved_form (without_found s) ≡ saved_form s
  unfolding model
  form-without = refl

  act-without : (a : Ask) (js : List ℕ) → without_found (act (without_found s) a js) ≡ without_found (act s a js)
  unfolding act
  act-without a js = sym (release-without (perform (without_found s) a js)) ∙ ap (λ x. without_found (release x)) (perform-without a js) ∙ release-without (perform s a js)

  -- a collect hands out the block's contents
  answer-without : (o : Option Request) → Collect.answer (without_found s) (without o) ≡ Collect.answer s o
  unfolding Collect.answer Blocks.contents Blocks.zeros
  answer-without none = refl
  answer-without (some r) = refl

-- what a write puts into the buffer is in both the block's bytes, or zeros
written-without : (s t : State) (c : Command) → without_found s ≡ without_found t → Run.written s c ≡ Run.written t c
written-without s t c e = sym (written_same s (without s.request) c) ∙ ap (λ x. Run.written x c) e ∙ written_same t (without t.request) c

module _ (s : State) where
  handed-without : (a : Ask) (js : List ℕ) → Run.handed (without_found s) a (act (without_found s) a js) ≡ Run.handed s a (act s a js)
  unfolding Run.handed
  handed-without (opening h) js = refl
  handed-without (request k b bs) js = refl
  handed-without turn js = rw (decide-without s) (written-without (act (without_found s) turn js) (act s turn js) (Turn.command (decide s)) (act-without s turn js))
  handed-without (completion c bs) js = refl
  handed-without collect js = answer-without s s.request
  handed-without save js = form-without s
  handed-without (load form) js = refl

  module _ (f : InRange s) where
    without_in : InRange (without_found s)
    without_in = in_request s f (without s.request) (inside s.request f.request) (jobs s.request f.jobs) (waits s.request f.cache)
      where
        anywhere : (t : Bool) → FoundIn s.shape.L (if t then none else some found_nowhere)
        anywhere true = tt
        anywhere false = tt

        inside : (o : Option Request) → IfSome (RequestIn s.shape) o → IfSome (RequestIn s.shape) (without o)
        inside none k = tt
        inside (some r) k = record { kind = k.kind; block = k.block; bytes = k.bytes; next = k.next; evict = k.evict; level = k.level; found = anywhere (held r); awaits = k.awaits }

        jobs : (o : Option Request) → JobsIn s.queue o → JobsIn s.queue (without o)
        jobs none k = k
        jobs (some r) k = k

        waits : (o : Option Request) → Waits s.shape.E s.waiting o → Waits s.shape.E s.waiting (without o)
        waits none k = k
        waits (some r) k = k

    ready-without : (m : ℕ) → Questions.ready (without_found s) m ≡ Questions.ready s m
    unfolding Questions.ready
    ready-without m = ap (λ t. leb (needed s.shape) m && t) (facts-range (without_found s) without_in ∙ sym (facts-range s f))

    number-without : (c : Call) → number (without_found s) c ≡ number s c
    unfolding number
    number-without c = go c.ask
      where
        go : (a : Ask) → Questions.first_no (questions (without_found s) a c.memory c.words c.buffer) ≡ Questions.first_no (questions s a c.memory c.words c.buffer)
        go (opening h) = unfold questions bounds in refl
        go (request k b bs) = unfold questions bounds in (rw (ready-without c.memory, none-without s.request))
        go turn = unfold questions bounds in (rw (ready-without c.memory, decide-without s, possible-without s (decide s)))
        go (completion d bs) = unfold questions in (rw (ready-without c.memory))
        go collect = unfold questions in (rw (ready-without c.memory, in_hand-without s.request, finished-without s s.request))
        go save = unfold questions Questions.at_rest in (rw (ready-without c.memory, none-without s.request, form-without s))
        go (load form) = unfold questions in refl

    accepted-without : (c : Call) → number s c ≡ 0
        → (untold (step (without_found s) c).1 ≡ untold (step s c).1) × (without_found (step (without_found s) c).0 ≡ without_found (step s c).0)
    unfolding Run.accepted
    accepted-without c e = rw (step-accepted s c e, step-accepted (without_found s) c (number-without c ∙ e), bounds-without s c.ask) (
      (λ i. record {
        number = 0;
        taken = Run.taken_of (draws (bounds s c.ask) c.words);
        command = command-without s c.ask i;
        bytes = handed-without c.ask (Run.numbers_of (draws (bounds s c.ask) c.words)) i;
        found = found_nowhere;
      }),
      act-without s c.ask (Run.numbers_of (draws (bounds s c.ask) c.words)),
    )

    refused-without : (c : Call) → (number s c ≡ 0 → ⊥)
        → (untold (step (without_found s) c).1 ≡ untold (step s c).1) × (without_found (step (without_found s) c).0 ≡ without_found (step s c).0)
    unfolding Run.refused
    refused-without c n = rw (step-refused s c n, step-refused (without_found s) c (λ z. n (sym (number-without c) ∙ z))) (rw (number-without c) refl, kept c.ask)
      where
        kept : (a : Ask) → without_found (refuse (without_found s) a) ≡ without_found (refuse s a)
        kept (opening h) = unfold refuse in refl
        kept (request k b bs) = unfold refuse in (rw (without-twice s.request))
        kept turn = unfold refuse in (rw (without-twice s.request))
        kept (completion d bs) = unfold refuse in (rw (without-twice s.request))
        kept collect = unfold refuse in (rw (without-twice s.request))
        kept save = unfold refuse in (rw (without-twice s.request))
        kept (load form) = unfold refuse in refl

-- The state without where the block was found is answered the same number, words, command and bytes, and the call leaves the same but for that
pub step-silent : (s : State) → Left s → (c : Call)
    → (untold (step (without_found s) c).1 ≡ untold (step s c).1) × (without_found (step (without_found s) c).0 ≡ without_found (step s c).0)
step-silent s (shut e) c = rw e (unfold closed in (refl, refl))
step-silent s (live f) c = go (eqb (number s c) 0) refl
  where
    go : (t : Bool) → eqb (number s c) 0 ≡ t
        → (untold (step (without_found s) c).1 ≡ untold (step s c).1) × (without_found (step (without_found s) c).0 ≡ without_found (step s c).0)
    go true e = accepted-without s f c (eqb-true (number s c) 0 e)
    go false e = refused-without s f c (eqb-false (number s c) 0 e)

-- So two states that differ in where the block was found alone give the same numbers, words, commands and bytes, over every list of calls
pub silent : (cs : List Call) (s t : State) → Left s → Left t → without_found s ≡ without_found t → map untold (run s cs) ≡ map untold (run t cs)
unfolding run
silent [] s t k l e = refl
silent (c ∷ cs) s t k l e =
    let a = step-silent s k c in
    let b = step-silent t l c in
    let told : untold (step s c).1 ≡ untold (step t c).1 = sym a.0 ∙ ap (λ x. untold (step x c).1) e ∙ b.0 in
    let rest = silent cs (step s c).0 (step t c).0 (step_left s c k) (step_left t c l) (sym a.1 ∙ ap (λ x. without_found (step x c).0) e ∙ b.1) in
    λ i. told i ∷ rest i

-- A call that looks nothing up answers the same and leaves the same, but for what was found
step-unseen : (s : State) (c : Call) → (untold (step s c).1 ≡ (step_unseen s c).1) × (without_found (step s c).0 ≡ without_found (step_unseen s c).0)
unfolding step_unseen performed Run.accepted Run.refused
step-unseen s c = go (eqb (number s c) 0) refl
  where
    go : (t : Bool) → eqb (number s c) 0 ≡ t → (untold (step s c).1 ≡ (step_unseen s c).1) × (without_found (step s c).0 ≡ without_found (step_unseen s c).0)
    go true e =
        let s' : State = perform s c.ask (Run.numbers_of (draws (bounds s c.ask) c.words)) in
        rw (step-accepted s c (eqb-true (number s c) 0 e), e) (
          (unfold act in (λ i. record {
            number = 0;
            taken = Run.taken_of (draws (bounds s c.ask) c.words);
            command = Run.sent_command s c.ask;
            bytes = (handed-release s c.ask s' ∙ sym (handed-unseen s c.ask s')) i;
            found = found_nowhere;
          })),
          unfold act in (sym (unseen-release s')),
        )
    go false e = rw (step-refused s c (eqb-false (number s c) 0 e), e) (refl, refl)

-- The outcomes of a run but for where blocks were found are those of calls that look nothing up
run-unseen : (cs : List Call) (s t : State) → Left s → without_found s ≡ without_found t → map untold (run s cs) ≡ run_unseen t cs
unfolding run run_unseen
run-unseen [] s t k e = refl
run-unseen (c ∷ cs) s t k e =
    let a = step-silent s k c in
    let b = step-unseen (without_found t) c in
    let told : untold (step s c).1 ≡ (step_unseen (without_found t) c).1 = sym a.0 ∙ ap (λ x. untold (step x c).1) e ∙ b.0 in
    let left : without_found (step s c).0 ≡ without_found (step_unseen (without_found t) c).0 = sym a.1 ∙ ap (λ x. without_found (step x c).0) e ∙ b.1 in
    let rest = run-unseen cs (step s c).0 (step_unseen (without_found t) c).0 (step_left s c k) left in
    λ i. told i ∷ rest i

-- From an open on a run's outcomes but for where blocks were found are those of calls that look nothing up
pub opened-unseen : (s : State) (c : Call) (h : Shape) → c.ask ≡ opening h → (cs : List Call) → map untold (run s (c ∷ cs)) ≡ run_unseen s (c ∷ cs)
unfolding run run_unseen
opened-unseen s c h e cs = λ i. told i ∷ rest i
  where
    t : State
    t = without_found s

    same : step s c ≡ step t c
    same = open-first s c h e ∙ sym (open-first t c h e)

    told : untold (step s c).1 ≡ (step_unseen t c).1
    told = ap (λ (x : State × Run.Outcome). untold x.1) same ∙ (step-unseen t c).0

    opened : Left (step s c).0
    opened = rw (open-first s c h e) (step_left closed c (shut refl))

    rest : map untold (run (step s c).0 cs) ≡ run_unseen (step_unseen t c).0 cs
    rest = run-unseen cs (step s c).0 (step_unseen t c).0 opened (ap (λ (x : State × Run.Outcome). without_found x.0) same ∙ (step-unseen t c).1)
