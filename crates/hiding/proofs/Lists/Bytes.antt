-- What bytes a completion brings, and which contents a request has, changes nothing of what is told: a call with zeros for them, from the state
-- without the bytes that it keeps, has the same number, count of words and command, and leaves the same but for bytes.
use Rattle.std.specs.Prelude.{◌≡◌, Bool, not, ◌&&◌, ℕ, suc, length, replicate, eqb, if◌then◌else◌}
use Rattle.std.proofs.Math.Path.{refl, ap}
use Rattle.std.proofs.Common.{sym, ◌∙◌}
use Rattle.std.proofs.Math.Bool.{true, false}
use mathlib.Core.List.{List, [], ◌∷◌}
use Rattle.std.proofs.Math.Option.{Option, none, some, map}
use Rattle.std.proofs.lemmas.List.{length-replicate}
use Rattle.lists.specs.Search.{is_none}
use Rattle.rules.specs.Ranges
use Rattle.rules.specs.Draws.{draws}
use Rattle.rules.specs.Questions
use Rattle.rules.specs.Questions.{Ask, opening, request, turn, completion, collect, Call, bounds, questions, number, save, load}
use Rattle.rules.specs.Completion
use Rattle.rules.specs.Jobs.{joined, top_of, levels_of}
use Rattle.rules.specs.Unfold.{model}
use Rattle.rules.specs.Collect
use Rattle.rules.specs.Run
use Rattle.rules.specs.Run.{act, step}
use Rattle.rules.specs.Setters.{◌▷◌, set_bytes, set_request}
use Rattle.rules.specs.State.{State, Request, Command}
use Rattle.rules.specs.Turn
use Rattle.rules.specs.Turn.{Step, idle, no_dummy, read_for_request, read_for_job, rebuild, write_next, decide, do_step}
use Rattle.rules.specs.Blocks
use Rattle.rules.specs.Rebuild
use Rattle.rules.specs.Request
use Rattle.hiding.specs.Claim.{told}

-- no save and no load: no form is in it
abbrev pub NoForm : Ask → Type 0
NoForm (opening h) = Unit {0}
NoForm (request k b bs) = Unit {0}
NoForm turn = Unit {0}
NoForm (completion c bs) = Unit {0}
NoForm collect = Unit {0}
NoForm save = ⊥
NoForm (load form) = ⊥

-- a state without the bytes it keeps: of a request's contents the length stays
abbrev pub zero_bytes : Request → Request
zero_bytes r = record { kind = r.kind; block = r.block; bytes = replicate (length r.bytes) 0; next = r.next; evict = r.evict; level = r.level; found = r.found; awaits = r.awaits }

abbrev pub bare_request : Option Request → Option Request
bare_request none = none
bare_request (some r) = some (zero_bytes r)

abbrev pub bare : State → State
bare s = s ▷ set_bytes (λ b. []) ▷ set_request (bare_request s.request)

-- a call with zeros for bytes
abbrev pub bare_ask : Ask → Ask
bare_ask (opening h) = opening h
bare_ask (request k b bs) = request k b (replicate (length bs) 0)
bare_ask turn = turn
bare_ask (completion c bs) = completion c (replicate (length bs) 0)
bare_ask collect = collect
bare_ask save = save
bare_ask (load form) = load form

abbrev pub bare_call : Call → Call
bare_call c = record { ask = bare_ask c.ask; memory = c.memory; words = c.words; buffer = c.buffer }

pub length-zeros : (bs : List ℕ) → length {A = ℕ} (replicate (length bs) 0) ≡ length bs
length-zeros bs = let z : ℕ = 0 in length-replicate (length bs) z

-- ---- what is asked of a state

module _ (s : State) where
  request_step-bare : (o : Option Request) → Turn.request_step (bare s) (bare_request o) ≡ Turn.request_step s o
  unfolding model
  request_step-bare none = refl
  request_step-bare (some r) = refl

  released_for-bare : (q : ℕ) (o : Option Request) → Request.released_for s.partition (bare_request o) q ≡ Request.released_for s.partition o q
  unfolding Request.released_for Request.held
  released_for-bare q none = refl
  released_for-bare q (some r) = refl

  rebuild_step-bare : (q : ℕ) → Turn.rebuild_step (bare s) q ≡ Turn.rebuild_step s q
  unfolding Turn.rebuild_step levels_of joined
  rebuild_step-bare q = rw (released_for-bare q s.request)

  job_step-bare : (l : List ℕ) → Turn.job_step (bare s) l ≡ Turn.job_step s l
  unfolding Turn.job_step
  job_step-bare [] = refl
  job_step-bare (q ∷ l) = rw (rebuild_step-bare q) (unfold Rebuild.unread Rebuild.next_unread Blocks.is_unread Turn.write_step top_of levels_of joined in refl)

  pub decide-bare : decide (bare s) ≡ decide s
  unfolding decide
  decide-bare = rw (request_step-bare s.request, job_step-bare s.queue)

  bounds-bare : (a : Ask) → bounds (bare s) (bare_ask a) ≡ bounds s a
  unfolding bounds
  bounds-bare (opening h) = refl
  bounds-bare (request k b bs) = refl
  bounds-bare turn = rw decide-bare
  bounds-bare (completion c bs) = refl
  bounds-bare collect = refl
  bounds-bare save = refl
  bounds-bare (load form) = refl

  sent-bare : (a : Ask) → Run.sent_command (bare s) (bare_ask a) ≡ Run.sent_command s a
  unfolding Run.sent_command
  sent-bare (opening h) = refl
  sent-bare (request k b bs) = refl
  sent-bare turn = rw decide-bare
  sent-bare (completion c bs) = refl
  sent-bare collect = refl
  sent-bare save = refl
  sent-bare (load form) = refl

  possible-bare : (x : Step) → Questions.possible (bare s) x ≡ Questions.possible s x
  unfolding model
  possible-bare idle = refl
  possible-bare no_dummy = refl
  possible-bare (read_for_request q ℓ i) = refl
  possible-bare (read_for_job q ℓ i) = refl
  possible-bare (rebuild q ls) = refl
  possible-bare (write_next q t i) = refl

  finished-bare : (o : Option Request) → Questions.in_hand (Collect.finished (bare s)) (bare_request o) ≡ Questions.in_hand (Collect.finished s) o
  unfolding model
  finished-bare none = refl
  finished-bare (some r) = refl

  in_hand-bare : (o : Option Request) → Questions.in_hand (λ r. true) (bare_request o) ≡ Questions.in_hand (λ r. true) o
  unfolding model
  in_hand-bare none = refl
  in_hand-bare (some r) = refl

  pub none_bare : (o : Option Request) → is_none (bare_request o) ≡ is_none o
  unfolding model
  none_bare none = refl
  none_bare (some r) = refl

  range_request-bare : (o : Option Request) → Ranges.range_request s.shape (bare_request o) ≡ Ranges.range_request s.shape o
  unfolding Ranges.range_request
  range_request-bare none = refl
  range_request-bare (some r) = rw (length-zeros r.bytes)

  queue_fits-bare : (o : Option Request) → Ranges.queue_fits s.queue (bare_request o) ≡ Ranges.queue_fits s.queue o
  unfolding model
  queue_fits-bare none = refl
  queue_fits-bare (some r) = refl

  cache_fits-bare : (o : Option Request) → Ranges.cache_fits s.shape.E s.waiting (bare_request o) ≡ Ranges.cache_fits s.shape.E s.waiting o
  unfolding model
  cache_fits-bare none = refl
  cache_fits-bare (some r) = refl

  ready-bare : (m : ℕ) → Questions.ready (bare s) m ≡ Questions.ready s m
  unfolding Questions.ready Ranges.in_range Ranges.ranges
  ready-bare m = rw (range_request-bare s.request, queue_fits-bare s.request, cache_fits-bare s.request)

  questions-bare : (a : Ask) → NoForm a → (m : ℕ) (ws : List ℕ) (n : ℕ) → questions (bare s) (bare_ask a) m ws n ≡ questions s a m ws n
  unfolding questions bounds
  questions-bare (opening h) f m ws n = refl
  questions-bare (request k b bs) f m ws n = rw (ready-bare m, none_bare s.request, length-zeros bs)
  questions-bare turn f m ws n = rw (ready-bare m, decide-bare, possible-bare (decide s))
  questions-bare (completion c bs) f m ws n = rw (ready-bare m, length-zeros bs)
  questions-bare collect f m ws n = rw (ready-bare m, in_hand-bare s.request, finished-bare s.request)
  questions-bare save f m ws n = absurd f
  questions-bare (load form) f m ws n = absurd f

  number-bare : (c : Call) → NoForm c.ask → number (bare s) (bare_call c) ≡ number s c
  unfolding number
  number-bare c f = rw (questions-bare c.ask f c.memory c.words c.buffer)

  -- ---- what it does

  pass_level-bare : (ℓ n : ℕ) (o : Option Request) → bare_request (Request.pass_level ℓ n (bare_request o)) ≡ bare_request (Request.pass_level ℓ n o)
  unfolding Request.pass_level
  pass_level-bare ℓ n none = refl
  pass_level-bare ℓ n (some r) = rw (length-zeros r.bytes)

  same-bare : (o : Option Request) → bare_request (bare_request o) ≡ bare_request o
  same-bare none = refl
  same-bare (some r) = rw (length-zeros r.bytes)

  do_step-bare : (x : Step) (js : List ℕ) → bare (do_step x js (bare s)) ≡ bare (do_step x js s)
  unfolding model
  do_step-bare idle js = rw (same-bare s.request)
  do_step-bare no_dummy js = rw (same-bare s.request)
  do_step-bare (read_for_request q ℓ i) js = rw (pass_level-bare ℓ (suc (length s.outstanding)) s.request)
  do_step-bare (read_for_job q ℓ i) js = rw (same-bare s.request)
  do_step-bare (rebuild q ls) js = rw (same-bare s.request)
  do_step-bare (write_next q t i) js = rw (same-bare s.request)

  gather_bytes-bare : (o : Option ℕ) (bs cs : List ℕ) → bare (Completion.gather_bytes o bs (bare s)) ≡ bare (Completion.gather_bytes o cs s)
  unfolding Completion.gather_bytes
  gather_bytes-bare none bs cs = rw (same-bare s.request)
  gather_bytes-bare (some b) bs cs = rw (same-bare s.request)

  finish_job-bare : (l : List ℕ) → bare (Completion.finish_job l (bare s)) ≡ bare (Completion.finish_job l s)
  unfolding Completion.finish_job Completion.job_done Completion.end_job levels_of joined
  finish_job-bare [] = rw (same-bare s.request)
  finish_job-bare (q ∷ l) = go (Completion.job_done s q)
    where
      go : (t : Bool) → bare (if t then Completion.end_job q (bare s) else bare s) ≡ bare (if t then Completion.end_job q s else s)
      go true = rw (same-bare s.request)
      go false = rw (same-bare s.request)

  collected-bare : (o : Option Request) → bare (Collect.collected (bare_request o) (bare s)) ≡ bare (Collect.collected o s)
  unfolding model
  collected-bare none = rw (same-bare s.request)
  collected-bare (some r) = refl

  awaits-bare : (c : Command) (o : Option Request) → map (Completion.awaits_less c s.outstanding) (bare_request o) ≡ bare_request (map (Completion.awaits_less c s.outstanding) o)
  awaits-bare c none = refl
  awaits-bare c (some r) = refl

  completed-bare : (c : Command) → Completion.completed c (bare s) ≡ bare (Completion.completed c s)
  unfolding Completion.completed
  completed-bare c = ap (λ (o : Option Request). bare (Completion.completed c s) ▷ set_request o) (awaits-bare c s.request)

module _ (s : State) where
  complete-bare : (c : Command) (bs cs : List ℕ) → bare (Completion.complete c bs (bare s)) ≡ bare (Completion.complete c cs s)
  unfolding Completion.complete Completion.complete_read Completion.complete_write Blocks.holder
  complete-bare c bs cs = go (eqb c.kind 1)
    where
      go : (t : Bool) → bare (if t then Completion.complete_read c bs (bare s) else Completion.complete_write c (bare s)) ≡ bare (if t then Completion.complete_read c cs s else Completion.complete_write c s)
      go true =
          let o = Blocks.holder s c.partition c.level c.slot in
          ap (λ x. bare (Completion.gather_bytes o bs x)) (completed-bare s c) ∙ gather_bytes-bare (Completion.completed c s) o bs cs
      go false = ap (λ x. bare (Completion.finish_job s.queue x)) (completed-bare s c) ∙ finish_job-bare (Completion.completed c s) s.queue

  perform-bare : (a : Ask) → (js : List ℕ) → bare (Run.perform (bare s) (bare_ask a) js) ≡ bare (Run.perform s a js)
  unfolding Run.perform
  perform-bare (opening h) js = refl
  perform-bare (request k b bs) js = unfold Request.accept in (rw (length-zeros bs))
  perform-bare turn js = rw (decide-bare s) (do_step-bare s (decide s) js)
  perform-bare (completion c bs) js = complete-bare c (replicate (length bs) 0) bs
  perform-bare collect js = collected-bare s s.request
  perform-bare save js = rw (same-bare s s.request)
  perform-bare (load form) js = refl

-- a request is released by what is not bytes
release-bare : (s : State) → bare (Request.release (bare s)) ≡ bare (Request.release s)
unfolding model
release-bare s = go s.request
  where
    go : (o : Option Request) → bare (set_request (map (Request.released_in (bare s)) (bare_request o)) (bare s)) ≡ bare (set_request (map (Request.released_in s) o) s)
    go none = refl
    go (some r) = one (Request.held r && not (Request.blocked s r))
      where
        one : (t : Bool) → bare (set_request (some (if t then Request.with_found (Blocks.look_up s r.block) (length s.outstanding) (zero_bytes r) else zero_bytes r)) (bare s)) ≡ bare (set_request (some (if t then Request.with_found (Blocks.look_up s r.block) (length s.outstanding) r else r)) s)
        one true = rw (length-zeros r.bytes)
        one false = rw (length-zeros r.bytes)

-- .. so of states that differ in bytes alone
release-alike : (s s' : State) → bare s ≡ bare s' → bare (Request.release s) ≡ bare (Request.release s')
release-alike s s' e = sym (release-bare s) ∙ ap (λ x. bare (Request.release x)) e ∙ release-bare s'

module _ (s : State) where
  act-bare : (a : Ask) → (js : List ℕ) → bare (act (bare s) (bare_ask a) js) ≡ bare (act s a js)
  unfolding act
  act-bare a js = release-alike (Run.perform (bare s) (bare_ask a) js) (Run.perform s a js) (perform-bare s a js)

  refuse-bare : (a : Ask) → bare (Run.refuse (bare s) (bare_ask a)) ≡ bare (Run.refuse s a)
  unfolding Run.refuse
  refuse-bare (opening h) = refl
  refuse-bare (request k b bs) = rw (same-bare s s.request)
  refuse-bare turn = rw (same-bare s s.request)
  refuse-bare (completion c bs) = rw (same-bare s s.request)
  refuse-bare collect = rw (same-bare s s.request)
  refuse-bare save = rw (same-bare s s.request)
  refuse-bare (load form) = refl

  -- a call with zeros, from the state without its bytes
  pub record Bare (c : Call) : Type 0 where
    pub tells : told (step (bare s) (bare_call c)).1 ≡ told (step s c).1
    pub next : bare (step (bare s) (bare_call c)).0 ≡ bare (step s c).0

  pub step-bare : (c : Call) → NoForm c.ask → Bare c
  unfolding step Run.accepted Run.refused
  step-bare c f = go (eqb (number s c) 0) refl
    where
      n : number (bare s) (bare_call c) ≡ number s c
      n = number-bare s c f

      js : List ℕ
      js = Run.numbers_of (draws (bounds s c.ask) c.words)

      go : (t : Bool) → eqb (number s c) 0 ≡ t → Bare c
      go true e = record {
        tells = rw (n, e, bounds-bare s c.ask, sent-bare s c.ask);
        next = rw (n, e, bounds-bare s c.ask) (act-bare c.ask js);
      }
      go false e = record {
        tells = rw (n, e);
        next = rw (n, e) (refuse-bare c.ask);
      }
