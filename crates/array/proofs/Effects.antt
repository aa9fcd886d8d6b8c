-- What a call changes of one slot: what it sends there, what is outstanding, and how long the blocks are.
use Rattle.std.specs.Prelude.{◌≡◌, ◌⊎◌, Bool, ℕ, get_or, if◌then◌else◌}
use Rattle.std.proofs.Math.Path.{refl}
use Rattle.std.proofs.Common.{ap, sym, inl, ⊎_elim, true≢false, arith}
use Rattle.std.proofs.Math.Logic.{inr}
use Rattle.std.proofs.Math.Bool.{true, false}
use mathlib.Core.List.{List, [], ◌∷◌, ◌++◌}
use Rattle.std.proofs.Math.Option.{Option, none, some}
use Rattle.std.proofs.Math.ListN.{length}
use Rattle.std.proofs.Math.Dec.{eqb}
use borrow.Author.Tests.{eqb-true, eqb-false}
use Rattle.lists.specs.All.{IfSome, any_snoc, any-without}
use Rattle.lists.specs.Search.{any}
use Rattle.lists.specs.Tables.{put_has}
use Rattle.rules.specs.Blocks
use Rattle.rules.specs.Collect
use Rattle.rules.specs.Completion
use Rattle.rules.specs.Completion.{is_command, complete}
use Rattle.rules.specs.Draws.{draws}
use Rattle.rules.specs.Laws.Answers.{opens}
use Rattle.rules.proofs.Laws.Answers.{Passed, accepted-passed, step-accepted, step-refused, refuse-keeps}
use Rattle.rules.proofs.Laws.Lengths.{Whole, slot-length, contents-length}
use Rattle.rules.specs.Laws.Range.{RequestIn}
use Rattle.rules.proofs.Laws.Released.{handed-release}
use Rattle.rules.proofs.Laws.Shapes.{act-shape}
use Rattle.rules.specs.Questions.{Ask, opening, request, turn, completion, collect, save, load, Call, bounds, number, questions}
use Rattle.rules.specs.Ranges.{bytes_of}
use Rattle.rules.specs.Rebuild.{do_rebuild}
use Rattle.rules.specs.Request
use Rattle.rules.specs.Request.{accept}
use Rattle.rules.specs.Run
use Rattle.rules.specs.Run.{act, step}
use Rattle.rules.specs.Shape.{Shape}
use Rattle.rules.specs.State.{State, Command, cmd, read, write, Request}
use Rattle.rules.specs.Turn
use Rattle.rules.specs.Turn.{Step, idle, no_dummy, read_for_request, read_for_job, rebuild, write_next, decide, command, do_step}
use Rattle.reachable.proofs.Outstanding.{command-is, same-command}
use Rattle.reachable.proofs.Reached.{Was, was-reached}
use Rattle.reachable.specs.Values.{Out}

one≢two : ◌≡◌ {A = ℕ} 1 2 → ⊥
one≢two e = omega arith

-- from s, with command c and bytes bs: what it leaves, as far as slot (q, ℓ, i) goes
pub record Effect (s : State) (q ℓ i : ℕ) (s' : State) (c : Command) (bs : List ℕ) : Type 0 where
  pub whole : Whole s'
  pub shape : s'.shape.B ≡ s.shape.B
  pub kind : (c.kind ≡ 0) ⊎ ((c.kind ≡ read) ⊎ (c.kind ≡ write))
  pub sized : c.kind ≡ write → length bs ≡ s.shape.B
  pub out : Out s' q ℓ i → Out s q ℓ i ⊎ (c ≡ cmd read q ℓ i)

module _ (s : State) (w : Whole s) (q ℓ i : ℕ) where
  -- a call that sends nothing
  quiet : (s' : State) (bs : List ℕ) → Whole s' → s'.shape.B ≡ s.shape.B → (Out s' q ℓ i → Out s q ℓ i) → Effect s q ℓ i s' (cmd 0 0 0 0) bs
  quiet s' bs k e o = record { whole = k; shape = e; kind = inl refl; sized = λ z. absurd (omega arith); out = λ z. inl (o z) }

  read_out : (p m j : ℕ) → any (is_command (cmd read q ℓ i)) (s.outstanding ++ (cmd read p m j ∷ [])) ≡ true → Out s q ℓ i ⊎ (cmd read p m j ≡ cmd read q ℓ i)
  read_out p m j e = ⊎_elim inl (λ z. let k = command-is (cmd read q ℓ i) (cmd read p m j) z in inr (sym (same-command (cmd read q ℓ i) (cmd read p m j) k.0 k.1))) (any_snoc (is_command (cmd read q ℓ i)) s.outstanding (cmd read p m j) e)

  write-out : (p m j : ℕ) → any (is_command (cmd read q ℓ i)) (s.outstanding ++ (cmd write p m j ∷ [])) ≡ true → Out s q ℓ i ⊎ (cmd write p m j ≡ cmd read q ℓ i)
  write-out p m j e = ⊎_elim inl (λ z. absurd (one≢two (command-is (cmd read q ℓ i) (cmd write p m j) z).0)) (any_snoc (is_command (cmd read q ℓ i)) s.outstanding (cmd write p m j) e)

  turn-effect : (x : Step) (js : List ℕ) → Effect s q ℓ i (do_step x js s) (command x) (Run.written (do_step x js s) (command x))
  unfolding command do_step Turn.send Turn.mark_read do_rebuild Run.written
  turn-effect idle js = quiet s _ w refl (λ z. z)
  turn-effect no_dummy js = quiet s _ w refl (λ z. z)
  turn-effect (read_for_request p m j) js = record { whole = w; shape = refl; kind = inr (inl refl); sized = λ z. absurd (one≢two z); out = read_out p m j }
  turn-effect (read_for_job p m j) js = record { whole = w; shape = refl; kind = inr (inl refl); sized = λ z. absurd (one≢two z); out = read_out p m j }
  turn-effect (rebuild p ls) js = record { whole = w; shape = refl; kind = inr (inr refl); sized = λ z. slot-length (do_step (rebuild p ls) js s) w _; out = write-out p (get_or ls 0 0) 0 }
  turn-effect (write_next p t j) js = record { whole = w; shape = refl; kind = inr (inr refl); sized = λ z. slot-length (do_step (write_next p t j) js s) w _; out = write-out p t j }

  -- a completion
  complete-whole : (c : Command) (bs : List ℕ) → (eqb c.kind read ≡ true → length bs ≡ s.shape.B) → Whole (complete c bs s)
  unfolding complete Completion.complete_read Completion.complete_write Completion.completed Completion.gather_bytes Completion.finish_job Completion.end_job
  complete-whole c bs e = go (eqb c.kind read) e (Blocks.holder s c.partition c.level c.slot) s.queue
    where
      s' : State
      s' = Completion.completed c s

      ended : (p : ℕ) (t : Bool) → Whole (if t then Completion.end_job p s' else s')
      ended p true = w
      ended p false = w

      go : (t : Bool) → (t ≡ true → length bs ≡ s.shape.B) → (o : Option ℕ) (qs : List ℕ) → Whole (if t then Completion.gather_bytes o bs s' else Completion.finish_job qs s')
      go true k none qs = w
      go true k (some b) qs = λ a. put_has (λ x. length x ≡ s.shape.B) b bs s.bytes a (k refl) (w a)
      go false k o [] = w
      go false k o (p ∷ qs) = ended p (Completion.job_done s' p)

  complete-out : (c : Command) (bs : List ℕ) → Out (complete c bs s) q ℓ i → Out s q ℓ i
  unfolding complete Completion.complete_read Completion.complete_write Completion.completed Completion.gather_bytes Completion.finish_job Completion.end_job
  complete-out c bs = go (eqb c.kind read) (Blocks.holder s c.partition c.level c.slot) s.queue
    where
      s' : State
      s' = Completion.completed c s

      left : Out s' q ℓ i → Out s q ℓ i
      left = any-without (is_command (cmd read q ℓ i)) (is_command c) s.outstanding

      ended : (p : ℕ) (t : Bool) → Out (if t then Completion.end_job p s' else s') q ℓ i → Out s q ℓ i
      ended p true = left
      ended p false = left

      go : (t : Bool) (o : Option ℕ) (qs : List ℕ) → Out (if t then Completion.gather_bytes o bs s' else Completion.finish_job qs s') q ℓ i → Out s q ℓ i
      go true none qs = left
      go true (some b) qs = left
      go false o [] = left
      go false o (p ∷ qs) = ended p (Completion.job_done s' p)

  -- a collect
  collect-whole : (o : Option Request) → IfSome (RequestIn s.shape) o → Whole (Collect.collected o s)
  unfolding Collect.collected Collect.finish bytes_of
  collect-whole none k = w
  collect-whole (some r) k = λ a. put_has (λ x. length x ≡ s.shape.B) r.block (if eqb r.kind write then r.bytes else Blocks.contents s r.block) s.bytes a (go (eqb r.kind write) k.bytes) (w a)
    where
      go : (t : Bool) → length r.bytes ≡ (if t then s.shape.B else 0) → length (if t then r.bytes else Blocks.contents s r.block) ≡ s.shape.B
      go true e = e
      go false e = contents-length s w r.block

  collect-out : (o : Option Request) → Out (Collect.collected o s) q ℓ i → Out s q ℓ i
  unfolding Collect.collected Collect.finish
  collect-out none z = z
  collect-out (some r) z = z

  -- an accepted call that is no open, before a request is released
  perform-effect : (a : Ask) (m : ℕ) (ws : List ℕ) (n : ℕ) (js : List ℕ) → opens a ≡ false → Was s → Passed (questions s a m ws n) →
      Effect s q ℓ i (Run.perform s a js) (Run.sent_command s a) (Run.handed s a (Run.perform s a js))
  unfolding act Run.perform Run.sent_command Run.handed questions opens bytes_of
  perform-effect (opening h) m ws n js o l p = absurd (true≢false o)
  perform-effect (request k b bs) m ws n js o l p = quiet (accept k b bs js s) [] (unfold accept in w) (unfold accept in refl) (unfold accept in (λ z. z))
  perform-effect turn m ws n js o l p = turn-effect (decide s) js
  perform-effect (completion c bs) m ws n js o l p =
      quiet (complete c bs s) [] (complete-whole c bs (λ e. eqb-true (length bs) s.shape.B (rw e at p.1.1.0)))
      (ap (λ (h : Shape). h.B) (act-shape s (completion c bs) js o)) (complete-out c bs)
  perform-effect collect m ws n js o l p =
      quiet (Collect.collected s.request s) (Collect.answer s s.request) (collect-whole s.request (was-reached s m l p.0).range.request)
      (ap (λ (h : Shape). h.B) (act-shape s collect js o)) (collect-out s.request)
  perform-effect save m ws n js o l p = quiet s _ w refl (λ z. z)
  perform-effect (load form) m ws n js o l p = absurd (true≢false o)

  -- a request released changes nothing of these
  released : (s' : State) (c : Command) (bs : List ℕ) → Effect s q ℓ i s' c bs → Effect s q ℓ i (Request.release s') c bs
  released s' c bs e = record { whole = e.whole; shape = e.shape; kind = e.kind; sized = e.sized; out = e.out }

  act-effect : (a : Ask) (m : ℕ) (ws : List ℕ) (n : ℕ) (js : List ℕ) → opens a ≡ false → Was s → Passed (questions s a m ws n) →
      Effect s q ℓ i (act s a js) (Run.sent_command s a) (Run.handed s a (act s a js))
  unfolding act
  act-effect a m ws n js o l p = rw (handed-release s a (Run.perform s a js)) (released (Run.perform s a js) _ _ (perform-effect a m ws n js o l p))

  -- every call that is no open
  pub step-effect : (c : Call) → opens c.ask ≡ false → Was s → Effect s q ℓ i (step s c).0 (step s c).1.command (step s c).1.bytes
  step-effect c o l = go (eqb (number s c) 0) refl
    where
      go : (t : Bool) → eqb (number s c) 0 ≡ t → Effect s q ℓ i (step s c).0 (step s c).1.command (step s c).1.bytes
      go true e =
          let z = eqb-true (number s c) 0 e in
          rw (step-accepted s c z) (unfold Run.accepted in (act-effect c.ask c.memory c.words c.buffer (Run.numbers_of (draws (bounds s c.ask) c.words)) o l (accepted-passed s c z)))
      go false e = rw (step-refused s c (eqb-false (number s c) 0 e), refuse-keeps s c.ask o) (unfold Run.refused in (quiet s [] w refl (λ z. z)))
