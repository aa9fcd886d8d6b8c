-- Document 02, P4: "and the wanted block leaves the job."
use Rattle.std.specs.Prelude.{◌≡◌, Bool, true, List, [], ◌∷◌, ℕ, suc, ◌<◌, eqb, if◌then◌else◌}
use Rattle.std.proofs.Math.Path.{refl, ap}
use Rattle.std.proofs.Common.{sym, ◌∙◌, ⊎_elim, true≢false, eqb-true}
use Rattle.std.proofs.Math.Bool.{false}
use Rattle.std.proofs.Math.Option.{Option, none, some}
use Rattle.std.proofs.lemmas.Bool.{eqb-false}
use Rattle.lists.specs.All.{All, cons}
use Rattle.lists.specs.Distinct.{Mem}
use Rattle.lists.specs.Tables.{put_same, put_has}
use Rattle.rules.specs.Blocks.{holder}
use Rattle.rules.specs.Collect.{collected, finish}
use Rattle.rules.specs.Completion
use Rattle.rules.specs.Completion.{complete}
use Rattle.rules.specs.Draws.{draws}
use Rattle.rules.proofs.Laws.Answers.{step-accepted, step-refused, accepted-leaves}
use Rattle.rules.specs.Jobs.{top_of}
use Rattle.rules.specs.Open.{fresh}
use Rattle.rules.specs.Questions.{Ask, opening, request, turn, completion, collect, save, load, Call, bounds, number}
use Rattle.rules.specs.Rebuild.{chosen, gathered}
use Rattle.rules.specs.Request.{accept, release}
use Rattle.rules.specs.Resumes.{NoLoad, saved_by, OfLast, Resumes}
use Rattle.rules.specs.Run
use Rattle.rules.specs.Run.{Outcome, perform, sent_command, step, run, after}
use Rattle.rules.specs.State.{State, Command, read, write, Place, nowhere, Request, closed}
use Rattle.rules.specs.Turn.{Step, idle, no_dummy, read_for_request, read_for_job, rebuild, write_next, decide, command, do_step, mark_read, send}
use Rattle.reachable.specs.Invariant.{Reached}
use Rattle.reachable.proofs.LastSaved.{OfState, step-last, Brought, back, gone, load-leaves, resumes-was}
use Rattle.reachable.proofs.Reached.{Was}
use Rattle.reachable.specs.Live.{is_below}
use Rattle.reachable.proofs.Slots.{gathered-why}

-- a block without a slot is gathered only as one of those that are chosen from the cache
pub gathered-chosen : (s : State) → Reached s → (q b : ℕ) → q < s.shape.P → s.sent ≡ 0 → s.place b ≡ nowhere → Mem b (gathered s q) → Mem b (chosen s q)
gathered-chosen s f q b hq calm e m = ⊎_elim (λ k. k) (λ k. absurd (true≢false (sym k.1 ∙ ap (is_below (suc (top_of s q))) e ∙ unfold is_below in refl))) (gathered-why s f q hq calm b m)

-- a collect takes its block out of its slot
pub collected-nowhere : (s : State) (k : Call) → k.ask ≡ collect → number s k ≡ 0 → (r : Request) → s.request ≡ some r → (step s k).0.place r.block ≡ nowhere
collected-nowhere s k a z r e = ap (λ (x : State). x.place r.block) (accepted-leaves s k z) ∙ left k.ask a
  where
    js : List ℕ
    js = Run.numbers_of (draws (bounds s k.ask) k.words)

    left : (b : Ask) → b ≡ collect → (release (perform s b js)).place r.block ≡ nowhere
    left b w = ap (λ x. (release (perform s x js)).place r.block) w ∙ (unfold perform in (ap (λ o. (collected o s).place r.block) e ∙ unfold collected finish in (put_same r.block nowhere s.place)))

-- ---- and until a write is sent it stays so: only a rebuild gives a block a slot
module _ (s : State) (b : ℕ) (e : s.place b ≡ nowhere) where
  turn-stays : (x : Step) (js : List ℕ) → ¬ ((command x).kind ≡ write) → (do_step x js s).place b ≡ nowhere
  unfolding do_step mark_read send command
  turn-stays idle js n = e
  turn-stays no_dummy js n = e
  turn-stays (read_for_request q ℓ i) js n = e
  turn-stays (read_for_job q ℓ i) js n = e
  turn-stays (rebuild q ls) js n = absurd (n refl)
  turn-stays (write_next q t i) js n = e

  complete-stays : (c : Command) (bs : List ℕ) → (complete c bs s).place b ≡ nowhere
  unfolding complete Completion.complete_read Completion.complete_write Completion.completed Completion.gather_bytes Completion.finish_job Completion.end_job
  complete-stays c bs = go (eqb c.kind read) (holder s c.partition c.level c.slot) s.queue
    where
      s' : State
      s' = Completion.completed c s

      ended : (q : ℕ) (t : Bool) → (if t then Completion.end_job q s' else s').place b ≡ nowhere
      ended q true = e
      ended q false = e

      go : (t : Bool) (o : Option ℕ) (qs : List ℕ) → (if t then Completion.gather_bytes o bs s' else Completion.finish_job qs s').place b ≡ nowhere
      go true none qs = e
      go true (some d) qs = e
      go false o [] = e
      go false o (q ∷ qs) = ended q (Completion.job_done s' q)

  collect-stays : (o : Option Request) → (collected o s).place b ≡ nowhere
  unfolding collected finish
  collect-stays none = e
  collect-stays (some r) = put_has (λ (x : Place). x ≡ nowhere) r.block nowhere s.place b refl e

  perform-stays : (a : Ask) (js : List ℕ) → NoLoad a → ¬ ((sent_command s a).kind ≡ write) → (perform s a js).place b ≡ nowhere
  unfolding perform sent_command
  perform-stays (opening h) js o n = unfold fresh in refl
  perform-stays (request k d bs) js o n = unfold accept in e
  perform-stays turn js o n = turn-stays (decide s) js n
  perform-stays (completion c bs) js o n = complete-stays c bs
  perform-stays collect js o n = collect-stays s.request
  perform-stays save js o n = e
  perform-stays (load form) js o n = absurd o

  step_stays : (c : Call) → NoLoad c.ask → ¬ ((step s c).1.command.kind ≡ write) → (step s c).0.place b ≡ nowhere
  unfolding Run.refuse
  step_stays c o n = go (eqb (number s c) 0) refl
    where
      refused-stays : (a : Ask) → (Run.refuse s a).place b ≡ nowhere
      refused-stays (opening h) = unfold closed in refl
      refused-stays (request k d bs) = e
      refused-stays turn = e
      refused-stays (completion c bs) = e
      refused-stays collect = e
      refused-stays save = e
      refused-stays (load form) = unfold closed in refl

      go : (t : Bool) → eqb (number s c) 0 ≡ t → (step s c).0.place b ≡ nowhere
      go true k =
          let z = eqb-true (number s c) 0 k in
          let w : (step s c).1.command ≡ sent_command s c.ask = ap (λ (x : State × Outcome). x.1.command) (step-accepted s c z) ∙ (unfold Run.accepted in refl) in
          ap (λ (x : State). x.place b) (accepted-leaves s c z) ∙ perform-stays c.ask (Run.numbers_of (draws (bounds s c.ask) c.words)) o (λ v. n (ap (λ (x : Command). x.kind) w ∙ v))
      go false k = ap (λ (x : State × Outcome). x.0.place b) (step-refused s c (eqb-false (number s c) 0 k)) ∙ refused-stays c.ask

-- a load of what was saved last brings the block's place back
load-stays : (s : State) (b : ℕ) → s.place b ≡ nowhere → (t : State) → Brought s t → t.place b ≡ nowhere
load-stays s b e t (back f r y o z) = ap (λ (x : State). x.place b) z ∙ e
load-stays s b e t (gone z) = ap (λ (x : State). x.place b) z ∙ unfold closed in refl

resumes-stays : (s : State) (b : ℕ) → s.place b ≡ nowhere → (x : List ℕ) (c : Call) → OfLast x c.ask → OfState s x → Was s → ¬ ((step s c).1.command.kind ≡ write) → (step s c).0.place b ≡ nowhere
resumes-stays s b e x c v y l n = go c.ask refl v
  where
    plain : NoLoad c.ask → (step s c).0.place b ≡ nowhere
    plain o = step_stays s b e c o n

    go : (a : Ask) → c.ask ≡ a → OfLast x a → (step s c).0.place b ≡ nowhere
    go (opening h) w v = plain (rw w tt)
    go (request k d bs) w v = plain (rw w tt)
    go turn w v = plain (rw w tt)
    go (completion d bs) w v = plain (rw w tt)
    go collect w v = plain (rw w tt)
    go save w v = plain (rw w tt)
    go (load form) w v = load-stays s b e (step s c).0 (load-leaves s c form w (rw v y) l).0

-- no call of these sends a write
abbrev pub Unwritten : List Outcome → Type 0
Unwritten os = All (λ (o : Outcome). ¬ (o.command.kind ≡ write)) os

-- over calls whose loads are of what was saved last
pub after-stays : (ds : List Call) (s : State) (b : ℕ) (x : List ℕ) → s.place b ≡ nowhere → Unwritten (run s ds) → Resumes x ds (run s ds) → OfState s x → Was s
    → ((after s ds).place b ≡ nowhere) × Was (after s ds)
unfolding run after
after-stays [] s b x e n v y l = (e, l)
after-stays (d ∷ ds) s b x e (cons n ns) v y l =
    after-stays ds (step s d).0 b (saved_by d.ask (step s d).1) (resumes-stays s b e x d v.0 y l n) ns v.1 (step-last s d) (resumes-was s x d v.0 y l)
